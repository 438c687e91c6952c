use Rattle.dc_session.proofs.DiskLaws.{course_reads}
use Rattle.dc_session.proofs.laws.reads_leave_the_disk.Goals as goal

pub returns : goal.returns
returns c = course_reads
