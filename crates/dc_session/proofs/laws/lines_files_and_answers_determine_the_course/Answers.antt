use Rattle.dc_session.proofs.AlikeLaws.{alike_courses}
use Rattle.dc_session.proofs.laws.lines_files_and_answers_determine_the_course.Goals as goal

pub returns : goal.returns
returns c start other disk calls = alike_courses disk start other calls
