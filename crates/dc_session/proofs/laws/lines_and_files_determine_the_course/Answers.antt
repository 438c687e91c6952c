use Rattle.std.proofs.Common.{refl}
use Rattle.dc_session.proofs.Determined.{determined}
use Rattle.dc_session.proofs.laws.lines_and_files_determine_the_course.Goals as goal

pub returns : goal.returns
returns c start disk calls a b told nobody = determined disk start start calls a b told refl nobody
