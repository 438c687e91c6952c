use Rattle.dc_serve.proofs.Determined.{determined}
use Rattle.dc_serve.proofs.laws.lines_determine_the_course.Goals as goal

pub returns : goal.returns
returns g c = determined g.H.LineMachine.steps
