use Rattle.dc_session.proofs.QuietLaws.{quiet_course, finished_untold}
use Rattle.dc_session.proofs.laws.plans_without_debug_tell_nothing.Goals as goal

pub returns-clause-lines : goal.returns-clause-lines
returns-clause-lines c start transitions quiet course = quiet_course start transitions quiet course

pub returns-clause-finish : goal.returns-clause-finish
returns-clause-finish c state quiet = finished_untold state quiet
