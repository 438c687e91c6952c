use Rattle.dc_session.proofs.ProgressLemmas.{step_without, step_does}
use Rattle.dc_session.proofs.session.Session.progress_step.Goals as goal

pub returns-in-None-clause-does : goal.returns-in-None-clause-does
returns-in-None-clause-does g c = rw c.lifted.ensures (step_without _ c.in-None.is c.says.result c.says.ensures _)

pub returns-in_ok-tell_percent-in-Some-clause-does : goal.returns-in_ok-tell_percent-in-Some-clause-does
returns-in_ok-tell_percent-in-Some-clause-does g c =
    rw c.lifted-in-Some.ensures (step_does _ _ c.in-Some.bar c.in-Some.is _ _ (rw c.further-moved.ensures at c.in_ok-tell_percent-in-Some.ensures.tells) c.put_bar.result (rw c.further-moved.ensures at c.put_bar.ensures.comes))
