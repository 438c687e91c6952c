use Rattle.std.proofs.Common.{refl}
use Rattle.dc_proto.specs.declared.command.Command.TheVariants as command
use Rattle.dc_session.proofs.AskingLemmas.{told_does}
use Rattle.dc_session.proofs.CommandLemmas.{stored_does, quiet}
use Rattle.dc_session.proofs.session.Session.progress_stop.Goals as goal

pub returns-in-None-clause-does : goal.returns-in-None-clause-does
returns-in-None-clause-does g c = told_does _ command.ProgressStop (quiet command.ProgressStop _ refl refl) _ (rw c.in-None.is refl) c.says.result c.says.ensures

pub returns-in-Some-clause-does : goal.returns-in-Some-clause-does
returns-in-Some-clause-does g c = stored_does command.ProgressStop _ _ (quiet command.ProgressStop _ refl refl) _ (rw c.in-Some.is refl) c.put_bar.result c.put_bar.ensures.comes
