use Rattle.dc_proto.specs.declared.command.Command.TheVariants as command
use Rattle.dc_session.proofs.AskingLemmas.{go_does}
use Rattle.dc_session.proofs.TerminalLemmas.{lifts}
use Rattle.dc_session.proofs.session.Session.go.Goals as goal

pub returns-in-Noninteractive-clause-does : goal.returns-in-Noninteractive-clause-does
returns-in-Noninteractive-clause-does g c =
    rw c.lifted.ensures (lifts command.Go _ _ c.skip_prepared.result (go_does _ c.in-Noninteractive.is _ c.skip_prepared.result c.skip_prepared.ensures.comes))
