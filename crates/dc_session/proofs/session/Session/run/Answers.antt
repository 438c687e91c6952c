use Rattle.std.proofs.Common.{[], refl}
use Rattle.dc_proto.specs.Replies.{reply}
use Rattle.dc_proto.specs.declared.command.Command.TheVariants as command
use Rattle.dc_session.proofs.AskingLemmas.{told_does}
use Rattle.dc_session.proofs.CommandLemmas.{asks_to_save, quiet, stops}
use Rattle.dc_session.proofs.TerminalLemmas.{lifts}
use Rattle.dc_session.proofs.session.Session.run.Goals as goal

pub returns-in-BeginBlock-clause-does : goal.returns-in-BeginBlock-clause-does
returns-in-BeginBlock-clause-does g c =
    rw (c.in-BeginBlock.is, c.lifted-in-BeginBlock.ensures) (lifts command.BeginBlock _ _ c.says.result (told_does _ command.BeginBlock (quiet command.BeginBlock _ refl refl) (reply 0 []) refl c.says.result c.says.ensures))

pub returns-in-EndBlock-clause-does : goal.returns-in-EndBlock-clause-does
returns-in-EndBlock-clause-does g c =
    rw (c.in-EndBlock.is, c.lifted-in-EndBlock.ensures)
    (lifts command.EndBlock _ _ c.says-in-EndBlock.result (told_does _ command.EndBlock (quiet command.EndBlock _ refl refl) (reply 0 []) refl c.says-in-EndBlock.result c.says-in-EndBlock.ensures))

pub returns-in-Stop-clause-does : goal.returns-in-Stop-clause-does
returns-in-Stop-clause-does g c = rw c.in-Stop.is (stops _)

pub returns-in-XSave-clause-does : goal.returns-in-XSave-clause-does
returns-in-XSave-clause-does g c = rw c.in-XSave.is (asks_to_save _)
