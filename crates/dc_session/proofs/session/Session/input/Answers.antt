use Rattle.dc_session.proofs.AskingLemmas.{input_does, input_refused}
use Rattle.dc_session.proofs.CommandLemmas.{input_none}
use Rattle.dc_session.proofs.session.Session.input.Goals as goal

pub returns-in_default-clause-does : goal.returns-in_default-clause-does
returns-in_default-clause-does g c = input_none _ _ (rw c.in_default.is at c.in_ok-name.ensures) c.missing.result (rw c.bytes.ensures at c.missing.ensures) _

pub returns-in-Ok-clause-does : goal.returns-in-Ok-clause-does
returns-in-Ok-clause-does g c = input_does _ _ _ _ (rw c.in-Some.is at c.in_ok-name.ensures) c.args.priority c.in-Ok.shown c.in-Ok.ensures c.prepare_if.result c.prepare_if.ensures.comes

pub returns-clause-does : goal.returns-clause-does
returns-clause-does g c = input_refused _ _ _ (rw c.in-Some.is at c.in_ok-name.ensures) c.args.priority c.in-Err.error c.in-Err.ensures c.refused.result c.refused.ensures
