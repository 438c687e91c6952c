use Rattle.std.proofs.Common.{refl}
use Rattle.dc_preseed.proofs.SelectLemmas.{if_err}
use Rattle.dc_preseed.proofs.selecting.SelectorLineMachine.handle.Goals as goal

pub returns-in_err-take-clause-err : goal.returns-in_err-take-clause-err
returns-in_err-take-clause-err g c = if_err c.from_residual.result _ (c.in_err-take.ensures.err _)

pub returns-clause-ok : goal.returns-clause-ok
returns-clause-ok g c = (refl, c.in_ok-take.ensures.ok _)
