use Rattle.std.proofs.Common.{refl, inr}
use Rattle.dc_preseed.proofs.SelectLemmas.{last_told}
use Rattle.dc_preseed.proofs.selecting.Selector.finish_last.Goals as goal

pub returns-in-Ok-clause-last : goal.returns-in-Ok-clause-last
returns-in-Ok-clause-last g c = last_told _ _ _ (c.in-Ok.ensures.ok _) c.tell_all.ensures.told

pub returns-in-Err-clause-last : goal.returns-in-Err-clause-last
returns-in-Err-clause-last g c = inr (c.in-Err.ensures.err _, refl)
