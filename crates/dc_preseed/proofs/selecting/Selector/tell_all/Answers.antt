use Rattle.std.proofs.Common.{◌∙◌, map as each, ap}
use Rattle.dc_preseed.proofs.SelectLemmas.{all_told}
use Rattle.dc_preseed.proofs.selecting.Selector.tell_all.Goals as goal

pub returns-clause-told : goal.returns-clause-told
returns-clause-told g c =
    let taken = c.told_of-told.ensures in
    all_told _ _ _ _ _ _ _ _ (ap (each (λ b. (goal.Layer-dyn g (b.vtable, b.value)).state b.value)) taken.layers) taken.forgotten taken.context (c.bytes.ensures ∙ c.replace-untold.ensures.value) c.tell.ensures
    (c.bytes-2.ensures ∙ taken.told) c.tell-2.ensures (c.replace-untold.ensures.after ∙ c.new-none.ensures)
