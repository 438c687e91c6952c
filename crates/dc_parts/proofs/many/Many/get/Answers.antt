use Rattle.std.proofs.Common.{◌∷◌, sym, ap, ◌∙◌, Some}
use Rattle.std.specs.FinMap as map
use Rattle.dc_text.specs.Maps.{text_cmp}
use Rattle.dc_parts.proofs.PlaceLemmas.{find_at, find_gap}
use Rattle.dc_parts.proofs.many.Many.get.Goals as goal

pub returns-in-Ok : goal.returns-in-Ok
returns-in-Ok c =
    let q = c.args.mark ∷ c.args.key.now in
    ap Some c.value.ensures ∙ ap (λ e. Some e.1) c.index.ensures
    ∙ sym (find_at q c.self.inside.pairs.items c.in-Ok.place c.index.result.now c.self.invariant (rw c.deref.ensures.value at c.in-Ok.ensures))
    ∙ sym (map.get-from_sorted text_cmp c.self.inside.pairs.items q c.self.invariant)
    ∙ ap (λ m. map.get m q) c.self.view_is

pub returns-in-Err : goal.returns-in-Err
returns-in-Err c =
    let q = c.args.mark ∷ c.args.key.now in
    sym (find_gap q c.self.inside.pairs.items c.in-Err.field-0 (rw c.deref.ensures.value at c.in-Err.ensures))
    ∙ sym (map.get-from_sorted text_cmp c.self.inside.pairs.items q c.self.invariant)
    ∙ ap (λ m. map.get m q) c.self.view_is
