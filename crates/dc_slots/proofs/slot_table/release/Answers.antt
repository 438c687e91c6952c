use Rattle.std.proofs.Common.{refl, sym, ap, ◌∙◌, inl, inr}
use Rattle.std.specs.FinMap as map
use Rattle.dc_slots.proofs.slot_table.release.Goals as goal

pub returns-then-is_used : goal.returns-then-is_used
returns-then-is_used g c = inl (sym c.is_used.ensures ∙ c.if-is_used.true, refl, refl)

pub returns : goal.returns
returns g c = inr (sym c.is_used.ensures ∙ c.if-is_used.false, c.remove.ensures ∙ ap (map.remove c.args.places.now) (c.bytes.ensures.value ∙ c.name.ensures), c.remove-2.ensures)
