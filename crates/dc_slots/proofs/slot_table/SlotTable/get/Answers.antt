use Rattle.std.proofs.Common.{◌≡◌, Some, None, sym, ap, ◌∙◌}
use Rattle.std.specs.Option.{option_copied}
use Rattle.std.specs.FinMap as map
use Rattle.dc_slots.specs.Numbered.{value_at}
use Rattle.dc_slots.proofs.TableLemmas.{at_number, get-values}
use Rattle.dc_slots.proofs.slot_table.SlotTable.get.Goals as goal

pub returns : goal.returns
returns g c =
    let is : map.get c.self.inside.places c.args.name.now ≡ Some c.in_ok-number_of.field-0 = sym c.number_of.ensures ∙ c.in_ok-number_of.was in
    c.value.ensures ∙ sym (ap (λ t. map.get t.values c.args.name.now) (sym c.self.view_is) ∙ get-values (value_at c.self.inside.slots) c.self.inside.places c.args.name.now ∙ ap (at_number (value_at c.self.inside.slots)) is)

pub returns-in_err-number_of : goal.returns-in_err-number_of
returns-in_err-number_of g c =
    let none : map.get c.self.inside.places c.args.name.now ≡ None = sym c.number_of.ensures ∙ c.in_err-number_of.was in
    ap option_copied c.from_residual.ensures
    ∙ sym (ap (λ t. map.get t.values c.args.name.now) (sym c.self.view_is) ∙ get-values (value_at c.self.inside.slots) c.self.inside.places c.args.name.now ∙ ap (at_number (value_at c.self.inside.slots)) none)
