use Rattle.std.proofs.Common.{map as each, sym, ap, ◌∙◌, subst}
use Rattle.std.specs.List.{IsDistinct}
use Rattle.std.specs.Str.{bytes_eq}
use Rattle.dc_slots.specs.Slots.{list_of}
use Rattle.dc_slots.specs.Numbered.{name_at}
use Rattle.dc_slots.proofs.TableLemmas.{list_of-lists}
use Rattle.dc_slots.proofs.TiedLemmas.{names_distinct}
use Rattle.dc_slots.proofs.slot_table.SlotTable.owned.Goals as goal

pub returns-clause-names : goal.returns-clause-names
returns-clause-names g c =
    ap (each (name_at c.self.inside.slots)) c.owned.ensures.slots ∙ sym (list_of-lists (name_at c.self.inside.slots) c.self.inside.owners c.args.owner.now) ∙ ap (λ t. list_of t.owned c.args.owner.now) c.self.view_is

pub returns-clause-distinct : goal.returns-clause-distinct
returns-clause-distinct g c =
    subst (IsDistinct bytes_eq) (sym (list_of-lists (name_at c.self.inside.slots) c.self.inside.owners c.args.owner.now) ∙ ap (λ t. list_of t.owned c.args.owner.now) c.self.view_is)
    (names_distinct c.self.inside.places c.self.inside.slots c.self.inside.owners c.self.invariant.tied (list_of c.self.inside.owners c.args.owner.now) (c.self.invariant.tied.listed c.args.owner.now) c.owned.ensures.distinct)
