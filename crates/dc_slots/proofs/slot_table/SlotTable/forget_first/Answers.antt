use Rattle.std.proofs.Common.{ap, ◌∙◌}
use Rattle.std.specs.Prelude.{is_some}
use Rattle.std.specs.FinMap as map
use Rattle.dc_slots.proofs.PlaceLemmas.{rest_near, is_left}
use Rattle.dc_slots.proofs.slot_table.SlotTable.forget_first.Goals as goal

pub invariant_of-self-2 : goal.invariant_of-self-2
invariant_of-self-2 g c = (is_left c.self.inside.places c.release.new.places c.forget_first.new.self c.release.new.slots c.self.inside.owners _ c.in-Some.number (rest_near c.self.inside.places c.self.inside.slots c.forget_first.new.self c.self.inside.owners c.args.self.now c.in-Some.number c.self.invariant c.self.view_is c.in-Some.ensures.kept c.in-Some.ensures.touched) (ap (λ m. is_some (map.get m c.in-Some.number)) c.in-Some.ensures.kept ∙ c.in-Some.ensures.first) c.release.ensures).sound

pub returns-clause-new : goal.returns-clause-new
returns-clause-new g c = (is_left c.self.inside.places c.release.new.places c.forget_first.new.self c.release.new.slots c.self.inside.owners _ c.in-Some.number (rest_near c.self.inside.places c.self.inside.slots c.forget_first.new.self c.self.inside.owners c.args.self.now c.in-Some.number c.self.invariant c.self.view_is c.in-Some.ensures.kept c.in-Some.ensures.touched) (ap (λ m. is_some (map.get m c.in-Some.number)) c.in-Some.ensures.kept ∙ c.in-Some.ensures.first) c.release.ensures).shown
