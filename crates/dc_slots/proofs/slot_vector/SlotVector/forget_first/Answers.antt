use Rattle.std.proofs.Common.{◌∷◌, sym, ap, ◌∙◌}
use Rattle.dc_slots.specs.Chains.{has}
use Rattle.dc_slots.proofs.ThreadLemmas.{touched_is, first_is_kept, rest_is, some_is_seen}
use Rattle.dc_slots.proofs.slot_vector.SlotVector.forget_first.Goals as goal

pub take_next-next-requires : goal.take_next-next-requires
take_next-next-requires g c = first_is_kept c.self.inside.slots.slots c.self.inside.first_touched c.self.inside.last_touched c.in_ok-first.first c.self.invariant c.in_ok-first.was

pub invariant_of-self : goal.invariant_of-self
invariant_of-self g c =
    (rest_is c.self.inside.slots.slots c.take_next-next.new.slots.slots c.self.inside.first_touched c.self.inside.last_touched c.take_next-next.result c.last_behind-self-inside.result c.in_ok-first.first
    c.self.invariant c.in_ok-first.was c.take_next-next.ensures.next c.take_next-next.ensures.slots c.last_behind-self-inside.ensures).threaded

pub returns-clause-touched : goal.returns-clause-touched
returns-clause-touched g c =
    let rest = rest_is c.self.inside.slots.slots c.take_next-next.new.slots.slots c.self.inside.first_touched c.self.inside.last_touched c.take_next-next.result c.last_behind-self-inside.result c.in_ok-first.first
    c.self.invariant c.in_ok-first.was c.take_next-next.ensures.next c.take_next-next.ensures.slots c.last_behind-self-inside.ensures in
    sym (ap (λ v. v.touched) c.self.view_is) ∙ touched_is c.self.inside.slots.slots c.self.inside.first_touched c.self.inside.last_touched c.self.invariant ∙ rest.taken
    ∙ ap (λ l. c.in_ok-first.first ∷ l) (sym (touched_is _ _ _ rest.threaded))

pub returns-clause-kept : goal.returns-clause-kept
returns-clause-kept g c =
    let rest = rest_is c.self.inside.slots.slots c.take_next-next.new.slots.slots c.self.inside.first_touched c.self.inside.last_touched c.take_next-next.result c.last_behind-self-inside.result c.in_ok-first.first
    c.self.invariant c.in_ok-first.was c.take_next-next.ensures.next c.take_next-next.ensures.slots c.last_behind-self-inside.ensures in
    rest.kept ∙ ap (λ v. v.kept) c.self.view_is

pub returns-clause-apart : goal.returns-clause-apart
returns-clause-apart g c =
    let rest = rest_is c.self.inside.slots.slots c.take_next-next.new.slots.slots c.self.inside.first_touched c.self.inside.last_touched c.take_next-next.result c.last_behind-self-inside.result c.in_ok-first.first
    c.self.invariant c.in_ok-first.was c.take_next-next.ensures.next c.take_next-next.ensures.slots c.last_behind-self-inside.ensures in
    ap (has c.in_ok-first.first) (touched_is _ _ _ rest.threaded) ∙ rest.out

pub returns-clause-first : goal.returns-clause-first
returns-clause-first g c =
    some_is_seen c.args.self.now c.self.inside.slots.slots c.self.inside.first_touched c.in_ok-first.first c.self.view_is
    (first_is_kept c.self.inside.slots.slots c.self.inside.first_touched c.self.inside.last_touched c.in_ok-first.first c.self.invariant c.in_ok-first.was)
