use Rattle.std.proofs.Common.{◌≡◌, true, Some, None, nat_eq, sym, ap, ◌∙◌, subst}
use Rattle.std.specs.Prelude.{is_some}
use Rattle.dc_slots.specs.Threads.{next_of, next_in, IsThreaded}
use Rattle.dc_slots.proofs.ThreadLemmas.{is_opened, touched_seen, named_is_touched, last_is_touched, none_is_touched, no_some}
use Rattle.dc_slots.proofs.slot_vector.SlotVector.is_touched.Goals as goal

pub index-requires : goal.index-requires
index-requires g c = is_opened c.args.self.now c.self.inside.slots.slots c.self.inside.first_touched c.number.inside.number c.args.number c.self.view_is c.number.view_is c.requires

pub returns-then-is_some : goal.returns-then-is_some
returns-then-is_some g c =
    let names : is_some (next_in c.self.inside.slots.slots c.number.inside.number) ≡ true = ap (λ o. is_some (next_of o)) c.index.ensures ∙ sym c.is_some.ensures ∙ c.if-is_some.true in
    sym (named_is_touched c.self.inside.slots.slots c.self.inside.first_touched c.self.inside.last_touched c.number.inside.number c.self.invariant names) ∙ touched_seen c.args.self.now c.self.inside.slots.slots c.self.inside.first_touched c.self.inside.last_touched c.number.inside.number c.args.number c.self.invariant c.self.view_is c.number.view_is

pub returns-in-Some : goal.returns-in-Some
returns-in-Some g c =
    let names : next_in c.self.inside.slots.slots c.number.inside.number ≡ None = no_some _ (ap (λ o. is_some (next_of o)) c.index.ensures ∙ sym c.is_some.ensures ∙ c.if-is_some.false) in
    let threaded : IsThreaded c.self.inside.slots.slots c.self.inside.first_touched (Some c.in-Some.last) = subst (λ l. IsThreaded c.self.inside.slots.slots c.self.inside.first_touched l) c.in-Some.is c.self.invariant in
    c.is.ensures ∙ ap (λ n. nat_eq n c.in-Some.last) (sym c.number.view_is)
    ∙ last_is_touched c.self.inside.slots.slots c.self.inside.first_touched c.in-Some.last c.number.inside.number threaded names
    ∙ touched_seen c.args.self.now c.self.inside.slots.slots c.self.inside.first_touched (Some c.in-Some.last) c.number.inside.number c.args.number threaded c.self.view_is c.number.view_is

pub returns-in-None : goal.returns-in-None
returns-in-None g c =
    let threaded : IsThreaded c.self.inside.slots.slots c.self.inside.first_touched None = subst (λ l. IsThreaded c.self.inside.slots.slots c.self.inside.first_touched l) c.in-None.is c.self.invariant in
    sym (none_is_touched c.self.inside.slots.slots c.self.inside.first_touched c.number.inside.number threaded)
    ∙ touched_seen c.args.self.now c.self.inside.slots.slots c.self.inside.first_touched None c.number.inside.number c.args.number threaded c.self.view_is c.number.view_is
