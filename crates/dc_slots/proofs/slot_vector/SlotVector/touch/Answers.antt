use Rattle.std.proofs.Common.{◌≡◌, ◌++◌, ◌∷◌, [], true, false, Some, refl, sym, ap, ◌∙◌, subst}
use Rattle.std.specs.Prelude.{is_some}
use Rattle.dc_slots.specs.Chains.{has}
use Rattle.dc_slots.specs.Threads.{slot_at, IsThreaded, first_before, kept_from, touched_from}
use Rattle.dc_slots.proofs.ThreadLemmas.{is_opened, touched_seen, threads_pushed, touched_is, kept_linked, last_kept}
use Rattle.dc_slots.proofs.slot_vector.SlotVector.touch.Goals as goal

pub link_behind-requires : goal.link_behind-requires
link_behind-requires g c = last_kept c.self.inside.slots.slots c.self.inside.first_touched c.self.inside.last_touched c.self.invariant

pub invariant_of-self : goal.invariant_of-self
invariant_of-self g c =
    let there : is_some (slot_at c.self.inside.slots.slots c.args.number) ≡ true = is_opened c.args.self.now c.self.inside.slots.slots c.self.inside.first_touched c.args.number c.args.number c.self.view_is refl c.requires.kept in
    let new : has c.args.number c.self.invariant.touched ≡ false = touched_seen c.args.self.now c.self.inside.slots.slots c.self.inside.first_touched c.self.inside.last_touched c.args.number c.args.number c.self.invariant c.self.view_is refl ∙ c.requires.untouched in
    let more = threads_pushed c.self.inside.slots.slots c.self.inside.first_touched c.self.inside.last_touched c.args.number c.self.invariant there new in
    subst (λ o. IsThreaded c.link_behind.new.slots.slots o (Some c.args.number)) (sym c.first_before-self-inside.ensures)
    (subst (λ l. IsThreaded l (first_before c.self.inside.first_touched c.args.number) (Some c.args.number)) (sym c.link_behind.ensures) more.0)

pub returns : goal.returns
returns g c =
    let there : is_some (slot_at c.self.inside.slots.slots c.args.number) ≡ true = is_opened c.args.self.now c.self.inside.slots.slots c.self.inside.first_touched c.args.number c.args.number c.self.view_is refl c.requires.kept in
    let new : has c.args.number c.self.invariant.touched ≡ false = touched_seen c.args.self.now c.self.inside.slots.slots c.self.inside.first_touched c.self.inside.last_touched c.args.number c.args.number c.self.invariant c.self.view_is refl ∙ c.requires.untouched in
    let more = threads_pushed c.self.inside.slots.slots c.self.inside.first_touched c.self.inside.last_touched c.args.number c.self.invariant there new in
    let kept : kept_from 0 c.link_behind.new.slots.slots ≡ c.args.self.now.kept = ap (kept_from 0) c.link_behind.ensures ∙ kept_linked c.self.inside.slots.slots c.self.inside.last_touched c.args.number ∙ ap (λ v. v.kept) c.self.view_is in
    let touched : touched_from c.link_behind.new.slots.slots c.first_before-self-inside.result ≡ c.args.self.now.touched ++ c.args.number ∷ []
    = (λ i. touched_from (c.link_behind.ensures i) (c.first_before-self-inside.ensures i)) ∙ touched_is _ _ _ more.0 ∙ more.1
    ∙ ap (λ l. l ++ c.args.number ∷ []) (sym (touched_is c.self.inside.slots.slots c.self.inside.first_touched c.self.inside.last_touched c.self.invariant) ∙ ap (λ v. v.touched) c.self.view_is) in
    λ i. record { kept = kept i; touched = touched i }
