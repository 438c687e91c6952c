-- What becomes of the touched slots where a slot is put, changed or taken away.
use Rattle.std.proofs.Common.{◌≡◌, ◌≢◌, ℕ, zero, suc, ◌+◌, ◌<◌, true, false, List, [], ◌∷◌, ◌++◌, length, nat_eq, map as each, Option, Some, None, refl, sym, ap, ◌∙◌, subst, inl, inr, arith}
use Rattle.std.specs.Prelude.{is_some, slice_set, ◌||◌, MatchOption}
use Rattle.std.specs.List.{IsDistinct}
use Rattle.std.specs.Ordering.{nat_cmp}
use Rattle.std.specs.Cmp.{nat_cmp_total}
use Rattle.std.specs.FinMap.{FinMap, get, insert, remove, get-empty, nat_cmp-IsAntisymmetric}
use Rattle.std.proofs.lemmas.Bool.{cases_eq, eq-eqb}
use Rattle.std.proofs.lemmas.List.{get_or_past, get_or-set_same, get_or-set_other, set-get_or}
use Rattle.std.proofs.lemmas.Map.Keys.{IsDistinct-tail, IsDistinct-push}
use Rattle.dc_slots.specs.Chains.{has, IsWalk, EndsAt}
use Rattle.dc_slots.specs.Numbered.{Kept, Numbered, name_in, name_at, with_kept}
use Rattle.dc_slots.specs.Threads.{slot_at, next_of, next_in, kept_of, kept_from, touched_from, IsThreaded, last_behind, first_before, with_next, linked, IsChangedAt, name_of, names_from, IsWalked}
use Rattle.dc_slots.specs.declared.slot_vector.Slot.{Slot}
use Rattle.dc_slots.proofs.KeyLemmas.{insert-here, insert-other, is_insert, is_remove}
use Rattle.dc_slots.proofs.ChainLemmas.{each_same, walk_none, walk_within, walk_same, walk_pushed, ends_pushed, numbers_equiv, has_pushed, lacks_pushed, has_head, has_tail, first_apart, apart, has_end, no_end, last_alone, not_both, untied}

pub some_of : {X : Type 0} (o : Option X) → is_some o ≡ true → (x : X) × (o ≡ Some x)
some_of None e = absurd (cc)
some_of (Some x) e = (x, refl)

rest_of : (next : ℕ → Option ℕ) (from : Option ℕ) (n : ℕ) (ts : List ℕ) → from ≡ Some n → IsWalk next from ts → (ns : List ℕ) × (ts ≡ n ∷ ns) × IsWalk next (next n) ns
rest_of next from n [] is walks = absurd (cc)
rest_of next from n (k ∷ ns) is walks =
    let e : k ≡ n = (let f : Some k ≡ Some n = sym walks.0 ∙ is in cc) in
    (ns, ap (λ j. j ∷ ns) e, subst (λ j. IsWalk next (next j) ns) e walks.1)

ends_behind : (next : ℕ → Option ℕ) (n : ℕ) (ns : List ℕ) (last : Option ℕ) → IsWalk next (next n) ns → EndsAt (n ∷ ns) last → EndsAt ns (last_behind (next n) last)
ends_behind next n [] last walks ends = ap (λ o. last_behind o last) walks
ends_behind next n (k ∷ ns) last walks ends = subst (λ o. EndsAt (k ∷ ns) (last_behind o last)) (sym walks.0) ends

none_twice : IsDistinct nat_eq []
unfolding IsDistinct
none_twice = tt

pub no_some : {X : Type 0} (o : Option X) → is_some o ≡ false → o ≡ None
no_some None e = refl
no_some (Some x) e = absurd (cc)

module _ {T : Type 0} where
  -- ---- slots by their numbers

  -- no number below the first is a slot's
  none_below : (first n : ℕ) (slots : List (Option (Slot T))) → n < first → get (kept_from first slots) n ≡ None
  none_below first n [] below = get-empty nat_cmp n
  none_below first n (None ∷ slots) below = none_below (suc first) n slots (omega arith)
  none_below first n (Some s ∷ slots) below =
      insert-other nat_cmp_total nat_cmp-IsAntisymmetric _ first (kept_of s) n (λ same. omega arith) ∙ none_below (suc first) n slots (omega arith)

  abbrev pub seen : Option (Slot T) → Option (Kept T)
  seen None = None
  seen (Some s) = Some (kept_of s)

  from_first : (first n at : ℕ) (slots : List (Option (Slot T))) → at ≡ first + n → get (kept_from first slots) at ≡ seen (slot_at slots n)
  from_first first n at [] is = get-empty nat_cmp at
  from_first first zero at (None ∷ slots) is = none_below (suc first) at slots (omega arith)
  from_first first zero at (Some s ∷ slots) is =
      let here : at ≡ first = omega arith in
      ap (get (insert (kept_from (suc first) slots) first (kept_of s))) here ∙ insert-here nat_cmp_total nat_cmp-IsAntisymmetric _ first (kept_of s)
  from_first first (suc n) at (None ∷ slots) is = from_first (suc first) n at slots (omega arith)
  from_first first (suc n) at (Some s ∷ slots) is =
      insert-other nat_cmp_total nat_cmp-IsAntisymmetric _ first (kept_of s) at (λ same. omega arith) ∙ from_first (suc first) n at slots (omega arith)

  pub get-kept : (slots : List (Option (Slot T))) (n : ℕ) → get (kept_from 0 slots) n ≡ seen (slot_at slots n)
  get-kept slots n = from_first 0 n n slots (omega arith)

  pub kept_with : (slots later : List (Option (Slot T))) (n : ℕ) (s : Slot T) → IsChangedAt slots later n (Some s) → kept_from 0 later ≡ insert (kept_from 0 slots) n (kept_of s)
  kept_with slots later n s changed =
      is_insert nat_cmp_total nat_cmp-IsAntisymmetric (kept_from 0 slots) n (kept_from 0 later) (kept_of s)
      (get-kept later n ∙ ap seen changed.here)
      (λ m differ. get-kept later m ∙ ap seen (changed.others m differ) ∙ sym (get-kept slots m))

  pub kept_without : (slots later : List (Option (Slot T))) (n : ℕ) → IsChangedAt slots later n None → kept_from 0 later ≡ remove (kept_from 0 slots) n
  kept_without slots later n changed =
      is_remove nat_cmp_total nat_cmp-IsAntisymmetric (kept_from 0 slots) n (kept_from 0 later)
      (get-kept later n ∙ ap seen changed.here)
      (λ m differ. get-kept later m ∙ ap seen (changed.others m differ) ∙ sym (get-kept slots m))

  -- ---- the touched slots

  pub within : (slots : List (Option (Slot T))) (n : ℕ) → is_some (slot_at slots n) ≡ true → n < length slots
  within slots n there = grind (arith, get_or_past)

  pub touched_is : (slots : List (Option (Slot T))) (first last : Option ℕ) (h : IsThreaded slots first last) → touched_from slots first ≡ h.touched
  touched_is slots first last h = walk_within (next_in slots) first h.touched (length slots) h.walks h.distinct (λ n there. within slots n (h.kept n there))

  -- no link changes
  pub threads_stay : (slots later : List (Option (Slot T))) (first last : Option ℕ) (h : IsThreaded slots first last) → ((n : ℕ) → next_in later n ≡ next_in slots n)
      → ((n : ℕ) → has n h.touched ≡ true → is_some (slot_at later n) ≡ true) → IsThreaded later first last
  threads_stay slots later first last h same there = record {
    touched = h.touched;
    walks = walk_same (next_in slots) (next_in later) first h.touched (λ n _. same n) h.walks;
    ends = h.ends;
    kept = there;
    others = λ n out. same n ∙ h.others n out;
    distinct = h.distinct;
  }

  pub touched_stay : (slots later : List (Option (Slot T))) (first last : Option ℕ) (h : IsThreaded slots first last) → ((n : ℕ) → next_in later n ≡ next_in slots n)
      → ((n : ℕ) → has n h.touched ≡ true → is_some (slot_at later n) ≡ true) → touched_from later first ≡ touched_from slots first
  unfolding threads_stay
  touched_stay slots later first last h same there = touched_is later first last (threads_stay slots later first last h same there) ∙ sym (touched_is slots first last h)

  -- one slot changes, and names the same
  pub next_stays : (slots later : List (Option (Slot T))) (n : ℕ) (s : Option (Slot T)) → IsChangedAt slots later n s → next_of s ≡ next_in slots n → (m : ℕ) → next_in later m ≡ next_in slots m
  next_stays slots later n s changed same m = elim (cases_eq m n) [
    | inl here ↦ ap (next_in later) here ∙ ap next_of changed.here ∙ same ∙ ap (next_in slots) (sym here)
    | inr differ ↦ ap next_of (changed.others m differ)
  ]

  pub kept_stays : (slots later : List (Option (Slot T))) (n : ℕ) (s : Option (Slot T)) → IsChangedAt slots later n s → is_some s ≡ true → (m : ℕ) → is_some (slot_at slots m) ≡ true → is_some (slot_at later m) ≡ true
  kept_stays slots later n s changed some m there = elim (cases_eq m n) [
    | inl here ↦ ap (λ k. is_some (slot_at later k)) here ∙ ap is_some changed.here ∙ some
    | inr differ ↦ ap is_some (changed.others m differ) ∙ there
  ]

  -- ---- one slot written

  pub written : (slots : List (Option (Slot T))) (n : ℕ) (s : Option (Slot T)) → is_some (slot_at slots n) ≡ true → IsChangedAt slots (slice_set slots n s) n s
  written slots n s there = record {
    here = get_or-set_same slots n s None (within slots n there);
    others = λ m differ. get_or-set_other slots n m s None differ;
  }

  pub insert_same : (m : FinMap nat_cmp (Kept T)) (n : ℕ) (k : Kept T) → get m n ≡ Some k → insert m n k ≡ m
  insert_same m n k e = sym (is_insert nat_cmp_total nat_cmp-IsAntisymmetric m n m k e (λ q _. refl))

  -- a slot written that differs in its next alone
  pub kept_same : (slots : List (Option (Slot T))) (n : ℕ) (s : Slot T) (next : Option ℕ) → slot_at slots n ≡ Some s → kept_from 0 (slice_set slots n (Some (record s { next_touched = next }))) ≡ kept_from 0 slots
  kept_same slots n s next e =
      kept_with slots _ n (record s { next_touched = next }) (written slots n _ (ap is_some e))
      ∙ insert_same (kept_from 0 slots) n (kept_of s) (get-kept slots n ∙ ap seen e)

  -- ---- a slot is touched

  pub kept_linked : (slots : List (Option (Slot T))) (last : Option ℕ) (n : ℕ) → kept_from 0 (linked slots last n) ≡ kept_from 0 slots
  kept_linked slots None n = refl
  kept_linked slots (Some last) n = by (slot_at slots last) refl where
    by : (o : Option (Slot T)) → slot_at slots last ≡ o → kept_from 0 (slice_set slots last (with_next (slot_at slots last) (Some n))) ≡ kept_from 0 slots
    by None e = ap (λ l. kept_from 0 l) (ap (λ o. slice_set slots last (with_next o (Some n))) e ∙ ap (slice_set slots last) (sym e) ∙ set-get_or slots last None)
    by (Some s) e = ap (λ o. kept_from 0 (slice_set slots last (with_next o (Some n)))) e ∙ kept_same slots last s (Some n) e

  pub threads_pushed : (slots : List (Option (Slot T))) (first last : Option ℕ) (n : ℕ) (h : IsThreaded slots first last) → is_some (slot_at slots n) ≡ true → has n h.touched ≡ false
      → (g : IsThreaded (linked slots last n) (first_before first n) (Some n)) × (g.touched ≡ h.touched ++ n ∷ [])
  threads_pushed slots first None n h there new =
      let none : h.touched ≡ [] = no_end h.touched h.ends in
      let start : first ≡ None = subst (λ l. IsWalk (next_in slots) first l) none h.walks in
      let alone : n ∷ [] ≡ h.touched ++ n ∷ [] = ap (λ l. l ++ n ∷ []) (sym none) in (
        record {
          touched = h.touched ++ n ∷ [];
          walks = subst (λ l. IsWalk (next_in slots) (first_before first n) l) alone (ap (λ f. first_before f n) start, h.others n new);
          ends = ends_pushed h.touched n;
          kept = λ m e. elim (has_pushed m h.touched n e) [
            | inl same ↦ ap (λ k. is_some (slot_at slots k)) same ∙ there
            | inr old ↦ h.kept m old
          ];
          others = λ m e. h.others m (lacks_pushed m h.touched n e).1;
          distinct = IsDistinct-push numbers_equiv h.touched n h.distinct new;
        },
        refl,
      )
  threads_pushed slots first (Some last) n h there new =
      let last_in : has last h.touched ≡ true = has_end h.touched last h.ends in
      let last_kept : is_some (slot_at slots last) ≡ true = h.kept last last_in in
      let s : (s : Slot T) × (slot_at slots last ≡ Some s) = some_of (slot_at slots last) last_kept in
      let later : List (Option (Slot T)) = linked slots (Some last) n in
      let changed : IsChangedAt slots later last (with_next (slot_at slots last) (Some n)) = written slots last _ last_kept in
      let differ : n ≢ last = λ e. not_both (has n h.touched) (ap (λ k. has k h.touched) e ∙ last_in) new in
      let named : next_in later last ≡ Some n = ap next_of changed.here ∙ ap (λ o. next_of (with_next o (Some n))) s.1 in
      let same : (m : ℕ) → m ≢ last → next_in later m ≡ next_in slots m = (λ m e. ap next_of (changed.others m e)) in (
        record {
          touched = h.touched ++ n ∷ [];
          walks = start (next_in later) first h.touched h.ends h.walks (walk_pushed (next_in slots) (next_in later) first h.touched last n h.walks h.ends h.distinct new named (same n differ ∙ h.others n new) (λ m e _. same m e));
          ends = ends_pushed h.touched n;
          kept = λ m e. kept_stays slots later last _ changed (ap (λ o. is_some (with_next o (Some n))) s.1) m (elim (has_pushed m h.touched n e) [
            | inl is ↦ ap (λ k. is_some (slot_at slots k)) is ∙ there
            | inr old ↦ h.kept m old
          ]);
          others = λ m e. let off = lacks_pushed m h.touched n e in same m (λ is. not_both (has m h.touched) (ap (λ k. has k h.touched) is ∙ last_in) off.1) ∙ h.others m off.1;
          distinct = IsDistinct-push numbers_equiv h.touched n h.distinct new;
        },
        refl,
      ) where
        start : (f : ℕ → Option ℕ) (from : Option ℕ) (ns : List ℕ) → EndsAt ns (Some last) → IsWalk (next_in slots) from ns → IsWalk f from (ns ++ n ∷ []) → IsWalk f (first_before from n) (ns ++ n ∷ [])
        start f from [] ends walks walked = absurd (cc)
        start f from (k ∷ ns) ends walks walked = subst (λ o. IsWalk f o (k ∷ ns ++ n ∷ [])) (walks.0 ∙ ap (λ o. first_before o n) (sym walks.0)) walked

  -- ---- the first isn't touched any more

  pub threads_rest : (slots : List (Option (Slot T))) (first last : Option ℕ) (n : ℕ) (s : Slot T) (h : IsThreaded slots first last) → first ≡ Some n → slot_at slots n ≡ Some s
      → (g : IsThreaded (slice_set slots n (Some (record s { next_touched = None }))) s.next_touched (last_behind s.next_touched last)) × (h.touched ≡ n ∷ g.touched) × (has n g.touched ≡ false)
  threads_rest slots first last n s h is at =
      let rest : (ns : List ℕ) × (h.touched ≡ n ∷ ns) × IsWalk (next_in slots) (next_in slots n) ns = rest_of (next_in slots) first n h.touched is h.walks in
      let ns : List ℕ = rest.0 in
      let distinct : IsDistinct nat_eq (n ∷ ns) = subst (IsDistinct nat_eq) rest.1 h.distinct in
      let out : has n ns ≡ false = first_apart nat_eq n ns distinct in
      let there : is_some (slot_at slots n) ≡ true = ap is_some at in
      let later : List (Option (Slot T)) = slice_set slots n (Some (record s { next_touched = None })) in
      let changed : IsChangedAt slots later n (Some (record s { next_touched = None })) = written slots n _ there in
      let named : next_in slots n ≡ s.next_touched = ap next_of at in
      let same : (m : ℕ) → m ≢ n → next_in later m ≡ next_in slots m = (λ m e. ap next_of (changed.others m e)) in (
        record {
          touched = ns;
          walks = subst (λ o. IsWalk (next_in later) o ns) named (walk_same (next_in slots) (next_in later) (next_in slots n) ns (λ m in_it. same m (apart m n ns in_it out)) rest.2);
          ends = subst (λ o. EndsAt ns (last_behind o last)) named (ends_behind (next_in slots) n ns last rest.2 (subst (λ l. EndsAt l last) rest.1 h.ends));
          kept = λ m e. kept_stays slots later n _ changed refl m (h.kept m (ap (has m) rest.1 ∙ has_tail m n ns e));
          others = λ m e. elim (cases_eq m n) [
            | inl here ↦ ap (next_in later) here ∙ ap next_of changed.here
            | inr differ ↦ same m differ ∙ h.others m (ap (has m) rest.1 ∙ lacks_both ns m differ e)
          ];
          distinct = IsDistinct-tail nat_eq n ns distinct;
        },
        rest.1,
        out,
      ) where
        lacks_both : (ns : List ℕ) (m : ℕ) → m ≢ n → has m ns ≡ false → has m (n ∷ ns) ≡ false
        lacks_both ns m differ e = (λ i. untied m n differ i || e i)

  -- ---- whether a slot is touched

  pub named_is_touched : (slots : List (Option (Slot T))) (first last : Option ℕ) (n : ℕ) (h : IsThreaded slots first last) → is_some (next_in slots n) ≡ true → has n h.touched ≡ true
  named_is_touched slots first last n h names = elim (has n h.touched) as (λ b. has n h.touched ≡ b → b ≡ true) [
    | true ↦ λ e. refl
    | false ↦ λ e. absurd (let none : is_some (next_in slots n) ≡ false = ap is_some (h.others n e) in cc)
  ] refl

  pub last_is_touched : (slots : List (Option (Slot T))) (first : Option ℕ) (last n : ℕ) (h : IsThreaded slots first (Some last)) → next_in slots n ≡ None → nat_eq n last ≡ has n h.touched
  last_is_touched slots first last n h names = elim (cases_eq n last) [
    | inl same ↦ eq-eqb n last same ∙ sym (ap (λ k. has k h.touched) same ∙ has_end h.touched last h.ends)
    | inr differ ↦ untied n last differ ∙ elim (has n h.touched) as (λ b. has n h.touched ≡ b → false ≡ b) [
      | true ↦ λ e. absurd (differ (last_alone (next_in slots) first h.touched last n h.walks h.ends e names))
      | false ↦ λ e. refl
    ] refl
  ]

  pub none_is_touched : (slots : List (Option (Slot T))) (first : Option ℕ) (n : ℕ) (h : IsThreaded slots first None) → has n h.touched ≡ false
  none_is_touched slots first n h = ap (has n) (no_end h.touched h.ends)

  -- ---- what is seen of the slots

  abbrev pub view_of : List (Option (Slot T)) → Option ℕ → Numbered T
  view_of slots first = record { kept = kept_from 0 slots; touched = touched_from slots first }

  pub opened : (s : Numbered T) (slots : List (Option (Slot T))) (first : Option ℕ) (m n : ℕ) → view_of slots first ≡ s → m ≡ n → get s.kept n ≡ seen (slot_at slots m)
  opened s slots first m n is same = sym (λ i. get (is i).kept (same i)) ∙ get-kept slots m

  some_seen : (o : Option (Slot T)) → is_some (seen o) ≡ is_some o
  some_seen None = refl
  some_seen (Some s) = refl

  pub is_opened : (s : Numbered T) (slots : List (Option (Slot T))) (first : Option ℕ) (m n : ℕ) → view_of slots first ≡ s → m ≡ n → is_some (get s.kept n) ≡ true → is_some (slot_at slots m) ≡ true
  is_opened s slots first m n is same there = sym (ap is_some (opened s slots first m n is same) ∙ some_seen (slot_at slots m)) ∙ there

  -- the slot that is read
  pub read : (s : Numbered T) (slots : List (Option (Slot T))) (first : Option ℕ) (m n : ℕ) (one : Slot T) → view_of slots first ≡ s → m ≡ n → slot_at slots m ≡ Some one → get s.kept n ≡ Some (kept_of one)
  read s slots first m n one is same at = opened s slots first m n is same ∙ ap seen at

  -- a slot is written, and names the same
  pub rewritten : (slots : List (Option (Slot T))) (first last : Option ℕ) (m : ℕ) (old new : Slot T) → IsThreaded slots first last → slot_at slots m ≡ Some old → new.next_touched ≡ old.next_touched
      → IsThreaded (slice_set slots m (Some new)) first last
  rewritten slots first last m old new h at same =
      let changed : IsChangedAt slots (slice_set slots m (Some new)) m (Some new) = written slots m (Some new) (ap is_some at) in
      threads_stay slots _ first last h (next_stays slots _ m (Some new) changed (same ∙ sym (ap next_of at))) (λ k there. kept_stays slots _ m (Some new) changed refl k (h.kept k there))

  pub rewritten_view : (s : Numbered T) (slots : List (Option (Slot T))) (first last : Option ℕ) (m n : ℕ) (old new : Slot T) (k : Kept T) → view_of slots first ≡ s → m ≡ n → IsThreaded slots first last
      → slot_at slots m ≡ Some old → new.next_touched ≡ old.next_touched → kept_of new ≡ k → view_of (slice_set slots m (Some new)) first ≡ with_kept s n k
  rewritten_view s slots first last m n old new k is at h there same new_is =
      let changed : IsChangedAt slots (slice_set slots m (Some new)) m (Some new) = written slots m (Some new) (ap is_some there) in
      let kept : kept_from 0 (slice_set slots m (Some new)) ≡ insert s.kept n k = kept_with slots _ m new changed ∙ (λ i. insert (is i).kept (at i) (new_is i)) in
      let touched : touched_from (slice_set slots m (Some new)) first ≡ s.touched
      = touched_stay slots _ first last h (next_stays slots _ m (Some new) changed (same ∙ sym (ap next_of there))) (λ j in_it. kept_stays slots _ m (Some new) changed refl j (h.kept j in_it)) ∙ ap (λ v. v.touched) is in
      λ i. record { kept = kept i; touched = touched i }

  -- a slot is put
  put_next : (slots later : List (Option (Slot T))) (n : ℕ) (new : Slot T) → IsChangedAt slots later n (Some new) → slot_at slots n ≡ None → new.next_touched ≡ None → (m : ℕ) → next_in later m ≡ next_in slots m
  put_next slots later n new changed vacant none = next_stays slots later n (Some new) changed (none ∙ sym (ap next_of vacant))

  pub threads_put : (slots later : List (Option (Slot T))) (first last : Option ℕ) (n : ℕ) (new : Slot T) → IsThreaded slots first last → IsChangedAt slots later n (Some new) → slot_at slots n ≡ None → new.next_touched ≡ None
      → IsThreaded later first last
  threads_put slots later first last n new h changed vacant none =
      threads_stay slots later first last h (put_next slots later n new changed vacant none) (λ m there. kept_stays slots later n (Some new) changed refl m (h.kept m there))

  pub put_view : (s : Numbered T) (slots later : List (Option (Slot T))) (first last : Option ℕ) (n : ℕ) (new : Slot T) → view_of slots first ≡ s → IsThreaded slots first last → IsChangedAt slots later n (Some new)
      → slot_at slots n ≡ None → new.next_touched ≡ None → view_of later first ≡ with_kept s n (kept_of new)
  put_view s slots later first last n new is h changed vacant none =
      let kept : kept_from 0 later ≡ insert s.kept n (kept_of new) = kept_with slots later n new changed ∙ (λ i. insert (is i).kept n (kept_of new)) in
      let touched : touched_from later first ≡ s.touched
      = touched_stay slots later first last h (put_next slots later n new changed vacant none) (λ m there. kept_stays slots later n (Some new) changed refl m (h.kept m there)) ∙ ap (λ v. v.touched) is in
      λ i. record { kept = kept i; touched = touched i }

  -- a slot that isn't touched is taken away
  gone_next : (slots later : List (Option (Slot T))) (first last : Option ℕ) (n : ℕ) (h : IsThreaded slots first last) → IsChangedAt slots later n None → has n h.touched ≡ false → (m : ℕ) → next_in later m ≡ next_in slots m
  gone_next slots later first last n h changed out = next_stays slots later n None changed (sym (h.others n out))

  gone_kept : (slots later : List (Option (Slot T))) (first last : Option ℕ) (n : ℕ) (h : IsThreaded slots first last) → IsChangedAt slots later n None → has n h.touched ≡ false → (m : ℕ) → has m h.touched ≡ true
      → is_some (slot_at later m) ≡ true
  gone_kept slots later first last n h changed out m there = ap is_some (changed.others m (apart m n h.touched there out)) ∙ h.kept m there

  pub threads_gone : (slots later : List (Option (Slot T))) (first last : Option ℕ) (n : ℕ) (h : IsThreaded slots first last) → IsChangedAt slots later n None → has n h.touched ≡ false → IsThreaded later first last
  threads_gone slots later first last n h changed out =
      threads_stay slots later first last h (gone_next slots later first last n h changed out) (gone_kept slots later first last n h changed out)

  pub gone_view : (s : Numbered T) (slots later : List (Option (Slot T))) (first last : Option ℕ) (m n : ℕ) (h : IsThreaded slots first last) → view_of slots first ≡ s → m ≡ n → IsChangedAt slots later m None
      → has m h.touched ≡ false → view_of later first ≡ record s { kept = remove s.kept n }
  gone_view s slots later first last m n h is same changed out =
      let kept : kept_from 0 later ≡ remove s.kept n = kept_without slots later m changed ∙ (λ i. remove (is i).kept (same i)) in
      let touched : touched_from later first ≡ s.touched
      = touched_stay slots later first last h (gone_next slots later first last m h changed out) (gone_kept slots later first last m h changed out) ∙ ap (λ v. v.touched) is in
      λ i. record { kept = kept i; touched = touched i }

  -- the touched slots, as they are seen
  pub touched_seen : (s : Numbered T) (slots : List (Option (Slot T))) (first last : Option ℕ) (m n : ℕ) (h : IsThreaded slots first last) → view_of slots first ≡ s → m ≡ n → has m h.touched ≡ has n s.touched
  touched_seen s slots first last m n h is same = (λ i. has (same i) (sym (touched_is slots first last h) i)) ∙ ap (λ v. has n v.touched) is

  -- the last of the touched slots is a slot
  pub last_kept : (slots : List (Option (Slot T))) (first last : Option ℕ) → IsThreaded slots first last → MatchOption last (Unit {0}) (λ l. is_some (slot_at slots l) ≡ true)
  last_kept slots first None h = tt
  last_kept slots first (Some last) h = h.kept last (has_end h.touched last h.ends)

  -- where there is none
  pub none_threaded : (slots : List (Option (Slot T))) → slots ≡ [] → IsThreaded slots None None
  none_threaded slots is = subst (λ l. IsThreaded l None None) (sym is) (record {
    touched = [];
    walks = refl;
    ends = refl;
    kept = λ n e. absurd (cc);
    others = λ n e. refl;
    distinct = none_twice;
  })

  -- ---- what is left where the first isn't touched any more

  pub record IsRest (slots : List (Option (Slot T))) (touched : List ℕ) (n : ℕ) (later : List (Option (Slot T))) (first last : Option ℕ) : Type 0 where
    pub threaded : IsThreaded later first last
    pub taken : touched ≡ n ∷ threaded.touched
    pub out : has n threaded.touched ≡ false
    pub kept : kept_from 0 later ≡ kept_from 0 slots

  pub first_is_kept : (slots : List (Option (Slot T))) (first last : Option ℕ) (n : ℕ) → IsThreaded slots first last → first ≡ Some n → is_some (slot_at slots n) ≡ true
  first_is_kept slots first last n h is =
      let rest : (ns : List ℕ) × (h.touched ≡ n ∷ ns) × IsWalk (next_in slots) (next_in slots n) ns = rest_of (next_in slots) first n h.touched is h.walks in
      h.kept n (ap (has n) rest.1 ∙ has_head n rest.0)

  rest_here : (slots : List (Option (Slot T))) (first last : Option ℕ) (n : ℕ) (s : Slot T) (h : IsThreaded slots first last) → first ≡ Some n → slot_at slots n ≡ Some s
      → IsRest slots h.touched n (slice_set slots n (Some (record s { next_touched = None }))) s.next_touched (last_behind s.next_touched last)
  rest_here slots first last n s h is at =
      let rest = threads_rest slots first last n s h is at in
      record { threaded = rest.0; taken = rest.1; out = rest.2; kept = kept_same slots n s None at }

  pub rest_is : (slots later : List (Option (Slot T))) (first last next behind : Option ℕ) (n : ℕ) (h : IsThreaded slots first last) → first ≡ Some n → next ≡ next_in slots n
      → later ≡ slice_set slots n (with_next (slot_at slots n) None) → behind ≡ last_behind next last → IsRest slots h.touched n later next behind
  rest_is slots later first last next behind n h is next_is later_is behind_is =
      let s : (s : Slot T) × (slot_at slots n ≡ Some s) = some_of (slot_at slots n) (first_is_kept slots first last n h is) in
      let named : s.0.next_touched ≡ next = sym (next_is ∙ ap next_of s.1) in
      let changed : slice_set slots n (Some (record s.0 { next_touched = None })) ≡ later = sym (later_is ∙ ap (λ o. slice_set slots n (with_next o None)) s.1) in
      let last_is : last_behind s.0.next_touched last ≡ behind = ap (λ o. last_behind o last) named ∙ sym behind_is in
      subst (λ l. IsRest slots h.touched n l next behind) changed
      (subst (λ o. IsRest slots h.touched n (slice_set slots n (Some (record s.0 { next_touched = None }))) o behind) named
      (subst (λ o. IsRest slots h.touched n (slice_set slots n (Some (record s.0 { next_touched = None }))) s.0.next_touched o) last_is
      (rest_here slots first last n s.0 h is s.1)))

  pub some_is_seen : (s : Numbered T) (slots : List (Option (Slot T))) (first : Option ℕ) (n : ℕ) → view_of slots first ≡ s → is_some (slot_at slots n) ≡ true → is_some (get s.kept n) ≡ true
  some_is_seen s slots first n is there = ap is_some (opened s slots first n n is refl) ∙ some_seen (slot_at slots n) ∙ there

  -- where there is no slot, none is touched
  pub vacant_untouched : (slots : List (Option (Slot T))) (first last : Option ℕ) (n : ℕ) (h : IsThreaded slots first last) → slot_at slots n ≡ None → has n h.touched ≡ false
  vacant_untouched slots first last n h vacant = elim (has n h.touched) as (λ b. has n h.touched ≡ b → b ≡ false) [
    | true ↦ λ e. absurd (not_both (is_some (slot_at slots n)) (h.kept n e) (ap is_some vacant))
    | false ↦ λ e. refl
  ] refl

  -- ---- a walk over the touched slots

  pub walked_whole : (slots : List (Option (Slot T))) (first last : Option ℕ) → IsThreaded slots first last → IsWalked slots first
  walked_whole slots first last h = record { numbers = h.touched; walks = h.walks; kept = h.kept; distinct = h.distinct }

  walked_is : (slots : List (Option (Slot T))) (from : Option ℕ) (w : IsWalked slots from) → touched_from slots from ≡ w.numbers
  walked_is slots from w = walk_within (next_in slots) from w.numbers (length slots) w.walks w.distinct (λ n there. within slots n (w.kept n there))

  pub names_whole : (s : Numbered T) (slots : List (Option (Slot T))) (first : Option ℕ) → view_of slots first ≡ s → names_from slots first ≡ each (name_at s) s.touched
  names_whole s slots first is =
      each_same (λ n. name_of (slot_at slots n)) (name_at s) (touched_from slots first) (λ n _. named (slot_at slots n) ∙ sym (ap name_in (opened s slots first n n is refl))) ∙ ap (λ v. each (name_at s) v.touched) is where
        named : (o : Option (Slot T)) → name_of o ≡ name_in (seen o)
        named None = refl
        named (Some one) = refl

  pub names_none : (slots : List (Option (Slot T))) (from : Option ℕ) → from ≡ None → names_from slots from ≡ []
  names_none slots from none = ap (names_from slots) none ∙ ap (each (λ n. name_of (slot_at slots n))) (walk_none (next_in slots) (length slots))

  -- what is left where the first was walked
  pub record IsStepped (slots : List (Option (Slot T))) (from next : Option ℕ) (name : List ℕ) : Type 0 where
    pub walked : IsWalked slots next
    pub named : names_from slots from ≡ name ∷ names_from slots next

  pub walk_kept : (slots : List (Option (Slot T))) (from : Option ℕ) (n : ℕ) → IsWalked slots from → from ≡ Some n → is_some (slot_at slots n) ≡ true
  walk_kept slots from n w is =
      let rest : (ns : List ℕ) × (w.numbers ≡ n ∷ ns) × IsWalk (next_in slots) (next_in slots n) ns = rest_of (next_in slots) from n w.numbers is w.walks in
      w.kept n (ap (has n) rest.1 ∙ has_head n rest.0)

  pub walk_steps : (slots : List (Option (Slot T))) (from : Option ℕ) (n : ℕ) (one : Slot T) → IsWalked slots from → from ≡ Some n → slot_at slots n ≡ Some one → IsStepped slots from one.next_touched one.name
  walk_steps slots from n one w is at =
      let rest : (ns : List ℕ) × (w.numbers ≡ n ∷ ns) × IsWalk (next_in slots) (next_in slots n) ns = rest_of (next_in slots) from n w.numbers is w.walks in
      let named : next_in slots n ≡ one.next_touched = ap next_of at in
      let later : IsWalked slots one.next_touched = record {
        numbers = rest.0;
        walks = subst (λ o. IsWalk (next_in slots) o rest.0) named rest.2;
        kept = λ m there. w.kept m (ap (has m) rest.1 ∙ has_tail m n rest.0 there);
        distinct = IsDistinct-tail nat_eq n rest.0 (subst (IsDistinct nat_eq) rest.1 w.distinct);
      } in
      record {
        walked = later;
        named = ap (each (λ m. name_of (slot_at slots m))) (walked_is slots from w ∙ rest.1) ∙ (λ i. name_of (at i) ∷ each (λ m. name_of (slot_at slots m)) (sym (walked_is slots one.next_touched later) i));
      }
