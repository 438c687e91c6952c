-- What becomes of the table that parts show where a slot is put, where the first of the touched slots is let go, and where an unused slot is taken away.
use Rattle.std.proofs.Common.{◌≡◌, ◌≢◌, ℕ, ◌<◌, Bool, true, false, List, ◌∷◌, map as each, Option, Some, None, refl, sym, ap, ◌∙◌, subst, inl, inr, arith}
use Rattle.std.specs.Prelude.{is_some, not, drop, ◌||◌, ◌==◌}
use Rattle.std.specs.Cmp.{nat_cmp_total}
use Rattle.std.specs.Cmp.Lexicographic.{nat_list_cmp_total}
use Rattle.std.specs.FinMap.{get, insert, remove, entries, same_map, nat_cmp-IsAntisymmetric}
use Rattle.std.proofs.lemmas.Bool.{cases_eq, eqb-true}
use Rattle.dc_text.specs.Maps.{Texts}
use Rattle.dc_text.proofs.MapLemmas.{exact_texts}
use Rattle.dc_slots.specs.Chains.{has}
use Rattle.dc_slots.specs.Slots.{Slots, list_of}
use Rattle.dc_slots.specs.Numbered.{Kept, Numbered, IsKept, name_in, value_in, owners_in, name_at, value_at, owners_at, with_kept, is_used}
use Rattle.dc_slots.specs.Parts.{values_of, lists_of, table_of, count_in, AreTied, AreSound, IsPlaced, IsReleased}
use Rattle.dc_slots.proofs.KeyLemmas.{insert-here, insert-other, remove-here, remove-other}
use Rattle.dc_slots.proofs.ChainLemmas.{has_tail, not_both, neither, untied}
use Rattle.dc_slots.proofs.TableLemmas.{at_number, get-values, listed_is_counted, unlisted_is_uncounted}
use Rattle.dc_slots.proofs.TiedLemmas.{put-here, put-other, kept_put, own_number, names_stay, lists_stay, IsNearly, yes_or_no}
use Rattle.dc_slots.proofs.TiedLemmas.{nearly_sound, sound_nearly, IsSeen}
use Rattle.dc_slots.proofs.ChangeLemmas.{same_text}
use Rattle.dc_slots.proofs.ThreadLemmas.{no_some}

-- ---- a name gets a slot, where it has none

module _ {T : Type 0} (places later : Texts ℕ) (s after : Numbered T) (lists : Texts (List ℕ)) (table : Slots T) (sound : AreSound places s lists) (shows : table_of places s lists ≡ table) (name : List ℕ) (n : ℕ) where
  -- the number is the name's
  pub record HasPlace : Type 0 where
    pub near : IsNearly later after lists table n
    pub place : get later name ≡ Some n
    pub kept : IsKept after n
    pub named : name_at after n ≡ name

  old_place : get places name ≡ Some n → later ≡ places → after ≡ s → HasPlace
  old_place is later_is after_is =
      let t : AreTied places s lists = sound.tied in
      let there : IsKept s n × (name_at s n ≡ name) = t.named name n is in
      record {
        near = subst (λ l. IsNearly l after lists table n) (sym later_is) (subst (λ x. IsNearly places x lists table n) (sym after_is) (sound_nearly places s lists table n sound shows));
        place = ap (λ l. get l name) later_is ∙ is;
        kept = ap (λ x. is_some (get x.kept n)) after_is ∙ there.0;
        named = ap (λ (x : Numbered T). name_at x n) after_is ∙ there.1;
      }

  new_near : get places name ≡ None → get s.kept n ≡ None → IsNearly (insert places name n) (with_kept s n (record { name = name; value = None; owners = 0 })) lists table n
  new_near none vacant =
      let t : AreTied places s lists = sound.tied in
      let k : Kept T = record { name = name; value = None; owners = 0 } in
      let x : Numbered T = with_kept s n k in
      let more : Texts ℕ = insert places name n in
      let apart : (m : ℕ) → IsKept s m → m ≢ n = (λ m at same. not_both (is_some (get s.kept m)) at (ap (λ j. is_some (get s.kept j)) same ∙ ap is_some vacant)) in
      let stays : (m : ℕ) → IsKept s m → get x.kept m ≡ get s.kept m = (λ m at. put-other s n k m (apart m at)) in
      let names : (m : ℕ) → IsKept s m → name_at x m ≡ name_at s m = (λ m at. ap name_in (stays m at)) in
      let other : (q : List ℕ) → q ≢ name → get more q ≡ get places q = insert-other nat_list_cmp_total exact_texts places name n in
      let here : get more name ≡ Some n = insert-here nat_list_cmp_total exact_texts places name n in
      let unlisted : (q : List ℕ) → has n (list_of lists q) ≡ false = (λ q. elim (yes_or_no (has n (list_of lists q))) [ inl there ↦ absurd (apart n (t.listed q n there) refl) | inr out ↦ out ]) in
      let old : (m : ℕ) → m ≢ n → IsKept x m → IsKept s m = (λ m differ there. sym (ap is_some (put-other s n k m differ)) ∙ there) in
      record {
        tied = record {
          named = λ q m is. elim (same_text q name) [
            | inl same ↦
                let e : m ≡ n = (let f : Some m ≡ Some n = sym is ∙ ap (get more) same ∙ here in cc) in
                (ap (λ j. is_some (get x.kept j)) e ∙ ap is_some (put-here s n k), ap (λ j. name_at x j) e ∙ ap name_in (put-here s n k) ∙ sym same)
            | inr differ ↦
                let was : IsKept s m × (name_at s m ≡ q) = t.named q m (sym (other q differ) ∙ is) in
                (kept_put s n k m was.0, names m was.0 ∙ was.1)
          ];
          placed = λ m there. elim (cases_eq m n) [
            | inl same ↦ ap (λ j. get more (name_at x j)) same ∙ ap (λ o. get more (name_in o)) (put-here s n k) ∙ here ∙ ap Some (sym same)
            | inr differ ↦
                let at : IsKept s m = old m differ there in
                let not_name : name_at s m ≢ name = (λ same. let e : None ≡ Some m = sym none ∙ ap (get places) (sym same) ∙ t.placed m at in absurd (cc)) in
                ap (get more) (names m at) ∙ other (name_at s m) not_name ∙ t.placed m at
          ];
          touched = λ m there. kept_put s n k m (t.touched m there);
          listed = λ q m there. kept_put s n k m (t.listed q m there);
          full = t.full;
          counted = λ m there. elim (cases_eq m n) [
            | inl same ↦ ap (λ j. owners_at x j) same ∙ ap owners_in (put-here s n k) ∙ sym (unlisted_is_uncounted n lists unlisted) ∙ ap (λ j. count_in j (entries lists)) (sym same)
            | inr differ ↦ ap owners_in (put-other s n k m differ) ∙ t.counted m (old m differ there)
          ];
        };
        used = λ m differ there. ap (λ o. is_some (value_in o) || (has m s.touched || not (owners_in o == 0))) (put-other s n k m differ) ∙ sound.used m (old m differ there);
        shown =
            let values : values_of (value_at x) (entries more) ≡ values_of (value_at s) (entries places)
            = same_map nat_list_cmp_total exact_texts _ _ (λ q. get-values (value_at x) more q ∙ elim (same_text q name) [
              | inl same ↦ ap (λ p. at_number (value_at x) (get more p)) same ∙ ap (at_number (value_at x)) here ∙ ap value_in (put-here s n k) ∙ ap (at_number (value_at s)) (sym none) ∙ ap (λ p. at_number (value_at s) (get places p)) (sym same)
              | inr differ ↦ ap (at_number (value_at x)) (other q differ) ∙ by t q (get places q) refl
            ] ∙ sym (get-values (value_at s) places q)) in
            let touched : each (name_at x) s.touched ≡ each (name_at s) s.touched = names_stay s x s.touched (λ m there. names m (t.touched m there)) in
            let owned : lists_of (name_at x) (entries lists) ≡ lists_of (name_at s) (entries lists) = lists_stay s x lists (λ q m there. names m (t.listed q m there)) in
            (λ i. record { values = values i; touched = touched i; owned = owned i }) ∙ shows;
      } where
        by : AreTied places s lists → (q : List ℕ) (o : Option ℕ) → get places q ≡ o → at_number (value_at (with_kept s n (record { name = name; value = None; owners = 0 }))) o ≡ at_number (value_at s) o
        by t q None found = refl
        by t q (Some m) found =
            let at : IsKept s m = (t.named q m found).0 in
            ap value_in (put-other s n _ m (λ same. not_both (is_some (get s.kept m)) at (ap (λ j. is_some (get s.kept j)) same ∙ ap is_some vacant)))

  new_place : get places name ≡ None → get s.kept n ≡ None → later ≡ insert places name n → after ≡ with_kept s n (record { name = name; value = None; owners = 0 }) → HasPlace
  new_place none vacant later_is after_is = record {
    near = subst (λ l. IsNearly l after lists table n) (sym later_is) (subst (λ x. IsNearly (insert places name n) x lists table n) (sym after_is) (new_near none vacant));
    place = ap (λ l. get l name) later_is ∙ insert-here nat_list_cmp_total exact_texts places name n;
    kept = ap (λ x. is_some (get x.kept n)) after_is ∙ ap is_some (put-here s n _);
    named = ap (λ (x : Numbered T). name_at x n) after_is ∙ ap name_in (put-here s n _);
  }

  pub has_place : IsPlaced places later s after name n → HasPlace
  has_place (inl old) = old_place old.0 old.1 old.2
  has_place (inr new) = new_place new.0 new.1 new.2 new.3

-- ---- the first of the touched slots is let go

module _ {T : Type 0} (places : Texts ℕ) (s after : Numbered T) (lists : Texts (List ℕ)) (table : Slots T) (n : ℕ) (sound : AreSound places s lists) (shows : table_of places s lists ≡ table)
    (kept : after.kept ≡ s.kept) (taken : s.touched ≡ n ∷ after.touched) where
  pub rest_near : IsNearly places after lists (record table { touched = drop 1 table.touched }) n
  rest_near =
      let t : AreTied places s lists = sound.tied in
      let x : Numbered T = record s { touched = after.touched } in
      let back : s.kept ≡ after.kept = sym kept in
      let is : x ≡ after = (λ i. record { kept = back i; touched = after.touched }) in
      let stays : (m : ℕ) → m ≢ n → has m after.touched ≡ has m s.touched = (λ m differ. ap (λ b. b || has m after.touched) (sym (untied m n differ)) ∙ ap (has m) (sym taken)) in
      subst (λ y. IsNearly places y lists (record table { touched = drop 1 table.touched }) n) is (record {
        tied = record {
          named = t.named;
          placed = t.placed;
          touched = λ m there. t.touched m (ap (has m) taken ∙ has_tail m n after.touched there);
          listed = t.listed;
          full = t.full;
          counted = t.counted;
        };
        used = λ m differ there. ap (λ b. is_some (value_at s m) || (b || not (owners_at s m == 0))) (stays m differ) ∙ sound.used m there;
        shown =
            let touched : each (name_at s) after.touched ≡ drop 1 table.touched = ap (λ ns. drop 1 (each (name_at s) ns)) (sym taken) ∙ ap (λ (y : Slots T). drop 1 y.touched) shows in
            λ i. record { values = (shows i).values; touched = touched i; owned = (shows i).owned };
      })

-- ---- an unused slot is taken away

module _ {T : Type 0} (places later : Texts ℕ) (s after : Numbered T) (lists : Texts (List ℕ)) (table : Slots T) (n : ℕ) (near : IsNearly places s lists table n) (at : IsKept s n) where
  stays_used : is_used s n ≡ true → later ≡ places → after ≡ s → IsSeen later after lists table
  stays_used used later_is after_is = record {
    sound = subst (λ l. AreSound l after lists) (sym later_is) (subst (λ x. AreSound places x lists) (sym after_is) (nearly_sound places s lists table n near used));
    shown = (λ i. table_of (later_is i) (after_is i) lists) ∙ near.shown;
  }

  unused_parts : is_used s n ≡ false → (value_at s n ≡ None) × (has n s.touched ≡ false) × (owners_at s n ≡ 0)
  unused_parts unused =
      let one : (is_some (value_at s n) ≡ false) × ((has n s.touched || not (owners_at s n == 0)) ≡ false) = neither _ _ unused in
      let two : (has n s.touched ≡ false) × (not (owners_at s n == 0) ≡ false) = neither _ _ one.1 in
      (no_some (value_at s n) one.0, two.0, eqb-true (owners_at s n) 0 (twice (owners_at s n == 0) two.1)) where
        twice : (b : Bool) → not b ≡ false → b ≡ true
        twice true e = refl
        twice false e = absurd (cc)

  gone_left : is_used s n ≡ false → (x : AreSound (remove places (name_at s n)) (record s { kept = remove s.kept n }) lists) × (table_of (remove places (name_at s n)) (record s { kept = remove s.kept n }) lists ≡ table)
  gone_left unused =
      let t : AreTied places s lists = near.tied in
      let parts = unused_parts unused in
      let x : Numbered T = record s { kept = remove s.kept n } in
      let less : Texts ℕ = remove places (name_at s n) in
      let stays : (m : ℕ) → m ≢ n → get x.kept m ≡ get s.kept m = remove-other nat_cmp_total nat_cmp-IsAntisymmetric s.kept n in
      let other : (q : List ℕ) → q ≢ name_at s n → get less q ≡ get places q = remove-other nat_list_cmp_total exact_texts places (name_at s n) in
      let here : get less (name_at s n) ≡ None = remove-here nat_list_cmp_total exact_texts places (name_at s n) in
      let apart : (m : ℕ) → IsKept x m → m ≢ n = (λ m there same. not_both (is_some (get x.kept m)) there (ap (λ j. is_some (get x.kept j)) same ∙ ap is_some (remove-here nat_cmp_total nat_cmp-IsAntisymmetric s.kept n))) in
      let old : (m : ℕ) → IsKept x m → IsKept s m = (λ m there. sym (ap is_some (stays m (apart m there))) ∙ there) in
      let unlisted : (q : List ℕ) (m : ℕ) → has m (list_of lists q) ≡ true → m ≢ n = (λ q m there same.
      let counted : 0 < count_in n (entries lists) = listed_is_counted n lists q (ap (λ j. has j (list_of lists q)) (sym same) ∙ there) in
      let none : count_in n (entries lists) ≡ 0 = sym (t.counted n at) ∙ parts.2 in
      omega arith) in
      let untouched : (m : ℕ) → has m s.touched ≡ true → m ≢ n = (λ m there same. not_both (has m s.touched) there (ap (λ j. has j s.touched) same ∙ parts.1)) in
      let values : values_of (value_at x) (entries less) ≡ values_of (value_at s) (entries places)
      = same_map nat_list_cmp_total exact_texts _ _ (λ q. get-values (value_at x) less q ∙ elim (same_text q (name_at s n)) [
        | inl same ↦ ap (λ p. at_number (value_at x) (get less p)) same ∙ ap (at_number (value_at x)) here ∙ sym (ap (λ p. at_number (value_at s) (get places p)) same ∙ ap (at_number (value_at s)) (t.placed n at) ∙ parts.0)
        | inr differ ↦ ap (at_number (value_at x)) (other q differ) ∙ by t q differ (get places q) refl
      ] ∙ sym (get-values (value_at s) places q)) in
      let touched : each (name_at x) s.touched ≡ each (name_at s) s.touched = names_stay s x s.touched (λ m there. ap name_in (stays m (untouched m there))) in
      let owned : lists_of (name_at x) (entries lists) ≡ lists_of (name_at s) (entries lists) = lists_stay s x lists (λ q m there. ap name_in (stays m (unlisted q m there))) in (
        record {
          tied = record {
            named = λ q m is.
                let not_name : q ≢ name_at s n = (λ same. let e : None ≡ Some m = sym (ap (get less) same ∙ here) ∙ is in absurd (cc)) in
                let was : IsKept s m × (name_at s m ≡ q) = t.named q m (sym (other q not_name) ∙ is) in
                let differ : m ≢ n = (λ same. not_name (sym was.1 ∙ ap (name_at s) same)) in
                (ap is_some (stays m differ) ∙ was.0, ap name_in (stays m differ) ∙ was.1);
            placed = λ m there.
                let differ : m ≢ n = apart m there in
                ap (λ o. get less (name_in o)) (stays m differ) ∙ other (name_at s m) (λ same. differ (own_number places s lists t m n (old m there) at same)) ∙ t.placed m (old m there);
            touched = λ m there. ap is_some (stays m (untouched m there)) ∙ t.touched m there;
            listed = λ q m there. ap is_some (stays m (unlisted q m there)) ∙ t.listed q m there;
            full = t.full;
            counted = λ m there. ap owners_in (stays m (apart m there)) ∙ t.counted m (old m there);
          };
          used = λ m there. ap (λ o. is_some (value_in o) || (has m s.touched || not (owners_in o == 0))) (stays m (apart m there)) ∙ near.used m (apart m there) (old m there);
        },
        (λ i. record { values = values i; touched = touched i; owned = owned i }) ∙ near.shown,
      ) where
        by : AreTied places s lists → (q : List ℕ) → q ≢ name_at s n → (o : Option ℕ) → get places q ≡ o → at_number (value_at (record s { kept = remove s.kept n })) o ≡ at_number (value_at s) o
        by t q differ None found = refl
        by t q differ (Some m) found = ap value_in (remove-other nat_cmp_total nat_cmp-IsAntisymmetric s.kept n m (λ same. differ (sym (t.named q m found).1 ∙ ap (name_at s) same)))

  taken_away : is_used s n ≡ false → later ≡ remove places (name_at s n) → after ≡ record s { kept = remove s.kept n } → IsSeen later after lists table
  taken_away unused later_is after_is =
      let left = gone_left unused in
      record {
        sound = subst (λ l. AreSound l after lists) (sym later_is) (subst (λ x. AreSound (remove places (name_at s n)) x lists) (sym after_is) left.0);
        shown = (λ i. table_of (later_is i) (after_is i) lists) ∙ left.1;
      }

  pub is_left : IsReleased places later s after n → IsSeen later after lists table
  is_left (inl used) = stays_used used.0 used.1 used.2
  is_left (inr unused) = taken_away unused.0 unused.1 unused.2
