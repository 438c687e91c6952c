-- What becomes of a slot table where a slot is put, changed, linked or taken away.
use Rattle.std.proofs.Common.{◌≡◌, ◌≢◌, ◌⊎◌, ℕ, Bool, true, false, cond, List, [], ◌∷◌, nat_eq, map as each, Option, Some, None, option_map, unwrap_or, refl, sym, ap, ◌∙◌, inl, inr}
use Rattle.std.specs.Prelude.{is_some, not, ◌||◌}
use Rattle.std.specs.List.{list_any, IsDistinct, AllByRecursion}
use Rattle.std.proofs.lemmas.Map.Keys.{IsDistinct-head, IsDistinct-tail, IsDistinct-cons}
use Rattle.std.specs.Str.{bytes_eq}
use Rattle.std.specs.Cmp.{nat_cmp_total}
use Rattle.std.specs.Cmp.Lexicographic.{nat_list_cmp_total}
use Rattle.std.specs.FinMap.{get, entries, same_map, nat_cmp-IsAntisymmetric}
use Rattle.std.proofs.lemmas.Bool.{cases_eq, eqb-true, eq-eqb}
use Rattle.std.proofs.lemmas.Slice.Eq.{bytes_eq-Decides}
use Rattle.dc_text.specs.Maps.{Texts}
use Rattle.dc_text.proofs.MapLemmas.{exact_texts}
use Rattle.dc_slots.specs.Chains.{has}
use Rattle.dc_slots.specs.Slots.{Slots, list_of, without, IsUnused}
use Rattle.dc_slots.specs.Numbered.{Kept, Numbered, IsKept, name_at, value_at, with_kept, is_used}
use Rattle.dc_slots.specs.Parts.{values_of, lists_of, table_of, AreTied, AreSound}
use Rattle.dc_slots.proofs.KeyLemmas.{insert-here, insert-other}
use Rattle.dc_slots.proofs.ChainLemmas.{each_same, has_head, has_tail}
use Rattle.dc_slots.proofs.TableLemmas.{at_number, get-values, get-lists, list_of-lists}

-- ---- slots by their numbers

module _ {T : Type 0} (s : Numbered T) (n : ℕ) where
  pub put-here : (k : Kept T) → get (with_kept s n k).kept n ≡ Some k
  put-here k = insert-here nat_cmp_total nat_cmp-IsAntisymmetric s.kept n k

  pub put-other : (k : Kept T) (m : ℕ) → m ≢ n → get (with_kept s n k).kept m ≡ get s.kept m
  put-other k m differ = insert-other nat_cmp_total nat_cmp-IsAntisymmetric s.kept n k m differ

  -- what a slot has stays where another is put at its number that has the same there
  pub stays_put : {X : Type 0} (f : Option (Kept T) → X) (k : Kept T) → f (Some k) ≡ f (get s.kept n) → (m : ℕ) → f (get (with_kept s n k).kept m) ≡ f (get s.kept m)
  stays_put f k same m = elim (cases_eq m n) [
    | inl here ↦ ap (λ j. f (get (with_kept s n k).kept j)) here ∙ ap f (put-here k) ∙ same ∙ ap (λ j. f (get s.kept j)) (sym here)
    | inr differ ↦ ap f (put-other k m differ)
  ]

  pub kept_put : (k : Kept T) (m : ℕ) → IsKept s m → IsKept (with_kept s n k) m
  kept_put k m there = elim (cases_eq m n) [
    | inl here ↦ ap (λ j. is_some (get (with_kept s n k).kept j)) here ∙ ap is_some (put-here k)
    | inr differ ↦ ap is_some (put-other k m differ) ∙ there
  ]

  pub was_kept : (k : Kept T) → IsKept s n → (m : ℕ) → IsKept (with_kept s n k) m → IsKept s m
  was_kept k at m there = elim (cases_eq m n) [
    | inl here ↦ ap (λ j. is_some (get s.kept j)) here ∙ at
    | inr differ ↦ sym (ap is_some (put-other k m differ)) ∙ there
  ]

-- ---- names and numbers

no_name_twice : IsDistinct bytes_eq []
unfolding IsDistinct
no_name_twice = tt

pub yes_or_no : (b : Bool) → (b ≡ true) ⊎ (b ≡ false)
yes_or_no true = inl refl
yes_or_no false = inr refl

same_bools : (a b : Bool) → (a ≡ true → b ≡ true) → (b ≡ true → a ≡ true) → a ≡ b
same_bools true b f g = sym (f refl)
same_bools false true f g = absurd (let e : false ≡ true = g refl in cc)
same_bools false false f g = refl

module _ {T : Type 0} (places : Texts ℕ) (s : Numbered T) (lists : Texts (List ℕ)) (t : AreTied places s lists) where
  pub own_number : (m n : ℕ) → IsKept s m → IsKept s n → name_at s m ≡ name_at s n → m ≡ n
  own_number m n first second same = let e : Some m ≡ Some n = sym (t.placed m first) ∙ ap (get places) same ∙ t.placed n second in cc

  pub same_name : (n m : ℕ) → IsKept s n → IsKept s m → nat_eq n m ≡ bytes_eq (name_at s n) (name_at s m)
  same_name n m first second = same_bools (nat_eq n m) (bytes_eq (name_at s n) (name_at s m))
      (λ e. (bytes_eq-Decides (name_at s n) (name_at s m)).1 (ap (name_at s) (eqb-true n m e)))
      (λ e. eq-eqb n m (own_number n m first second ((bytes_eq-Decides (name_at s n) (name_at s m)).0 e)))

  pub same_has : (n : ℕ) (ns : List ℕ) → IsKept s n → ((m : ℕ) → has m ns ≡ true → IsKept s m) → has n ns ≡ list_any (bytes_eq (name_at s n)) (each (name_at s) ns)
  same_has n [] at kept = refl
  same_has n (m ∷ ns) at kept = λ i. same_name n m at (kept m (has_head m ns)) i || same_has n ns at (λ k there. kept k (has_tail k m ns there)) i

  pub same_without : (n : ℕ) (ns : List ℕ) → IsKept s n → ((m : ℕ) → has m ns ≡ true → IsKept s m) → each (name_at s) (without nat_eq ns n) ≡ without bytes_eq (each (name_at s) ns) (name_at s n)
  same_without n [] at kept = refl
  same_without n (m ∷ ns) at kept =
      let rest : each (name_at s) (without nat_eq ns n) ≡ without bytes_eq (each (name_at s) ns) (name_at s n) = same_without n ns at (λ k there. kept k (has_tail k m ns there)) in
      elim (yes_or_no (nat_eq n m)) [
        | inl yes_is ↦
            ap (λ b. each (name_at s) (cond (not b) (m ∷ without nat_eq ns n) (without nat_eq ns n))) yes_is ∙ rest
            ∙ ap (λ b. cond (not b) (name_at s m ∷ without bytes_eq (each (name_at s) ns) (name_at s n)) (without bytes_eq (each (name_at s) ns) (name_at s n))) (sym yes_is ∙ same_name n m at (kept m (has_head m ns)))
        | inr no_is ↦
            ap (λ b. each (name_at s) (cond (not b) (m ∷ without nat_eq ns n) (without nat_eq ns n))) no_is ∙ ap (λ l. name_at s m ∷ l) rest
            ∙ ap (λ b. cond (not b) (name_at s m ∷ without bytes_eq (each (name_at s) ns) (name_at s n)) (without bytes_eq (each (name_at s) ns) (name_at s n))) (sym no_is ∙ same_name n m at (kept m (has_head m ns)))
      ]

  names_apart : (n : ℕ) (ms : List ℕ) → IsKept s n → ((m : ℕ) → has m ms ≡ true → IsKept s m) → AllByRecursion (λ m. nat_eq n m ≡ false) ms → AllByRecursion (λ q. bytes_eq (name_at s n) q ≡ false) (each (name_at s) ms)
  names_apart n [] at kept all = tt
  names_apart n (m ∷ ms) at kept all = (sym (same_name n m at (kept m (has_head m ms))) ∙ all.0, names_apart n ms at (λ k there. kept k (has_tail k m ms there)) all.1)

  -- numbers that differ have names that do
  pub names_distinct : (ns : List ℕ) → ((m : ℕ) → has m ns ≡ true → IsKept s m) → IsDistinct nat_eq ns → IsDistinct bytes_eq (each (name_at s) ns)
  names_distinct [] kept distinct = no_name_twice
  names_distinct (n ∷ ns) kept distinct =
      IsDistinct-cons bytes_eq (name_at s n) (each (name_at s) ns) (names_apart n ns (kept n (has_head n ns)) (λ k there. kept k (has_tail k n ns there)) (IsDistinct-head nat_eq n ns distinct))
      (names_distinct ns (λ k there. kept k (has_tail k n ns there)) (IsDistinct-tail nat_eq n ns distinct))

  -- a name without a slot isn't used
  pub unused_name : (name : List ℕ) → get places name ≡ None → IsUnused (table_of places s lists) name
  unused_name name none = record {
    value = get-values (value_at s) places name ∙ ap (at_number (value_at s)) none;
    touched = unnamed s.touched t.touched;
    owned = λ owner. ap (list_any (bytes_eq name)) (list_of-lists (name_at s) lists owner) ∙ unnamed (list_of lists owner) (t.listed owner);
  } where
    unnamed : (ns : List ℕ) → ((m : ℕ) → has m ns ≡ true → IsKept s m) → list_any (bytes_eq name) (each (name_at s) ns) ≡ false
    unnamed [] kept = refl
    unnamed (m ∷ ns) kept = λ i. another m (kept m (has_head m ns)) i || unnamed ns (λ k there. kept k (has_tail k m ns there)) i where
      another : (m : ℕ) → IsKept s m → bytes_eq name (name_at s m) ≡ false
      another m at = elim (yes_or_no (bytes_eq name (name_at s m))) [
        | inl yes_is ↦ absurd (let e : None ≡ Some m = sym none ∙ ap (get places) ((bytes_eq-Decides name (name_at s m)).0 yes_is) ∙ t.placed m at in cc)
        | inr no_is ↦ no_is
      ]

-- ---- what is seen stays where names and values do

module _ {T : Type 0} (s after : Numbered T) where
  pub names_stay : (ns : List ℕ) → ((n : ℕ) → has n ns ≡ true → name_at after n ≡ name_at s n) → each (name_at after) ns ≡ each (name_at s) ns
  names_stay ns same = each_same (name_at after) (name_at s) ns same

  pub lists_stay : (lists : Texts (List ℕ)) → ((owner : List ℕ) (n : ℕ) → has n (list_of lists owner) ≡ true → name_at after n ≡ name_at s n) → lists_of (name_at after) (entries lists) ≡ lists_of (name_at s) (entries lists)
  lists_stay lists same = same_map nat_list_cmp_total exact_texts _ _ (λ q. get-lists (name_at after) lists q ∙ by q (get lists q) refl ∙ sym (get-lists (name_at s) lists q)) where
    by : (q : List ℕ) (o : Option (List ℕ)) → get lists q ≡ o → option_map (each (name_at after)) o ≡ option_map (each (name_at s)) o
    by q None is = refl
    by q (Some ns) is = ap Some (names_stay ns (λ n there. same q n (ap (λ o. has n (unwrap_or o [])) is ∙ there)))

  pub values_stay : (places : Texts ℕ) → ((q : List ℕ) (n : ℕ) → get places q ≡ Some n → value_at after n ≡ value_at s n) → values_of (value_at after) (entries places) ≡ values_of (value_at s) (entries places)
  values_stay places same = same_map nat_list_cmp_total exact_texts _ _ (λ q. get-values (value_at after) places q ∙ by q (get places q) refl ∙ sym (get-values (value_at s) places q)) where
    by : (q : List ℕ) (o : Option ℕ) → get places q ≡ o → at_number (value_at after) o ≡ at_number (value_at s) o
    by q None is = refl
    by q (Some n) is = same q n is

-- all slots but this one are used
abbrev pub AreUsedBut : {T : Type 0} → Numbered T → ℕ → Type 0
AreUsedBut s n = (m : ℕ) → m ≢ n → IsKept s m → is_used s m ≡ true

-- the parts show this table, and only the slot with the number may be unused
pub record IsNearly {T : Type 0} (places : Texts ℕ) (s : Numbered T) (lists : Texts (List ℕ)) (table : Slots T) (n : ℕ) : Type 0 where
  pub tied : AreTied places s lists
  pub used : AreUsedBut s n
  pub shown : table_of places s lists ≡ table

module _ {T : Type 0} (places : Texts ℕ) (s : Numbered T) (lists : Texts (List ℕ)) (table : Slots T) (n : ℕ) where
  -- where that slot is used, too
  pub nearly_sound : IsNearly places s lists table n → is_used s n ≡ true → AreSound places s lists
  nearly_sound near used = record { tied = near.tied; used = λ m at. elim (cases_eq m n) [ inl same ↦ ap (is_used s) same ∙ used | inr differ ↦ near.used m differ at ] }

  pub sound_nearly : AreSound places s lists → table_of places s lists ≡ table → IsNearly places s lists table n
  sound_nearly sound shown = record { tied = sound.tied; used = λ m _ at. sound.used m at; shown = shown }

-- the parts are sound, and show this table
pub record IsSeen {T : Type 0} (places : Texts ℕ) (s : Numbered T) (lists : Texts (List ℕ)) (table : Slots T) : Type 0 where
  pub sound : AreSound places s lists
  pub shown : table_of places s lists ≡ table
