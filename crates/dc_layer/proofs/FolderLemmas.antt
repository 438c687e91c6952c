-- The parts of a name, from the front, and what a folder's name ends in.
use Rattle.std.proofs.Common.{◌≡◌, ◌≢◌, ℕ, suc, ◌+◌, ◌-◌, ◌<◌, Bool, true, false, cond, not, List, [], ◌∷◌, ◌++◌, length, take, refl, sym, ap, ◌∙◌, arith, append_assoc}
use Rattle.std.specs.Prelude.{◌&&◌, ◌||◌, ◌==◌, nat_eq}
use Rattle.std.specs.List.{list_all, list_any, onto_first, slice_split, before_first, after_first, position_or_len, ends_with}
use Rattle.std.proofs.lemmas.Bool.{ltb-true}
use Rattle.std.proofs.lemmas.Bool.Decides.{Decides-eqb}
use Rattle.std.proofs.lemmas.List.{append_cancel_right}
use Rattle.std.proofs.lemmas.List.Splits.{slice_split_first, length-slice_split}
use Rattle.std.proofs.lemmas.Slice.Eq.{ends_is}
use Rattle.dc_text.specs.Ascii.{slash}
use Rattle.dc_text.proofs.FirstLemmas.{before_first-later}
use Rattle.dc_text.proofs.LineLemmas.{list_any-position}
use Rattle.dc_layer.specs.Folders.{prefix, is_short, is_like_a_file, fits_tree}

abbrev is_slash : ℕ → Bool
is_slash byte = byte == slash

-- ---- without a slash

neither : (a b : Bool) → (a || b) ≡ false → (a ≡ false) × (b ≡ false)
neither true b h = absurd (cc)
neither false b h = (refl, h)

pub before_none : (p : ℕ → Bool) (xs : List ℕ) → list_any p xs ≡ false → before_first p xs ≡ xs
before_none p [] e = refl
before_none p (x ∷ xs) e =
    let both : (p x ≡ false) × (list_any p xs ≡ false) = neither (p x) _ e in
    before_first-later p x xs both.0 ∙ ap (λ b. x ∷ b) (before_none p xs both.1)

pub prefix_whole : (name : List ℕ) → list_any is_slash name ≡ false → prefix name ≡ name
prefix_whole name e = before_none is_slash name e

split_none : (p : ℕ → Bool) (xs : List ℕ) → list_any p xs ≡ false → slice_split p xs ≡ xs ∷ []
split_none p [] e = refl
split_none p (x ∷ xs) e =
    let both : (p x ≡ false) × (list_any p xs ≡ false) = neither (p x) _ e in
    ap (λ b. cond b ([] ∷ slice_split p xs) (onto_first x (slice_split p xs))) both.0 ∙ ap (onto_first x) (split_none p xs both.1)

-- ---- from the front on

-- the test of a name, by its parts
abbrev fits : List ℕ → List (List ℕ) → Bool
fits extension ps = list_all is_short ps && not (list_any (is_like_a_file extension) (take (length ps - 1) ps))

both_tests : (s l a b : Bool) → ((s && a) && not (l || b)) ≡ (s && (not l && (a && not b)))
both_tests true true true b = refl
both_tests true true false b = refl
both_tests true false a b = refl
both_tests false l a b = refl

one_less : (n : ℕ) → suc n - 1 ≡ n
one_less n = omega arith

fits-cons : (extension part next : List ℕ) (ps : List (List ℕ)) → fits extension (part ∷ next ∷ ps)
    ≡ (is_short part && (not (is_like_a_file extension part) && fits extension (next ∷ ps)))
fits-cons extension part next ps =
    ap (λ n. list_all is_short (part ∷ next ∷ ps) && not (list_any (is_like_a_file extension) (take n (part ∷ next ∷ ps)))) (one_less (suc (length ps)))
    ∙ both_tests (is_short part) (is_like_a_file extension part) (list_all is_short (next ∷ ps)) (list_any (is_like_a_file extension) (take (length ps) (next ∷ ps)))
    ∙ ap (λ n. is_short part && (not (is_like_a_file extension part) && (list_all is_short (next ∷ ps) && not (list_any (is_like_a_file extension) (take n (next ∷ ps)))))) (sym (one_less (length ps)))

some_parts : (xs : List (List ℕ)) (n : ℕ) → length xs ≡ n + 1 → (next : List ℕ) × (ps : List (List ℕ)) × (xs ≡ next ∷ ps)
some_parts [] n e = absurd (omega arith)
some_parts (x ∷ xs) n e = (x, xs, refl)

fits_parts : (extension part : List ℕ) (ps : List (List ℕ)) → (next : List ℕ) × (rest : List (List ℕ)) × (ps ≡ next ∷ rest) →
    fits extension (part ∷ ps) ≡ (is_short part && (not (is_like_a_file extension part) && fits extension ps))
fits_parts extension part ps has =
    ap (λ qs. fits extension (part ∷ qs)) has.2 ∙ fits-cons extension part has.0 has.1
    ∙ ap (λ qs. is_short part && (not (is_like_a_file extension part) && fits extension qs)) (sym has.2)

pub fits_none : (extension name : List ℕ) → list_any is_slash name ≡ false → fits_tree extension name ≡ is_short name
fits_none extension name e = ap (fits extension) (split_none is_slash name e) ∙ alone (is_short name) where
  alone : (s : Bool) → ((s && true) && true) ≡ s
  alone true = refl
  alone false = refl

pub fits_some : (extension name : List ℕ) → list_any is_slash name ≡ true → fits_tree extension name
    ≡ (is_short (before_first is_slash name) && (not (is_like_a_file extension (before_first is_slash name)) && fits_tree extension (after_first is_slash name)))
fits_some extension name e =
    let within : position_or_len is_slash name < length name = ltb-true _ _ (sym (list_any-position is_slash name) ∙ e) in
    ap (fits extension) (slice_split_first is_slash name 0 within)
    ∙ fits_parts extension (before_first is_slash name) (slice_split is_slash (after_first is_slash name))
    (some_parts _ _ (length-slice_split is_slash (after_first is_slash name)))

-- ---- what it ends in

same_tests : (a b : Bool) → (a ≡ true → b ≡ true) → (b ≡ true → a ≡ true) → a ≡ b
same_tests true b to from = sym (to refl)
same_tests false true to from = from refl
same_tests false false to from = refl

ends_in : (s n : List ℕ) → (ends_with nat_eq s n ≡ true → s ≡ take (length s - length n) s ++ n) × ((front : List ℕ) → s ≡ front ++ n → ends_with nat_eq s n ≡ true)
ends_in s n = ends_is {E = nat_eq} Decides-eqb s n (ends_with nat_eq s n) refl

-- a text and an end that both have another end behind them
pub ends_joined : (front n behind : List ℕ) → ends_with nat_eq (front ++ behind) (n ++ behind) ≡ ends_with nat_eq front n
ends_joined front n behind = same_tests _ _
    (λ t. let whole = (ends_in (front ++ behind) (n ++ behind)).0 t in
    (ends_in front n).1 _ (append_cancel_right front (take (length (front ++ behind) - length (n ++ behind)) (front ++ behind) ++ n) behind
    (whole ∙ sym (append_assoc (take (length (front ++ behind) - length (n ++ behind)) (front ++ behind)) n behind))))
    (λ t. let whole = (ends_in front n).0 t in
    (ends_in (front ++ behind) (n ++ behind)).1 (take (length front - length n) front) (ap (λ f. f ++ behind) whole ∙ append_assoc (take (length front - length n) front) n behind))

-- a text that hasn't the further end
pub ends_apart : (s n behind : List ℕ) → ((front : List ℕ) → s ≢ front ++ behind) → ends_with nat_eq s (n ++ behind) ≡ false
ends_apart s n behind none = not_true _ (λ t. let whole = (ends_in s (n ++ behind)).0 t in
    none (take (length s - length (n ++ behind)) s ++ n) (whole ∙ sym (append_assoc (take (length s - length (n ++ behind)) s) n behind))) where
      not_true : (b : Bool) → (b ≡ true → ⊥) → b ≡ false
      not_true true h = absurd (h refl)
      not_true false h = refl
