-- Sets of owners.
use Rattle.std.proofs.Common.{◌≡◌, ℕ, ◌+◌, ◌<◌, length, take, get_or, Bool, true, false, cond, List, [], ◌∷◌, ◌++◌, Option, Some, None, is_some, map as each, refl, sym, ap, ◌∙◌, append_assoc}
use Rattle.std.proofs.lemmas.List.{append-nil, take_more}
use Rattle.std.proofs.lemmas.Grind.{flat_map-append}
use Rattle.std.specs.List.{flat_map}
use Rattle.std.specs.Ordering.{eq_by_cmp, is_eq}
use Rattle.std.specs.declared.cmp.Ordering.TheVariants.{Less, Equal, Greater}
use Rattle.std.specs.FinMap.{contains_key, get, insert, same_map, get-insert}
use Rattle.std.specs.Cmp.Lexicographic.{nat_list_cmp_total}
use Rattle.dc_text.specs.Maps.{TextSet, set_of, text_cmp}
use Rattle.dc_text.proofs.MapLemmas.{exact_texts, set_of-push}
use Rattle.dc_tools.specs.Listing.{with_all}

same_text : (q k : List ℕ) → eq_by_cmp text_cmp q k ≡ true → q ≡ k
same_text q k e = elim (text_cmp q k) as (λ o. text_cmp q k ≡ o → is_eq o ≡ true → q ≡ k) [
  | Less ↦ λ _ h. cc
  | Equal ↦ λ is h. exact_texts q k is
  | Greater ↦ λ _ h. cc
] refl e

there : (o : Option (Unit {0})) → is_some o ≡ true → Some tt ≡ o
there None h = cc
there (Some x) h = refl

-- a text that a set has is in it already
pub insert_there : (s : TextSet) (t : List ℕ) → contains_key s t ≡ true → s ≡ insert s t tt
insert_there s t h = same_map nat_list_cmp_total exact_texts s (insert s t tt) (λ q.
    sym (get-insert nat_list_cmp_total s t tt q ∙ by_test (eq_by_cmp text_cmp q t) q refl)) where
      by_test : (b : Bool) (q : List ℕ) → eq_by_cmp text_cmp q t ≡ b → cond b (Some tt) (get s q) ≡ get s q
      by_test true q e = there (get s q) (ap is_some (ap (get s) (same_text q t e)) ∙ h)
      by_test false q e = refl

-- a set that is made of a list, with all of another
pub set_of-append : (xs ys : List (List ℕ)) → with_all (set_of xs) ys ≡ set_of (xs ++ ys)
set_of-append xs [] = ap set_of (sym (append-nil xs))
set_of-append xs (y ∷ ys) = ap (λ s. with_all s ys) (sym (set_of-push xs y)) ∙ set_of-append (xs ++ y ∷ []) ys ∙ ap set_of (append_assoc xs (y ∷ []) ys)

-- the keys of entries whose keys are seen by f
pub seen_keys : {Y X : Type 0} (f : Y → List ℕ) (es : List (Y × X)) → each (λ e. f e.0) es ≡ each (λ (e : List ℕ × X). e.0) (each (λ e. (f e.0, e.1)) es)
seen_keys f [] = refl
seen_keys f (e ∷ es) = ap (λ l. f e.0 ∷ l) (seen_keys f es)

flat_map_more : (f : List ℕ → List (List ℕ)) (xs : List (List ℕ)) (i : ℕ) (x : List ℕ) → i < length xs → x ≡ get_or xs i x → flat_map f (take i xs) ++ f x ≡ flat_map f (take (i + 1) xs)
flat_map_more f xs i x lt is =
    ap (λ l. flat_map f (take i xs) ++ l) (sym (append-nil (f x))) ∙ sym (flat_map-append f (take i xs) (x ∷ []))
    ∙ ap (flat_map f) (ap (λ y. take i xs ++ y ∷ []) is ∙ sym (take_more xs i x lt))

-- the next of the names
pub owners_turn : (f : List ℕ → List (List ℕ)) (xs : List (List ℕ)) (i : ℕ) (x : List ℕ) (old new : TextSet) → i < length xs → x ≡ get_or xs i x
    → old ≡ set_of (flat_map f (take i xs)) → new ≡ with_all old (f x) → new ≡ set_of (flat_map f (take (i + 1) xs))
owners_turn f xs i x old new lt is was more =
    more ∙ ap (λ s. with_all s (f x)) was ∙ set_of-append (flat_map f (take i xs)) (f x) ∙ ap set_of (flat_map_more f xs i x lt is)
