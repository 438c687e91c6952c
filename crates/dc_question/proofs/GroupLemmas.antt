-- Names that are held at others.
use Rattle.std.proofs.Common.{◌≡◌, ℕ, ◌+◌, ◌<◌, length, get_or, take, Bool, true, false, cond, List, [], ◌∷◌, ◌++◌, Option, Some, None, is_some, map as each, refl, sym, ap, ◌∙◌}
use Rattle.std.specs.Prelude.{unwrap_or}
use Rattle.std.specs.List.{filter}
use Rattle.std.specs.Str.{bytes_eq}
use Rattle.std.specs.FinMap.{keys, get, insert, contains_key, empty, get-empty, get-insert}
use Rattle.std.specs.Cmp.Lexicographic.{nat_list_cmp_total}
use Rattle.std.proofs.lemmas.List.{take_more, append-nil}
use Rattle.std.proofs.lemmas.Slice.Eq.{bytes_eq-Decides}
use Rattle.std.proofs.lemmas.Map.Text.{is_eq-slice_cmp}
use Rattle.dc_text.specs.Maps.{Texts, text_cmp, set_of}
use Rattle.dc_question.specs.Losses.{behind, grouped, held_at}

-- ---- along the pairs

behind_push : (t : List ℕ) (xs ys : List (List ℕ × List ℕ)) → behind t (xs ++ ys) ≡ behind t xs ++ behind t ys
behind_push t [] ys = refl
behind_push t (x ∷ xs) ys =
    elim (bytes_eq t x.0) as (λ b. each (λ (p : List ℕ × List ℕ). p.1) (cond b (x ∷ filter (λ p. bytes_eq t p.0) (xs ++ ys)) (filter (λ p. bytes_eq t p.0) (xs ++ ys)))
    ≡ each (λ (p : List ℕ × List ℕ). p.1) (cond b (x ∷ filter (λ p. bytes_eq t p.0) xs) (filter (λ p. bytes_eq t p.0) xs)) ++ behind t ys) [
      | true ↦ ap (λ l. x.1 ∷ l) (behind_push t xs ys)
      | false ↦ behind_push t xs ys
    ]

pub behind_more : (t : List ℕ) (xs : List (List ℕ × List ℕ)) (i : ℕ) (x : List ℕ × List ℕ) → i < length xs → x ≡ get_or xs i x
    → behind t (take i xs) ++ behind t (x ∷ []) ≡ behind t (take (i + 1) xs)
behind_more t xs i x h is = sym (behind_push t (take i xs) (x ∷ [])) ∙ ap (behind t) (ap (λ y. take i xs ++ y ∷ []) is ∙ sym (take_more xs i x h))

pub none_held : (t : List ℕ) → held_at empty t ≡ []
none_held t = ap (λ o. unwrap_or o []) (get-empty text_cmp t)

-- ---- one more name

inserted : (m : Texts (List (List ℕ))) (k t : List ℕ) (v : List (List ℕ)) → get (insert m k v) t ≡ cond (bytes_eq t k) (Some v) (get m t)
inserted m k t v = get-insert nat_list_cmp_total m k v t ∙ ap (λ b. cond b (Some v) (get m t)) (is_eq-slice_cmp t k)

pub put_behind : (m : Texts (List (List ℕ))) (k n : List ℕ) (v : List (List ℕ)) → v ≡ held_at m k ++ n ∷ [] → (t : List ℕ) → held_at (insert m k v) t ≡ held_at m t ++ behind t ((k, n) ∷ [])
put_behind m k n v is t = ap (λ o. unwrap_or o []) (inserted m k t v) ∙ by_name (bytes_eq t k) refl where
  by_name : (b : Bool) → bytes_eq t k ≡ b → unwrap_or (cond b (Some v) (get m t)) [] ≡ held_at m t ++ each (λ (p : List ℕ × List ℕ). p.1) (cond b ((k, n) ∷ []) [])
  by_name true e = is ∙ ap (λ x. held_at m x ++ n ∷ []) (sym ((bytes_eq-Decides t k).0 e))
  by_name false e = sym (append-nil (held_at m t))

-- a key that is put is there
pub put_there : (m : Texts (List (List ℕ))) (k : List ℕ) (v : List (List ℕ)) → contains_key (insert m k v) k ≡ true
put_there m k v = ap is_some (inserted m k k v ∙ ap (λ b. cond b (Some v) (get m k)) ((bytes_eq-Decides k k).1 refl))

none_there : (o : Option (List (List ℕ))) (n : List ℕ) → is_some o ≡ false → n ∷ [] ≡ unwrap_or o [] ++ n ∷ []
none_there None n h = refl
none_there (Some names) n h = cc

-- the first name that is held at a key
pub first_behind : (m : Texts (List (List ℕ))) (k n : List ℕ) → contains_key m k ≡ false → (t : List ℕ) → held_at (insert m k (n ∷ [])) t ≡ held_at m t ++ behind t ((k, n) ∷ [])
first_behind m k n h = put_behind m k n (n ∷ []) (none_there (get m k) n h)

-- another one, while the list was taken out
pub next_behind : (m : Texts (List (List ℕ))) (k n : List ℕ) (out names : List (List ℕ)) → get m k ≡ Some names
    → (t : List ℕ) → held_at (insert (insert m k out) k (names ++ n ∷ [])) t ≡ held_at m t ++ behind t ((k, n) ∷ [])
next_behind m k n out names is t =
    ap (λ o. unwrap_or o [])
    (inserted (insert m k out) k t (names ++ n ∷ []) ∙ ap (λ o. cond (bytes_eq t k) (Some (names ++ n ∷ [])) o) (inserted m k t out) ∙ twice (bytes_eq t k) ∙ sym (inserted m k t (names ++ n ∷ [])))
    ∙ put_behind m k n (names ++ n ∷ []) (ap (λ o. unwrap_or o [] ++ n ∷ []) (sym is)) t where
      twice : (b : Bool) → cond b (Some (names ++ n ∷ [])) (cond b (Some out) (get m t)) ≡ cond b (Some (names ++ n ∷ [])) (get m t)
      twice true = refl
      twice false = refl

-- ---- all of them

pub grouped_is : (pairs : List (List ℕ × List ℕ)) (firsts : List (List ℕ)) (held : Texts (List (List ℕ))) → firsts ≡ keys (set_of (each (λ p. p.0) pairs)) → ((t : List ℕ) → held_at held t ≡ behind t pairs)
    → each (λ t. (t, held_at held t)) firsts ≡ grouped pairs
grouped_is pairs firsts held f h = λ i. each (λ t. (t, h t i)) (f i)
