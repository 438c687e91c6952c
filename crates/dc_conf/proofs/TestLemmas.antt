-- Tests of lists, what holds of each element, and lists that are taken apart.
use Rattle.std.proofs.Common.{◌≡◌, ℕ, ◌+◌, ◌-◌, ◌<◌, ◌≤◌, Bool, true, false, cond, List, [], ◌∷◌, ◌++◌, length, get_or, take, drop, Option, Some, None, refl, sym, ap, ◌∙◌, subst, append_assoc, arith}
use Rattle.std.specs.Prelude.{◌||◌}
use Rattle.std.specs.List.{list_any, filter, find, AllByRecursion}
use Rattle.std.specs.Str.{bytes_eq}
use Rattle.std.proofs.lemmas.Bool.{both_ways}
use Rattle.std.proofs.lemmas.Slice.Eq.{bytes_eq-Decides}
use Rattle.std.proofs.lemmas.Slice.{between_to_end}
use Rattle.std.proofs.Math.Nat.{le_refl}
use Rattle.std.proofs.lemmas.List.{get_or_at, length-take-le, take_more}

pub false_unless : (b : Bool) → (b ≡ true → ⊥) → b ≡ false
false_unless true h = absurd (h refl)
false_unless false h = refl

pub bytes_eq-sym : (xs ys : List ℕ) → bytes_eq xs ys ≡ bytes_eq ys xs
bytes_eq-sym xs ys =
    elim (bytes_eq xs ys) as (λ t. bytes_eq xs ys ≡ t → t ≡ bytes_eq ys xs) [
      | true ↦ λ e. sym ((bytes_eq-Decides ys xs).1 (sym ((bytes_eq-Decides xs ys).0 e)))
      | false ↦ λ e. sym (false_unless (bytes_eq ys xs) (λ f. (let here : bytes_eq xs ys ≡ true = (bytes_eq-Decides xs ys).1 (sym ((bytes_eq-Decides ys xs).0 f)) in both_ways (bytes_eq xs ys) e here)))
    ] refl

pub neither : (a b : Bool) → (a || b) ≡ false → (a ≡ false) × (b ≡ false)
neither true b e = absurd (cc)
neither false b e = (refl, e)

-- ---- the first element and the others

pub list_apart : {X : Type 0} (xs : List X) (x : X) → 1 ≤ length xs → x ≡ get_or xs 0 x → xs ≡ x ∷ take (length xs - 1) (drop 1 xs)
list_apart [] x h e = absurd (omega arith)
list_apart (y ∷ xs) x h e = λ i. sym e i ∷ sym (between_to_end (y ∷ xs) 1 (length (y ∷ xs)) (le_refl _)) i

-- the first element passes
pub any_found : {X : Type 0} (p : X → Bool) (xs tail : List X) (x : X) (r : Bool) → xs ≡ x ∷ tail → p x ≡ true → list_any p xs ≡ r → true ≡ r
any_found p xs tail x r whole is so_far = sym (ap (λ t. t || list_any p tail) is) ∙ sym (ap (list_any p) whole) ∙ so_far

-- the first element doesn't pass
pub any_turn : {X : Type 0} (p : X → Bool) (xs tail : List X) (x : X) (r : Bool) → xs ≡ x ∷ tail → p x ≡ false → list_any p xs ≡ r → list_any p tail ≡ r
any_turn p xs tail x r whole none so_far = sym (ap (λ t. t || list_any p tail) none) ∙ sym (ap (list_any p) whole) ∙ so_far

-- ---- what holds of each

pub all_each : {X : Type 0} (P Q : X → Type 0) → ((x : X) → P x → Q x) → (xs : List X) → AllByRecursion P xs → AllByRecursion Q xs
all_each P Q h [] a = tt
all_each P Q h (x ∷ xs) a = (h x a.0, all_each P Q h xs a.1)

pub all-append : {X : Type 0} (P : X → Type 0) (xs ys : List X) → AllByRecursion P xs → AllByRecursion P ys → AllByRecursion P (xs ++ ys)
all-append P [] ys a b = b
all-append P (x ∷ xs) ys a b = (a.0, all-append P xs ys a.1 b)

pub find_all : {X : Type 0} (P : X → Type 0) (p : X → Bool) (xs : List X) (x : X) → AllByRecursion P xs → find p xs ≡ Some x → P x
find_all P p [] x a e = absurd (cc)
find_all {X} P p (y ∷ xs) x a e =
    elim (p y) as (λ t. cond t (Some y) (find p xs) ≡ Some x → P x) [
      | true ↦ λ f. (let same : y ≡ x = cc in subst P same a.0)
      | false ↦ λ f. find_all P p xs x a.1 f
    ] e

pub nil-append : {X : Type 0} (xs ys : List X) → xs ++ ys ≡ [] → (xs ≡ []) × (ys ≡ [])
nil-append [] ys e = (refl, e)
nil-append (x ∷ xs) ys e = absurd (cc)

-- the place of a turn goes with the others before it
pub take_turn : {X : Type 0} (all rest tail : List X) (x : X) (place : ℕ) → take place all ++ rest ≡ all → place + length rest ≡ length all → rest ≡ x ∷ tail
    → take (place + 1) all ≡ take place all ++ x ∷ []
take_turn all rest tail x place whole counted first =
    let short : place < length all = omega (arith, counted, ap length first) in
    let here : get_or all place x ≡ x =
    ap (λ ys. get_or ys place x) (sym whole ∙ ap (λ ys. take place all ++ ys) first)
    ∙ get_or_at (take place all) x tail x place (length-take-le place all (omega arith)) in
    take_more all place x short ∙ ap (λ y. take place all ++ y ∷ []) here

pub not_some : {X : Type 0} (r : Option X) → ((x : X) → r ≡ Some x → ⊥) → r ≡ None
not_some None h = refl
not_some (Some x) h = absurd (h x refl)

pub list_any-append : {X : Type 0} (p : X → Bool) (xs ys : List X) → list_any p (xs ++ ys) ≡ (list_any p xs || list_any p ys)
list_any-append p [] ys = refl
list_any-append p (x ∷ xs) ys = elim (p x) as (λ t. (t || list_any p (xs ++ ys)) ≡ ((t || list_any p xs) || list_any p ys)) [ true ↦ refl | false ↦ list_any-append p xs ys ]

-- ---- what passes is kept

pub keep_turn : {X : Type 0} (p : X → Bool) (so_far new rest tail : List X) (x y : X) (all : List X) → rest ≡ x ∷ tail → p x ≡ true → y ≡ x → new ≡ so_far ++ y ∷ []
    → so_far ++ filter p rest ≡ all → new ++ filter p tail ≡ all
keep_turn {X} p so_far new rest tail x y all whole is same pushed e =
    ap (λ (xs : List X). xs ++ filter p tail) (pushed ∙ ap (λ z. so_far ++ z ∷ []) same) ∙ append_assoc so_far (x ∷ []) (filter p tail)
    ∙ ap (λ (xs : List X). so_far ++ xs) (sym (ap (filter p) whole ∙ ap (λ b. cond b (x ∷ filter p tail) (filter p tail)) is)) ∙ e

pub pass_turn : {X : Type 0} (p : X → Bool) (so_far rest tail : List X) (x : X) (all : List X) → rest ≡ x ∷ tail → p x ≡ false → so_far ++ filter p rest ≡ all
    → so_far ++ filter p tail ≡ all
pass_turn {X} p so_far rest tail x all whole is e =
    ap (λ (xs : List X). so_far ++ xs) (sym (ap (filter p) whole ∙ ap (λ b. cond b (x ∷ filter p tail) (filter p tail)) is)) ∙ e
