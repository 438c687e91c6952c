-- Lines of a text, trimming, and parting at a byte.
use Rattle.std.proofs.Common.{◌≡◌, ℕ, zero, suc, ◌+◌, ◌-◌, ◌<◌, ◌≤◌, Bool, true, false, cond, ◌&&◌, List, [], ◌∷◌, ◌++◌, length, take, drop, refl, sym, ap, ◌∙◌, arith}
use Rattle.std.specs.Prelude.{◌==◌, ◌||◌, position, Some, None, Option, nat_lt, not, slice_index}
use Rattle.std.specs.List.{list_all, list_any, before_first, after_first, position_or_len, prefix_len}
use Rattle.std.proofs.lemmas.Bool.{lt-ltb, le-ltb}
use Rattle.std.proofs.lemmas.List.{take_more, take_all, drop_all}
use Rattle.std.proofs.lemmas.Slice.{between_to_end}
use Rattle.std.proofs.Common.{get_or}
use Rattle.std.proofs.Math.Nat.{le_refl}
use Rattle.bstr.specs.Find.{IsFirstByte, is_byte}
use Rattle.dc_text.specs.Lines.{TextLines, lines_of, unless_empty}
use Rattle.dc_text.specs.Bytes.{drop_back}
use Rattle.dc_text.proofs.TextLines.{text_lines_at-position}

list_all-push : {X : Type 0} (p : X → Bool) (xs : List X) (x : X) → list_all p (xs ++ x ∷ []) ≡ (list_all p xs && p x)
list_all-push p [] x = elim (p x) as (λ b. (b && true) ≡ b) [ true ↦ refl | false ↦ refl ]
list_all-push p (y ∷ xs) x = elim (p y) as (λ b. (b && list_all p (xs ++ x ∷ [])) ≡ ((b && list_all p xs) && p x)) [ true ↦ list_all-push p xs x | false ↦ refl ]

and-true : (a : Bool) → (a && true) ≡ a
and-true true = refl
and-true false = refl

and-false : (a : Bool) → (a && false) ≡ false
and-false true = refl
and-false false = refl

-- a last element that passes goes
pub drop_back-passes : {X : Type 0} (p : X → Bool) (xs : List X) (x : X) → p x ≡ true → drop_back p (xs ++ x ∷ []) ≡ drop_back p xs
drop_back-passes p [] x h = rw h refl
drop_back-passes p (y ∷ xs) x h =
    ap (λ b. cond (p y && b) [] (y ∷ drop_back p (xs ++ x ∷ []))) (list_all-push p xs x ∙ ap (λ b. list_all p xs && b) h ∙ and-true (list_all p xs))
    ∙ ap (λ ys. cond (p y && list_all p xs) [] (y ∷ ys)) (drop_back-passes p xs x h)

-- a last element that does not pass keeps all
pub drop_back-stays : {X : Type 0} (p : X → Bool) (xs : List X) (x : X) → p x ≡ false → drop_back p (xs ++ x ∷ []) ≡ xs ++ x ∷ []
drop_back-stays p [] x h = rw h refl
drop_back-stays p (y ∷ xs) x h =
    ap (λ b. cond (p y && b) [] (y ∷ drop_back p (xs ++ x ∷ []))) (list_all-push p xs x ∙ ap (λ b. list_all p xs && b) h ∙ and-false (list_all p xs))
    ∙ ap (λ b. cond b [] (y ∷ drop_back p (xs ++ x ∷ []))) (and-false (p y))
    ∙ ap (λ ys. y ∷ ys) (drop_back-stays p xs x h)

-- a list by its last element
pub last_apart : (xs : List ℕ) (d : ℕ) → 1 ≤ length xs → xs ≡ take (length xs - 1) xs ++ get_or xs (length xs - 1) d ∷ []
last_apart xs d h =
    let e : (length xs - 1) + 1 ≡ length xs = omega arith in
    sym (take_all (length xs) xs (le_refl _)) ∙ ap (λ n. take n xs) (sym e) ∙ take_more xs (length xs - 1) d (omega arith)

-- an option that a test gives
pub cond_is_some : {X : Type 0} (b : Bool) (x y : X) → cond b (Some x) None ≡ Some y → (b ≡ true) × (x ≡ y)
cond_is_some true x y e = (refl, cc)
cond_is_some false x y e = absurd (cc)

pub cond_is_none : {X : Type 0} (b : Bool) (x : X) → cond b (Some x) None ≡ None → b ≡ false
cond_is_none true x e = absurd (cc)
cond_is_none false x e = refl

pub to_end : (n : ℕ) (text : List ℕ) → take (length text - n) (drop n text) ≡ drop n text
to_end n text = between_to_end text n (length text) (le_refl (length text))

-- a text is its first byte and the rest
pub head_apart : (text : List ℕ) → 0 < length text → text ≡ get_or text 0 0 ∷ take (length text - 1) (drop 1 text)
head_apart [] h = absurd (omega arith)
head_apart (b ∷ bytes) h = ap (λ (t : List ℕ). b ∷ t) (sym (to_end 1 (b ∷ bytes)))

unless_empty-some : (text : List ℕ) → 0 < length text → unless_empty text ≡ text ∷ []
unless_empty-some [] h = absurd (omega arith)
unless_empty-some (b ∷ bytes) h = refl

-- what a text's first newline text_lines
pub lines_of_at : (text : List ℕ) (at : ℕ) → Some at ≡ position (λ b. b == 10) text → lines_of text ≡ take at text ∷ lines_of (take (length text - (at + 1)) (drop (at + 1) text))
lines_of_at text at e =
    let f = text_lines_at-position text (Some at) e in
    rw (to_end (at + 1) text) (ap (λ (p : TextLines). p.ended ++ unless_empty p.rest) f.1)

-- a text with no newline is one line
pub lines_of_none : (text : List ℕ) → 0 < length text → None ≡ position (λ b. b == 10) text → lines_of text ≡ text ∷ lines_of (take (length text - length text) (drop (length text) text))
lines_of_none text h e =
    let f = text_lines_at-position text None e in
    rw (to_end (length text) text, drop_all (length text) text (le_refl _)) (ap (λ (p : TextLines). p.ended ++ unless_empty p.rest) f ∙ unless_empty-some text h)

-- ---- the first place of a byte

abbrev passes_none : (ℕ → Bool) → List ℕ → Type 0
passes_none p xs = (k : ℕ) → 0 ≤ k → k < length xs → p (slice_index xs k) ≡ true → ⊥

not_true : (b : Bool) → (b ≡ true → ⊥) → b ≡ false
not_true true h = absurd (h refl)
not_true false h = refl

pub place_none : (p : ℕ → Bool) (xs : List ℕ) → passes_none p xs → position_or_len p xs ≡ length xs
place_none p [] h = refl
place_none p (x ∷ xs) h =
    let here : p x ≡ false = not_true (p x) (λ e. h 0 (omega arith) (omega arith) e) in
    let later : position_or_len p xs ≡ length xs = place_none p xs (λ k low high e. h (suc k) (omega arith) (omega arith) e) in
    rw here (omega (arith, later))

pub place_some : (p : ℕ → Bool) (xs : List ℕ) (at : ℕ) → at < length xs → p (slice_index xs at) ≡ true
    → ((k : ℕ) → 0 ≤ k → k < at → p (slice_index xs k) ≡ true → ⊥) → position_or_len p xs ≡ at
place_some p [] at within here none = absurd (omega arith)
place_some p (x ∷ xs) zero within here none = rw here refl
place_some p (x ∷ xs) (suc at) within here none =
    let first : p x ≡ false = not_true (p x) (λ e. none 0 (omega arith) (omega arith) e) in
    let later : position_or_len p xs ≡ at = place_some p xs at (omega arith) here (λ k low high e. none (suc k) (omega arith) (omega arith) e) in
    rw first (omega (arith, later))

-- the place that a search for a byte finds is the first
pub place_is : (byte : ℕ) (xs : List ℕ) (r : Option ℕ) → IsFirstByte (is_byte byte) xs r → r ≡ position (λ b. b == byte) xs
place_is byte xs None is =
    let p : ℕ → Bool = λ b. b == byte in
    let past : position_or_len p xs ≡ length xs = place_none p xs is in
    sym (ap (λ b. cond b (Some (position_or_len p xs)) None) (le-ltb (position_or_len p xs) (length xs) (omega (arith, past))))
place_is byte xs (Some at) is =
    let p : ℕ → Bool = λ b. b == byte in
    let at_is : position_or_len p xs ≡ at = place_some p xs at is.0.high is.1 is.0.before in
    sym (ap (λ b. cond b (Some (position_or_len p xs)) None) (lt-ltb (position_or_len p xs) (length xs) (let high : at < length xs = is.0.high in omega (arith, at_is))) ∙ ap (λ (k : ℕ). Some k) at_is)

-- ---- parting at a byte

lt-suc : (a b : ℕ) → nat_lt a b ≡ nat_lt (1 + a) (suc b)
lt-suc a b = grind arith

pub list_any-position : {X : Type 0} (p : X → Bool) (xs : List X) → list_any p xs ≡ nat_lt (position_or_len p xs) (length xs)
list_any-position p [] = refl
list_any-position p (x ∷ xs) =
    elim (p x) as (λ b. (b || list_any p xs) ≡ nat_lt (cond (not b) (1 + prefix_len (λ y. not (p y)) xs) 0) (suc (length xs))) [
      | true ↦ grind arith
      | false ↦ list_any-position p xs ∙ lt-suc _ _
    ]

pub split_some : (byte : ℕ) (bytes : List ℕ) (at : ℕ) → position (λ b. b == byte) bytes ≡ Some at
    → (list_any (λ b. b == byte) bytes ≡ true) × (take at bytes ≡ before_first (λ b. b == byte) bytes) × (take (length bytes - (at + 1)) (drop (at + 1) bytes) ≡ after_first (λ b. b == byte) bytes)
split_some byte bytes at e =
    let p : ℕ → Bool = λ b. b == byte in
    let f : (nat_lt (position_or_len p bytes) (length bytes) ≡ true) × (position_or_len p bytes ≡ at) = cond_is_some _ _ _ e in
    (list_any-position p bytes ∙ f.0, ap (λ n. take n bytes) (sym f.1), to_end (at + 1) bytes ∙ ap (λ n. drop (n + 1) bytes) (sym f.1))

pub split_none : (byte : ℕ) (bytes : List ℕ) → position (λ b. b == byte) bytes ≡ None → list_any (λ b. b == byte) bytes ≡ false
split_none byte bytes e = list_any-position (λ b. b == byte) bytes ∙ cond_is_none _ _ e
