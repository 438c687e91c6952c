-- Which bytes and lines have no backslash.
use Rattle.std.proofs.Common.{◌≡◌, ℕ, suc, zero, ◌+◌, ◌-◌, ◌≤◌, Bool, true, false, cond, List, [], ◌∷◌, ◌++◌, length, take, drop, refl, sym, ap, ◌∙◌, subst, arith, append_assoc, inl, inr}
use Rattle.std.specs.Prelude.{◌==◌, ◌||◌, not, nat_le, position}
use Rattle.std.specs.Option.{unwrap_or}
use Rattle.std.specs.List.{list_any, before_first, after_first, position_or_len}
use Rattle.std.proofs.lemmas.Bool.{cases_Bool, cases_lt, lt-ltb, le-ltb}
use Rattle.std.proofs.lemmas.Bool.Decides.{nat_tests}
use Rattle.std.proofs.lemmas.List.{take-append-le, append-nil}
use Rattle.std.proofs.lemmas.List.Sums.{prefix_len-le-length}
use Rattle.dc_text.specs.Lines.{lines_of, text_lines, text_of, unless_empty}
use Rattle.dc_text.proofs.FirstLemmas.{before_first-cons}
use Rattle.dc_text.proofs.LineLaws.{text_of-append, text_lines_are_text}
use Rattle.dc_item.specs.Plain.{PlainIf}

abbrev pub is_backslash : ℕ → Bool
is_backslash byte = byte == 92

neither : (a b : Bool) → (a || b) ≡ false → (a ≡ false) × (b ≡ false)
neither true b e = absurd (cc)
neither false b e = (refl, e)

-- ---- a part of plain bytes is plain

any-drop : (p : ℕ → Bool) (n : ℕ) (xs : List ℕ) → list_any p xs ≡ false → list_any p (drop n xs) ≡ false
any-drop p zero xs none = none
any-drop p (suc n) [] none = refl
any-drop p (suc n) (x ∷ xs) none = any-drop p n xs (neither (p x) (list_any p xs) none).1

pub plain_after : (q : ℕ → Bool) (is_plain : Bool) (bytes : List ℕ) → PlainIf is_plain bytes → PlainIf is_plain (after_first q bytes)
plain_after q is_plain bytes plain is = any-drop is_backslash (position_or_len q bytes + 1) bytes (plain is)

-- ---- the first bytes of a text, of which each line is ended

any-front : (p : ℕ → Bool) (n : ℕ) (xs ys : List ℕ) → list_any p (take n (xs ++ ys)) ≡ false → length xs ≤ n → list_any p xs ≡ false
any-front p n [] ys none within = refl
any-front p zero (x ∷ xs) ys none within = absurd (omega arith)
any-front p (suc n) (x ∷ xs) ys none within =
    let parts : (p x ≡ false) × (list_any p (take n (xs ++ ys)) ≡ false) = neither (p x) (list_any p (take n (xs ++ ys))) none in
    let later : list_any p xs ≡ false = any-front p n xs ys parts.1 (omega arith) in
    rw (parts.0, later) refl

any-behind : (p : ℕ → Bool) (n : ℕ) (xs ys : List ℕ) → list_any p (take n (xs ++ ys)) ≡ false → list_any p (take (n - length xs) ys) ≡ false
any-behind p n [] ys none = let e : n - 0 ≡ n = omega arith in rw e none
any-behind p zero (x ∷ xs) ys none = let e : 0 - suc (length xs) ≡ 0 = omega arith in rw e refl
any-behind p (suc n) (x ∷ xs) ys none =
    let e : suc n - suc (length xs) ≡ n - length xs = omega arith in
    let parts : (p x ≡ false) × (list_any p (take n (xs ++ ys)) ≡ false) = neither (p x) (list_any p (take n (xs ++ ys))) none in
    rw e (any-behind p n xs ys parts.1)

any-before : (p : ℕ → Bool) (xs : List ℕ) → list_any p (before_first p xs) ≡ false
any-before p [] = refl
any-before p (x ∷ xs) = ap (list_any p) (before_first-cons p x xs) ∙ elim (cases_Bool (p x)) as (λ _. list_any p (cond (p x) [] (x ∷ before_first p xs)) ≡ false) [
  | inl here ↦ rw here refl
  | inr later ↦ rw later (rw (later, any-before p xs) refl)
]

-- the first n bytes of the lines have no backslash
abbrev pub PlainFront : ℕ → List ℕ → Type 0
PlainFront n text = list_any is_backslash (take n (text_of (lines_of text))) ≡ false

-- with a newline at the end, if it has none
ended_rest : (ended : List (List ℕ)) (rest : List ℕ) → (more : List ℕ) × (text_of (ended ++ unless_empty rest) ≡ (text_of ended ++ rest) ++ more)
ended_rest ended [] = ([], text_of-append ended [] ∙ sym (append-nil (text_of ended ++ [])))
ended_rest ended (b ∷ rest) = (
  10 ∷ [],
  text_of-append ended ((b ∷ rest) ∷ []) ∙ ap (λ t. text_of ended ++ t) (append-nil ((b ∷ rest) ++ 10 ∷ [])) ∙ sym (append_assoc (text_of ended) (b ∷ rest) (10 ∷ [])),
)

text_ended : (text : List ℕ) → (more : List ℕ) × (text_of (lines_of text) ≡ text ++ more)
text_ended text =
    let e = ended_rest (text_lines text).ended (text_lines text).rest in
    (e.0, e.1 ∙ ap (λ t. t ++ e.0) (text_lines_are_text text))

plain_up_to : (text : List ℕ) → PlainFront (position_or_len is_backslash text) text
plain_up_to text =
    let e = text_ended text in
    let n : ℕ = position_or_len is_backslash text in
    ap (λ t. list_any is_backslash (take n t)) e.1
    ∙ ap (list_any is_backslash) (take-append-le n text e.0 (prefix_len-le-length (λ byte. not (is_backslash byte)) text))
    ∙ any-before is_backslash text

plain_either : (b : Bool) (n : ℕ) (text : List ℕ) → PlainFront n text → PlainFront (cond b n (position_or_len is_backslash text)) text
plain_either true n text known = known
plain_either false n text known = plain_up_to text

pub plain_anew : (n known wanted : ℕ) (text : List ℕ) → n ≡ cond (nat_le wanted known) known (position_or_len is_backslash text) → PlainFront known text → PlainFront n text
plain_anew n known wanted text is plain = subst (λ k. PlainFront k text) (sym is) (plain_either (nat_le wanted known) known text plain)

-- the first place, or the end where none is
pub place_or_end : (p : ℕ → Bool) (xs : List ℕ) → unwrap_or (position p xs) (length xs) ≡ position_or_len p xs
place_or_end p xs = elim (cases_lt (position_or_len p xs) (length xs)) [
  | inl within ↦ rw (lt-ltb (position_or_len p xs) (length xs) within) refl
  | inr past ↦ rw (le-ltb (position_or_len p xs) (length xs) past) (omega (arith, past, prefix_len-le-length (λ x. not (p x)) xs))
]

line_first : (text line after : List ℕ) → lines_of text ≡ line ∷ lines_of after → text_of (lines_of text) ≡ (line ++ 10 ∷ []) ++ text_of (lines_of after)
line_first text line after e = ap text_of e

-- so the first line is plain, if it is no longer
pub plain_line : (n : ℕ) (text line after : List ℕ) → lines_of text ≡ line ∷ lines_of after → PlainFront n text → PlainIf (nat_le (length line) n) line
plain_line n text line after e plain is =
    let within : length line ≤ n = grind (arith, nat_tests) in
    let whole : text_of (lines_of text) ≡ line ++ (10 ∷ [] ++ text_of (lines_of after)) = line_first text line after e ∙ append_assoc line (10 ∷ []) (text_of (lines_of after)) in
    any-front is_backslash n line (10 ∷ [] ++ text_of (lines_of after)) (ap (λ t. list_any is_backslash (take n t)) (sym whole) ∙ plain) within

length-ended : (line : List ℕ) → length (line ++ 10 ∷ []) ≡ length line + 1
length-ended [] = refl
length-ended (b ∷ line) = let e : length (line ++ 10 ∷ []) ≡ length line + 1 = length-ended line in omega arith

-- and what comes behind it, as far as it goes
pub plain_later : (n : ℕ) (text line after : List ℕ) → lines_of text ≡ line ∷ lines_of after → PlainFront n text → PlainFront (n - (length line + 1)) after
plain_later n text line after e plain =
    subst (λ k. PlainFront (n - k) after) (length-ended line)
    (any-behind is_backslash n (line ++ 10 ∷ []) (text_of (lines_of after)) (ap (λ t. list_any is_backslash (take n t)) (sym (line_first text line after e)) ∙ plain))
