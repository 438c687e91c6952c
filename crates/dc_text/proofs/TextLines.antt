-- The laws of `text_lines`.
use Rattle.std.proofs.Common.{ap, Bool, true, Some, None, ◌≡◌, inl, inr, ℕ, ◌+◌, ◌<◌, ◌≤◌, suc, zero, add-one, Option, MatchOption, position, ◌==◌, false, not, List, [], ◌∷◌, ◌++◌, length, take, drop, refl, arith, eqb}
use Rattle.std.specs.Prelude.{slice_index}
use Rattle.std.proofs.lemmas.Bool.{cases_Bool, cases_lt, lt-ltb, le-ltb}
use Rattle.std.specs.List.{prefix_len}
use Rattle.bstr.specs.Find.{IsLastByte, is_byte}
use Rattle.dc_text.specs.Lines.{TextLines, text_lines, onto_first}

-- a byte other than a newline in front of what goes on
onto : (x : ℕ) → eqb x 10 ≡ false → (lines : List (List ℕ)) (rest ys : List ℕ) →
    onto_first x (lines ++ (text_lines (rest ++ ys)).ended) (text_lines (rest ++ ys)).rest
    ≡ record { ended = (onto_first x lines rest).ended ++ (text_lines ((onto_first x lines rest).rest ++ ys)).ended; rest = (text_lines ((onto_first x lines rest).rest ++ ys)).rest }
onto x other [] rest ys = rw other refl
onto x other (line ∷ lines) rest ys = refl

-- what comes later goes on from the rest
pub text_lines-append : (xs ys : List ℕ) → text_lines (xs ++ ys) ≡ record { ended = (text_lines xs).ended ++ (text_lines ((text_lines xs).rest ++ ys)).ended; rest = (text_lines ((text_lines xs).rest ++ ys)).rest }
text_lines-append [] ys = refl
text_lines-append (x ∷ xs) ys = elim (cases_Bool (eqb x 10)) [
  | inl newline ↦ rw (newline, text_lines-append xs ys) refl
  | inr other ↦ rw (other, text_lines-append xs ys) (onto x other (text_lines xs).ended (text_lines xs).rest ys)
]

abbrev pub first : List ℕ → ℕ
first xs = prefix_len (λ x. not (eqb x 10)) xs

-- no newline
pub text_lines_none : (xs : List ℕ) → length xs ≤ first xs → text_lines xs ≡ record { ended = []; rest = xs }
text_lines_none [] past = refl
text_lines_none (x ∷ xs) past = elim (cases_Bool (eqb x 10)) [
  | inl newline ↦ let none : suc (length xs) ≤ 0 = rw newline at past in absurd (omega arith)
  | inr other ↦ let more : suc (length xs) ≤ 1 + first xs = rw other at past in
      rw (other, text_lines_none xs (omega arith)) refl
]

-- the first newline ends the first line
pub text_lines_some : (xs : List ℕ) (k : ℕ) → first xs ≡ k → k < length xs → text_lines xs ≡ record { ended = take k xs ∷ (text_lines (drop (suc k) xs)).ended; rest = (text_lines (drop (suc k) xs)).rest }
text_lines_some [] k is within = absurd (omega arith)
text_lines_some (x ∷ xs) zero is within = elim (cases_Bool (eqb x 10)) [
  | inl newline ↦ rw newline refl
  | inr other ↦ let none : 1 + first xs ≡ 0 = rw other at is in absurd (omega arith)
]
text_lines_some (x ∷ xs) (suc k) is within = elim (cases_Bool (eqb x 10)) [
  | inl newline ↦ let none : 0 ≡ suc k = rw newline at is in absurd (omega arith)
  | inr other ↦ let more : 1 + first xs ≡ suc k = rw other at is in
      rw (other, text_lines_some xs k (omega arith) (omega arith)) refl
]

-- where the first newline stands, and what it cuts
pub text_lines_at-position : (xs : List ℕ) (r : Option ℕ) → r ≡ position (λ b. b == 10) xs → MatchOption r
    (text_lines xs ≡ record { ended = []; rest = xs })
    (λ k. (k < length xs) × (text_lines xs ≡ record { ended = take k xs ∷ (text_lines (drop (k + 1) xs)).ended; rest = (text_lines (drop (k + 1) xs)).rest }))
text_lines_at-position xs r is = rw is (elim (cases_lt (first xs) (length xs)) [
  | inl within ↦ rw (lt-ltb (first xs) (length xs) within, add-one (first xs)) (within, text_lines_some xs (first xs) refl within)
  | inr past ↦ rw (le-ltb (first xs) (length xs) past) (text_lines_none xs past)
])

-- ---- the last newline

not_true : (b : Bool) → (b ≡ true → ⊥) → b ≡ false
not_true true h = absurd (h refl)
not_true false h = refl

free_from : (xs : List ℕ) → ((k : ℕ) → k < length xs → (slice_index xs k == 10) ≡ true → ⊥) → length xs ≤ first xs
free_from [] none = omega arith
free_from (x ∷ xs) none =
    let here : eqb x 10 ≡ false = not_true (eqb x 10) (λ e. none 0 (omega arith) e) in
    let later : length xs ≤ first xs = free_from xs (λ k high e. none (suc k) (omega arith) e) in
    rw here (omega (arith, later))

abbrev RestAt : List ℕ → ℕ → Type 0
RestAt xs k = (line : List ℕ) × (lines : List (List ℕ)) × (text_lines xs ≡ record { ended = line ∷ lines; rest = drop (k + 1) xs })

rest_at : (xs : List ℕ) (k : ℕ) → k < length xs → (slice_index xs k == 10) ≡ true → ((j : ℕ) → k + 1 ≤ j → j < length xs → (slice_index xs j == 10) ≡ true → ⊥) → RestAt xs k
rest_at [] k high here none = absurd (omega arith)
rest_at (x ∷ xs) zero high here none =
    let after : text_lines xs ≡ record { ended = []; rest = xs } = text_lines_none xs (free_from xs (λ j above e. none (suc j) (omega arith) (omega arith) e)) in
    ([], [], rw (here, after) refl)
rest_at (x ∷ xs) (suc k) high here none =
    let more : RestAt xs k = rest_at xs k (omega arith) here (λ j low above e. none (suc j) (omega arith) (omega arith) e) in
    let same : suc k + 1 ≡ suc (k + 1) = omega arith in
    elim (cases_Bool (eqb x 10)) as (λ _. RestAt (x ∷ xs) (suc k)) [
      | inl newline ↦ ([], more.0 ∷ more.1, rw (newline, more.2, same) refl)
      | inr other ↦ (x ∷ more.0, more.1, rw (other, more.2, same) refl)
    ]

-- what stands behind the last newline is the rest
pub rest_behind : (xs : List ℕ) (r : Option ℕ) → IsLastByte (is_byte 10) xs r → MatchOption r ((text_lines xs).rest ≡ xs) (λ k. (k < length xs) × ((text_lines xs).rest ≡ drop (k + 1) xs))
rest_behind xs None is = ap (λ (t : TextLines). t.rest) (text_lines_none xs (free_from xs (λ k high e. is k (omega arith) high e)))
rest_behind xs (Some k) is = (is.0.high, ap (λ (t : TextLines). t.rest) (rest_at xs k is.0.high is.1 is.0.after).2)
