-- The first line of what is typed, where more follows.
use Rattle.std.proofs.Common.{◌≡◌, inl, inr, ℕ, ◌<◌, ◌≤◌, Bool, true, false, List, [], ◌∷◌, ◌++◌, length, drop, refl, sym, ap, ◌∙◌, append-nil, arith, Option, Some, None}
use Rattle.std.specs.Prelude.{◌==◌, nat_lt}
use Rattle.std.specs.List.{list_any, before_first, after_first}
use Rattle.std.proofs.lemmas.Bool.{cases_Bool, ltb-true, ltb-false, lt-ltb, le-ltb}
use Rattle.std.proofs.lemmas.List.{length-append, drop-append-le}
use Rattle.std.proofs.Math.Seq.{drop-append_seam}
use Rattle.dc_text.proofs.FirstLemmas.{before_first-here, before_first-later, after_first-here, after_first-later}
use Rattle.dc_text.specs.Ascii.{newline}
use Rattle.dc_text.specs.Lines.{has_newline}
use Rattle.dc_teletype.specs.TerminalLines.{longest, front_of, first_line}
use Rattle.dc_teletype.specs.declared.terminal.TerminalLine.{TerminalLine}
use Rattle.dc_teletype.specs.declared.terminal.TerminalLine.TheVariants.{Whole, Cut}
use Rattle.dc_teletype.proofs.LineLemmas.{front_whole, front_within}

module _ (p : ℕ → Bool) (more : List ℕ) where
  before_more : (xs : List ℕ) → list_any p xs ≡ true → before_first p (xs ++ more) ≡ before_first p xs
  before_more [] has = absurd (cc)
  before_more (x ∷ xs) has = elim (cases_Bool (p x)) [
    | inl here ↦ before_first-here p x (xs ++ more) here ∙ sym (before_first-here p x xs here)
    | inr later ↦ before_first-later p x (xs ++ more) later ∙ ap (λ (l : List ℕ). x ∷ l) (before_more xs (rw later at has)) ∙ sym (before_first-later p x xs later)
  ]

  after_more : (xs : List ℕ) → list_any p xs ≡ true → after_first p (xs ++ more) ≡ after_first p xs ++ more
  after_more [] has = absurd (cc)
  after_more (x ∷ xs) has = elim (cases_Bool (p x)) [
    | inl here ↦ after_first-here p x (xs ++ more) here ∙ ap (λ (l : List ℕ). l ++ more) (sym (after_first-here p x xs here))
    | inr later ↦ after_first-later p x (xs ++ more) later ∙ after_more xs (rw later at has) ∙ ap (λ (l : List ℕ). l ++ more) (sym (after_first-later p x xs later))
  ]

  any_more : (xs : List ℕ) → list_any p xs ≡ true → list_any p (xs ++ more) ≡ true
  any_more [] has = absurd (cc)
  any_more (x ∷ xs) has = elim (cases_Bool (p x)) [
    | inl here ↦ rw here refl
    | inr later ↦ rw later (any_more xs (rw later at has))
  ]

  before_none : (xs : List ℕ) → list_any p xs ≡ false → before_first p (xs ++ more) ≡ xs ++ before_first p more
  before_none [] none = refl
  before_none (x ∷ xs) none = elim (cases_Bool (p x)) [
    | inl here ↦ absurd (let off : true ≡ false = rw here at none in cc)
    | inr later ↦ before_first-later p x (xs ++ more) later ∙ ap (λ (l : List ℕ). x ∷ l) (before_none xs (rw later at none))
  ]

  after_none : (xs : List ℕ) → list_any p xs ≡ false → after_first p (xs ++ more) ≡ after_first p more
  after_none [] none = refl
  after_none (x ∷ xs) none = elim (cases_Bool (p x)) [
    | inl here ↦ absurd (let off : true ≡ false = rw here at none in cc)
    | inr later ↦ after_first-later p x (xs ++ more) later ∙ after_none xs (rw later at none)
  ]

  any_none : (xs : List ℕ) → list_any p xs ≡ false → list_any p (xs ++ more) ≡ list_any p more
  any_none [] none = refl
  any_none (x ∷ xs) none = elim (cases_Bool (p x)) [
    | inl here ↦ absurd (let off : true ≡ false = rw here at none in cc)
    | inr later ↦ rw later (any_none xs (rw later at none))
  ]

-- ---- the first line, by its front

module _ (bytes : List ℕ) where
  -- it is cut
  pub cut_first : longest < length (front_of bytes) → first_line bytes ≡ Some (Cut, drop longest bytes)
  cut_first long = rw (lt-ltb longest (length (front_of bytes)) long) refl

  -- it is whole
  pub whole_first : length (front_of bytes) ≤ longest → has_newline bytes ≡ true → first_line bytes ≡ Some (Whole (front_of bytes), after_first (λ byte. byte == newline) bytes)
  whole_first short has = rw (le-ltb longest (length (front_of bytes)) short, has) refl

  -- none came yet
  pub none_first : length (front_of bytes) ≤ longest → has_newline bytes ≡ false → first_line bytes ≡ None
  none_first short none = rw (le-ltb longest (length (front_of bytes)) short, none) refl

-- ---- where more follows

-- a first line, and what stands behind it
abbrev found : TerminalLine → List ℕ → Option (TerminalLine × List ℕ)
found line rest = Some (line, rest)

pub same_some : {A : Type 0} (a b : A) → Some a ≡ Some b → a ≡ b
same_some a b same = cc

moved : (more : List ℕ) (one line : TerminalLine) (left rest : List ℕ) → found one left ≡ found line rest → found one (left ++ more) ≡ found line (rest ++ more)
moved more one line left rest same =
    ap (λ (first : TerminalLine × List ℕ). found first.0 (first.1 ++ more)) (same_some _ _ same)

module _ (bytes more : List ℕ) where
  front_more : has_newline bytes ≡ true → front_of (bytes ++ more) ≡ front_of bytes
  front_more has = before_more (λ byte. byte == newline) more bytes has

  long_more : longest < length (front_of bytes) → longest < length (front_of (bytes ++ more))
  long_more long = elim (cases_Bool (has_newline bytes)) [
    | inl has ↦ rw (front_more has) long
    | inr none ↦
        let whole : length (front_of bytes) ≡ length bytes = ap (λ (l : List ℕ). length l) (front_whole bytes none) in
        rw (before_none (λ byte. byte == newline) more bytes none, length-append) (omega arith)
  ]

  cut_more : longest < length (front_of bytes) → first_line (bytes ++ more) ≡ Some (Cut, drop longest bytes ++ more)
  cut_more long =
      let within : longest ≤ length bytes = omega (arith, front_within bytes) in
      cut_first (bytes ++ more) (long_more long) ∙ ap (λ (l : List ℕ). Some (Cut, l)) (drop-append-le longest bytes more within)

  whole_more : length (front_of bytes) ≤ longest → has_newline bytes ≡ true → first_line (bytes ++ more) ≡ Some (Whole (front_of bytes), after_first (λ byte. byte == newline) bytes ++ more)
  whole_more short has =
      let same = front_more has in
      let within : length (front_of (bytes ++ more)) ≤ longest = rw same short in
      whole_first (bytes ++ more) within (any_more (λ byte. byte == newline) more bytes has)
      ∙ (λ i. Some (Whole (same i), after_more (λ byte. byte == newline) more bytes has i))

  -- the first line stays, and more stands behind it
  pub first_more : (line : TerminalLine) (rest : List ℕ) → first_line bytes ≡ Some (line, rest) → first_line (bytes ++ more) ≡ Some (line, rest ++ more)
  first_more line rest first = elim (cases_Bool (nat_lt longest (length (front_of bytes)))) [
    | inl long ↦
        let above = ltb-true longest (length (front_of bytes)) long in
        cut_more above ∙ moved more Cut line (drop longest bytes) rest (sym (cut_first bytes above) ∙ first)
    | inr short ↦
        let within = ltb-false longest (length (front_of bytes)) short in
        elim (cases_Bool (has_newline bytes)) [
          | inl has ↦ whole_more within has ∙ moved more (Whole (front_of bytes)) line (after_first (λ byte. byte == newline) bytes) rest (sym (whole_first bytes within has) ∙ first)
          | inr none ↦ absurd (let off = sym (none_first bytes within none) ∙ first in cc)
        ]
  ]

-- ---- behind a front with no newline

module _ (front : List ℕ) (none : has_newline front ≡ false) (short : length front ≤ longest) where
  pub first_of_none : first_line front ≡ None
  first_of_none = let whole : length (front_of front) ≤ longest = rw (front_whole front none) short in none_first front whole none

  pub first_at_newline : (byte : ℕ) (bytes : List ℕ) → (byte == newline) ≡ true → first_line (front ++ byte ∷ bytes) ≡ Some (Whole front, bytes)
  first_at_newline byte bytes ends =
      let whole : front_of (front ++ byte ∷ bytes) ≡ front
      = before_none (λ b. b == newline) (byte ∷ bytes) front none ∙ ap (λ (l : List ℕ). front ++ l) (before_first-here (λ b. b == newline) byte bytes ends) ∙ append-nil front in
      let within : length (front_of (front ++ byte ∷ bytes)) ≤ longest = rw whole short in
      let has : has_newline (front ++ byte ∷ bytes) ≡ true = any_none (λ b. b == newline) (byte ∷ bytes) front none ∙ rw ends refl in
      let behind = after_none (λ b. b == newline) (byte ∷ bytes) front none ∙ after_first-here (λ b. b == newline) byte bytes ends in
      whole_first (front ++ byte ∷ bytes) within has ∙ (λ i. found (Whole (whole i)) (behind i))

  pub first_at_limit : (byte : ℕ) (bytes : List ℕ) → (byte == newline) ≡ false → longest ≤ length front → first_line (front ++ byte ∷ bytes) ≡ Some (Cut, byte ∷ bytes)
  first_at_limit byte bytes on full =
      let whole : front_of (front ++ byte ∷ bytes) ≡ front ++ byte ∷ front_of bytes
      = before_none (λ b. b == newline) (byte ∷ bytes) front none ∙ ap (λ (l : List ℕ). front ++ l) (before_first-later (λ b. b == newline) byte bytes on) in
      let above : longest < length (front_of (front ++ byte ∷ bytes)) = rw (whole, length-append) (omega arith) in
      let at : longest ≡ length front = omega arith in
      cut_first (front ++ byte ∷ bytes) above ∙ ap (λ (n : ℕ). found Cut (drop n (front ++ byte ∷ bytes))) at ∙ ap (λ (l : List ℕ). found Cut l) (drop-append_seam front (byte ∷ bytes))

  pub none_yet : (byte : ℕ) → (byte == newline) ≡ false → has_newline (front ++ byte ∷ []) ≡ false
  none_yet byte on = any_none (λ b. b == newline) (byte ∷ []) front none ∙ rw on refl
