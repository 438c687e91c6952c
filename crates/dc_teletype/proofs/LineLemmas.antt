-- The front of what came on a terminal.
use Rattle.std.proofs.Common.{◌≡◌, ℕ, ◌≤◌, ◌<◌, ◌||◌, Bool, true, false, List, [], ◌∷◌, length, refl, ap, ◌∙◌, arith}
use Rattle.std.specs.Prelude.{◌==◌, nat_lt, Some, None, if◌then◌else◌}
use Rattle.std.proofs.lemmas.Bool.{ltb-false}
use Rattle.std.specs.List.{list_any, before_first}
use Rattle.dc_text.proofs.FirstLemmas.{before_first-here, before_first-later}
use Rattle.dc_text.specs.Ascii.{newline}
use Rattle.dc_text.specs.Lines.{has_newline}
use Rattle.dc_teletype.specs.TerminalLines.{longest, front_of, first_line}
use Rattle.dc_teletype.specs.declared.terminal.TerminalLine.{TerminalLine}

module _ (p : ℕ → Bool) where
  whole_by : (x : ℕ) (xs : List ℕ) (b : Bool) → p x ≡ b → (b || list_any p xs) ≡ false → before_first p xs ≡ xs → before_first p (x ∷ xs) ≡ x ∷ xs
  whole_by x xs true is none rest = absurd (cc)
  whole_by x xs false is none rest = before_first-later p x xs is ∙ ap (λ (l : List ℕ). x ∷ l) rest

  later_none : (b c : Bool) → (b || c) ≡ false → c ≡ false
  later_none true c none = absurd (cc)
  later_none false c none = none

  before_whole : (xs : List ℕ) → list_any p xs ≡ false → before_first p xs ≡ xs
  before_whole [] none = refl
  before_whole (x ∷ xs) none = whole_by x xs (p x) refl none (before_whole xs (later_none (p x) _ none))

  within_by : (x : ℕ) (xs : List ℕ) (b : Bool) → p x ≡ b → length (before_first p xs) ≤ length xs → length (before_first p (x ∷ xs)) ≤ length (x ∷ xs)
  within_by x xs true is rest = rw (before_first-here p x xs is) (omega arith)
  within_by x xs false is rest = rw (before_first-later p x xs is) (omega arith)

  before_within : (xs : List ℕ) → length (before_first p xs) ≤ length xs
  before_within [] = omega arith
  before_within (x ∷ xs) = within_by x xs (p x) refl (before_within xs)

-- where no newline stands, the front is all
pub front_whole : (bytes : List ℕ) → has_newline bytes ≡ false → front_of bytes ≡ bytes
front_whole bytes none = before_whole (λ byte. byte == newline) bytes none

-- the front is no longer than all
pub front_within : (bytes : List ℕ) → length (front_of bytes) ≤ length bytes
front_within bytes = before_within (λ byte. byte == newline) bytes

pub long_front : (bytes : List ℕ) → has_newline bytes ≡ false → longest < length bytes → longest < length (front_of bytes)
long_front bytes none long = rw (front_whole bytes none) long

-- what has no first line is short
short_by : (bytes : List ℕ) (long newlines : Bool) (cut whole : TerminalLine × List ℕ) → nat_lt longest (length (front_of bytes)) ≡ long → has_newline bytes ≡ newlines
    → (if long then Some cut else if newlines then Some whole else None) ≡ None → length bytes ≤ longest
short_by bytes true newlines cut whole is has none = absurd (cc)
short_by bytes false true cut whole is has none = absurd (cc)
short_by bytes false false cut whole is has none = rw (front_whole bytes has) at (ltb-false longest (length (front_of bytes)) is)

pub none_short : (bytes : List ℕ) → first_line bytes ≡ None → length bytes ≤ longest
none_short bytes none = short_by bytes (nat_lt longest (length (front_of bytes))) (has_newline bytes) _ _ refl refl none
