-- Items that stand beside keys: choices beside their numbers, and beside their labels.
use Rattle.std.specs.Prelude.{ℕ, zero, suc, Bool, List, [], ◌∷◌, Option, position, slice_get, option_and_then, decimal, if◌then◌else◌}
use Rattle.std.specs.List.{list_any}
use Rattle.std.specs.Str.{bytes_eq}

-- so many numbers, from this one on, as they are written
abbrev pub numerals_from : ℕ → ℕ → List (List ℕ)
numerals_from number zero = []
numerals_from number (suc count) = decimal number ∷ numerals_from (suc number) count

-- the numbers of so many choices
abbrev pub numerals : ℕ → List (List ℕ)
numerals count = numerals_from 1 count

-- the word is one of these
abbrev pub is_one_of : List (List ℕ) → List ℕ → Bool
is_one_of words word = list_any (λ other. bytes_eq other word) words

-- the item beside the first key that is the word
abbrev pub beside : List (List ℕ) → List (List ℕ) → List ℕ → Option (List ℕ)
beside keys items word = option_and_then (λ place. slice_get items place) (position (λ key. bytes_eq key word) keys)

-- the items beside all keys that are among the words, in order
abbrev pub all_beside : List (List ℕ) → List (List ℕ) → List (List ℕ) → List (List ℕ)
all_beside [] items words = []
all_beside (key ∷ keys) [] words = []
all_beside (key ∷ keys) (item ∷ items) words =
    if is_one_of words key then item ∷ all_beside keys items words else all_beside keys items words
