-- The words of a line, which the bytes that pass part.
use Rattle.std.proofs.Common.{◌≡◌, ℕ, ◌+◌, ◌-◌, ◌≤◌, Bool, true, false, not, List, ◌++◌, length, take, drop, Some, None, refl, sym, ap, arith}
use Rattle.std.specs.Prelude.{position, nat_lt}
use Rattle.std.specs.List.{slice_split, flat_map, position_or_len}
use Rattle.std.proofs.lemmas.List.{drop_all}
use Rattle.std.proofs.lemmas.List.Splits.{slice_split_none, slice_split_first}
use Rattle.std.proofs.lemmas.List.Sums.{prefix_len_passes}
use Rattle.std.proofs.lemmas.Bool.{ltb-true, ltb-false}
use Rattle.std.proofs.Math.Nat.{le_refl}
use Rattle.dc_text.proofs.LineLemmas.{to_end, cond_is_some, cond_is_none}
use Rattle.dc_words.specs.Words.{some_word}

not_true : (b : Bool) → not b ≡ true → b ≡ false
not_true true e = absurd (cc)
not_true false e = refl

abbrev words_by : (ℕ → Bool) → List ℕ → List (List ℕ)
words_by parts line = flat_map some_word (slice_split parts line)

-- the first byte that passes parts a word from the rest
pub split_at : (parts : ℕ → Bool) (line : List ℕ) (at : ℕ) → Some at ≡ position parts line
    → words_by parts line ≡ some_word (take at line) ++ words_by parts (take (length line - (at + 1)) (drop (at + 1) line))
split_at parts line at e =
    let f : (nat_lt (position_or_len parts line) (length line) ≡ true) × (position_or_len parts line ≡ at) = cond_is_some _ _ _ (sym e) in
    rw (to_end (at + 1) line, ← f.1) (ap (flat_map some_word) (slice_split_first parts line 0 (ltb-true _ _ f.0)))

-- where none passes, the line is one word
pub split_nowhere : (parts : ℕ → Bool) (line : List ℕ) → None ≡ position parts line
    → words_by parts line ≡ some_word line ++ words_by parts (take (length line - length line) (drop (length line) line))
split_nowhere parts line e =
    let f : length line ≤ position_or_len parts line = ltb-false _ _ (cond_is_none _ _ (sym e)) in
    rw (to_end (length line) line, drop_all (length line) line (le_refl _))
    (ap (flat_map some_word) (slice_split_none parts line (λ k d l. not_true _ (prefix_len_passes (λ x. not (parts x)) line k d (omega arith)))))
