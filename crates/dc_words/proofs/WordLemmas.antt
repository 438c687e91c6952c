-- The words of a line.
use Rattle.std.proofs.Common.{◌≡◌, ℕ, ◌+◌, ◌-◌, ◌≤◌, Bool, true, false, not, ◌&&◌, List, [], ◌∷◌, ◌++◌, length, take, drop, Some, None, refl, sym, ap, subst, ◌∙◌, arith, append_assoc}
use Rattle.std.specs.Prelude.{position, nat_lt}
use Rattle.std.specs.List.{list_all, slice_split, flat_map, position_or_len}
use Rattle.std.proofs.lemmas.List.{append-nil, drop_all}
use Rattle.std.proofs.lemmas.List.Splits.{slice_split_none, slice_split_first}
use Rattle.std.proofs.lemmas.List.Sums.{prefix_len_passes}
use Rattle.std.proofs.lemmas.Bool.{ltb-true, ltb-false}
use Rattle.std.proofs.Math.Nat.{le_refl}
use Rattle.dc_text.specs.Bytes.{is_space, is_blank}
use Rattle.dc_words.specs.Words.{PlainWords, IsWordEnd, some_word, plain_words_of, IsPlainWordsOf}
use Rattle.dc_text.proofs.LineLemmas.{to_end, cond_is_some, cond_is_none}

both : (a c : Bool) → (a && c) ≡ true → (a ≡ true) × (c ≡ true)
both true c e = (refl, e)
both false c e = absurd (cc)

not_true : (b : Bool) → not b ≡ true → b ≡ false
not_true true e = absurd (cc)
not_true false e = refl

-- ---- what a line's first whitespace parts

pub split_at_space : (line : List ℕ) (at : ℕ) → Some at ≡ position is_space line
    → plain_words_of line ≡ some_word (take at line) ++ plain_words_of (take (length line - (at + 1)) (drop (at + 1) line))
split_at_space line at e =
    let f : (nat_lt (position_or_len is_space line) (length line) ≡ true) × (position_or_len is_space line ≡ at) = cond_is_some _ _ _ (sym e) in
    rw (to_end (at + 1) line, ← f.1) (ap (flat_map some_word) (slice_split_first is_space line 0 (ltb-true _ _ f.0)))

pub split_nowhere : (line : List ℕ) → None ≡ position is_space line
    → plain_words_of line ≡ some_word line ++ plain_words_of (take (length line - length line) (drop (length line) line))
split_nowhere line e =
    let f : length line ≤ position_or_len is_space line = ltb-false _ _ (cond_is_none _ _ (sym e)) in
    rw (to_end (length line) line, drop_all (length line) line (le_refl _))
    (ap (flat_map some_word) (slice_split_none is_space line (λ k d l. not_true _ (prefix_len_passes (λ x. not (is_space x)) line k d (omega arith)))))

-- ---- gaps and words

-- whitespace in front is no word
words-space : (b : ℕ) (line : List ℕ) → is_space b ≡ true → plain_words_of (b ∷ line) ≡ plain_words_of line
words-space b line e = rw e refl

words-gap : (gap line : List ℕ) → is_blank gap ≡ true → plain_words_of (gap ++ line) ≡ plain_words_of line
words-gap [] line e = refl
words-gap (b ∷ gap) line e = let p : (is_space b ≡ true) × (is_blank gap ≡ true) = both _ _ e in words-space b (gap ++ line) p.0 ∙ words-gap gap line p.1

abbrev IsSolid : List ℕ → Type 0
IsSolid word = list_all (λ byte. not (is_space byte)) word ≡ true

-- bytes other than whitespace go in front of the first part
parts-solid : (word rest : List ℕ) (x : List ℕ) (xs : List (List ℕ)) → IsSolid word → slice_split is_space rest ≡ x ∷ xs → slice_split is_space (word ++ rest) ≡ (word ++ x) ∷ xs
parts-solid [] rest x xs s e = e
parts-solid (b ∷ word) rest x xs s e =
    let p : (not (is_space b) ≡ true) × IsSolid word = both _ _ s in
    rw (not_true _ p.0, parts-solid word rest x xs p.1 e) refl

words-word : (word rest : List ℕ) → IsSolid word → IsWordEnd rest → plain_words_of (word ++ rest) ≡ some_word word ++ plain_words_of rest
words-word word [] s end = ap (flat_map some_word) (parts-solid word [] [] [] s refl ∙ ap (λ (w : List ℕ). w ∷ []) (append-nil word))
words-word word (y ∷ ys) s end =
    ap (flat_map some_word) (parts-solid word (y ∷ ys) [] (slice_split is_space ys) s (rw end refl) ∙ ap (λ (w : List ℕ). w ∷ slice_split is_space ys) (append-nil word))
    ∙ ap (λ (ws : List (List ℕ)). some_word word ++ ws) (sym (words-space y ys end))

some_word-some : (word : List ℕ) → (word ≡ [] → ⊥) → some_word word ≡ word ∷ []
some_word-some [] some = absurd (some refl)
some_word-some (b ∷ word) some = refl

-- a line that is gaps and words in turn has these words
words_are : (line : List ℕ) (words : List (List ℕ)) → PlainWords line words → words ≡ plain_words_of line
words_are line [] blank = sym (ap plain_words_of (sym (append-nil line)) ∙ words-gap line [] blank)
words_are line (word ∷ words) (gap, rest, whole, blank, is, end, more) =
    sym (ap plain_words_of (whole ∙ append_assoc gap word rest) ∙ words-gap gap (word ++ rest) blank ∙ words-word word rest is.solid end
    ∙ ap (λ (ws : List (List ℕ)). ws ++ plain_words_of rest) (some_word-some word is.some)
    ∙ ap (λ (ws : List (List ℕ)). word ∷ ws) (sym (words_are rest words more)))

wider : (b : ℕ) (line : List ℕ) (words : List (List ℕ)) → is_space b ≡ true → PlainWords line words → PlainWords (b ∷ line) words
wider b line [] s blank = rw s blank
wider b line (word ∷ words) s (gap, rest, whole, blank, is, end, more) = (b ∷ gap, rest, ap (λ (l : List ℕ). b ∷ l) whole, rw s blank, is, end, more)

solid_push : (word : List ℕ) (b : ℕ) → IsSolid word → is_space b ≡ false → IsSolid (word ++ b ∷ [])
solid_push [] b s e = rw e refl
solid_push (c ∷ word) b s e = let p : (not (is_space c) ≡ true) × IsSolid word = both _ _ s in rw p.0 (solid_push word b p.1 e)

-- a word before whitespace, and the words after it
after : (word line : List ℕ) (b : ℕ) (words : List (List ℕ)) → IsSolid word → is_space b ≡ true → PlainWords (b ∷ line) words → PlainWords (word ++ b ∷ line) (some_word word ++ words)
after [] line b words s e p = p
after (c ∷ word) line b words s e p = ([], b ∷ line, refl, refl, record { some = λ h. cc; solid = s }, e, p)

-- a word that may go on, and the line after it
says : (line word : List ℕ) → IsSolid word → PlainWords (word ++ line) (plain_words_of (word ++ line))
says [] [] s = refl
says [] (c ∷ word) s =
    subst (PlainWords ((c ∷ word) ++ [])) (sym (words-word (c ∷ word) [] s tt))
    ([], [], refl, refl, record { some = λ e. cc; solid = s }, tt, refl)
says (b ∷ line) word s = elim (is_space b) as (λ t. is_space b ≡ t → PlainWords (word ++ b ∷ line) (plain_words_of (word ++ b ∷ line))) [
  | true ↦ λ e.
      subst (PlainWords (word ++ b ∷ line)) (sym (words-word word (b ∷ line) s e ∙ ap (λ (ws : List (List ℕ)). some_word word ++ ws) (words-space b line e)))
      (after word line b (plain_words_of line) s e (wider b line (plain_words_of line) e (says line [] refl)))
  | false ↦ λ e. subst (λ l. PlainWords l (plain_words_of l)) (append_assoc word (b ∷ []) line) (says line (word ++ b ∷ []) (solid_push word b s e))
] refl

pub words_of_one : (line : List ℕ) (words : List (List ℕ)) → IsPlainWordsOf words line
words_of_one line words = (words_are line words, λ e. subst (PlainWords line) (sym e) (says line [] refl))
