-- Escapes, and the words of a line in escape mode.
use Rattle.std.proofs.Common.{◌≡◌, ◌≢◌, ℕ, Bool, true, false, cond, not, ◌&&◌, List, [], ◌∷◌, ◌++◌, map, refl, sym, ap, subst, ◌∙◌, arith, append_assoc}
use Rattle.std.specs.Prelude.{◌==◌}
use Rattle.std.specs.List.{list_all, slice_split, onto_first, flat_map}
use Rattle.std.proofs.lemmas.List.{append-nil}
use Rattle.std.proofs.lemmas.Bool.Decides.{nat_tests}
use Rattle.std.proofs.lemmas.Grind.{flat_map-append}
use Rattle.dc_text.specs.Bytes.{is_space, is_blank}
use Rattle.dc_words.specs.declared.escaping.LineUnit.{LineUnit}
use Rattle.dc_words.specs.declared.escaping.LineUnit.TheVariants.{Space, Byte}
use Rattle.dc_words.specs.Words.{IsWordEnd, some_word, IsPlainWord}
use Rattle.dc_words.specs.Escaped.{escaped, unit_of, units_of, is_space_unit, bytes_of, escaped_words_of, WordUnit, Plain, Pair, LastBackslash, spelled, meant, IsUnitBefore, AreUnits, IsSpelledWord, EscapedWords, IsEscapedWordsOf, IsOneWordEscaped}

both : (a c : Bool) → (a && c) ≡ true → (a ≡ true) × (c ≡ true)
both true c e = (refl, e)
both false c e = absurd (cc)

not_true : (b : Bool) → not b ≡ true → b ≡ false
not_true true e = absurd (cc)
not_true false e = refl

is_byte : (b c : ℕ) → (b == c) ≡ true → b ≡ c
is_byte b c e = grind (arith, nat_tests)

isnt_byte : (b c : ℕ) → (b == c) ≡ false → b ≡ c → ⊥
isnt_byte b c e = grind (arith, nat_tests)

other_byte : (b c : ℕ) → (b ≡ c → ⊥) → (b == c) ≡ false
other_byte b c e = grind (arith, nat_tests)

-- ---- a line's parts

-- the parts between whitespace, each as its bytes
abbrev pub parts_of : List ℕ → List (List ℕ)
parts_of line = map bytes_of (slice_split is_space_unit (units_of line))

-- bytes in front of the first part
abbrev pub onto_front : List ℕ → List (List ℕ) → List (List ℕ)
onto_front bytes [] = bytes ∷ []
onto_front bytes (part ∷ parts) = (bytes ++ part) ∷ parts

nothing_first : (b : ℕ) (parts : List (List LineUnit)) → onto_front [] (map bytes_of (onto_first (Byte b) parts)) ≡ map bytes_of (onto_first (Byte b) parts)
nothing_first b [] = refl
nothing_first b (part ∷ parts) = refl

nothing_split : (units : List LineUnit) → onto_front [] (map bytes_of (slice_split is_space_unit units)) ≡ map bytes_of (slice_split is_space_unit units)
nothing_split [] = refl
nothing_split (Space ∷ units) = refl
nothing_split (Byte b ∷ units) = nothing_first b (slice_split is_space_unit units)

pub onto_nothing : (line : List ℕ) → onto_front [] (parts_of line) ≡ parts_of line
onto_nothing line = nothing_split (units_of line)

-- a word's unit goes in front of the first part
onto_more : (word : List ℕ) (b : ℕ) (parts : List (List LineUnit)) → onto_front word (map bytes_of (onto_first (Byte b) parts)) ≡ onto_front (word ++ b ∷ []) (map bytes_of parts)
onto_more word b [] = refl
onto_more word b (part ∷ parts) = ap (λ (w : List ℕ). w ∷ map bytes_of parts) (sym (append_assoc word (b ∷ []) (bytes_of part)))

units_plain : (b : ℕ) (line : List ℕ) → (b == 92) ≡ false → units_of (b ∷ line) ≡ unit_of b ∷ units_of line
units_plain b [] e = refl
units_plain b (c ∷ line) e = rw e refl

isnt_backslash : (b : ℕ) → is_space b ≡ true → (b == 92) ≡ false
isnt_backslash b e = grind (arith, nat_tests)

units_space : (b : ℕ) (line : List ℕ) → is_space b ≡ true → units_of (b ∷ line) ≡ Space ∷ units_of line
units_space b line e = units_plain b line (isnt_backslash b e) ∙ ap (λ t. cond t Space (Byte b) ∷ units_of line) e

units_solid : (b : ℕ) (line : List ℕ) → is_space b ≡ false → (b == 92) ≡ false → units_of (b ∷ line) ≡ Byte b ∷ units_of line
units_solid b line e n = units_plain b line n ∙ ap (λ t. cond t Space (Byte b) ∷ units_of line) e

-- ---- what is escaped

units_escaped : (bytes : List ℕ) → list_all (λ byte. not (is_space byte)) bytes ≡ true → units_of (escaped bytes) ≡ map Byte bytes
units_escaped [] s = refl
units_escaped (b ∷ bytes) s =
    let p : (not (is_space b) ≡ true) × (list_all (λ byte. not (is_space byte)) bytes ≡ true) = both _ _ s in
    let more : units_of (escaped bytes) ≡ map Byte bytes = units_escaped bytes p.1 in
    elim (b == 92) as (λ t. (b == 92) ≡ t → units_of (cond t (92 ∷ 92 ∷ []) (cond (b == 10) (92 ∷ 110 ∷ []) (b ∷ [])) ++ escaped bytes) ≡ Byte b ∷ map Byte bytes) [
      | true ↦ λ e. (λ i. Byte (sym (is_byte b 92 e) i) ∷ more i)
      | false ↦ λ n. elim (b == 10) as (λ t. (b == 10) ≡ t → units_of (cond t (92 ∷ 110 ∷ []) (b ∷ []) ++ escaped bytes) ≡ Byte b ∷ map Byte bytes) [
        | true ↦ λ e. (λ i. Byte (sym (is_byte b 10 e) i) ∷ more i)
        | false ↦ λ e. units_solid b (escaped bytes) (not_true _ p.0) n ∙ ap (λ us. Byte b ∷ us) more
      ] refl
    ] refl

parts_solid : (bytes : List ℕ) → slice_split is_space_unit (map Byte bytes) ≡ map Byte bytes ∷ []
parts_solid [] = refl
parts_solid (b ∷ bytes) = ap (onto_first (Byte b)) (parts_solid bytes)

bytes_of_bytes : (bytes : List ℕ) → bytes_of (map Byte bytes) ≡ bytes
bytes_of_bytes [] = refl
bytes_of_bytes (b ∷ bytes) = ap (λ (bs : List ℕ). b ∷ bs) (bytes_of_bytes bytes)

some_word-some : (word : List ℕ) → (word ≡ [] → ⊥) → some_word word ≡ word ∷ []
some_word-some [] some = absurd (some refl)
some_word-some (b ∷ word) some = refl

pub escaped_is_one : (bytes : List ℕ) → IsPlainWord bytes → IsOneWordEscaped bytes
escaped_is_one bytes is =
    ap (λ us. flat_map some_word (map bytes_of (slice_split is_space_unit us))) (units_escaped bytes is.solid)
    ∙ ap (λ parts. flat_map some_word (map bytes_of parts)) (parts_solid bytes)
    ∙ ap (λ (w : List ℕ). some_word w ++ []) (bytes_of_bytes bytes)
    ∙ append-nil (some_word bytes)
    ∙ some_word-some bytes is.some

-- ---- a word's units, one after another

-- a byte of the word goes on
pub word_more : (word line rest after : List ℕ) (b : ℕ) → onto_front word (parts_of rest) ≡ parts_of line → units_of rest ≡ Byte b ∷ units_of after → onto_front (word ++ b ∷ []) (parts_of after) ≡ parts_of line
word_more word line rest after b e u =
    sym (onto_more word b (slice_split is_space_unit (units_of after)))
    ∙ ap (λ us. onto_front word (map bytes_of (slice_split is_space_unit us))) (sym u) ∙ e

-- ---- gaps and spelled words

words-space : (b : ℕ) (line : List ℕ) → is_space b ≡ true → escaped_words_of (b ∷ line) ≡ escaped_words_of line
words-space b line e = ap (λ us. flat_map some_word (map bytes_of (slice_split is_space_unit us))) (units_space b line e)

words-gap : (gap line : List ℕ) → is_blank gap ≡ true → escaped_words_of (gap ++ line) ≡ escaped_words_of line
words-gap [] line e = refl
words-gap (b ∷ gap) line e = let p : (is_space b ≡ true) × (is_blank gap ≡ true) = both _ _ e in words-space b (gap ++ line) p.0 ∙ words-gap gap line p.1

-- one unit of a word in front of a line
unit_front : (unit : WordUnit) (line : List ℕ) → IsUnitBefore line unit → units_of (spelled unit ++ line) ≡ Byte (meant unit) ∷ units_of line
unit_front (Plain b) line is = units_solid b line is.0 (other_byte b 92 is.1)
unit_front (Pair n) line is = refl
unit_front LastBackslash line is = subst (λ l. units_of (92 ∷ l) ≡ Byte 92 ∷ units_of l) (sym is) refl

units_front : (units : List WordUnit) (rest : List ℕ) → AreUnits units rest → units_of (flat_map spelled units ++ rest) ≡ map Byte (map meant units) ++ units_of rest
units_front [] rest is = refl
units_front (unit ∷ units) rest is =
    ap units_of (append_assoc (spelled unit) (flat_map spelled units) rest)
    ∙ unit_front unit (flat_map spelled units ++ rest) is.0
    ∙ ap (λ us. Byte (meant unit) ∷ us) (units_front units rest is.1)

-- the parts of a word before whitespace or the end
parts_end : (word rest : List ℕ) → IsWordEnd rest → flat_map some_word (map bytes_of (slice_split is_space_unit (map Byte word ++ units_of rest))) ≡ some_word word ++ escaped_words_of rest
parts_end word [] end =
    ap (λ us. flat_map some_word (map bytes_of (slice_split is_space_unit us))) (append-nil (map Byte word))
    ∙ ap (λ parts. flat_map some_word (map bytes_of parts)) (parts_solid word)
    ∙ ap (λ (w : List ℕ). some_word w ++ []) (bytes_of_bytes word)
parts_end word (b ∷ rest) end =
    ap (λ us. flat_map some_word (map bytes_of (slice_split is_space_unit (map Byte word ++ us)))) (units_space b rest end)
    ∙ ap (λ parts. flat_map some_word (map bytes_of parts)) (parts_space word (units_of rest))
    ∙ ap (λ (w : List ℕ). some_word w ++ escaped_words_of rest) (bytes_of_bytes word)
    ∙ ap (λ (ws : List (List ℕ)). some_word word ++ ws) (sym (words-space b rest end))
  where
    parts_space : (word : List ℕ) (units : List LineUnit) → slice_split is_space_unit (map Byte word ++ Space ∷ units) ≡ map Byte word ∷ slice_split is_space_unit units
    parts_space [] units = refl
    parts_space (b ∷ word) units = ap (onto_first (Byte b)) (parts_space word units)

map-some : (units : List WordUnit) → units ≢ [] → map meant units ≢ []
map-some [] some = λ e. some refl
map-some (unit ∷ units) some = λ e. cc

words-word : (units : List WordUnit) (word rest : List ℕ) → IsSpelledWord units word rest → IsWordEnd rest → escaped_words_of (flat_map spelled units ++ rest) ≡ word ∷ escaped_words_of rest
words-word units word rest is end =
    ap (λ us. flat_map some_word (map bytes_of (slice_split is_space_unit us))) (units_front units rest is.right)
    ∙ parts_end (map meant units) rest end
    ∙ ap (λ (ws : List (List ℕ)). ws ++ escaped_words_of rest) (some_word-some (map meant units) (map-some units is.some))
    ∙ ap (λ (w : List ℕ). w ∷ escaped_words_of rest) (sym is.word_is)

-- a line that is gaps and spelled words in turn has these words
words_are : (line : List ℕ) (words : List (List ℕ)) → EscapedWords line words → words ≡ escaped_words_of line
words_are line [] blank = sym (ap escaped_words_of (sym (append-nil line)) ∙ words-gap line [] blank)
words_are line (word ∷ words) (gap, units, rest, whole, blank, is, end, more) =
    sym (ap escaped_words_of (whole ∙ append_assoc gap (flat_map spelled units) rest) ∙ words-gap gap (flat_map spelled units ++ rest) blank ∙ words-word units word rest is end
    ∙ ap (λ (ws : List (List ℕ)). word ∷ ws) (sym (words_are rest words more)))

-- ---- each line is gaps and spelled words in turn

abbrev HasWords : List ℕ → Type 0
HasWords line = (words : List (List ℕ)) × EscapedWords line words

wider : (b : ℕ) (line : List ℕ) (words : List (List ℕ)) → is_space b ≡ true → EscapedWords line words → EscapedWords (b ∷ line) words
wider b line [] s blank = rw s blank
wider b line (word ∷ words) s (gap, units, rest, whole, blank, is, end, more) = (b ∷ gap, units, rest, ap (λ (l : List ℕ). b ∷ l) whole, rw s blank, is, end, more)

-- one more unit at the end
pushed : (units : List WordUnit) (unit : WordUnit) (line : List ℕ) → flat_map spelled (units ++ unit ∷ []) ++ line ≡ flat_map spelled units ++ (spelled unit ++ line)
pushed units unit line =
    ap (λ (l : List ℕ). l ++ line) (flat_map-append spelled units (unit ∷ []) ∙ ap (λ (l : List ℕ). flat_map spelled units ++ l) (append-nil (spelled unit)))
    ∙ append_assoc (flat_map spelled units) (spelled unit) line

units_push : (units : List WordUnit) (unit : WordUnit) (line : List ℕ) → AreUnits units (spelled unit ++ line) → IsUnitBefore line unit → AreUnits (units ++ unit ∷ []) line
units_push [] unit line are is = (is, tt)
units_push (u ∷ units) unit line are is = (subst (λ l. IsUnitBefore l u) (sym (pushed units unit line)) are.0, units_push units unit line are.1 is)

-- behind a word that has begun, the line is gaps and spelled words in turn
abbrev HasWordsBehind : List ℕ → Type 0
HasWordsBehind line = (units : List WordUnit) → AreUnits units line → HasWords (flat_map spelled units ++ line)

grow : (units : List WordUnit) (unit : WordUnit) (line : List ℕ) → AreUnits units (spelled unit ++ line) → IsUnitBefore line unit → HasWordsBehind line → HasWords (flat_map spelled units ++ (spelled unit ++ line))
grow units unit line are is has = subst HasWords (pushed units unit line) (has (units ++ unit ∷ []) (units_push units unit line are is))

-- a word, and what ends it
ended : (units : List WordUnit) (line : List ℕ) → AreUnits units line → IsWordEnd line → HasWords line → HasWords (flat_map spelled units ++ line)
ended [] line are end has = has
ended (u ∷ units) line are end has =
    (map meant (u ∷ units) ∷ has.0, ([], u ∷ units, line, refl, refl, record { some = λ e. cc; right = are; word_is = refl }, end, has.1))

by_sort : (b : ℕ) (X : Type 0) → (is_space b ≡ true → X) → (b ≡ 92 → X) → (is_space b ≡ false → b ≢ 92 → X) → X
by_sort b X space backslash plain = elim (is_space b) as (λ t. is_space b ≡ t → X) [
  | true ↦ space
  | false ↦ λ s. elim (b == 92) as (λ t. (b == 92) ≡ t → X) [ true ↦ λ e. backslash (is_byte b 92 e) | false ↦ λ n. plain s (isnt_byte b 92 n) ] refl
] refl

has_words : (line : List ℕ) → HasWordsBehind line
has_words [] units are = ended units [] are tt ([], refl)
has_words (b ∷ []) units are =
    by_sort b (HasWords (flat_map spelled units ++ b ∷ []))
    (λ s. ended units (b ∷ []) are s ([], wider b [] [] s refl))
    (λ e. subst (λ d. AreUnits units (d ∷ []) → HasWords (flat_map spelled units ++ d ∷ [])) (sym e) (λ a. grow units LastBackslash [] a refl (λ us are'. has_words [] us are')) are)
    (λ s n. grow units (Plain b) [] are (s, n) (λ us are'. has_words [] us are'))
has_words (b ∷ c ∷ line) units are =
    by_sort b (HasWords (flat_map spelled units ++ b ∷ c ∷ line))
    (λ s. let has : HasWords (c ∷ line) = has_words (c ∷ line) [] tt in ended units (b ∷ c ∷ line) are s (has.0, wider b (c ∷ line) has.0 s has.1))
    (λ e. subst (λ d. AreUnits units (d ∷ c ∷ line) → HasWords (flat_map spelled units ++ d ∷ c ∷ line)) (sym e) (λ a. grow units (Pair c) line a tt (λ us are'. has_words line us are')) are)
    (λ s n. grow units (Plain b) (c ∷ line) are (s, n) (λ us are'. has_words (c ∷ line) us are'))

pub words_of_one : (line : List ℕ) (words : List (List ℕ)) → IsEscapedWordsOf words line
words_of_one line words =
    let has : HasWords line = has_words line [] tt in
    (words_are line words, λ e. subst (EscapedWords line) (sym (e ∙ sym (words_are line has.0 has.1))) has.1)
