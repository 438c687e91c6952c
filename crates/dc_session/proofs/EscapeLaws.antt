-- Lines and replies in escape mode.
use Rattle.std.proofs.Common.{◌≡◌, ℕ, Bool, true, false, List, [], ◌∷◌, ◌++◌, map as each, refl, sym, ap, subst, ◌∙◌}
use Rattle.std.specs.Prelude.{◌≢◌, ◌==◌, codes, if◌then◌else◌}
use Rattle.std.specs.List.{flat_map}
use Rattle.std.proofs.lemmas.List.{append-nil}
use Rattle.std.proofs.lemmas.Bool.{eqb-true}
use Rattle.dc_text.specs.Ascii.{backslash, space, newline, letter_n}
use Rattle.dc_text.specs.Bytes.{is_space}
use Rattle.dc_words.specs.Escaped.{escaped, escaped_byte, unescaped_byte, WordUnit, Plain, Pair, spelled, meant, IsUnitBefore, AreUnits, IsSpelledWord, EscapedWords}
use Rattle.dc_words.proofs.EscapedLemmas.{words_of_one}
use Rattle.dc_proto.specs.Commands.{heard, heard_words}
use Rattle.dc_proto.specs.declared.command.Command.TheVariants.{Set}
use Rattle.dc_proto.specs.declared.command.Heard.TheVariants.{Known}
use Rattle.dc_session.specs.Escaping.{written_byte, written, set_line, unescaped}

-- ---- escapes are put back

unescaped_plain : (byte : ℕ) (bytes : List ℕ) → (byte == backslash) ≡ false → unescaped (byte ∷ bytes) ≡ byte ∷ unescaped bytes
unescaped_plain byte [] plain = refl
unescaped_plain byte (next ∷ bytes) plain = rw plain refl

pub escapes_put_back : (text : List ℕ) → unescaped (escaped text) ≡ text
escapes_put_back [] = refl
escapes_put_back (byte ∷ text) = by_byte (byte == backslash) (byte == newline) refl refl (escapes_put_back text) where
  by_byte : (b n : Bool) → (byte == backslash) ≡ b → (byte == newline) ≡ n → unescaped (escaped text) ≡ text → unescaped (escaped_byte byte ++ escaped text) ≡ byte ∷ text
  by_byte true n is_backslash is_newline later = rw is_backslash (let same : byte ≡ backslash = eqb-true byte backslash is_backslash in ap (λ (x : ℕ). x ∷ unescaped (escaped text)) (sym same) ∙ ap (λ (xs : List ℕ). byte ∷ xs) later)
  by_byte false true is_backslash is_newline later = rw (is_backslash, is_newline) (let same : byte ≡ newline = eqb-true byte newline is_newline in ap (λ (x : ℕ). x ∷ unescaped (escaped text)) (sym same) ∙ ap (λ (xs : List ℕ). byte ∷ xs) later)
  by_byte false false is_backslash is_newline later = rw (is_backslash, is_newline) (unescaped_plain byte (escaped text) is_backslash ∙ ap (λ (xs : List ℕ). byte ∷ xs) later)

-- ---- a line that sets a question

-- the unit that a byte is written as
abbrev unit_for : ℕ → WordUnit
unit_for byte = if is_space byte then Pair byte else if byte == backslash then Pair backslash else if byte == newline then Pair letter_n else Plain byte

abbrev units_for : List ℕ → List WordUnit
units_for bytes = each unit_for bytes

space_is_meant : (byte : ℕ) → is_space byte ≡ true → unescaped_byte byte ≡ byte
space_is_meant byte is = by_n (byte == letter_n) refl where
  by_n : (b : Bool) → (byte == letter_n) ≡ b → unescaped_byte byte ≡ byte
  by_n false other = rw other refl
  by_n true same = absurd (let n : byte ≡ letter_n = eqb-true byte letter_n same in let not_space : is_space letter_n ≡ true = subst (λ (x : ℕ). is_space x ≡ true) n is in cc)

-- what one byte is written as, what it means, and that it may stand anywhere
pub record IsWrittenBy (byte : ℕ) (unit : WordUnit) : Type 0 where
  pub spelled_is : spelled unit ≡ written_byte byte
  pub meant_is : meant unit ≡ byte
  pub anywhere : (after : List ℕ) → IsUnitBefore after unit

not_backslash : (byte : ℕ) → (byte == backslash) ≡ false → byte ≢ backslash
not_backslash byte other same = let yes : (backslash == backslash) ≡ false = subst (λ (x : ℕ). (x == backslash) ≡ false) same other in cc

one_written : (byte : ℕ) → IsWrittenBy byte (unit_for byte)
one_written byte = by_byte (is_space byte) (byte == backslash) (byte == newline) refl refl refl where
  by_byte : (s b n : Bool) → is_space byte ≡ s → (byte == backslash) ≡ b → (byte == newline) ≡ n → IsWrittenBy byte (unit_for byte)
  by_byte true b n is_s is_b is_n = rw is_s (record { spelled_is = rw is_s refl; meant_is = space_is_meant byte is_s; anywhere = λ after. tt })
  by_byte false true n is_s is_b is_n = rw (is_s, is_b) (record { spelled_is = rw (is_s, is_b) refl; meant_is = sym (eqb-true byte backslash is_b); anywhere = λ after. tt })
  by_byte false false true is_s is_b is_n = rw (is_s, is_b, is_n) (record { spelled_is = rw (is_s, is_b, is_n) refl; meant_is = sym (eqb-true byte newline is_n); anywhere = λ after. tt })
  by_byte false false false is_s is_b is_n = rw (is_s, is_b, is_n) (record { spelled_is = rw (is_s, is_b, is_n) refl; meant_is = refl; anywhere = λ after. (is_s, not_backslash byte is_b) })

spelled_for : (bytes : List ℕ) → flat_map spelled (units_for bytes) ≡ written bytes
spelled_for [] = refl
spelled_for (byte ∷ bytes) = (λ i. (one_written byte).spelled_is i ++ spelled_for bytes i)

meant_for : (bytes : List ℕ) → bytes ≡ each meant (units_for bytes)
meant_for [] = refl
meant_for (byte ∷ bytes) = (λ i. (sym (one_written byte).meant_is) i ∷ meant_for bytes i)

right_for : (bytes rest : List ℕ) → AreUnits (units_for bytes) rest
right_for [] rest = tt
right_for (byte ∷ bytes) rest = ((one_written byte).anywhere (flat_map spelled (units_for bytes) ++ rest), right_for bytes rest)

some_units : (bytes : List ℕ) → bytes ≢ [] → units_for bytes ≢ []
some_units [] some is = some refl
some_units (byte ∷ bytes) some is = cc

spelled_word : (bytes rest : List ℕ) → bytes ≢ [] → IsSpelledWord (units_for bytes) bytes rest
spelled_word bytes rest some = record { some = some_units bytes some; right = right_for bytes rest; word_is = meant_for bytes }

module _ (question text : List ℕ) (some_question : question ≢ []) (some_text : text ≢ []) where
  last_word : EscapedWords (space ∷ written text) (text ∷ [])
  last_word = (space ∷ [], units_for text, [], ap (λ (xs : List ℕ). space ∷ xs) (sym (append-nil (written text)) ∙ ap (λ (xs : List ℕ). xs ++ []) (sym (spelled_for text))), refl, spelled_word text [] some_text, tt, refl)

  later_words : EscapedWords (space ∷ written question ++ space ∷ written text) (question ∷ text ∷ [])
  later_words =
      (space ∷ [], units_for question, space ∷ written text, ap (λ (xs : List ℕ). space ∷ xs ++ space ∷ written text) (sym (spelled_for question)), refl, spelled_word question (space ∷ written text) some_question, refl, last_word)

  all_words : EscapedWords (set_line question text) (codes "SET" ∷ question ∷ text ∷ [])
  all_words =
      ([], units_for (codes "SET"), space ∷ written question ++ space ∷ written text, refl, refl, spelled_word (codes "SET") (space ∷ written question ++ space ∷ written text) (λ none. cc), refl, later_words)

  pub line_heard : heard true (set_line question text) ≡ Known (Set question text)
  line_heard =
      ap heard_words (sym ((words_of_one (set_line question text) (codes "SET" ∷ question ∷ text ∷ [])).0 all_words))
      ∙ ap (λ (value : List ℕ). Known (Set question value)) (append-nil text)
