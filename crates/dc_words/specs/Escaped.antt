-- Escapes, and the words of a command line in escape mode.
use Rattle.std.specs.Prelude.{◌≡◌, ◌≢◌, ℕ, Bool, true, false, List, [], ◌∷◌, ◌++◌, ◌==◌, ◌↔◌, ⊤, map, if◌then◌else◌}
use Rattle.std.specs.List.{slice_split, flat_map}
use Rattle.dc_text.specs.Ascii.{newline, backslash, letter_n}
use Rattle.dc_text.specs.Bytes.{is_space, is_blank}
use Rattle.dc_words.specs.declared.escaping.LineUnit.{LineUnit}
use Rattle.dc_words.specs.declared.escaping.LineUnit.TheVariants.{Space, Byte}
use Rattle.dc_words.specs.Words.{IsWordEnd, some_word}

-- a backslash is written as two, and a newline as a backslash and an n
abbrev pub escaped_byte : ℕ → List ℕ
escaped_byte byte =
    if byte == backslash then backslash ∷ backslash ∷ []
    else if byte == newline then backslash ∷ letter_n ∷ []
    else byte ∷ []

abbrev pub escaped : List ℕ → List ℕ
escaped bytes = flat_map escaped_byte bytes

-- what a backslash and this byte stand for: before an n a newline, and before any other byte that byte
abbrev pub unescaped_byte : ℕ → ℕ
unescaped_byte byte = if byte == letter_n then newline else byte

-- a byte that no backslash stands before
abbrev pub unit_of : ℕ → LineUnit
unit_of byte = if is_space byte then Space else Byte byte

-- a backslash and the next byte are one unit, and a backslash that ends the line stands for itself
abbrev pub units_of : List ℕ → List LineUnit
units_of [] = []
units_of (byte ∷ []) = unit_of byte ∷ []
units_of (byte ∷ next ∷ bytes) =
    if byte == backslash then Byte (unescaped_byte next) ∷ units_of bytes else unit_of byte ∷ units_of (next ∷ bytes)

abbrev pub is_space_unit : LineUnit → Bool
is_space_unit Space = true
is_space_unit (Byte byte) = false

-- the bytes that the units stand for
abbrev pub bytes_of : List LineUnit → List ℕ
bytes_of [] = []
bytes_of (Space ∷ units) = bytes_of units
bytes_of (Byte byte ∷ units) = byte ∷ bytes_of units

-- the words of a line: what stands between whitespace and isn't empty
abbrev pub escaped_words_of : List ℕ → List (List ℕ)
escaped_words_of line = flat_map some_word (map bytes_of (slice_split is_space_unit (units_of line)))

-- ---- a line by gaps and spelled words

-- a unit of a spelled word: a byte as it is, a backslash with its next byte, or a backslash that ends the line
pub data WordUnit : Type 0 where
  Plain : ℕ → WordUnit
  Pair : ℕ → WordUnit
  LastBackslash : WordUnit

abbrev pub spelled : WordUnit → List ℕ
spelled (Plain byte) = byte ∷ []
spelled (Pair next) = backslash ∷ next ∷ []
spelled LastBackslash = backslash ∷ []

-- the byte that a unit stands for
abbrev pub meant : WordUnit → ℕ
meant (Plain byte) = byte
meant (Pair next) = unescaped_byte next
meant LastBackslash = backslash

-- the unit may stand before these bytes, with which the line ends
abbrev pub IsUnitBefore : List ℕ → WordUnit → Type 0
IsUnitBefore after (Plain byte) = (is_space byte ≡ false) × (byte ≢ backslash)
IsUnitBefore after (Pair next) = ⊤
IsUnitBefore after LastBackslash = after ≡ []

-- the units may stand in turn, before the rest of the line
abbrev pub AreUnits : List WordUnit → List ℕ → Type 0
AreUnits [] rest = ⊤
AreUnits (unit ∷ units) rest = IsUnitBefore (flat_map spelled units ++ rest) unit × AreUnits units rest

-- the units spell the word, at least one
pub record IsSpelledWord (units : List WordUnit) (word rest : List ℕ) : Type 0 where
  pub some : units ≢ []
  pub right : AreUnits units rest
  pub word_is : word ≡ map meant units

-- The line is gaps and spelled words in turn. A gap is whitespace, and a gap between two words isn't empty.
abbrev pub EscapedWords : List ℕ → List (List ℕ) → Type 0
EscapedWords line [] = is_blank line ≡ true
EscapedWords line (word ∷ words) = (gap : List ℕ) × (units : List WordUnit) × (rest : List ℕ) × (line ≡ gap ++ flat_map spelled units ++ rest) × (is_blank gap ≡ true) × IsSpelledWord units word rest × IsWordEnd rest × EscapedWords rest words

-- a line has these words and no others
abbrev pub IsEscapedWordsOf : List (List ℕ) → List ℕ → Type 0
IsEscapedWordsOf words line = EscapedWords line words ↔ (words ≡ escaped_words_of line)

-- what is escaped is one word, the bytes that it was
abbrev pub IsOneWordEscaped : List ℕ → Type 0
IsOneWordEscaped bytes = escaped_words_of (escaped bytes) ≡ bytes ∷ []
