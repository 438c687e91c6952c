-- What a confmodule in escape mode writes and reads (debconf-devel(7), CAPB).
use Rattle.std.specs.Prelude.{ℕ, List, [], ◌∷◌, ◌++◌, ◌==◌, if◌then◌else◌, codes}
use Rattle.std.specs.List.{flat_map}
use Rattle.dc_text.specs.Ascii.{backslash, space}
use Rattle.dc_text.specs.Bytes.{is_space}
use Rattle.dc_words.specs.Escaped.{escaped_byte, unescaped_byte}

-- whitespace is written behind a backslash, and every other byte as it is escaped
abbrev pub written_byte : ℕ → List ℕ
written_byte byte = if is_space byte then backslash ∷ byte ∷ [] else escaped_byte byte

abbrev pub written : List ℕ → List ℕ
written bytes = flat_map written_byte bytes

-- a line that sets a question to a text, whatever bytes it has
abbrev pub set_line : List ℕ → List ℕ → List ℕ
set_line question text = codes "SET " ++ written question ++ space ∷ written text

-- the text that an escaped one stands for: a backslash and an n are a newline, and a backslash before any other byte is that byte
abbrev pub unescaped : List ℕ → List ℕ
unescaped [] = []
unescaped (byte ∷ []) = byte ∷ []
unescaped (byte ∷ next ∷ bytes) = if byte == backslash then unescaped_byte next ∷ unescaped bytes else byte ∷ unescaped (next ∷ bytes)
