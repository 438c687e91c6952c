-- Names of questions, templates and owners, and the keys of fields, flags and variables: which bytes they are.
use Rattle.std.specs.Prelude.{ℕ, Bool, false, not, ◌||◌, ◌&&◌, ◌==◌, nat_le, List, [], ◌∷◌, length, codes}
use Rattle.std.specs.List.{list_all, slice_split}
use Rattle.std.specs.Str.{bytes_eq}
use Rattle.dc_text.specs.Ascii.{comma, dash, dot, slash, equals_sign, at_sign, underscore, closing_brace}

-- printable ASCII other than a space
abbrev pub is_visible : ℕ → Bool
is_visible byte = nat_le 33 byte && nat_le byte 126

-- 1 to this many bytes
abbrev pub has_length : ℕ → List ℕ → Bool
has_length most bytes = nat_le 1 (length bytes) && nat_le (length bytes) most

-- 1 to this many bytes, each of which passes
abbrev pub is_word : ℕ → (ℕ → Bool) → List ℕ → Bool
is_word most passes bytes = has_length most bytes && list_all passes bytes

-- visible, and no comma
abbrev pub is_name_byte : ℕ → Bool
is_name_byte byte = is_visible byte && not (byte == comma)

-- not empty, `.` or `..`
abbrev pub is_name_part : List ℕ → Bool
is_name_part part = not (bytes_eq part [] || (bytes_eq part (codes ".") || bytes_eq part (codes "..")))

-- A name: 1 to 255 visible bytes without a comma. Its parts between slashes are never empty, `.` or `..`.
abbrev pub is_name : List ℕ → Bool
is_name bytes = is_word 255 is_name_byte bytes && list_all is_name_part (slice_split (λ byte. byte == slash) bytes)

-- The name of a flag: 1 to 255 visible bytes without a comma.
abbrev pub is_flag_name : List ℕ → Bool
is_flag_name bytes = is_word 255 is_name_byte bytes

-- visible, and neither `=` nor `}`
abbrev pub is_variable_byte : ℕ → Bool
is_variable_byte byte = is_visible byte && not (byte == equals_sign || byte == closing_brace)

-- The key of a variable: 1 to 255 visible bytes without `=` and `}`.
abbrev pub is_variable_key : List ℕ → Bool
is_variable_key bytes = is_word 255 is_variable_byte bytes

abbrev pub is_lower_letter : ℕ → Bool
is_lower_letter byte = nat_le 97 byte && nat_le byte 122

-- a lower-case letter, a digit, `-`, `_`, `.` or `@`
abbrev pub is_key_byte : ℕ → Bool
is_key_byte byte =
    is_lower_letter byte || ((nat_le 48 byte && nat_le byte 57) || (byte == dash || (byte == underscore || (byte == dot || byte == at_sign))))

abbrev pub begins_with_letter : List ℕ → Bool
begins_with_letter [] = false
begins_with_letter (byte ∷ bytes) = is_lower_letter byte

-- a word that heads a line of its own kind in a record
abbrev pub is_reserved : List ℕ → Bool
is_reserved word = bytes_eq word (codes "name") || (bytes_eq word (codes "owners") || (bytes_eq word (codes "flags") || bytes_eq word (codes "variables")))

-- The key of a field, in lower case: 1 to 64 bytes, a letter, then letters, digits, `-`, `_`, `.` and `@`. It is none of
-- the four words that head a line of their own.
abbrev pub is_field_key : List ℕ → Bool
is_field_key key = begins_with_letter key && (is_word 64 is_key_byte key && not (is_reserved key))
