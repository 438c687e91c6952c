-- Under which keys a field is looked for in a language.
use Rattle.std.specs.Prelude.{ℕ, Bool, not, ◌&&◌, ◌||◌, ◌==◌, nat_le, List, [], ◌∷◌, ◌++◌, map, length, codes, if◌then◌else◌}
use Rattle.std.specs.List.{list_any, list_all, filter, flat_map, before_first}
use Rattle.std.specs.Str.{bytes_eq}
use Rattle.dc_text.specs.Ascii.{dash, dot, at_sign, underscore}
use Rattle.dc_text.specs.Bytes.{lower, is_nil}
use Rattle.dc_text.specs.Names.{is_lower_letter}

-- a language without its encoding and variant, in lower case: `de_at` of `de_AT.UTF-8`
abbrev pub language_of : List ℕ → List ℕ
language_of lang = map lower (before_first (λ byte. byte == dot || byte == at_sign) lang)

-- a letter, a digit, `_` or `-`
abbrev pub is_language_byte : ℕ → Bool
is_language_byte byte = is_lower_letter byte || ((nat_le 48 byte && nat_le byte 57) || (byte == underscore || byte == dash))

-- not empty, `c` or `posix`, and of such bytes alone
abbrev pub is_language : List ℕ → Bool
is_language language =
    not (is_nil language || (bytes_eq language (codes "c") || bytes_eq language (codes "posix"))) && list_all is_language_byte language

-- the language, and the part before its first underscore: `de_at` and `de`
abbrev pub with_shorter : List ℕ → List (List ℕ)
with_shorter language =
    if list_any (λ byte. byte == underscore) language then language ∷ before_first (λ byte. byte == underscore) language ∷ [] else language ∷ []

-- the keys in a language, that for UTF-8 texts first
abbrev pub localised_keys : List ℕ → List ℕ → List (List ℕ)
localised_keys key language = (key ++ dash ∷ language ++ codes ".utf-8") ∷ (key ++ dash ∷ language) ∷ []

-- as long as a key may be
abbrev pub is_short : List ℕ → Bool
is_short key = nat_le (length key) 64

-- the keys in the languages of a user's language, without those that would be too long, and then the plain key
abbrev pub keys_tried_of : List ℕ → List ℕ → List (List ℕ)
keys_tried_of lang key =
    (if is_language (language_of lang) then filter is_short (flat_map (localised_keys key) (with_shorter (language_of lang))) else []) ++ key ∷ []
