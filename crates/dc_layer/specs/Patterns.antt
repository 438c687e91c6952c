-- Patterns (debconf.conf(5)): which texts are patterns, and in which bytes each is found.
use Rattle.std.specs.Prelude.{◌≡◌, ℕ, ◌-◌, ◌<◌, Bool, true, false, ◌&&◌, ◌||◌, ◌==◌, nat_eq, nat_le, is_some, List, [], ◌∷◌, ◌++◌, Option, Some, None, map as each, take, length, slice_index, chars, codes, if◌then◌else◌}
use Rattle.std.specs.Char.{is_ascii_alphanumeric}
use Rattle.std.specs.List.{list_all, ends_with}
use Rattle.std.specs.Str.{bytes_eq, is_utf8}
use Rattle.dc_text.specs.Bytes.{lower}
use Rattle.regex.specs.Patterns.{Re, Config, find, default_config}
use Rattle.regex.specs.Bytes.{regex_pattern}
use Rattle.regex.specs.declared.bytes.regex.Regex.{Regex}
use Rattle.regex_syntax.specs.Brackets.{Nested}
use Rattle.regex_syntax.specs.Grammar.{Names, read}

-- ---- plain patterns

-- a letter, a digit, `/`, `-`, `_` or `:`
abbrev pub is_plain_byte : ℕ → Bool
is_plain_byte byte = is_ascii_alphanumeric byte || (byte == 47 || (byte == 45 || (byte == 95 || byte == 58)))

-- with a `^` at the front
abbrev pub is_at_front : List ℕ → Bool
is_at_front [] = false
is_at_front (byte ∷ bytes) = byte == 94

-- with a `$` at the end
abbrev pub is_at_end : List ℕ → Bool
is_at_end text = ends_with nat_eq text (codes "$")

-- without the `^`, if it is there
abbrev pub without_front : List ℕ → List ℕ
without_front [] = []
without_front (byte ∷ bytes) = if byte == 94 then bytes else byte ∷ bytes

-- without the `$`, if it is there
abbrev pub without_end : List ℕ → List ℕ
without_end text = if is_at_end text then take (length text - 1) text else text

-- what remains of a pattern without one `^` at its front and one `$` at its end
abbrev pub core_of : List ℕ → List ℕ
core_of text = without_end (without_front text)

-- A plain pattern: its core has none but these bytes.
abbrev pub is_plain : List ℕ → Bool
is_plain text = list_all is_plain_byte (core_of text)

-- the bytes as they are compared: with letters in lower case, where case is ignored
abbrev pub spelled : Bool → List ℕ → List ℕ
spelled ignore_case bytes = if ignore_case then each lower bytes else bytes

-- the core stands at the front of the bytes, or is all of them where it must stand at their end
abbrev pub stands : Bool → Bool → List ℕ → List ℕ → Bool
stands ignore_case at_end core bytes =
    bytes_eq (spelled ignore_case (if at_end then bytes else take (length core) bytes)) (spelled ignore_case core)

-- the core stands at some place of the bytes
abbrev pub stands_somewhere : Bool → Bool → List ℕ → List ℕ → Bool
stands_somewhere ignore_case at_end core [] = stands ignore_case at_end core []
stands_somewhere ignore_case at_end core (byte ∷ bytes) =
    stands ignore_case at_end core (byte ∷ bytes) || stands_somewhere ignore_case at_end core bytes

-- A plain pattern is found where its core stands: at the front of the bytes, where it has the `^`, and else at some place.
abbrev pub is_found_plainly : Bool → List ℕ → List ℕ → Bool
is_found_plainly ignore_case text bytes =
    if is_at_front text then stands ignore_case (is_at_end text) (core_of text) bytes
    else stands_somewhere ignore_case (is_at_end text) (core_of text) bytes

-- the bytes part in three, of which the middle spells the core; it stands at the front and at the end where it must
pub record IsParted (ignore_case at_front at_end : Bool) (core bytes : List ℕ) : Type 0 where
  pub before : List ℕ
  pub middle : List ℕ
  pub after : List ℕ
  pub whole : bytes ≡ before ++ (middle ++ after)
  pub spells : spelled ignore_case middle ≡ spelled ignore_case core
  pub front : at_front ≡ true → before ≡ []
  pub end : at_end ≡ true → after ≡ []

-- ---- other patterns

-- as `regex` reads a pattern for bytes, with letters in either case where case is ignored
abbrev pub options : Bool → Config
options ignore_case =
    record default_config { flags = record default_config.flags { case_insensitive = ignore_case }; utf8 = false }

-- what `regex` reads in the text, if it is a pattern
abbrev pub reading : Bool → List ℕ → Option (Nested Re × Names)
reading ignore_case text = read (options ignore_case) (chars text)

-- there is a pattern, and it isn't nested too deeply
abbrev pub is_built : Option (Nested Re × Names) → Bool
is_built None = false
is_built (Some (pattern, names)) = nat_le pattern.depth 250

-- there is a pattern, and it matches somewhere in the bytes
abbrev pub matches_in : Option (Nested Re × Names) → List ℕ → Bool
matches_in None bytes = false
matches_in (Some (pattern, names)) bytes = is_some (find pattern.value bytes 0)

-- ---- both

-- A pattern: a plain one, or UTF-8 that `regex` reads as one.
abbrev pub is_pattern : Bool → List ℕ → Bool
is_pattern ignore_case text = is_plain text || (is_utf8 text && is_built (reading ignore_case text))

-- the pattern is found in the bytes
abbrev pub is_found : Bool → List ℕ → List ℕ → Bool
is_found ignore_case text bytes =
    if is_plain text then is_found_plainly ignore_case text bytes else matches_in (reading ignore_case text) bytes

-- ---- what is built of a pattern

-- what callers see of a pattern
pub record Sought : Type 0 where
  pub text : List ℕ
  pub ignore_case : Bool

-- the regex is what is read in the text, and matches where that does
pub record IsReadIn (ignore_case : Bool) (text : List ℕ) (regex : Regex) : Type 0 where
  pub pattern : is_pattern ignore_case text ≡ true
  pub matches : (bytes : List ℕ) → ((k : ℕ) → slice_index bytes k < 256) →
      is_some (find (regex_pattern regex) bytes 0) ≡ matches_in (reading ignore_case text) bytes

-- a plain pattern has no regex, and any other has the one that is read in its text
abbrev pub HasItsRegex : Bool → List ℕ → Option Regex → Type 0
HasItsRegex ignore_case text None = is_plain text ≡ true
HasItsRegex ignore_case text (Some regex) = (is_plain text ≡ false) × IsReadIn ignore_case text regex
