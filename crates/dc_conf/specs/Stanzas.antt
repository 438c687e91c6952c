-- The stanzas of a configuration (debconf.conf(5)): runs of lines between blank lines, comments passed over.
use Rattle.std.specs.Prelude.{ℕ, ◌+◌, Bool, false, not, List, [], ◌∷◌, Option, map as each, ◌==◌}
use Rattle.std.specs.List.{filter, find, list_any, slice_split, before_first, after_first}
use Rattle.std.specs.Str.{bytes_eq}
use Rattle.dc_text.specs.Bytes.{is_blank, trimmed, lower, is_nil}
use Rattle.dc_text.specs.Lines.{lines_of}
use Rattle.dc_conf.specs.declared.fields.Field.{Field}

-- a line of a text, and its number, from 1
pub record Line : Type 0 where
  pub number : ℕ
  pub text : List ℕ

abbrev pub numbered : ℕ → List (List ℕ) → List Line
numbered from [] = []
numbered from (text ∷ texts) = record { number = from; text = text } ∷ numbered (from + 1) texts

-- begins with `#`
abbrev pub is_comment : List ℕ → Bool
is_comment [] = false
is_comment (byte ∷ bytes) = byte == 35

-- the longest runs of lines that aren't blank, where comments are passed over
abbrev pub stanzas : List ℕ → List (List Line)
stanzas text =
    filter (λ lines. not (is_nil lines)) (slice_split (λ line. is_blank line.text)
    (filter (λ line. not (is_comment line.text)) (numbered 1 (lines_of text))))

abbrev pub has_colon : List ℕ → Bool
has_colon text = list_any (λ byte. byte == 58) text

-- what a line with a colon says: before its first colon the key, which is read without regard to case, and after it the value
abbrev pub field_in : Line → Field
field_in line = record {
  line = line.number;
  key = each lower (trimmed (before_first (λ byte. byte == 58) line.text));
  value = trimmed (after_first (λ byte. byte == 58) line.text);
}

-- a stanza: the fields of its lines
abbrev pub Stanza : Type 0
Stanza = List Field

abbrev pub fields_of : List Line → Stanza
fields_of lines = each field_in (filter (λ line. has_colon line.text) lines)

-- the field with this key, if the stanza has it
abbrev pub field_at : List ℕ → Stanza → Option Field
field_at key stanza = find (λ field. bytes_eq field.key key) stanza

-- the line on which a stanza begins, and 1 where there is no stanza
abbrev pub first_line : Stanza → ℕ
first_line [] = 1
first_line (field ∷ fields) = field.line
