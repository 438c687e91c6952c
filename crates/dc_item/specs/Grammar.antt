-- What one line of a database text says, wherever it stands.
use Rattle.std.specs.Prelude.{ℕ, ◌==◌, List, map, codes, if◌then◌else◌}
use Rattle.std.specs.List.{list_all, list_any, slice_split, flat_map, before_first, after_first}
use Rattle.std.specs.Str.{bytes_eq}
use Rattle.dc_text.specs.Ascii.{comma, colon, equals_sign}
use Rattle.dc_text.specs.Bytes.{is_blank, is_indented, trimmed, without_space, lower}
use Rattle.dc_text.specs.Lines.{unless_empty}
use Rattle.dc_text.specs.Names.{is_name, is_field_key, is_flag_name, is_variable_key}
use Rattle.dc_text.specs.Settled.{settled}

-- what a line says, wherever it stands
pub data RecordLine : Type 0 where
  Blank : RecordLine
  Name : (name : List ℕ) → RecordLine
  Owners : (names : List (List ℕ)) → RecordLine
  Flags : (flags : List (List ℕ)) → RecordLine
  -- it heads the variables
  Variables : RecordLine
  Variable : (key value : List ℕ) → RecordLine
  Field : (key value : List ℕ) → RecordLine
  -- it has no reading
  Nothing : RecordLine

-- the pieces between commas, each trimmed, without empty ones
abbrev pub pieces : List ℕ → List (List ℕ)
pieces rest = flat_map (λ piece. unless_empty (trimmed piece)) (slice_split (λ byte. byte == comma) rest)

-- `Name: N`
abbrev pub name_line : List ℕ → RecordLine
name_line rest = if is_name (trimmed rest) then Name (trimmed rest) else Nothing

-- `Owners: A, B`
abbrev pub owners_line : List ℕ → RecordLine
owners_line rest = if list_all is_name (pieces rest) then Owners (pieces rest) else Nothing

-- `Flags: F, G`
abbrev pub flags_line : List ℕ → RecordLine
flags_line rest = if list_all is_flag_name (pieces rest) then Flags (pieces rest) else Nothing

-- `Variables:`
abbrev pub variables_line : List ℕ → RecordLine
variables_line rest = if is_blank rest then Variables else Nothing

-- `Key: V`
abbrev pub field_line : List ℕ → List ℕ → RecordLine
field_line key rest = if is_field_key key then Field key (settled (without_space rest)) else Nothing

-- a line by the word before its colon, in lower case, and the rest after it
abbrev pub headed_line : List ℕ → List ℕ → RecordLine
headed_line word rest =
    if bytes_eq word (codes "name") then name_line rest
    else if bytes_eq word (codes "owners") then owners_line rest
    else if bytes_eq word (codes "flags") then flags_line rest
    else if bytes_eq word (codes "variables") then variables_line rest
    else field_line word rest

-- ` K = V`, by what stands before and after its first `=`
abbrev pub variable_line : List ℕ → List ℕ → RecordLine
variable_line key rest = if is_variable_key key then Variable key (settled (without_space rest)) else Nothing

abbrev pub indented_line : List ℕ → RecordLine
indented_line line =
    if list_any (λ byte. byte == equals_sign) line
    then variable_line (trimmed (before_first (λ byte. byte == equals_sign) line)) (after_first (λ byte. byte == equals_sign) line)
    else Nothing

-- what a line says
abbrev pub line_said : List ℕ → RecordLine
line_said line =
    if is_blank line then Blank
    else if is_indented line then indented_line line
    else if list_any (λ byte. byte == colon) line
    then headed_line (map lower (before_first (λ byte. byte == colon) line)) (after_first (λ byte. byte == colon) line)
    else Nothing
