-- Which fault a line of a job text has where it stands.
use Rattle.std.specs.Prelude.{◌≡◌, Bool, true, false, not, ◌&&◌, ◌||◌, nat_le, List, [], ◌∷◌, length, Option, Some, None}
use Rattle.std.specs.List.{list_any, find, before_first, after_last}
use Rattle.std.specs.Str.{bytes_eq}
use Rattle.dc_text.specs.Bytes.{is_nil}
use Rattle.dc_text.specs.Names.{is_name}
use Rattle.dc_batch.specs.Forms.{forms}
use Rattle.dc_batch.specs.Jobs.{is_blank_form, stanzas, is_field, has_field, values_of}
use Rattle.dc_batch.specs.declared.faults.JobKind.{JobKind}
use Rattle.dc_batch.specs.declared.faults.JobKind.TheVariants.{NoColon, UnknownField, Twice, TooMany, NoPackage, BadName, EmptyField, NoWork}
use Rattle.dc_batch.specs.declared.forms.Field.TheVariants.{Package, Templates, Config}
use Rattle.dc_batch.specs.declared.forms.Form.{Form}
use Rattle.dc_batch.specs.declared.forms.Form.TheVariants.{Colonless, Unknown, Sets}
use Rattle.dc_batch.specs.declared.forms.Line.{Line}

-- ---- the stanza of a line

-- the lines since the last blank one
abbrev pub since_blank : List Form → List Form
since_blank lines = after_last is_blank_form lines

-- the lines before the first blank one
abbrev pub until_blank : List Form → List Form
until_blank lines = before_first is_blank_form lines

-- the line is the first of a stanza
abbrev pub begins : List Form → Form → Bool
begins before line = not (is_blank_form line) && is_nil (since_blank before)

-- ---- the faults

-- a line without a colon
abbrev pub lacks_colon : Form → Bool
lacks_colon Colonless = true
lacks_colon _ = false

-- a line whose text before the colon is no field
abbrev pub is_unknown : Form → Bool
is_unknown Unknown = true
is_unknown _ = false

-- a field that its stanza has already, or a package that an earlier line names
abbrev pub repeats : List Form → Form → Bool
repeats before (Sets field value) =
    has_field field (since_blank before) || (is_field Package field && list_any (bytes_eq value) (values_of Package before))
repeats before _ = false

-- as many stanzas as there may be stand before
abbrev pub is_past_most : List Form → Bool
is_past_most before = nat_le 256 (length (stanzas before))

-- a Package line whose value isn't a name
abbrev pub has_bad_name : Form → Bool
has_bad_name (Sets field value) = is_field Package field && not (is_name value)
has_bad_name _ = false

-- a Templates or Config line without a value
abbrev pub is_empty_field : Form → Bool
is_empty_field (Sets field value) = not (is_field Package field) && is_nil value
is_empty_field _ = false

-- some line says which templates to load, or what to run
abbrev pub has_work : List Form → Bool
has_work lines = has_field Templates lines || has_field Config lines

-- whether a line has a fault, between the lines before it and those after it, the other faults aside
abbrev pub has_fault : List Form → Form → List Form → JobKind → Bool
has_fault before line after NoColon = lacks_colon line
has_fault before line after UnknownField = is_unknown line
has_fault before line after Twice = repeats before line
has_fault before line after TooMany = begins before line && is_past_most before
has_fault before line after NoPackage = begins before line && not (has_field Package (line ∷ until_blank after))
has_fault before line after BadName = has_bad_name line
has_fault before line after EmptyField = is_empty_field line
has_fault before line after NoWork = begins before line && not (has_work (line ∷ until_blank after))

-- the faults, in the order in which they decide at one line
abbrev pub all_kinds : List JobKind
all_kinds = NoColon ∷ UnknownField ∷ Twice ∷ TooMany ∷ NoPackage ∷ BadName ∷ EmptyField ∷ NoWork ∷ []

-- the first of its faults
abbrev pub fault : List Form → Form → List Form → Option JobKind
fault before line after = find (has_fault before line after) all_kinds

-- the line stands where it does: it has no fault there
abbrev pub Stands : List Line → Line → List Line → Type 0
Stands before line after = fault (forms before) line.form (forms after) ≡ None

-- the line has this fault where it stands
abbrev pub HasFault : List Line → Line → List Line → JobKind → Type 0
HasFault before line after kind = fault (forms before) line.form (forms after) ≡ Some kind
