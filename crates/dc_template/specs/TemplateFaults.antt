-- Which fault a line of a template file has where it stands.
use Rattle.std.specs.Prelude.{◌≡◌, ℕ, Bool, true, false, not, ◌&&◌, ◌||◌, List, [], ◌∷◌, Option, Some, None, is_none, if◌then◌else◌}
use Rattle.std.specs.List.{list_any, list_all, filter_map, before_first, after_last}
use Rattle.std.specs.Str.{bytes_eq}
use Rattle.dc_text.specs.Bytes.{is_nil}
use Rattle.dc_template.specs.Kinds.{kind_of}
use Rattle.dc_template.specs.Forms.{type_word, is_description, forms}
use Rattle.dc_template.specs.declared.forms.Form.{Form}
use Rattle.dc_template.specs.declared.forms.Form.TheVariants.{Blank, Indented, Colonless, Unkeyed, Unnamed, Heads, Sets}
use Rattle.dc_template.specs.declared.forms.Line.{Line}
use Rattle.dc_template.specs.declared.faults.TemplateKind.{TemplateKind}
use Rattle.dc_template.specs.declared.faults.TemplateKind.TheVariants.{NoColon, BadKey, NoTemplate, BadName, NoType, BadType, Twice, StrayIndent}

-- ---- the stanza of a line

abbrev pub is_blank_form : Form → Bool
is_blank_form Blank = true
is_blank_form _ = false

-- the lines since the last blank one
abbrev pub since_blank : List Form → List Form
since_blank lines = after_last is_blank_form lines

-- the lines before the first blank one
abbrev pub until_blank : List Form → List Form
until_blank lines = before_first is_blank_form lines

-- no line of the stanza comes before
abbrev pub begins_stanza : List Form → Bool
begins_stanza before = is_nil (since_blank before)

abbrev pub name_in : Form → Option (List ℕ)
name_in (Heads name) = Some name
name_in _ = None

abbrev pub key_in : Form → Option (List ℕ)
key_in (Sets key value) = Some key
key_in _ = None

abbrev pub sets_type : Form → Bool
sets_type (Sets key value) = bytes_eq key type_word
sets_type _ = false

abbrev pub is_indented_form : Form → Bool
is_indented_form (Indented row) = true
is_indented_form _ = false

abbrev pub sets_description : Form → Bool
sets_description (Sets key value) = is_description key
sets_description _ = false

-- the last of these lines that isn't indented is that of a description
abbrev pub ends_in_description : List Form → Bool
ends_in_description [] = false
ends_in_description (line ∷ lines) = if list_all is_indented_form lines then sets_description line else ends_in_description lines

-- ---- the faults

-- a line that isn't indented and has no colon
abbrev pub lacks_colon : Form → Bool
lacks_colon Colonless = true
lacks_colon _ = false

-- a line whose text before the colon is neither `Template` nor a key that a line may have
abbrev pub has_bad_key : Form → Bool
has_bad_key Unkeyed = true
has_bad_key _ = false

abbrev pub may_begin : Form → Bool
may_begin Blank = true
may_begin Unnamed = true
may_begin (Heads name) = true
may_begin _ = false

-- the first line of a stanza that isn't a Template line
abbrev pub lacks_template : List Form → Form → Bool
lacks_template before line = begins_stanza before && not (may_begin line)

-- a Template line whose value isn't a name
abbrev pub has_bad_name : Form → Bool
has_bad_name Unnamed = true
has_bad_name _ = false

-- the Template line of a stanza without `type`
abbrev pub lacks_type : List Form → Form → List Form → Bool
lacks_type before (Heads name) after = begins_stanza before && not (list_any sets_type (until_blank after))
lacks_type before _ after = false

-- the line of `type` with a word that names no kind
abbrev pub has_bad_type : Form → Bool
has_bad_type (Sets key value) = bytes_eq key type_word && is_none (kind_of value)
has_bad_type _ = false

-- a key that a line of the stanza has, a further Template line of the stanza, or one whose name an earlier stanza has
abbrev pub repeats : List Form → Form → Bool
repeats before (Heads name) = not (begins_stanza before) || list_any (bytes_eq name) (filter_map name_in before)
repeats before (Sets key value) = list_any (bytes_eq key) (filter_map key_in (since_blank before))
repeats before _ = false

-- an indented line under another field than a description
abbrev pub strays : List Form → Form → Bool
strays before (Indented row) = not (ends_in_description (since_blank before))
strays before _ = false

-- the first of these faults that a line has, between the lines before it and those after it
abbrev pub fault : List Form → Form → List Form → Option TemplateKind
fault before line after =
    if lacks_colon line then Some NoColon
    else if has_bad_key line then Some BadKey
    else if lacks_template before line then Some NoTemplate
    else if has_bad_name line then Some BadName
    else if lacks_type before line after then Some NoType
    else if has_bad_type line then Some BadType
    else if repeats before line then Some Twice
    else if strays before line then Some StrayIndent
    else None

-- a line stands where it does, or has this fault there
abbrev pub Stands : List Line → Line → List Line → Type 0
Stands before line after = fault (forms before) line.form (forms after) ≡ None

abbrev pub HasFault : List Line → Line → List Line → TemplateKind → Type 0
HasFault before line after kind = fault (forms before) line.form (forms after) ≡ Some kind
