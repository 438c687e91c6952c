-- What the reader does with one line, as a function. The proofs alone speak of it.
use Rattle.std.specs.Prelude.{◌≡◌, true, false, not, ◌&&◌, List, [], ◌∷◌, ◌++◌, Option, Some, None, is_none, Result, Ok, Err, if◌then◌else◌}
use Rattle.std.specs.List.{list_any}
use Rattle.std.specs.Str.{bytes_eq}
use Rattle.dc_template.specs.Kinds.{kind_of}
use Rattle.dc_template.specs.Forms.{type_word, is_description, forms}
use Rattle.dc_template.specs.TemplateFaults.{until_blank, sets_type}
use Rattle.dc_template.specs.declared.forms.Form.{Form}
use Rattle.dc_template.specs.declared.forms.Form.TheVariants.{Blank, Indented, Colonless, Unkeyed, Unnamed, Heads, Sets}
use Rattle.dc_template.specs.declared.forms.Line.{Line}
use Rattle.dc_template.specs.declared.checking.Seen.{Seen}
use Rattle.dc_template.specs.declared.faults.TemplateKind.{TemplateKind}
use Rattle.dc_template.specs.declared.faults.TemplateKind.TheVariants.{NoColon, BadKey, NoTemplate, BadName, NoType, BadType, Twice, StrayIndent}
use Rattle.dc_template.specs.declared.faults.TemplateError.{TemplateError}
use Rattle.dc_template.specs.declared.faults.TemplateError.TheVariants.{Bad, OutOfMemory}

abbrev pub fault_seen : Seen → Form → List Form → Option TemplateKind
fault_seen s Blank after = None
fault_seen s (Indented row) after = if not s.is_open then Some NoTemplate else if s.describes then None else Some StrayIndent
fault_seen s Colonless after = Some NoColon
fault_seen s Unkeyed after = Some BadKey
fault_seen s Unnamed after = Some BadName
fault_seen s (Heads name) after =
    if s.is_open then Some Twice
    else if not (list_any sets_type (until_blank after)) then Some NoType
    else if list_any (bytes_eq name) s.names then Some Twice
    else None
fault_seen s (Sets key value) after =
    if not s.is_open then Some NoTemplate
    else if bytes_eq key type_word && is_none (kind_of value) then Some BadType
    else if list_any (bytes_eq key) s.keys then Some Twice
    else None

abbrev pub noted : Seen → Form → Seen
noted s Blank = record s { keys = []; is_open = false; describes = false }
noted s (Heads name) = record s { names = s.names ++ name ∷ []; is_open = true; describes = false }
noted s (Sets key value) = record s { keys = s.keys ++ key ∷ []; describes = is_description key }
noted s _ = s

abbrev pub at_start : Seen
at_start = record { names = []; keys = []; is_open = false; describes = false }

abbrev pub step_by : Option TemplateKind → Seen → Line → Result Seen (Line × TemplateKind)
step_by None s line = Ok (noted s line.form)
step_by (Some kind) s line = Err (line, kind)

abbrev pub step : Seen → Line → List Line → Result Seen (Line × TemplateKind)
step s line after = step_by (fault_seen s line.form (forms after)) s line

-- An error of the reader says what the machine says, unless memory ran out.
abbrev pub Fails : TemplateError → Result Seen (Line × TemplateKind) → Type 0
Fails (Bad number kind) found = (line : Line) × (line.number ≡ number) × (found ≡ Err (line, kind))
Fails OutOfMemory found = Unit {0}
