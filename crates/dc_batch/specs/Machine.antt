-- What the reader does with one line, as a function. Only functions that are not public, and the proofs, speak of it.
use Rattle.std.specs.Prelude.{◌≡◌, ℕ, ◌+◌, Bool, true, false, not, ◌&&◌, ◌||◌, nat_le, List, [], ◌∷◌, ◌++◌, Option, Some, None, is_some, unwrap_or, option_to_list, Result, Ok, Err, if◌then◌else◌}
use Rattle.std.specs.List.{list_any}
use Rattle.std.specs.Option.{option_map}
use Rattle.std.specs.Str.{bytes_eq}
use Rattle.dc_text.specs.Bytes.{is_nil}
use Rattle.dc_text.specs.Names.{is_name}
use Rattle.dc_words.specs.Words.{plain_words_of}
use Rattle.dc_batch.specs.Forms.{forms}
use Rattle.dc_batch.specs.Jobs.{is_field, has_field}
use Rattle.dc_batch.specs.JobFaults.{until_blank, has_work}
use Rattle.dc_batch.specs.declared.faults.JobKind.{JobKind}
use Rattle.dc_batch.specs.declared.faults.JobKind.TheVariants.{NoColon, UnknownField, Twice, TooMany, NoPackage, BadName, EmptyField, NoWork}
use Rattle.dc_batch.specs.declared.faults.JobError.{JobError}
use Rattle.dc_batch.specs.declared.faults.JobError.TheVariants.{Bad, OutOfMemory}
use Rattle.dc_batch.specs.declared.forms.Field.{Field}
use Rattle.dc_batch.specs.declared.forms.Field.TheVariants.{Package, Templates, Config}
use Rattle.dc_batch.specs.declared.forms.Form.{Form}
use Rattle.dc_batch.specs.declared.forms.Form.TheVariants.{Blank, Colonless, Unknown, Sets}
use Rattle.dc_batch.specs.declared.forms.Line.{Line}
use Rattle.dc_batch.specs.declared.job.Job.{Job}
use Rattle.dc_batch.specs.declared.draft.Draft.{Draft}
use Rattle.dc_batch.specs.declared.reading.Reader.{Reader}

-- ---- the stanza that isn't ended

-- without a field
abbrev pub no_fields : Draft
no_fields = record { name = None; templates = None; command = None }

-- whether the stanza has the field already
abbrev pub is_set : Draft → Field → Bool
is_set draft Package = is_some draft.name
is_set draft Templates = is_some draft.templates
is_set draft Config = is_some draft.command

-- the stanza with a field more
abbrev pub with_field : Draft → Field → List ℕ → Draft
with_field draft Package value = record draft { name = Some value }
with_field draft Templates value = record draft { templates = Some value }
with_field draft Config value = record draft { command = Some (plain_words_of value) }

-- the job of the stanza, where it has a package
abbrev pub job_from : Draft → Option Job
job_from draft =
    option_map (λ name. record { «package» = name; templates = draft.templates; command = unwrap_or draft.command [] }) draft.name

-- ---- one line

-- some job has the package
abbrev pub is_taken : List Job → List ℕ → Bool
is_taken jobs name = list_any (λ job. bytes_eq name job.package) jobs

-- the fault of the line of a field before these lines, if it has one
abbrev pub field_fault : Reader → Field → List ℕ → List Form → Option JobKind
field_fault s field value after =
    if is_set s.draft field || (is_field Package field && is_taken s.jobs value) then Some Twice
    else if not s.is_open && nat_le 256 s.begun then Some TooMany
    else if not s.is_open && not (has_field Package (Sets field value ∷ until_blank after)) then Some NoPackage
    else if is_field Package field && not (is_name value) then Some BadName
    else if not (is_field Package field) && is_nil value then Some EmptyField
    else if not s.is_open && not (has_work (Sets field value ∷ until_blank after)) then Some NoWork
    else None

-- the fault of any line
abbrev pub fault_seen : Reader → Form → List Form → Option JobKind
fault_seen s Blank after = None
fault_seen s Colonless after = Some NoColon
fault_seen s Unknown after = Some UnknownField
fault_seen s (Sets field value) after = field_fault s field value after

-- the stanza is ended
abbrev pub closed : Reader → Reader
closed s = record s { jobs = s.jobs ++ option_to_list (job_from s.draft); is_open = false; draft = no_fields }

-- a stanza is begun, unless one is
abbrev pub opened : Reader → Reader
opened s = if s.is_open then s else record s { begun = s.begun + 1; is_open = true }

-- a field is noted
abbrev pub noted_field : Reader → Field → List ℕ → Reader
noted_field s field value = record (opened s) { draft = with_field s.draft field value }

-- a line is noted
abbrev pub noted : Reader → Form → Reader
noted s Blank = closed s
noted s (Sets field value) = noted_field s field value
noted s _ = s

-- before the first line
abbrev pub at_start : Reader
at_start = record { jobs = []; begun = 0; is_open = false; draft = no_fields }

-- ---- all lines

-- a line is noted, or refused with its fault
abbrev pub step_by : Option JobKind → Reader → Line → Result Reader (Line × JobKind)
step_by None s line = Ok (noted s line.form)
step_by (Some kind) s line = Err (line, kind)

-- the reader takes a line before these lines
abbrev pub step : Reader → Line → List Line → Result Reader (Line × JobKind)
step s line after = step_by (fault_seen s line.form (forms after)) s line

-- An error of the reader says what the machine says, unless memory ran out.
abbrev pub Fails : JobError → Result Reader (Line × JobKind) → Type 0
Fails (Bad number kind) found = (line : Line) × (line.number ≡ number) × (found ≡ Err (line, kind))
Fails OutOfMemory found = Unit {0}
