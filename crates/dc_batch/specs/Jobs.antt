-- The jobs of a text: what its stanzas make.
use Rattle.std.specs.Prelude.{ℕ, Bool, true, false, not, List, [], Option, Some, None, map as each, unwrap_or, slice_get, if◌then◌else◌}
use Rattle.std.specs.List.{filter, filter_map, list_any, slice_split}
use Rattle.dc_text.specs.Bytes.{is_nil}
use Rattle.dc_words.specs.Words.{plain_words_of}
use Rattle.dc_batch.specs.declared.forms.Field.{Field}
use Rattle.dc_batch.specs.declared.forms.Field.TheVariants.{Package, Templates, Config}
use Rattle.dc_batch.specs.declared.forms.Form.{Form}
use Rattle.dc_batch.specs.declared.forms.Form.TheVariants.{Blank, Sets}
use Rattle.dc_batch.specs.declared.job.Job.{Job}

-- the line is blank
abbrev pub is_blank_form : Form → Bool
is_blank_form Blank = true
is_blank_form _ = false

-- the stanzas: the longest runs of lines that aren't blank
abbrev pub stanzas : List Form → List (List Form)
stanzas lines = filter (λ stanza. not (is_nil stanza)) (slice_split is_blank_form lines)

-- ---- the fields of a stanza

-- the two are one field
abbrev pub is_field : Field → Field → Bool
is_field Package Package = true
is_field Templates Templates = true
is_field Config Config = true
is_field _ _ = false

-- the value of a line that sets the field
abbrev pub value_in : Field → Form → Option (List ℕ)
value_in field (Sets other value) = if is_field field other then Some value else None
value_in field _ = None

-- the line sets the field
abbrev pub sets : Field → Form → Bool
sets field (Sets other value) = is_field field other
sets field _ = false

-- one of the lines sets the field
abbrev pub has_field : Field → List Form → Bool
has_field field lines = list_any (sets field) lines

-- the values that the lines give the field, in their order
abbrev pub values_of : Field → List Form → List (List ℕ)
values_of field lines = filter_map (value_in field) lines

-- the value of the field, if the lines have it; the first decides
abbrev pub value_at : Field → List Form → Option (List ℕ)
value_at field lines = slice_get (values_of field lines) 0

-- ---- jobs

-- the job of a stanza; without a command its words are none
abbrev pub job_of : List Form → Job
job_of stanza = record {
  «package» = unwrap_or (value_at Package stanza) [];
  templates = value_at Templates stanza;
  command = plain_words_of (unwrap_or (value_at Config stanza) []);
}

-- the jobs of some lines: one for each stanza
abbrev pub jobs_in : List Form → List Job
jobs_in lines = each job_of (stanzas lines)
