-- Job texts whose jobs and faults are worked out.
use Rattle.std.specs.Prelude.{◌≡◌, ℕ, List, [], ◌∷◌, ◌++◌, Option, Some, None, codes}
use Rattle.dc_text.specs.Lines.{text_of}
use Rattle.dc_batch.specs.Forms.{forms, lines_in}
use Rattle.dc_batch.specs.Jobs.{jobs_in}
use Rattle.dc_batch.specs.JobFaults.{fault}
use Rattle.dc_batch.specs.Printed.{canon}
use Rattle.dc_batch.specs.declared.faults.JobKind.{JobKind}
use Rattle.dc_batch.specs.declared.faults.JobKind.TheVariants.{NoColon, UnknownField, Twice, NoPackage, BadName, EmptyField, NoWork}
use Rattle.dc_batch.specs.declared.forms.Form.{Form}
use Rattle.dc_batch.specs.declared.forms.Line.{Line}
use Rattle.dc_batch.specs.declared.job.Job.{Job}

-- a number and a kind, where there is one
abbrev pub numbered : ℕ → Option JobKind → List (ℕ × JobKind)
numbered number None = []
numbered number (Some kind) = (number, kind) ∷ []

-- the lines with a fault behind these lines, and the first fault of each
abbrev pub faults_behind : List Form → List Line → List (ℕ × JobKind)
faults_behind before [] = []
faults_behind before (line ∷ lines) =
    numbered line.number (fault before line.form (forms lines)) ++ faults_behind (before ++ line.form ∷ []) lines

-- the lines of a text with a fault, and the first fault of each
abbrev pub faults_in : List ℕ → List (ℕ × JobKind)
faults_in text = faults_behind [] (lines_in text)

-- the jobs of a text, where no line has a fault
abbrev pub jobs_of : List ℕ → List Job
jobs_of text = jobs_in (forms (lines_in text))

-- a job of these parts
abbrev job : List ℕ → Option (List ℕ) → List (List ℕ) → Job
job name templates command = record { «package» = name; templates = templates; command = command }

-- two packages, the second without a newline at its end
abbrev two_jobs : List ℕ
two_jobs =
    text_of (codes "Package: x" ∷ codes "Templates: x.templates" ∷ codes "Config: sx" ∷ [] ∷ codes "Package: y" ∷ []) ++ codes "Config: sy now"

-- comments, case, whitespace at all ends, a colon in a value, and words with several gaps
abbrev spaced : List ℕ
spaced =
    text_of (codes "# jobs" ∷ codes " \t" ∷ codes "CONFIG:\tsh  -c\ta:b \r" ∷ codes "#" ∷ codes " package : X/y\r" ∷ codes "\r" ∷ [])

-- the jobs of texts that have no line with a fault, and the text that some are printed as
pub record JobsAre : Type 0 where
  pub none : jobs_of [] ≡ []
  pub blank : jobs_of (text_of (codes "# x" ∷ [] ∷ codes " " ∷ [])) ≡ []
  pub two : jobs_of two_jobs
      ≡ job (codes "x") (Some (codes "x.templates")) (codes "sx" ∷ []) ∷ job (codes "y") None (codes "sy" ∷ codes "now" ∷ []) ∷ []
  pub two_stand : faults_in two_jobs ≡ []
  pub spaces : jobs_of spaced ≡ job (codes "X/y") None (codes "sh" ∷ codes "-c" ∷ codes "a:b" ∷ []) ∷ []
  pub spaces_stand : faults_in spaced ≡ []
  pub templates : jobs_of (codes "templates: a b \npackage:p") ≡ job (codes "p") (Some (codes "a b")) [] ∷ []
  pub printed : canon (jobs_of two_jobs) ≡ two_jobs ++ text_of ([] ∷ [] ∷ [])
  pub printed_spaces : canon (jobs_of spaced) ≡ text_of (codes "Package: X/y" ∷ codes "Config: sh -c a:b" ∷ [] ∷ [])

-- the lines with a fault
pub record FaultsAre : Type 0 where
  pub no_work : faults_in (codes "Package: x") ≡ (1, NoWork) ∷ []
  pub no_colon : faults_in (codes "# x\nPackage: x\nConfig sx") ≡ (2, NoWork) ∷ (3, NoColon) ∷ []
  pub unknown : faults_in (codes "Package: x\nConfig: sx\nDepends: y\n: z") ≡ (3, UnknownField) ∷ (4, UnknownField) ∷ []
  pub indented_comment : faults_in (codes " # x\n# y: z") ≡ (1, NoColon) ∷ []
  pub field_twice : faults_in (codes "Package: x\nConfig: a\nconfig: b\nPackage: a//b") ≡ (3, Twice) ∷ (4, Twice) ∷ []
  pub package_twice : faults_in (codes "Package: x\nConfig: a\n\nConfig: b\nPackage: x") ≡ (5, Twice) ∷ []
  pub other_case : faults_in (codes "Package: x\nConfig: a\n\nConfig: b\nPackage: X") ≡ []
  pub no_package : faults_in (codes "\nConfig: a\nTemplates: t\n\nPackage: x\nConfig: b") ≡ (2, NoPackage) ∷ []
  pub neither : faults_in (codes "Source: a\nConfig:") ≡ (1, UnknownField) ∷ (2, EmptyField) ∷ []
  pub bad_name : faults_in (codes "Config: a\nPackage: x,y\n\nPackage:") ≡ (2, BadName) ∷ (4, BadName) ∷ []
  pub empty : faults_in (codes "Package: x\nTemplates:\nConfig: \t") ≡ (2, EmptyField) ∷ (3, EmptyField) ∷ []
  pub twice_first : faults_in (codes "Package: x\nConfig: a\n\nPackage: x") ≡ (4, Twice) ∷ []

-- all of them
pub record Examples : Type 0 where
  pub jobs : JobsAre
  pub faults : FaultsAre
