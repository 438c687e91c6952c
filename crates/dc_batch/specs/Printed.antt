-- The printed text of jobs, and which jobs can be read.
use Rattle.std.specs.Prelude.{◌≡◌, ◌≢◌, ◌≤◌, ℕ, ◌||◌, not, true, false, List, [], ◌∷◌, ◌++◌, length, map, Option, Some, None, is_some, codes}
use Rattle.std.specs.List.{flat_map, join_by, AllByRecursion}
use Rattle.dc_text.specs.Ascii.{space}
use Rattle.dc_text.specs.Bytes.{is_nil, trimmed}
use Rattle.dc_text.specs.Lines.{text_of, has_newline}
use Rattle.dc_text.specs.Maps.{AreDistinct}
use Rattle.dc_text.specs.Names.{is_name}
use Rattle.dc_words.specs.Words.{IsPlainWord}
use Rattle.dc_batch.specs.declared.job.Job.{Job}

-- ---- the text

-- words joined by one space
abbrev pub joined : List (List ℕ) → List ℕ
joined words = join_by (λ word. word) (space ∷ []) words

-- the line of a package
abbrev pub package_line : List ℕ → List ℕ
package_line name = codes "Package: " ++ name

-- the line of the templates, where there are some
abbrev pub templates_lines : Option (List ℕ) → List (List ℕ)
templates_lines None = []
templates_lines (Some path) = (codes "Templates: " ++ path) ∷ []

-- the line of the command, where there is one
abbrev pub command_lines : List (List ℕ) → List (List ℕ)
command_lines [] = []
command_lines (word ∷ words) = (codes "Config: " ++ joined (word ∷ words)) ∷ []

-- the lines of a job, and an empty one
abbrev pub job_lines : Job → List (List ℕ)
job_lines job = package_line job.package ∷ templates_lines job.templates ++ command_lines job.command ++ [] ∷ []

-- the printed text of the jobs
abbrev pub canon : List Job → List ℕ
canon jobs = text_of (flat_map job_lines jobs)

-- ---- which jobs can be read

-- a value of a line: it isn't empty, has no whitespace at its ends, and is of one line
pub record IsValue (value : List ℕ) : Type 0 where
  pub some : value ≢ []
  pub trim : trimmed value ≡ value
  pub one : has_newline value ≡ false

-- a word of a command: neither whitespace nor a newline is in it
pub record IsCommandWord (word : List ℕ) : Type 0 where
  pub plain : IsPlainWord word
  pub one : has_newline word ≡ false

-- a job: its package is a name, its templates are a value, its command has words, and it has templates or a command
pub record IsJob (job : Job) : Type 0 where
  pub named : is_name job.package ≡ true
  pub templates : (path : List ℕ) → job.templates ≡ Some path → IsValue path
  pub command : AllByRecursion IsCommandWord job.command
  pub work : (is_some job.templates || not (is_nil job.command)) ≡ true

-- at most 256 jobs, each of a package of its own
pub record AreJobs (jobs : List Job) : Type 0 where
  pub each : AllByRecursion IsJob jobs
  pub apart : AreDistinct (map (λ job. job.package) jobs)
  pub few : length jobs ≤ 256
