-- What is printed is read again.
use Rattle.std.proofs.Common.{◌≡◌, ◌≢◌, ℕ, suc, ◌+◌, ◌≤◌, Bool, true, false, cond, not, List, [], ◌∷◌, ◌++◌, length, Some, None, Option, Ok, Err, refl, sym, ap, ◌∙◌, subst, arith, append_assoc}
use Rattle.std.specs.Prelude.{◌||◌, is_some, nat_le}
use Rattle.std.specs.List.{flat_map, AllByRecursion}
use Rattle.std.specs.Str.{bytes_eq}
use Rattle.std.specs.Cmp.Lexicographic.{same_text}
use Rattle.std.proofs.lemmas.Bool.Decides.{nat_tests}
use Rattle.std.proofs.lemmas.List.{append-nil, length-append}
use Rattle.std.proofs.lemmas.Result.{MatchResult-at_err}
use Rattle.dc_text.specs.Bytes.{is_nil}
use Rattle.dc_text.specs.Faults.{AllStand, IsFirstFault, run, goes_on}
use Rattle.dc_text.specs.Maps.{AreDistinct}
use Rattle.dc_text.specs.Names.{is_name}
use Rattle.dc_batch.specs.Forms.{forms, lines_in}
use Rattle.dc_batch.specs.JobFaults.{Stands, HasFault}
use Rattle.dc_batch.specs.Machine.{no_fields, is_taken, fault_seen, noted, at_start, step_by, step}
use Rattle.dc_batch.specs.Printed.{joined, canon, IsValue, IsCommandWord, IsJob, AreJobs}
use Rattle.dc_batch.specs.Reading.{Reads}
use Rattle.dc_batch.proofs.CheckLemmas.{names_of, Holds, machine}
use Rattle.dc_batch.proofs.FaultLaws.{all_stand, faulty}
use Rattle.dc_batch.proofs.SoundLemmas.{jobs_read}
use Rattle.dc_batch.proofs.PrintedLemmas.{job_forms, joined_words, joined_some, canon_forms}
use Rattle.dc_batch.specs.declared.faults.JobKind.{JobKind}
use Rattle.dc_batch.specs.declared.faults.JobKind.TheVariants.{Twice, TooMany, BadName, EmptyField}
use Rattle.dc_batch.specs.declared.forms.Field.TheVariants.{Package, Templates, Config}
use Rattle.dc_batch.specs.declared.forms.Form.{Form}
use Rattle.dc_batch.specs.declared.forms.Form.TheVariants.{Blank, Sets}
use Rattle.dc_batch.specs.declared.forms.Line.{Line}
use Rattle.dc_batch.specs.declared.job.Job.{Job}
use Rattle.dc_batch.specs.declared.reading.Reader.{Reader}

-- ---- the reader over forms

abbrev goes : Option JobKind → Option Reader → Option Reader
goes None next = next
goes (Some kind) next = None

abbrev takes : List Form → Reader → Option Reader
takes [] s = Some s
takes (f ∷ fs) s = goes (fault_seen s f fs) (takes fs (noted s f))

run_takes : (lines : List Line) (s t : Reader) → takes (forms lines) s ≡ Some t → run step lines s ≡ Ok t
run_takes [] s t e = let same : s ≡ t = cc in ap (λ r. Ok r) same
run_takes (l ∷ lines) s t e = elim (fault_seen s l.form (forms lines)) as (λ o. goes o (takes (forms lines) (noted s l.form)) ≡ Some t → goes_on (step_by o s l) (λ u. run step lines u) ≡ Ok t) [
  | None ↦ λ f. run_takes lines (noted s l.form) t f
  | Some kind ↦ λ f. absurd (cc)
] e

-- ---- one job

-- behind these jobs
abbrev behind : List Job → Reader
behind done = record { jobs = done; begun = length done; is_open = false; draft = no_fields }

package_stands : (taken past named : Bool) → taken ≡ false → past ≡ false → named ≡ true → cond taken (Some Twice) (cond past (Some TooMany) (cond (not named) (Some BadName) None)) ≡ None
package_stands true past named p q r = absurd (cc)
package_stands false true named p q r = absurd (cc)
package_stands false false true p q r = refl
package_stands false false false p q r = absurd (cc)

value_stands : (empty : Bool) → empty ≡ false → cond empty (Some EmptyField) None ≡ None
value_stands true e = absurd (cc)
value_stands false e = refl

some_value : (value : List ℕ) → value ≢ [] → is_nil value ≡ false
some_value [] some = absurd (some refl)
some_value (b ∷ value) some = refl

-- the jobs with one more
pushed : (done : List Job) (job : Job) → record { jobs = done ++ job ∷ []; begun = length done + 1; is_open = false; draft = no_fields } ≡ behind (done ++ job ∷ [])
pushed done job = λ i. record { jobs = done ++ job ∷ []; begun = sym (length-append done (job ∷ [])) i; is_open = false; draft = no_fields }

abbrev job_with : List ℕ → Option (List ℕ) → List (List ℕ) → Job
job_with name templates command = record { «package» = name; templates = templates; command = command }

-- the line of a package behind these jobs, before these lines
abbrev IsNew : List Job → List ℕ → Type 0
IsNew done name = (is_taken done name ≡ false) × (nat_le 256 (length done) ≡ false) × (is_name name ≡ true)

taken_as : (done : List Job) (name : List ℕ) (o : Option (List ℕ)) (words : List (List ℕ)) (rest : List Form) → IsNew done name → ((path : List ℕ) → o ≡ Some path → IsValue path) → AllByRecursion IsCommandWord words → (is_some o || not (is_nil words)) ≡ true
    → takes (job_forms (job_with name o words) ++ rest) (behind done) ≡ takes rest (behind (done ++ job_with name o words ∷ []))
taken_as done name None [] rest new h k work = absurd (cc)
taken_as done name (Some path) [] rest new h k work =
    ap (λ o. goes o (takes (Sets Templates path ∷ Blank ∷ rest) (noted (behind done) (Sets Package name)))) (package_stands _ _ _ new.0 new.1 new.2)
    ∙ ap (λ o. goes o (takes (Blank ∷ rest) (noted (noted (behind done) (Sets Package name)) (Sets Templates path)))) (value_stands (is_nil path) (some_value path (h path refl).some))
    ∙ ap (takes rest) (pushed done (job_with name (Some path) []))
taken_as done name None (word ∷ words) rest new h k work =
    let line : List ℕ = joined (word ∷ words) in
    ap (λ o. goes o (takes (Sets Config line ∷ Blank ∷ rest) (noted (behind done) (Sets Package name)))) (package_stands _ _ _ new.0 new.1 new.2)
    ∙ ap (λ o. goes o (takes (Blank ∷ rest) (noted (noted (behind done) (Sets Package name)) (Sets Config line)))) (value_stands (is_nil line) (joined_some word words k.0))
    ∙ ap (λ ws. takes rest (record { jobs = done ++ job_with name None ws ∷ []; begun = length done + 1; is_open = false; draft = no_fields })) (joined_words word words k.0 k.1)
    ∙ ap (takes rest) (pushed done (job_with name None (word ∷ words)))
taken_as done name (Some path) (word ∷ words) rest new h k work =
    let line : List ℕ = joined (word ∷ words) in
    ap (λ o. goes o (takes (Sets Templates path ∷ Sets Config line ∷ Blank ∷ rest) (noted (behind done) (Sets Package name)))) (package_stands _ _ _ new.0 new.1 new.2)
    ∙ ap (λ o. goes o (takes (Sets Config line ∷ Blank ∷ rest) (noted (noted (behind done) (Sets Package name)) (Sets Templates path)))) (value_stands (is_nil path) (some_value path (h path refl).some))
    ∙ ap (λ o. goes o (takes (Blank ∷ rest) (noted (noted (noted (behind done) (Sets Package name)) (Sets Templates path)) (Sets Config line)))) (value_stands (is_nil line) (joined_some word words k.0))
    ∙ ap (λ ws. takes rest (record { jobs = done ++ job_with name (Some path) ws ∷ []; begun = length done + 1; is_open = false; draft = no_fields })) (joined_words word words k.0 k.1)
    ∙ ap (takes rest) (pushed done (job_with name (Some path) (word ∷ words)))

job_taken : (done : List Job) (job : Job) (rest : List Form) → IsNew done job.package → IsJob job → takes (job_forms job ++ rest) (behind done) ≡ takes rest (behind (done ++ job ∷ []))
job_taken done job rest new h = taken_as done job.package job.templates job.command rest new h.templates h.command h.work

-- ---- all jobs

other : (name text : List ℕ) → (name ≡ text → ⊥) → bytes_eq name text ≡ false
other name text apart = elim (bytes_eq name text) as (λ t. bytes_eq name text ≡ t → t ≡ false) [ true ↦ λ same. absurd (apart (same_text name text (sym same))) | false ↦ λ _. refl ] refl

not_among : (done : List Job) (job : Job) (jobs : List Job) → AreDistinct (names_of (done ++ job ∷ jobs)) → is_taken done job.package ≡ false
not_among [] job jobs h = refl
not_among (d ∷ done) job jobs h = λ i. other job.package d.package (apart done h.0) i || not_among done job jobs h.1 i where
  apart : (ds : List Job) → AllByRecursion (λ name. name ≢ d.package) (names_of (ds ++ job ∷ jobs)) → job.package ≡ d.package → ⊥
  apart [] g = g.0
  apart (x ∷ ds) g = apart ds g.1

past : (n m : ℕ) → n + suc m ≤ 256 → nat_le 256 n ≡ false
past n m h = grind (arith, nat_tests)

jobs_taken : (done jobs : List Job) → AllByRecursion IsJob jobs → AreDistinct (names_of (done ++ jobs)) → length done + length jobs ≤ 256 → takes (flat_map job_forms jobs) (behind done) ≡ Some (behind (done ++ jobs))
jobs_taken done [] h apart few = ap (λ (js : List Job). Some (behind js)) (sym (append-nil done))
jobs_taken done (job ∷ jobs) h apart few =
    let next : List Job = done ++ job ∷ [] in
    let same : next ++ jobs ≡ done ++ job ∷ jobs = append_assoc done (job ∷ []) jobs in
    let fewer : length next + length jobs ≤ 256 = omega (arith, length-append done (job ∷ []), few) in
    job_taken done job (flat_map job_forms jobs) (not_among done job jobs apart, past (length done) (length jobs) few, IsJob.named h.0) h.0
    ∙ jobs_taken next jobs h.1 (subst (λ js. AreDistinct (names_of js)) (sym same) apart) fewer
    ∙ ap (λ (js : List Job). Some (behind js)) same

-- the printed text of jobs is read as the same jobs
pub read_again : (jobs : List Job) → AreJobs jobs → Reads (canon jobs) jobs
read_again jobs h =
    let text : List ℕ = canon jobs in
    let taken : run step (lines_in text) at_start ≡ Ok (behind jobs) =
    run_takes (lines_in text) at_start (behind jobs) (ap (λ fs. takes fs at_start) (canon_forms jobs h.each) ∙ jobs_taken [] jobs h.each h.apart (omega (arith, h.few))) in
    record { stand = all_stand (lines_in text) (behind jobs) taken; are = sym (append-nil jobs) ∙ (jobs_read text (behind jobs) taken).0 }

-- what is read are jobs
pub sound : (text : List ℕ) (jobs : List Job) → Reads text jobs → AreJobs jobs
sound text jobs r = elim (run step (lines_in text) at_start) as (λ o. run step (lines_in text) at_start ≡ o → AreJobs jobs) [
  | Ok t ↦ λ e. let read = jobs_read text t e in subst AreJobs (read.0 ∙ sym r.are) read.1
  | Err f ↦ λ e.
      let first : IsFirstFault Stands HasFault (lines_in text) f.0 f.1 =
      MatchResult-at_err (λ t. Holds (lines_in text) t × AllStand Stands (lines_in text)) (λ g. IsFirstFault Stands HasFault (lines_in text) g.0 g.1) f e (machine (lines_in text)) in
      absurd (faulty first.before f.0 first.after f.1 (r.stand first.before first.after f.0 first.whole) first.here)
] refl
