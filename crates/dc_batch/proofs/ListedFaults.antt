-- The list of all lines with a fault begins with the first fault.
use Rattle.std.proofs.Common.{◌≡◌, ℕ, List, [], ◌∷◌, ◌++◌, Some, None, Option, Ok, Err, Result, refl, sym, ap, ◌∙◌}
use Rattle.std.specs.Prelude.{MatchResult}
use Rattle.std.proofs.lemmas.List.{map-append}
use Rattle.std.proofs.lemmas.Result.{MatchResult-at_ok, MatchResult-at_err}
use Rattle.dc_text.specs.Faults.{AllStand, IsFirstFault, run, goes_on}
use Rattle.dc_text.proofs.FaultLemmas.{run_finds}
use Rattle.dc_batch.specs.Forms.{forms, lines_in}
use Rattle.dc_batch.specs.JobExamples.{numbered, faults_behind, faults_in, jobs_of}
use Rattle.dc_batch.specs.JobFaults.{fault, Stands, HasFault}
use Rattle.dc_batch.specs.Reading.{Reads, IsBad}
use Rattle.dc_batch.specs.declared.faults.JobKind.{JobKind}
use Rattle.dc_batch.specs.declared.forms.Form.{Form}
use Rattle.dc_batch.specs.declared.forms.Line.{Line}

abbrev look_by : Option JobKind → List Form → Line → Result (List Form) (Line × JobKind)
look_by None before line = Ok (before ++ line.form ∷ [])
look_by (Some kind) before line = Err (line, kind)

-- looks at one line
abbrev look : List Form → Line → List Line → Result (List Form) (Line × JobKind)
look before line after = look_by (fault before line.form (forms after)) before line

abbrev Follows : List Line → List Form → Type 0
Follows before fs = forms before ≡ fs

look_ok : (found : Option JobKind) (fs gs : List Form) (line : Line) → look_by found fs line ≡ Ok gs → (found ≡ None) × (fs ++ line.form ∷ [] ≡ gs)
look_ok None fs gs line e = (refl, cc)
look_ok (Some kind) fs gs line e = absurd (cc)

look_err : (found : Option JobKind) (fs : List Form) (line : Line) (f : Line × JobKind) → look_by found fs line ≡ Err f → (f.0 ≡ line) × (found ≡ Some f.1)
look_err None fs line f e = absurd (cc)
look_err (Some kind) fs line f e = let same : ◌≡◌ {A = Line × JobKind} (line, kind) f = cc in (ap (λ (p : Line × JobKind). p.0) (sym same), ap (λ (p : Line × JobKind). Some p.1) same)

passed : (before : List Line) (fs : List Form) (l : Line) (after : List Line) (gs : List Form) → Follows before fs → look fs l after ≡ Ok gs → Stands before l after × Follows (before ++ l ∷ []) gs
passed before fs l after gs h e =
    let f = look_ok (fault fs l.form (forms after)) fs gs l e in
    (ap (λ b. fault b l.form (forms after)) h ∙ f.0, map-append (λ (m : Line). m.form) before (l ∷ []) ∙ ap (λ b. b ++ l.form ∷ []) h ∙ f.1)

stopped : (before : List Line) (fs : List Form) (l : Line) (after : List Line) (f : Line × JobKind) → Follows before fs → look fs l after ≡ Err f → (f.0 ≡ l) × HasFault before l after f.1
stopped before fs l after f h e = let g = look_err (fault fs l.form (forms after)) fs l f e in (g.0, ap (λ b. fault b l.form (forms after)) h ∙ g.1)

looked : (lines : List Line) → MatchResult (run look lines []) (λ fs. Follows lines fs × AllStand Stands lines) (λ f. IsFirstFault Stands HasFault lines f.0 f.1)
looked lines = run_finds look Stands HasFault Follows passed stopped lines [] refl

run_none : (lines : List Line) (fs : List Form) → faults_behind fs lines ≡ [] → (gs : List Form) × (run look lines fs ≡ Ok gs)
run_none [] fs e = (fs, refl)
run_none (l ∷ lines) fs e = elim (fault fs l.form (forms lines)) as (λ o. numbered l.number o ++ faults_behind (fs ++ l.form ∷ []) lines ≡ [] → (gs : List Form) × (goes_on (look_by o fs l) (λ t. run look lines t) ≡ Ok gs)) [
  | None ↦ λ f. run_none lines (fs ++ l.form ∷ []) f
  | Some kind ↦ λ f. absurd (cc)
] e

run_first : (lines : List Line) (fs : List Form) (n : ℕ) (kind : JobKind) (others : List (ℕ × JobKind)) → faults_behind fs lines ≡ (n, kind) ∷ others → (line : Line) × (line.number ≡ n) × (run look lines fs ≡ Err (line, kind))
run_first [] fs n kind others e = absurd (cc)
run_first (l ∷ lines) fs n kind others e =
    elim (fault fs l.form (forms lines)) as (λ o. numbered l.number o ++ faults_behind (fs ++ l.form ∷ []) lines ≡ (n, kind) ∷ others → (line : Line) × (line.number ≡ n) × (goes_on (look_by o fs l) (λ t. run look lines t) ≡ Err (line, kind))) [
      | None ↦ λ f. run_first lines (fs ++ l.form ∷ []) n kind others f
      | Some k ↦ λ f.
          let head : ◌≡◌ {A = ℕ × JobKind} (l.number, k) (n, kind) = cc in
          (l, ap (λ (p : ℕ × JobKind). p.0) head, ap (λ (p : ℕ × JobKind). goes_on (look_by (Some p.1) fs l) (λ t. run look lines t)) head)
    ] e

pub none_listed : (text : List ℕ) → faults_in text ≡ [] → Reads text (jobs_of text)
none_listed text e =
    let r = run_none (lines_in text) [] e in
    record { stand = (MatchResult-at_ok (λ fs. Follows (lines_in text) fs × AllStand Stands (lines_in text)) (λ f. IsFirstFault Stands HasFault (lines_in text) f.0 f.1) r.0 r.1 (looked (lines_in text))).1; are = refl }

pub first_listed : (text : List ℕ) (n : ℕ) (kind : JobKind) (others : List (ℕ × JobKind)) → faults_in text ≡ (n, kind) ∷ others → IsBad text n kind
first_listed text n kind others e =
    let r = run_first (lines_in text) [] n kind others e in
    record {
      line = r.0;
      numbered = r.1;
      first = MatchResult-at_err (λ fs. Follows (lines_in text) fs × AllStand Stands (lines_in text)) (λ f. IsFirstFault Stands HasFault (lines_in text) f.0 f.1) (r.0, kind) r.2 (looked (lines_in text));
    }
