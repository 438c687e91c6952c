-- A text has one first fault, or none.
use Rattle.std.proofs.Common.{◌≡◌, ℕ, List, [], ◌∷◌, ◌++◌, Some, None, Option, Ok, Err, Result, refl, sym, ap, ◌∙◌, subst, inl, inr}
use Rattle.std.specs.Prelude.{◌⊎◌, MatchResult}
use Rattle.dc_text.specs.Faults.{AllStand, IsFirstFault, run}
use Rattle.dc_batch.specs.Forms.{forms, lines_in}
use Rattle.dc_batch.specs.declared.job.Job.{Job}
use Rattle.dc_batch.specs.JobFaults.{Stands, HasFault, fault}
use Rattle.dc_batch.specs.Reading.{Reads, IsBad, IsAnswer}
use Rattle.dc_batch.specs.Jobs.{jobs_in}
use Rattle.dc_batch.specs.Machine.{step, at_start, Fails}
use Rattle.dc_batch.proofs.CheckLemmas.{Holds, machine}
use Rattle.std.proofs.lemmas.Result.{MatchResult-at_ok, MatchResult-at_err}
use Rattle.dc_batch.specs.declared.forms.Line.{Line}
use Rattle.dc_batch.specs.declared.reading.Reader.{Reader}
use Rattle.dc_batch.specs.declared.faults.JobKind.{JobKind}
use Rattle.dc_batch.specs.declared.faults.JobError.{JobError}
use Rattle.dc_batch.specs.declared.faults.JobError.TheVariants.{Bad, OutOfMemory}

-- Two places in one list: they are the same, or one comes before the other.
data Places {L : Type 0} (b c : List L) (l m : L) (a d : List L) : Type 0 where
  Same : b ≡ c → l ≡ m → a ≡ d → Places b c l m a d
  Earlier : (more : List L) → c ≡ b ++ l ∷ more → a ≡ more ++ m ∷ d → Places b c l m a d
  Later : (more : List L) → b ≡ c ++ m ∷ more → d ≡ more ++ l ∷ a → Places b c l m a d

places : {L : Type 0} (b c : List L) (l m : L) (a d : List L) → b ++ l ∷ a ≡ c ++ m ∷ d → Places b c l m a d
places [] [] l m a d e = Same refl (cc) (cc)
places [] (y ∷ c) l m a d e = let head : l ≡ y = cc in let tail : a ≡ c ++ m ∷ d = cc in Earlier c (ap (λ z. z ∷ c) (sym head)) tail
places (x ∷ b) [] l m a d e = let head : x ≡ m = cc in let tail : b ++ l ∷ a ≡ d = cc in Later b (ap (λ z. z ∷ b) head) (sym tail)
places (x ∷ b) (y ∷ c) l m a d e =
    let head : x ≡ y = cc in
    let tail : b ++ l ∷ a ≡ c ++ m ∷ d = cc in
    elim (places b c l m a d tail) as (λ _. Places (x ∷ b) (y ∷ c) l m a d) [
      | Same p q r ↦ Same (λ i. head i ∷ p i) q r
      | Earlier more p q ↦ Earlier more (λ i. sym head i ∷ p i) q
      | Later more p q ↦ Later more (λ i. head i ∷ p i) q
    ]

not_both_here : (o : Option JobKind) (kind : JobKind) → o ≡ None → o ≡ Some kind → ⊥
not_both_here None kind e f = cc
not_both_here (Some k) kind e f = cc

-- a line with a fault doesn't stand
pub faulty : (before : List Line) (line : Line) (after : List Line) (kind : JobKind) → Stands before line after → HasFault before line after kind → ⊥
faulty before line after kind s f = not_both_here (fault (forms before) line.form (forms after)) kind s f

pub one_first : (lines : List Line) (l m : Line) (j k : JobKind) → IsFirstFault Stands HasFault lines l j → IsFirstFault Stands HasFault lines m k → (l ≡ m) × (j ≡ k)
one_first lines l m j k f g = elim (places f.before g.before l m f.after g.after (sym f.whole ∙ g.whole)) as (λ _. (l ≡ m) × (j ≡ k)) [
  | Same p q r ↦
      let here : fault (forms f.before) l.form (forms f.after) ≡ fault (forms g.before) m.form (forms g.after) = λ i. fault (forms (p i)) (q i).form (forms (r i)) in
      let same : ◌≡◌ {A = Option JobKind} (Some j) (Some k) = sym f.here ∙ here ∙ g.here in
      (q, cc)
  | Earlier more p q ↦ absurd (faulty f.before l (more ++ m ∷ g.after) j (g.none f.before more l p) (subst (λ a. HasFault f.before l a j) q f.here))
  | Later more p q ↦ absurd (faulty g.before m (more ++ l ∷ f.after) k (f.none g.before more m p) (subst (λ a. HasFault g.before m a k) q g.here))
]

pub one_fault : (text : List ℕ) (m n : ℕ) (j k : JobKind) → IsBad text m j → IsBad text n k → (m ≡ n) × (j ≡ k)
one_fault text m n j k f g =
    let same : (f.line ≡ g.line) × (j ≡ k) = one_first (lines_in text) f.line g.line j k f.first g.first in
    (sym f.numbered ∙ ap (λ (l : Line). l.number) same.0 ∙ g.numbered, same.1)

pub not_both : (text : List ℕ) (jobs : List Job) (n : ℕ) (kind : JobKind) → Reads text jobs → IsBad text n kind → ⊥
not_both text jobs n kind r f = faulty f.first.before f.line f.first.after kind (r.stand f.first.before f.first.after f.line f.first.whole) f.first.here

found : (lines : List Line) (r : Result Reader (Line × JobKind)) → MatchResult r (λ t. Holds lines t × AllStand Stands lines) (λ f. IsFirstFault Stands HasFault lines f.0 f.1)
    → AllStand Stands lines ⊎ ((line : Line) × (kind : JobKind) × IsFirstFault Stands HasFault lines line kind)
found lines (Ok t) h = inl h.1
found lines (Err f) h = inr (f.0, f.1, h)

pub some_answer : (text : List ℕ) → ((jobs : List Job) × Reads text jobs) ⊎ ((n : ℕ) × (kind : JobKind) × IsBad text n kind)
some_answer text = elim (found (lines_in text) (run step (lines_in text) at_start) (machine (lines_in text))) as (λ _. ((jobs : List Job) × Reads text jobs) ⊎ ((n : ℕ) × (kind : JobKind) × IsBad text n kind)) [
  | inl all ↦ inl (jobs_in (forms (lines_in text)), record { stand = all; are = refl })
  | inr (line, kind, first) ↦ inr (line.number, kind, record { line = line; numbered = refl; first = first })
]

-- what the reader says of all lines
pub all_stand : (lines : List Line) (t : Reader) → run step lines at_start ≡ Ok t → AllStand Stands lines
all_stand lines t e = (MatchResult-at_ok (λ t. Holds lines t × AllStand Stands lines) (λ f. IsFirstFault Stands HasFault lines f.0 f.1) t e (machine lines)).1

pub error_is : (text : List ℕ) (lines : List Line) (error : JobError) → lines ≡ lines_in text → Fails error (run step lines at_start) → IsAnswer text (Err error)
error_is text lines (Bad n kind) is f = record {
  line = f.0;
  numbered = f.1;
  first = subst (λ ls. IsFirstFault Stands HasFault ls f.0 kind) is
      (MatchResult-at_err (λ t. Holds lines t × AllStand Stands lines) (λ g. IsFirstFault Stands HasFault lines g.0 g.1) (f.0, kind) f.2 (machine lines));
}
error_is text lines OutOfMemory is f = tt
