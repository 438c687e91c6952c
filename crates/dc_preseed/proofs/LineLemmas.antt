-- What a line of selections does.
use Rattle.std.proofs.Common.{◌≡◌, ℕ, Bool, true, false, List, Option, Some, None, Result, Ok, Err, refl, sym, ap, subst, ⊎_elim}
use Rattle.std.specs.Prelude.{option_map, if◌then◌else◌}
use Rattle.dc_store.specs.Plans.{StoreState}
use Rattle.dc_template.specs.declared.kinds.Kind.{Kind}
use Rattle.dc_question.specs.Asked.{QuestionsState, SameBut}
use Rattle.dc_question.specs.Changes.{Does}
use Rattle.dc_question.specs.Questions.{QuestionContext}
use Rattle.dc_question.specs.declared.errors.QuestionError.{QuestionError}
use Rattle.dc_question.specs.declared.errors.QuestionError.TheVariants as refusal
use Rattle.dc_preseed.specs.Lines.{question_of, question_in, fault_of, refusal_of, Outcome, done_or, reading_set, line_set, Sets}
use Rattle.dc_preseed.specs.Selections.{Parts, parts_of, is_seen, flag_value, IsAnswer, answer}
use Rattle.dc_template.specs.Kinds.{kind_of}
use Rattle.dc_preseed.specs.declared.faults.SelectionError.{SelectionError}
use Rattle.dc_preseed.specs.declared.faults.SelectionError.TheVariants.{Bad, OutOfMemory}
use Rattle.dc_preseed.specs.declared.faults.SelectionFault.{SelectionFault}
use Rattle.dc_preseed.specs.declared.faults.SelectionFault.TheVariants.{TooFew, BadName, BadType, BadFlagValue}
use Rattle.dc_preseed.specs.declared.lines.LineDone.{LineDone}
use Rattle.dc_preseed.specs.declared.lines.LineDone.TheVariants.{Nothing, ValueSet, SeenSet}
use Rattle.dc_preseed.specs.declared.lines.LineFault.{LineFault}
use Rattle.dc_preseed.specs.declared.selections.Selection.{Selection}
use Rattle.dc_preseed.specs.declared.selections.Selection.TheVariants.{Value, Seen}
use Rattle.dc_preseed.proofs.SelectionLemmas.{one_answer}

-- ---- what is read

pub read_ok : (line : List ℕ) (said : Option Selection) → IsAnswer line (Ok said) → answer line ≡ Ok said
read_ok line said is = ⊎_elim (λ e. sym e) (λ none. absurd (cc)) (one_answer line (Ok said) is)

read_bad : (line : List ℕ) (fault : SelectionFault) → IsAnswer line (Err (Bad fault)) → answer line ≡ Err (Bad fault)
read_bad line fault is = ⊎_elim (λ e. sym e) (λ none. absurd (cc)) (one_answer line (Err (Bad fault)) is)

-- the question of a selection is the one of its line
named : (p : Parts) (seen : Bool) (flag : Option Bool) (kind : Option Kind) (said : Selection)
    → (if seen then option_map (λ f. Seen p.question f) flag else option_map (λ k. Value p.owner p.question k p.value) kind) ≡ Some said → question_of said ≡ p.question
named p true None kind said h = absurd (cc)
named p true (Some f) kind said h = let same : Seen p.question f ≡ said = cc in sym (ap question_of same)
named p false flag None said h = absurd (cc)
named p false flag (Some k) said h = let same : Value p.owner p.question k p.value ≡ said = cc in sym (ap question_of same)

question_named : (line : List ℕ) (said : Selection) → IsAnswer line (Ok (Some said)) → question_of said ≡ question_in line
question_named line said is = named (parts_of line) (is_seen (parts_of line).word) (flag_value (parts_of line).value) (kind_of (parts_of line).word) said is.1.1

-- a call on the question of a selection leaves all but the one of its line
pub question_framed : (line : List ℕ) (said : Selection) (old new : QuestionsState) → IsAnswer line (Ok (Some said)) → SameBut (question_of said) old new → SameBut (question_in line) old new
question_framed line said old new is same = subst (λ name. SameBut name old new) (question_named line said is) same

-- ---- what is set

module _ (store : StoreState) (at : QuestionContext) (check unseen : Bool) where
  -- a line that isn't read
  unread : (line : List ℕ) (fault : SelectionFault) → IsAnswer line (Err (Bad fault)) → line_set store at line check unseen ≡ Err (fault_of (Bad fault))
  unread line fault is = ap (λ r. reading_set store at r check unseen) (read_bad line fault is)

  pub unread_sets : (line : List ℕ) (error : SelectionError) (fault : LineFault) → fault ≡ fault_of error → IsAnswer line (Err error) → Sets (Err fault) (line_set store at line check unseen) store store
  unread_sets line error fault e is = subst (λ f. Sets (Err f) (line_set store at line check unseen) store store) (sym e) (by_error error is) where
    by_error : (error : SelectionError) → IsAnswer line (Err error) → Sets (Err (fault_of error)) (line_set store at line check unseen) store store
    by_error (Bad TooFew) is = (unread line TooFew is, refl)
    by_error (Bad BadName) is = (unread line BadName is, refl)
    by_error (Bad BadType) is = (unread line BadType is, refl)
    by_error (Bad BadFlagValue) is = (unread line BadFlagValue is, refl)
    by_error OutOfMemory is = tt

  pub read_sets : (line : List ℕ) (said : Option Selection) → IsAnswer line (Ok said) → reading_set store at (Ok said) check unseen ≡ line_set store at line check unseen
  read_sets line said is = sym (ap (λ r. reading_set store at r check unseen) (read_ok line said is))

-- a question that isn't set
pub refused_sets : (A : Type 0) (error : QuestionError) (fault : LineFault) (done : LineDone) (change : Result StoreState QuestionError) (old new : StoreState) → fault ≡ refusal_of error
    → Does {A = A} (Err error) change old new → Sets (Err fault) (done_or done change) old new
refused_sets A error fault done change old new e did = subst (λ f. Sets (Err f) (done_or done change) old new) (sym e) (by_error error did) where
  by_error : (error : QuestionError) → Does {A = A} (Err error) change old new → Sets (Err (refusal_of error)) (done_or done change) old new
  by_error (refusal.NoQuestion name) d = (ap (done_or done) d.0, d.1)
  by_error (refusal.NoTemplate name) d = (ap (done_or done) d.0, d.1)
  by_error refusal.NoField d = (ap (done_or done) d.0, d.1)
  by_error (refusal.CantChange name) d = (ap (done_or done) d.0, d.1)
  by_error (refusal.Twice name) d = (ap (done_or done) d.0, d.1)
  by_error refusal.OutOfMemory d = tt

-- ---- lines that are only checked

-- what an outcome has, where it isn't a fault
abbrev done_in : LineDone → Outcome → LineDone
done_in other (Ok outcome) = outcome.0
done_in other (Err fault) = other

abbrev left_in : StoreState → Outcome → StoreState
left_in other (Ok outcome) = outcome.1
left_in other (Err fault) = other

module _ (store new : StoreState) (at : QuestionContext) (unseen : Bool) (done : LineDone) where
  checked_by : (said : Result (Option Selection) SelectionError) → reading_set store at said true unseen ≡ Ok (done, new) → new ≡ store
  checked_by (Err error) h = absurd (cc)
  checked_by (Ok None) h = sym (ap (left_in store) h)
  checked_by (Ok (Some said)) h = sym (ap (left_in store) h)

  pub checked_same : (line : List ℕ) → line_set store at line true unseen ≡ Ok (done, new) → new ≡ store
  checked_same line h = checked_by (answer line) h

  set_by : (answered : LineDone) (change : Result StoreState QuestionError) → done_or answered change ≡ Ok (done, new) → ◌≡◌ {A = Outcome} (Ok (answered, store)) (Ok (done, store))
  set_by answered (Ok left) h = ap (λ d. Ok (d, store)) (ap (done_in answered) h)
  set_by answered (Err error) h = absurd (cc)

  done_by : (said : Result (Option Selection) SelectionError) → reading_set store at said false unseen ≡ Ok (done, new) → reading_set store at said true unseen ≡ Ok (done, store)
  done_by (Err error) h = absurd (cc)
  done_by (Ok None) h = ap (λ d. Ok (d, store)) (ap (done_in Nothing) h)
  done_by (Ok (Some (Value owner question kind value))) h = set_by (ValueSet question) _ h
  done_by (Ok (Some (Seen question seen))) h = set_by (SeenSet question) _ h

  pub done_checked : (line : List ℕ) → line_set store at line false unseen ≡ Ok (done, new) → line_set store at line true unseen ≡ Ok (done, store)
  done_checked line h = done_by (answer line) h
