-- What a line of selections does (debconf-set-selections(1)), as a change of the store.
use Rattle.std.specs.Prelude.{◌≡◌, ℕ, Bool, List, Option, Some, None, Result, Ok, Err, codes, if◌then◌else◌}
use Rattle.dc_store.specs.Plans.{StoreState}
use Rattle.dc_question.specs.Changes.{flag_set}
use Rattle.dc_question.specs.Preseeding.{preseeded}
use Rattle.dc_question.specs.Questions.{QuestionContext}
use Rattle.dc_question.specs.declared.errors.QuestionError.{QuestionError}
use Rattle.dc_question.specs.declared.errors.QuestionError.TheVariants as refusal
use Rattle.dc_preseed.specs.Selections.{parts_of, answer}
use Rattle.dc_preseed.specs.declared.faults.SelectionError.{SelectionError}
use Rattle.dc_preseed.specs.declared.faults.SelectionError.TheVariants as selection
use Rattle.dc_preseed.specs.declared.faults.SelectionFault.TheVariants as fault
use Rattle.dc_preseed.specs.declared.lines.LineDone.{LineDone}
use Rattle.dc_preseed.specs.declared.lines.LineDone.TheVariants.{Nothing, ValueSet, SeenSet}
use Rattle.dc_preseed.specs.declared.lines.LineFault.{LineFault}
use Rattle.dc_preseed.specs.declared.lines.LineFault.TheVariants.{TooFew, BadName, BadType, BadFlagValue, NoQuestion, CantChange, OutOfMemory}
use Rattle.dc_preseed.specs.declared.selections.Selection.{Selection}
use Rattle.dc_preseed.specs.declared.selections.Selection.TheVariants.{Value, Seen}

-- ---- what is answered

-- the question that a selection speaks of
abbrev pub question_of : Selection → List ℕ
question_of (Value owner question kind value) = question
question_of (Seen question seen) = question

-- the question of a line
abbrev pub question_in : List ℕ → List ℕ
question_in line = (parts_of line).question

-- what is set by a selection
abbrev pub done_by : Selection → LineDone
done_by (Value owner question kind value) = ValueSet question
done_by (Seen question seen) = SeenSet question

-- the fault of a line that says nothing that can be done
abbrev pub fault_of : SelectionError → LineFault
fault_of (selection.Bad fault.TooFew) = TooFew
fault_of (selection.Bad fault.BadName) = BadName
fault_of (selection.Bad fault.BadType) = BadType
fault_of (selection.Bad fault.BadFlagValue) = BadFlagValue
fault_of selection.OutOfMemory = OutOfMemory

-- the fault of a line whose question isn't set
abbrev pub refusal_of : QuestionError → LineFault
refusal_of (refusal.NoQuestion name) = NoQuestion
refusal_of refusal.OutOfMemory = OutOfMemory
refusal_of error = CantChange

-- ---- what is done

-- what a selection leaves: a question with its answer, or with its flag
abbrev pub selected : StoreState → QuestionContext → Selection → Bool → Result StoreState QuestionError
selected store at (Value owner question kind value) unseen = preseeded store at owner question kind value unseen
selected store at (Seen question seen) unseen = flag_set store at question (codes "seen") seen

-- what is answered, and the store that is left then
abbrev pub Outcome : Type 0
Outcome = Result (LineDone × StoreState) LineFault

-- the answer where the question was set
abbrev pub done_or : LineDone → Result StoreState QuestionError → Outcome
done_or done (Ok store) = Ok (done, store)
done_or done (Err error) = Err (refusal_of error)

-- a selection is done, or only looked at
abbrev pub selection_set : StoreState → QuestionContext → Selection → Bool → Bool → Outcome
selection_set store at said check unseen =
    if check then Ok (done_by said, store) else done_or (done_by said) (selected store at said unseen)

-- the same of what is read of a line
abbrev pub reading_set : StoreState → QuestionContext → Result (Option Selection) SelectionError → Bool → Bool → Outcome
reading_set store at (Err error) check unseen = Err (fault_of error)
reading_set store at (Ok None) check unseen = Ok (Nothing, store)
reading_set store at (Ok (Some said)) check unseen = selection_set store at said check unseen

-- what a line does
abbrev pub line_set : StoreState → QuestionContext → List ℕ → Bool → Bool → Outcome
line_set store at line check unseen = reading_set store at (answer line) check unseen

-- A call answers what is done, and leaves that store. After a fault nothing has changed, and want of memory may come in any place.
abbrev pub Sets : Result LineDone LineFault → Outcome → StoreState → StoreState → Type 0
Sets (Ok done) outcome old new = outcome ≡ Ok (done, new)
Sets (Err OutOfMemory) outcome old new = Unit {0}
Sets (Err error) outcome old new = (outcome ≡ Err error) × (new ≡ old)
