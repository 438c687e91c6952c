-- Selections that come over a link (debconf-set-selections(1)): each joined line is done, and its fault is told, before the next is read.
use Rattle.std.specs.Prelude.{◌≡◌, ◌⊎◌, ℕ, Bool, true, false, List, [], ◌∷◌, ◌++◌, Option, Some, None, Result, Ok, Err, codes, decimal, if◌then◌else◌}
use Rattle.dc_text.specs.Ascii.{newline}
use Rattle.dc_text.specs.declared.memory.OutOfMemory.{OutOfMemory}
use Rattle.dc_words.specs.declared.stream.Line.{Line}
use Rattle.dc_words.specs.declared.stream.Line.TheVariants.{Whole, TooLong}
use Rattle.dc_outside.specs.LinkCalls.{Tells}
use Rattle.dc_outside.specs.State.{LinkState}
use Rattle.dc_serve.specs.declared.machine.Response.{Response}
use Rattle.dc_serve.specs.declared.machine.Response.TheVariants.{Silent}
use Rattle.dc_question.specs.Questions.{QuestionContext}
use Rattle.dc_serve.specs.LinkRun.{ServesLink}
use Rattle.dc_serve.specs.declared.outcome.LinkEnd.{LinkEnd}
use Rattle.dc_serve.specs.declared.outcome.LinkEnd.TheVariants as link
use Rattle.dc_store.specs.Plans.{StoreState, stored}
use Rattle.dc_store.specs.StoreLaws.{AreSameButAll}
use Rattle.dc_preseed.specs.Joiner.{Joining, Taken, taken, at_start}
use Rattle.dc_preseed.specs.Joining.{AreJoinedIn}
use Rattle.dc_preseed.specs.Lines.{Outcome, line_set, question_in}
use Rattle.dc_preseed.specs.declared.joining.Joined.{Joined}
use Rattle.dc_preseed.specs.declared.lines.LineDone.{LineDone}
use Rattle.dc_preseed.specs.declared.lines.LineDone.TheVariants.{Nothing, ValueSet, SeenSet}
use Rattle.dc_preseed.specs.declared.lines.LineFault.{LineFault}
use Rattle.dc_preseed.specs.declared.lines.LineFault.TheVariants as fault
use Rattle.dc_preseed.specs.declared.selected.Choices.{Choices}
use Rattle.dc_preseed.specs.declared.selected.SelectedQuestions.{SelectedQuestions}
use Rattle.dc_layer.specs.State.{LayerState}
use Rattle.dc_store.specs.Views.{store_of}
use Rattle.dc_preseed.specs.declared.selecting.Selector.{Selector}
use Rattle.std.specs.Borrow.{GName}
use Rattle.std.specs.declared.alloc.Global.{Global}
use Rattle.std.specs.declared.dyn_box.DynBox.{DynBox}

-- ---- what is told

-- a line on standard error about a line of this number
abbrev pub line_text : ℕ → List ℕ → List ℕ
line_text number text = codes "line " ++ (decimal number ++ (codes ": " ++ (text ++ newline ∷ [])))

abbrev pub fault_text : LineFault → List ℕ
fault_text fault.TooFew = codes "too few words"
fault_text fault.BadName = codes "bad name"
fault_text fault.BadType = codes "bad type"
fault_text fault.BadFlagValue = codes "bad flag value"
fault_text fault.NoQuestion = codes "no question"
fault_text fault.CantChange = codes "can't be changed"
fault_text fault.OutOfMemory = []

-- of a line that was taken its question, where that is wanted
abbrev pub done_text : Bool → ℕ → LineDone → List ℕ
done_text verbose number Nothing = []
done_text verbose number (ValueSet question) = if verbose then line_text number question else []
done_text verbose number (SeenSet question) = if verbose then line_text number question else []

-- ---- what a line does

-- The state: the joined line that goes on, the store, and where questions and templates stand in it; how lines are taken; standard error, and what the
-- last line has to tell there yet; and whether a line was refused.
pub record SelectorState : Type 0 where
  pub joining : Joining
  pub store : StoreState
  pub at : QuestionContext
  pub choices : Choices
  pub err : LinkState
  pub untold : List ℕ
  pub refused : Bool

-- a joined line of this number was refused for this
abbrev pub refused_for : SelectorState → ℕ → List ℕ → SelectorState
refused_for state number text = record state { untold = line_text number text; refused = true }

-- What a line came to is kept to be told, which nothing is where memory ran out.
abbrev pub Keeps : SelectorState → ℕ → Result LineDone LineFault → SelectorState → Type 0
Keeps old number (Ok done) new = new ≡ record old { untold = done_text old.choices.verbose number done }
Keeps old number (Err fault.OutOfMemory) new = ⊥
Keeps old number (Err error) new = new ≡ refused_for old number (fault_text error)

-- what is left by what a line did
abbrev pub after_outcome : SelectorState → ℕ → Outcome → SelectorState
after_outcome state number (Ok (done, store)) = record state { store = store; untold = done_text state.choices.verbose number done }
after_outcome state number (Err error) = refused_for state number (fault_text error)

-- a joined line is done
abbrev pub after_line : SelectorState → ℕ → Line → SelectorState
after_line state number TooLong = refused_for state number (codes "line too long")
after_line state number (Whole line) = after_outcome state number (line_set state.store state.at line state.choices.check state.choices.unseen)

abbrev pub after_joined : SelectorState → Option Joined → SelectorState
after_joined state None = record state { untold = [] }
after_joined state (Some joined) = after_line state joined.first joined.whole

-- a line is joined, and done where it ends what was joined
abbrev pub after_taken : SelectorState → Taken → SelectorState
after_taken state taken = after_joined (record state { joining = taken.joining }) taken.whole

-- a line came: it has no reply, and what it has to tell isn't told yet
abbrev pub HandlesSelection : SelectorState → Line → Response → SelectorState → Type 0
HandlesSelection old line did new = (did ≡ Silent) × (new ≡ after_taken old (taken old.joining line))

-- from a state with something to tell to one in which it is told: first what the line has to tell, and then what the layers told
pub record TellsAll (old new : SelectorState) : Type 0 where
  pub told : (mid : LinkState) × Tells old.untold old.err mid × Tells old.store.told mid new.err
  pub new_is : new ≡ record old { store = stored old.store.layers []; err = new.err; untold = [] }

-- a line came, and what there is to tell was told behind it
pub record TakesSelection (old : SelectorState) (line : Line) (did : Response) (new : SelectorState) : Type 0 where
  pub mid : SelectorState
  pub handled : HandlesSelection old line did mid
  pub tells : TellsAll mid new

-- the question that a line speaks of, where one too long speaks of none
abbrev pub questions_of_line : Line → List (List ℕ)
questions_of_line TooLong = []
questions_of_line (Whole line) = question_in line ∷ []

-- the same of a joined line, where there is one
abbrev pub questions_in : Option Joined → List (List ℕ)
questions_in None = []
questions_in (Some joined) = questions_of_line joined.whole

-- There was no memory for a joined line: at most the items of its question changed, and nothing was told of it.
pub record LosesJoined (old : SelectorState) (joined : Option Joined) (new : SelectorState) : Type 0 where
  pub at_is : new.at ≡ old.at
  pub choices_are : new.choices ≡ old.choices
  pub err_is : new.err ≡ old.err
  pub refused_is : new.refused ≡ old.refused
  pub others : AreSameButAll (questions_in joined) old.store.layers new.store.layers
  pub checked : old.choices.check ≡ true → new.store ≡ old.store

-- there was no memory for a line, or for the joined one that it ends
abbrev pub LosesSelection : SelectorState → Line → OutOfMemory → SelectorState → Type 0
LosesSelection old line error new = LosesJoined old (taken old.joining line).whole new

-- ---- a whole run

-- selections over these layers, before the first line
abbrev pub selections_over : List LayerState → QuestionContext → Choices → LinkState → SelectorState
selections_over layers at choices err = record {
  joining = at_start;
  store = stored layers [];
  at = at;
  choices = choices;
  err = err;
  untold = [];
  refused = false;
}

-- the end of the input ends the joined line that still goes on
abbrev pub taken_at_end : Joining → Taken
taken_at_end joining = record { joining = record joining { held = None }; whole = joining.held }

-- the joined line that still went on was done and told, or there was no memory for it
abbrev pub FinishesLast : SelectorState → SelectorState → LinkEnd OutOfMemory → Type 0
FinishesLast state left ended = (TellsAll (after_taken state (taken_at_end state.joining)) left × (ended ≡ link.Done))
    ⊎ (LosesJoined state state.joining.held left × (ended ≡ link.OutOfMemory))

-- What still goes on is a line where the input ended, and is done and told as any other. Where the link failed, too many bytes came, or memory ran out,
-- it is passed over.
abbrev pub Finishes : LinkEnd OutOfMemory → SelectorState → SelectorState → LinkEnd OutOfMemory → Type 0
Finishes link.Done state left ended = FinishesLast state left ended
Finishes link.LinkFault state left ended = (left ≡ state) × (ended ≡ link.LinkFault)
Finishes link.TooLong state left ended = (left ≡ state) × (ended ≡ link.TooLong)
Finishes link.OutOfMemory state left ended = (left ≡ state) × (ended ≡ link.OutOfMemory)
Finishes (link.Broken error) state left ended = (left ≡ state) × (ended ≡ link.OutOfMemory)

-- Selections that began so were taken from a link, from the last code on, to this end, and left this.
pub record IsSelected (start left : SelectorState) (old new : LinkState) (ended : LinkEnd OutOfMemory) (before code : ℕ) : Type 0 where
  pub state : SelectorState
  pub served : LinkEnd OutOfMemory
  pub serves : ServesLink TakesSelection LosesSelection old new start served state before code
  pub finishes : Finishes served state left ended

-- The same of what is handed back: the layers, standard error, and whether a line was refused.
pub record HasSelected (start : SelectorState) (layers : List LayerState) (err : LinkState) (refused : Bool) (old new : LinkState) (ended : LinkEnd OutOfMemory) (before code : ℕ) : Type 0 where
  pub left : SelectorState
  pub selected : IsSelected start left old new ended before code
  pub layers_are : layers ≡ left.store.layers
  pub err_is : err ≡ left.err
  pub refused_is : refused ≡ left.refused

-- ---- one joined line after another

-- These joined lines were done in turn, and what each has to tell was told before the next.
abbrev pub AreDone : List Joined → SelectorState → SelectorState → Type 0
AreDone [] old new = new ≡ old
AreDone (joined ∷ others) old new = (mid : SelectorState) × TellsAll (after_line old joined.first joined.whole) mid × AreDone others mid new

-- The joined lines of the text were done in turn, and left this, whatever is joined then.
abbrev pub DoesText : List ℕ → SelectorState → SelectorState → Type 0
DoesText text start left = (all : List Joined) × AreJoinedIn text all × AreDone all start (record left { joining = start.joining })

-- ---- over boxes

-- the state of selections, by the states of their boxes, and of standard error
abbrev pub selector_of : {X : Type 0} {F : X → Type 0} → (DynBox X Global F → LayerState) → SelectedQuestions X F → LinkState → SelectorState
selector_of state selections err = record {
  joining = selections.joiner;
  store = store_of state selections.questions.store.now;
  at = selections.questions.context;
  choices = selections.choices;
  err = err;
  untold = selections.untold;
  refused = selections.refused;
}

-- the same of a machine, by the state of standard error
abbrev pub machine_of : {E X : Type 0} {F : X → Type 0} → (DynBox X Global F → LayerState) → (E → LinkState) → Selector E X F → SelectorState
machine_of state link s = selector_of state s.selections (link s.err.now)

-- which store and standard error of its maker it works on
abbrev pub borrows_of : {E X : Type 0} {F : X → Type 0} → Selector E X F → GName × GName
borrows_of s = (s.selections.questions.store.ghost_name, s.err.ghost_name)
