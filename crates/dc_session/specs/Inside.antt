-- What the inner functions of a session promise. No public clause cites these.
use Rattle.std.specs.Prelude.{◌≡◌, ◌⊎◌, ℕ, true, false, List, [], map as each, Option, Some, None, Result, Ok, Err, IfOk}
use Rattle.dc_text.specs.declared.memory.OutOfMemory.{OutOfMemory}
use Rattle.dc_text.specs.Maps.{AreDistinct}
use Rattle.dc_text.specs.Names.{is_name}
use Rattle.dc_outside.specs.declared.link.LinkError.{LinkError}
use Rattle.dc_outside.specs.declared.link.LinkError.TheVariants as link
use Rattle.dc_pass.specs.declared.pass.PassError.{PassError}
use Rattle.dc_pass.specs.declared.pass.PassError.TheVariants as wire
use Rattle.dc_proto.specs.declared.command.Heard.{Heard}
use Rattle.dc_proto.specs.Replies.{reply}
use Rattle.dc_proto.specs.declared.reply.Reply.{Reply}
use Rattle.dc_store.specs.StoreLaws.{AreSameButAll}
use Rattle.dc_question.specs.declared.errors.QuestionError.{QuestionError}
use Rattle.dc_question.specs.declared.errors.QuestionError.TheVariants as error
use Rattle.dc_teletype.specs.declared.teletype.Asked.{Asked}
use Rattle.dc_teletype.specs.declared.teletype.Asked.TheVariants.{Answers}
use Rattle.dc_template.specs.Reading.{IsAnswer}
use Rattle.dc_template.specs.declared.faults.TemplateKind.{TemplateKind}
use Rattle.dc_template.specs.declared.faults.TemplateError.TheVariants.{Bad}
use Rattle.dc_session.specs.Answers.{CommandOutcome, reply_read, text_reply, field_read}
use Rattle.dc_session.specs.Machine.{StepsHeard, BreaksHeard}
use Rattle.dc_session.specs.Refusals.{refusal}
use Rattle.dc_session.specs.Displays.{Display, Shows}
use Rattle.dc_session.specs.SessionState.{SessionState}
use Rattle.dc_session.specs.declared.stepped.StepError.{StepError}
use Rattle.dc_session.specs.declared.stepped.StepError.TheVariants as step
use Rattle.dc_session.specs.declared.stepped.Stepped.{Stepped}
use Rattle.dc_session.specs.declared.stepped.Stepped.TheVariants.{Replied}
use Rattle.dc_session.specs.declared.template_files.Found.{Found}
use Rattle.dc_session.specs.declared.template_files.Found.TheVariants.{Unreadable, Missing, Faulty, Templates}

-- the name that a word is, if it is one
abbrev pub IsNamed : List ℕ → Option (List ℕ) → Type 0
IsNamed word None = is_name word ≡ false
IsNamed word (Some name) = (name ≡ word) × (is_name word ≡ true)

-- ---- template files

-- what the text of a template file says
abbrev pub SaysTemplates : List ℕ → Found → Type 0
SaysTemplates text Unreadable = ⊥
SaysTemplates text Missing = ⊥
SaysTemplates text (Faulty line) = (kind : TemplateKind) × IsAnswer text (Err (Bad line kind))
SaysTemplates text (Templates templates) = IsAnswer text (Ok templates)

-- the templates found have distinct names
abbrev pub HasDistinctNames : Found → Type 0
HasDistinctNames (Templates templates) = AreDistinct (each (λ t. t.name) templates)
HasDistinctNames _ = Unit {0}

-- ---- replies

-- a call is refused, and this is said of it, unless memory ran out
abbrev pub TellsRefusal : List ℕ → QuestionError → Result Stepped OutOfMemory → Type 0
TellsRefusal field error.OutOfMemory (Ok did) = ⊥
TellsRefusal field error (Ok did) = did ≡ Replied (refusal field error)
TellsRefusal field error (Err memory) = Unit {0}

-- what a call answered, and this is said of it, unless memory ran out
abbrev pub Tells : {A : Type 0} → List ℕ → (A → Reply) → Result A QuestionError → Result Stepped OutOfMemory → Type 0
Tells field reply (Ok answer) (Ok did) = did ≡ Replied (reply answer)
Tells field reply (Ok answer) (Err memory) = Unit {0}
Tells field reply (Err error) result = TellsRefusal field error result

-- ---- commands

-- A command comes to this, or memory ran out at its calls and at most the items of these names changed.
abbrev pub Comes : CommandOutcome → List (List ℕ) → SessionState → SessionState → Result Stepped OutOfMemory → Type 0
Comes outcome names old new (Ok did) = (did ≡ outcome.stepped) × (new ≡ record old { store = outcome.store; asking = outcome.asking })
Comes outcome names old new (Err memory) = AreSameButAll names old.store.layers new.store.layers × (new ≡ record old { store = new.store })

-- The same, where memory running out may also leave more asked for.
abbrev pub ComesAsking : CommandOutcome → List (List ℕ) → SessionState → SessionState → Result Stepped OutOfMemory → Type 0
ComesAsking outcome names old new (Ok did) = (did ≡ outcome.stepped) × (new ≡ record old { store = outcome.store; asking = outcome.asking })
ComesAsking outcome names old new (Err memory) = AreSameButAll names old.store.layers new.store.layers × (new ≡ record old { store = new.store; asking = new.asking })

-- a field of a question is told, unless memory ran out
pub record ReadsField (state : SessionState) (field name : List ℕ) (result : Result Stepped OutOfMemory) : Type 0 where
  pub told_is : IfOk result (λ did. did ≡ (reply_read state field (text_reply state) (field_read state field name)).stepped)

-- what a line does, or how it came to nothing
abbrev pub DoesHeard : Heard → SessionState → SessionState → Result Stepped StepError → Type 0
DoesHeard heard old new (Ok did) = StepsHeard heard old did new
DoesHeard heard old new (Err error) = BreaksHeard heard old error new

-- ---- the terminal

-- what a command comes to that uses no terminal
abbrev pub lifted : Result Stepped OutOfMemory → Result Stepped StepError
lifted (Ok did) = Ok did
lifted (Err memory) = Err step.OutOfMemory

-- why a line comes to nothing at which a call of the terminal had this answer
abbrev pub step_error : LinkError → StepError
step_error link.Failed = step.Term
step_error link.OutOfMemory = step.OutOfMemory

-- and at which a request over the wire had it
abbrev pub wire_error : PassError → StepError
wire_error wire.Failed = step.Term
wire_error (wire.Bad line) = step.Wire line
wire_error wire.OutOfMemory = step.OutOfMemory

-- what a call of the terminal that only tells comes to
abbrev pub done : Result (Unit {0}) LinkError → Result (Unit {0}) StepError
done (Ok unit) = Ok unit
done (Err error) = Err (step_error error)

-- what a call answered that only tells
abbrev pub told : Result (Unit {0}) StepError → Result Asked StepError
told (Ok done) = Ok (Answers [])
told (Err error) = Err error

-- this was shown on the terminal, and nothing else was done
pub record HasShown (display : Display) (old : SessionState) (result : Result Asked StepError) (new : SessionState) : Type 0 where
  pub shows : Shows old.asking display old.terminal result new.terminal
  pub kept : new ≡ record old { terminal = new.terminal }

-- how that stopped; memory may run out before anything is shown
abbrev pub StopsShowing : Display → SessionState → StepError → SessionState → Type 0
StopsShowing display old step.OutOfMemory new = (new ≡ old) ⊎ HasShown display old (Err step.OutOfMemory) new
StopsShowing display old error new = HasShown display old (Err error) new

-- this is shown by a call that says what was answered
abbrev pub Asks : Display → SessionState → SessionState → Result Asked StepError → Type 0
Asks display old new (Ok asked) = HasShown display old (Ok asked) new
Asks display old new (Err error) = StopsShowing display old error new

-- and by one that only tells
abbrev pub TellsUser : Display → SessionState → SessionState → Result (Unit {0}) StepError → Type 0
TellsUser display old new (Ok done) = HasShown display old (Ok (Answers [])) new
TellsUser display old new (Err error) = StopsShowing display old error new
