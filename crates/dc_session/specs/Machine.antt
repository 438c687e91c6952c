-- The plain machine behind a link: what a line does, and what it leaves.
use Rattle.std.specs.Prelude.{◌≡◌, ◌⊎◌, ℕ, Bool, true, false, List, [], Option, Some, None, Result, Ok, Err}
use Rattle.dc_outside.specs.LinkCalls.{Tells}
use Rattle.dc_text.specs.declared.memory.OutOfMemory as memory
use Rattle.dc_words.specs.declared.stream.Line.{Line}
use Rattle.dc_words.specs.declared.stream.Line.TheVariants.{Whole, TooLong}
use Rattle.dc_proto.specs.Commands.{heard}
use Rattle.dc_proto.specs.Replies.{line_too_long, printed}
use Rattle.dc_proto.specs.declared.command.Command.{Command}
use Rattle.dc_proto.specs.declared.command.Command.TheVariants.{LoadTemplateFile, XSave}
use Rattle.dc_proto.specs.declared.command.Heard.{Heard}
use Rattle.dc_proto.specs.declared.command.Heard.TheVariants.{Nothing, Known, Refused}
use Rattle.dc_proto.specs.declared.reply.Reply.{Reply}
use Rattle.dc_store.specs.Plans.{stored}
use Rattle.dc_store.specs.StoreLaws.{AreSameButAll}
use Rattle.dc_serve.specs.declared.machine.Response.{Response}
use Rattle.dc_serve.specs.declared.machine.Response.TheVariants as heeded
use Rattle.dc_session.specs.Answers.{CommandInputs, answer, after_command, names_on}
use Rattle.dc_session.specs.Displays.{displayed, Shows}
use Rattle.dc_session.specs.Refusals.{saved}
use Rattle.dc_session.specs.SessionState.{FilesState, ScreenState, SessionState}
use Rattle.dc_session.specs.declared.stepped.StepError.{StepError}
use Rattle.dc_session.specs.declared.stepped.StepError.TheVariants as step
use Rattle.dc_session.specs.TemplateFiles.{Finds, FindsNoMemory}
use Rattle.dc_session.specs.declared.stepped.Stepped.{Stepped}
use Rattle.dc_session.specs.declared.stepped.Stepped.TheVariants.{Silent, Replied, Save, Stopped}
use Rattle.dc_session.specs.declared.template_files.Found.{Found}
use Rattle.dc_session.specs.declared.template_files.Found.TheVariants.{Missing}

-- ---- commands

-- the file in which a command looks for templates
abbrev pub file_of : Command → Option (List ℕ)
file_of (LoadTemplateFile path owner) = Some path
file_of command = None

-- what is found there, by one read; a command that looks for none leaves the files
abbrev pub Looks : Option (List ℕ) → FilesState → Found → FilesState → Type 0
Looks None old found new = (found ≡ Missing) × (new ≡ old)
Looks (Some path) old found new = Finds path old found new

-- a command is given this, by the files and by the terminal
pub record Gives (command : Command) (old : SessionState) (given : CommandInputs) (files : FilesState) (terminal : ScreenState) : Type 0 where
  pub looks : Looks (file_of command) old.files given.found files
  pub shows : Shows old.asking (displayed old command) old.terminal (Ok given.asked) terminal

-- the command was answered, and left this
pub record HasDone (command : Command) (old : SessionState) (stepped : Stepped) (new : SessionState) : Type 0 where
  pub given : CommandInputs
  pub gives : Gives command old given new.files new.terminal
  pub stepped_is : stepped ≡ (answer old command given).stepped
  pub new_is : new ≡ after_command old command given new.files new.terminal

-- what a command that looks at the files leaves of them where memory ran out in that
abbrev pub LooksInVain : Option (List ℕ) → FilesState → FilesState → Type 0
LooksInVain None old new = new ≡ old
LooksInVain (Some path) old new = FindsNoMemory path old new

-- memory ran out where the command looked at the files, or where it used the terminal
pub record GivesInPart (command : Command) (old new : SessionState) : Type 0 where
  pub store : new.store ≡ old.store
  pub gives : (LooksInVain (file_of command) old.files new.files × (new.terminal ≡ old.terminal))
      ⊎ (Shows old.asking (displayed old command) old.terminal (Err step.OutOfMemory) new.terminal × (new.files ≡ old.files))

-- it was given all, and then memory ran out: at most the items that its writes are on changed
pub record LeavesInPart (command : Command) (old new : SessionState) : Type 0 where
  pub given : CommandInputs
  pub gives : Gives command old given new.files new.terminal
  pub others : AreSameButAll (names_on old command given) old.store.layers new.store.layers

-- Memory ran out at a command. What was asked for may have changed.
pub record IsDoneInPart (command : Command) (old new : SessionState) : Type 0 where
  pub part : GivesInPart command old new ⊎ LeavesInPart command old new
  pub err : new.err ≡ old.err
  pub at : new.at ≡ old.at
  pub owner : new.owner ≡ old.owner
  pub policy : new.policy ≡ old.policy

-- the terminal or the wire failed at a command, or a line of the wire is unreadable, and nothing else has changed
pub record FailsToShow (command : Command) (old : SessionState) (error : StepError) (new : SessionState) : Type 0 where
  pub shows : Shows old.asking (displayed old command) old.terminal (Err error) new.terminal
  pub new_is : new ≡ record old { terminal = new.terminal }

-- ---- lines

abbrev pub StepsHeard : Heard → SessionState → Stepped → SessionState → Type 0
StepsHeard Nothing old did new = (did ≡ Silent) × (new ≡ old)
StepsHeard (Known command) old did new = HasDone command old did new
StepsHeard (Refused reply) old did new = (did ≡ Replied reply) × (new ≡ old)

-- a line is read in the mode that stands before it
abbrev pub Steps : SessionState → Line → Stepped → SessionState → Type 0
Steps old TooLong did new = (did ≡ Replied line_too_long) × (new ≡ old)
Steps old (Whole line) did new = StepsHeard (heard old.asking.escape line) old did new

-- what asks for a save
abbrev pub is_save : Heard → Bool
is_save (Known XSave) = true
is_save said = false

-- whether a line asks for a save, read in this mode
abbrev pub asks_to_save : Bool → Line → Bool
asks_to_save escape TooLong = false
asks_to_save escape (Whole line) = is_save (heard escape line)

-- a reply is sent as it is printed
abbrev pub printed_in : Bool → Reply → Response
printed_in escape reply = heeded.Replied reply.code (printed escape reply)

-- what a line comes to, as it is sent; that to a save goes out once that is done
abbrev pub sent_in : Bool → Stepped → Response
sent_in escape Silent = heeded.Silent
sent_in escape (Replied reply) = printed_in escape reply
sent_in escape Save = printed_in escape saved
sent_in escape Stopped = heeded.Stopped

-- and its reply is sent in the same mode
pub record Handles (old : SessionState) (line : Line) (did : Response) (new : SessionState) : Type 0 where
  pub stepped : Stepped
  pub steps : Steps old line stepped new
  pub did_is : did ≡ sent_in old.asking.escape stepped

-- what the layers told is told on standard error, as far as that takes it
pub record TellsStore (old new : SessionState) : Type 0 where
  pub told : Tells old.store.told old.err new.err
  pub new_is : new ≡ record old { store = stored old.store.layers []; err = new.err }

-- a line came, and what the layers told at it was told behind its reply
pub record TakesLine (old : SessionState) (line : Line) (did : Response) (new : SessionState) : Type 0 where
  pub mid : SessionState
  pub handled : Handles old line did mid
  pub tells : TellsStore mid new

-- what a command leaves that isn't answered
abbrev pub BreaksOff : Command → SessionState → StepError → SessionState → Type 0
BreaksOff command old step.OutOfMemory new = (new ≡ old) ⊎ IsDoneInPart command old new
BreaksOff command old step.Term new = FailsToShow command old step.Term new
BreaksOff command old (step.Wire line) new = FailsToShow command old (step.Wire line) new

-- memory ran out where nothing is done
abbrev pub BreaksIdle : SessionState → StepError → SessionState → Type 0
BreaksIdle old step.OutOfMemory new = new ≡ old
BreaksIdle old step.Term new = ⊥
BreaksIdle old (step.Wire line) new = ⊥

abbrev pub BreaksHeard : Heard → SessionState → StepError → SessionState → Type 0
BreaksHeard Nothing old error new = BreaksIdle old error new
BreaksHeard (Known command) old error new = BreaksOff command old error new
BreaksHeard (Refused reply) old error new = BreaksIdle old error new

-- memory ran out at a line, or the terminal or the wire failed, or had an unreadable line
abbrev pub Aborts : SessionState → Line → StepError → SessionState → Type 0
Aborts old TooLong error new = BreaksIdle old error new
Aborts old (Whole line) error new = BreaksHeard (heard old.asking.escape line) old error new

-- ---- what the calls of a session do: they are answered, or memory ran out, or the terminal or the wire stopped them

abbrev pub Does : Command → SessionState → SessionState → Result Stepped memory.OutOfMemory → Type 0
Does command old new (Ok did) = HasDone command old did new
Does command old new (Err error) = BreaksOff command old step.OutOfMemory new

abbrev pub DoesShowing : Command → SessionState → SessionState → Result Stepped StepError → Type 0
DoesShowing command old new (Ok did) = HasDone command old did new
DoesShowing command old new (Err error) = BreaksOff command old error new
