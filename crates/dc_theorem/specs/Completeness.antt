-- How a run ends at which nothing outside failed, and what it leaves where it didn't do all.
use Rattle.std.specs.Prelude.{◌≡◌, ◌≢◌, ◌⊎◌, ℕ, ◌^◌, ◌<◌, Bool, true, false, List, [], ◌∷◌, ◌++◌, length, Option, Some, None, Err, map as each}
use Rattle.std.specs.Io.KnownBytes.{prepend_known}
use Rattle.std.specs.List.{AllByRecursion}
use Rattle.dc_outside.specs.Counts.{Rose}
use Rattle.dc_outside.specs.Disk.{Disk}
use Rattle.dc_outside.specs.State.{FilesState, FilesView, LinkState}
use Rattle.dc_outside.specs.Steps.{then_calls}
use Rattle.dc_outside.specs.Talk.{then_pieces, got}
use Rattle.dc_outside.specs.declared.files.FilesCall.{FilesCall}
use Rattle.dc_outside.specs.declared.link.Piece.{Piece}
use Rattle.dc_words.specs.Stream.{all_lines}
use Rattle.dc_words.specs.declared.stream.Line.{Line}
use Rattle.dc_words.specs.declared.stream.Line.TheVariants.{Whole, TooLong}
use Rattle.dc_proto.specs.Commands.{heard}
use Rattle.dc_proto.specs.declared.command.Command.{Command}
use Rattle.dc_proto.specs.declared.command.Command.TheVariants.{LoadTemplateFile}
use Rattle.dc_proto.specs.declared.command.Heard.{Heard}
use Rattle.dc_proto.specs.declared.command.Heard.TheVariants.{Nothing, Known, Refused}
use Rattle.dc_store.specs.StoreLaws.{AreSameButAll}
use Rattle.dc_serve.specs.Execution.{Transition, IsExecution, lines_of, replies, state_after, stops}
use Rattle.dc_serve.specs.LinkRun.{AreServed, IsWhole}
use Rattle.dc_serve.specs.Said.{CutsShort, said}
use Rattle.dc_serve.specs.declared.machine.Response.{Response}
use Rattle.dc_serve.specs.declared.machine.Response.TheVariants.{Replied}
use Rattle.dc_session.specs.Answers.{CommandInputs, names_on}
use Rattle.dc_session.specs.Machine.{Gives, HasDone, Steps, StepsHeard, TellsStore, asks_to_save, sent_in}
use Rattle.dc_session.specs.SessionState.{SessionState, ScreenState}
use Rattle.dc_session.specs.declared.stepped.Stepped.{Stepped}
use Rattle.dc_session.specs.declared.template_files.Found.TheVariants.{Unreadable}
use Rattle.dc_cli.specs.Tools.{Names}
use Rattle.dc_cli.specs.declared.tool.PlacedWord.{PlacedWord}
use Rattle.dc_cli.specs.declared.tool.Tool.{Tool}
use Rattle.dc_cli.specs.declared.tool.Tool.TheVariants.{Communicate, Run, SetSelections, Answer}
use Rattle.dc_conf.specs.Configuration.{Configuration}
use Rattle.dc_conf.specs.declared.spec.LayerSpec.{LayerSpec}
use Rattle.dc_layer.specs.Patterns.{is_plain}
use Rattle.dc_layer.specs.Rules.{rules_of, are_plain}
use Rattle.dc_layer.specs.State.{LayerState, saved}
use Rattle.dc_save.specs.FolderLoading.{path_at}
use Rattle.dc_save.specs.Loading.{LoadsLayer}
use Rattle.dc_save.specs.PipeLoading.{LoadsPipe}
use Rattle.dc_save.specs.declared.loading.LoadError.TheVariants.{Damaged}
use Rattle.dc_save.specs.declared.pipe_loading.PipeError.TheVariants as pipe
use Rattle.dc_run.specs.Ends.{CountsLoads}
use Rattle.dc_run.specs.Kills.{AllDone, disk_after}
use Rattle.dc_run.specs.Saves.{Save}
use Rattle.dc_run.specs.SavingSession.{SavesAll, TakesSaving, saves_in}
use Rattle.dc_run.specs.Starting.{IsChosen, databases_of, loaded_of, misused_pipe, pattern_words}
use Rattle.dc_run.specs.World.{Links, World}
use Rattle.dc_run.specs.declared.outcome.End.{End}
use Rattle.dc_run.specs.declared.outcome.End.TheVariants as end
use Rattle.dc_run.specs.declared.outcome.PatternAt.{PatternAt}
use Rattle.dc_run.specs.declared.outcome.PatternAt.TheVariants.{Database, Word}
use Rattle.dc_run.specs.declared.settings.Settings.{Settings}

-- ---- a run at which nothing outside failed

-- No count of faults rose or stood at its last value: that of the files, those of both links, and that of starts of the program and waits for it.
pub record NoneRose (old new : World) : Type 0 where
  pub files : ¬ Rose old.stock.files.counts.faults new.stock.files.counts.faults
  pub io : ¬ Rose old.links.io.counts.faults new.links.io.counts.faults
  pub child : ¬ Rose old.links.child.counts.faults new.links.child.counts.faults
  pub program : ¬ Rose old.links.child.program.failures new.links.child.program.failures

-- fewer than 2^40 bytes came on a link, by what it tells of its talk and of its input
abbrev pub FewCame : LinkState → LinkState → Type 0
FewCame old new =
    (pieces : List Piece) → new.talk ≡ then_pieces old.talk pieces → old.input ≡ prepend_known (got pieces) new.input → length (got pieces) < 2 ^ 40

-- the same of the link whose lines a tool serves, where it serves one: of `run` and `answer` that to their program
abbrev pub FewServed : Tool → Links → Links → Type 0
FewServed (Communicate owner) old new = FewCame old.io new.io
FewServed (Run owner frontend priority command) old new = FewCame old.child new.child
FewServed (SetSelections verbose check unseen) old new = FewCame old.io new.io
FewServed (Answer command) old new = FewCame old.child new.child
FewServed used old new = Unit {0}

-- no load of a database from this disk finds a damaged file
abbrev pub IsReadable : Disk → LayerSpec → Type 0
IsReadable disk spec = (layer new : LayerState) (path : List ℕ) (line : ℕ) → ¬ LoadsLayer (Some disk) spec layer new (Err (Damaged path line))

-- no load of a database that comes through a pipe from this link finds more than may come, or no reading of it
pub record IsPipeReadable (link : LinkState) (spec : LayerSpec) : Type 0 where
  pub fits : (layer new : LayerState) (left : LinkState) → ¬ LoadsPipe spec layer new link left (Err pipe.TooLong)
  pub reads : (layer new : LayerState) (left : LinkState) (line : ℕ) → ¬ LoadsPipe spec layer new link left (Err (pipe.Damaged line))

-- The words name a tool and no wrong database, and the tool misuses no pipe. The files tell a disk, on which this configuration and all loaded
-- databases have readings, and so has what comes through a pipe, of which no more comes than may. No count of faults rose, but that of standard
-- error may have, and fewer than 2^40 bytes came on the link that is served.
pub record IsUndisturbed (words : List (List ℕ)) (used : Tool) (conf : Configuration) (settings : Settings) (old new : World) : Type 0 where
  pub named : Names words used
  pub disk : Disk
  pub told : old.stock.files.view.disk ≡ Some disk
  pub conf_is : IsChosen used (Some disk) settings.conf_path conf
  pub unmisused : misused_pipe used conf ≡ None
  pub readable : AllByRecursion (IsReadable disk) (loaded_of used conf)
  pub piped : AllByRecursion (IsPipeReadable old.links.io) (loaded_of used conf)
  pub none_rose : NoneRose old new
  pub few : FewServed used old.links new.links

-- ---- how it ends

-- a pattern of the database at this place isn't plain
pub record IsOddDatabase (specs : List LayerSpec) (place : ℕ) : Type 0 where
  pub before : List LayerSpec
  pub spec : LayerSpec
  pub after : List LayerSpec
  pub whole : specs ≡ before ++ spec ∷ after
  pub place_is : place ≡ length before
  pub not_plain : are_plain (rules_of spec) ≡ false

-- the pattern among these words that stands at this place isn't plain
pub record IsOddWord (words : List PlacedWord) (place : ℕ) : Type 0 where
  pub before : List PlacedWord
  pub word : PlacedWord
  pub after : List PlacedWord
  pub whole : words ≡ before ++ word ∷ after
  pub place_is : place ≡ word.place
  pub not_plain : is_plain word.word ≡ false

-- a pattern that isn't plain stands there
abbrev pub IsOddAt : Tool → Configuration → PatternAt → Type 0
IsOddAt used conf (Database place) = IsOddDatabase (databases_of used conf) place
IsOddAt used conf (Word place) = IsOddWord (pattern_words used) place

-- all was done, or memory ran out, or a pattern was refused that isn't plain
abbrev pub EndsWell : Tool → Configuration → End → Type 0
EndsWell used conf end.Done = Unit {0}
EndsWell used conf end.OutOfMemory = Unit {0}
EndsWell used conf (end.BadPattern at) = IsOddAt used conf at
EndsWell used conf (end.PatternTooLarge at) = IsOddAt used conf at
EndsWell used conf how = ⊥

-- ---- what is left where not all was done

-- the ends that come before any save
abbrev pub IsBeforeSaves : End → Type 0
IsBeforeSaves (end.Usage word) = Unit {0}
IsBeforeSaves (end.ConfRefused line kind) = Unit {0}
IsBeforeSaves (end.BadPattern at) = Unit {0}
IsBeforeSaves (end.PatternTooLarge at) = Unit {0}
IsBeforeSaves (end.Damaged path line) = Unit {0}
IsBeforeSaves how = ⊥

-- these are saves that the lines of a session asked for, and each was done
abbrev pub AreAsked : List Save → Type 0
AreAsked saves = (start : SessionState) × (turns : List (Transition SessionState)) × IsExecution TakesSaving start turns × (saves ≡ saves_in start turns)

-- the disk is as those first ones of the saves left it that were done
pub record StandsBehindDone (saves : List Save) (old new : Option Disk) : Type 0 where
  pub over : List Save
  pub later : List Save
  pub saves_are : saves ≡ over ++ later
  pub done : AllDone over
  pub disk_is : new ≡ disk_after old over

-- ---- where all was done

-- no call on a link failed, but for a read of what comes through a pipe that was left out, none was refused for want of memory, and no start or wait
-- of the program failed
pub record MetNoFault (old new : Links) : Type 0 where
  pub io : CountsLoads old.io.counts new.io.counts
  pub child : new.child.counts ≡ old.child.counts
  pub program : new.child.program.failures ≡ old.child.program.failures

-- ---- calls of the files that failed

-- the call is on the path of a database that isn't required, or of a file in its folder
pub record IsOfOptional (spec : LayerSpec) (call : FilesCall) : Type 0 where
  pub optional : spec.required ≡ false
  pub path_is : (call.path ≡ spec.place) ⊎ ((file : List ℕ) × (call.path ≡ path_at spec file))

-- the same of one of these databases
abbrev pub IsOfAny : List LayerSpec → FilesCall → Type 0
IsOfAny [] call = ⊥
IsOfAny (spec ∷ specs) call = IsOfOptional spec call ⊎ IsOfAny specs call

-- the call is the read of a command that is replied to with code 100
pub record IsReadBy (old : SessionState) (turn : Transition SessionState) (call : FilesCall) : Type 0 where
  pub line : List ℕ
  pub owner : Option (List ℕ)
  pub text : List ℕ
  pub line_is : turn.line ≡ Whole line
  pub heard_is : heard old.asking.escape line ≡ Known (LoadTemplateFile call.path owner)
  pub replied : turn.did ≡ Replied 100 text

-- the same of a command in one of these turns
abbrev pub IsReadIn : SessionState → List (Transition SessionState) → FilesCall → Type 0
IsReadIn start [] call = ⊥
IsReadIn start (turn ∷ turns) call = IsReadBy start turn call ⊎ IsReadIn turn.new turns call

-- These calls were added to those that are told, and each that failed is so.
pub record AddCalls (So : FilesCall → Type 0) (old new : FilesView) : Type 0 where
  pub calls : List FilesCall
  pub told_is : new.calls ≡ then_calls old.calls calls
  pub failed : AllByRecursion (λ call. call.ok ≡ false → So call) calls

-- on a link the replies to these turns were sent
pub record SendReplies (turns : List (Transition SessionState)) (old new : LinkState) : Type 0 where
  pub pieces : List Piece
  pub told_is : new.talk ≡ then_pieces old.talk pieces
  pub replied : said pieces ≡ replies turns

-- what a tool's session did, where it has one
abbrev pub AreItsTurns : Tool → SessionState → List (Transition SessionState) → Links → Links → Type 0
AreItsTurns (Communicate owner) start turns old new = IsExecution TakesSaving start turns × SendReplies turns old.io new.io
AreItsTurns (Run owner frontend priority command) start turns old new = IsExecution TakesSaving start turns × SendReplies turns old.child new.child
AreItsTurns used start turns old new = turns ≡ []

-- Each call of the files that failed was one of a load of a database that isn't required, or the read of a command with code 100.
pub record FailsAtMost (used : Tool) (specs : List LayerSpec) (start : SessionState) (old new : World) : Type 0 where
  pub turns : List (Transition SessionState)
  pub are : AreItsTurns used start turns old.links new.links
  pub adds : AddCalls (λ call. IsOfAny specs call ⊎ IsReadIn start turns call) old.stock.files.view new.stock.files.view

-- ---- the layers beside the replies

-- a command was given this, and at most the items differ on which its row writes then
pub record LeavesOthers (command : Command) (old : SessionState) (layers : List LayerState) : Type 0 where
  pub given : CommandInputs
  pub files : FilesState
  pub terminal : ScreenState
  pub gives : Gives command old given files terminal
  pub others : AreSameButAll (names_on old command given) old.store.layers layers

-- of what is heard in a line, where a command alone writes
abbrev pub LeavesHeard : Heard → SessionState → List LayerState → Type 0
LeavesHeard Nothing old layers = layers ≡ old.store.layers
LeavesHeard (Known command) old layers = (layers ≡ old.store.layers) ⊎ LeavesOthers command old layers
LeavesHeard (Refused reply) old layers = layers ≡ old.store.layers

-- the layers are those before a line, but for the items on which its row writes
abbrev pub IsBeforeLine : SessionState → Line → List LayerState → Type 0
IsBeforeLine old TooLong layers = layers ≡ old.store.layers
IsBeforeLine old (Whole line) layers = LeavesHeard (heard old.asking.escape line) old layers

-- a line asks for a save, and the layers are those that it leaves where that is done
abbrev pub IsBehindSave : SessionState → Line → List LayerState → Type 0
IsBehindSave old line layers = (asks_to_save old.asking.escape line ≡ true) × (layers ≡ each saved old.store.layers)

-- The replies to the first of the lines that came were sent whole, and of the next one nothing was said: the layers are those before it, but for
-- the items on which its row writes, or those behind the save that it asks for.
pub record IsBeforeUnsaid (start : SessionState) (pieces : List Piece) (input : Option (List ℕ)) (layers : List LayerState) : Type 0 where
  pub turns : List (Transition SessionState)
  pub line : Line
  pub rest : List Line
  pub course : IsExecution TakesSaving start turns
  pub on : stops turns ≡ false
  pub served : AreServed pieces input (lines_of turns ++ line ∷ rest)
  pub replied : said pieces ≡ replies turns
  pub layers_are : IsBeforeLine (state_after start turns) line layers ⊎ IsBehindSave (state_after start turns) line layers

-- of the reply to the last of these turns a front was sent, and the others were sent whole
abbrev pub AreCutShort : List (Transition SessionState) → List Piece → Type 0
AreCutShort turns pieces = (last : SessionState) × (code : ℕ) × CutsShort turns (said pieces) last code

-- no line was left: one stopped the session, or these are all lines that count, or the reply to the last one was cut
abbrev pub NoneLeft : List (Transition SessionState) → List Piece → Option (List ℕ) → Type 0
NoneLeft turns pieces input = (stops turns ≡ true) ⊎ AreServed pieces input (lines_of turns) ⊎ AreCutShort turns pieces

-- Each line that had its turn was answered, and the layers are those behind all turns; where no line was left, but for the items of the questions
-- that were asked.
pub record IsBehindAll (start : SessionState) (pieces : List Piece) (input : Option (List ℕ)) (layers : List LayerState) : Type 0 where
  pub turns : List (Transition SessionState)
  pub rest : List Line
  pub course : IsExecution TakesSaving start turns
  pub served : AreServed pieces input (lines_of turns ++ rest)
  pub answered : (said pieces ≡ replies turns) ⊎ AreCutShort turns pieces
  pub layers_are : (layers ≡ (state_after start turns).store.layers)
      ⊎ (NoneLeft turns pieces input × AreSameButAll (state_after start turns).asking.asked (state_after start turns).store.layers layers)

-- The layers aren't behind what was said on the link that a session served.
pub record KeepUp (start : SessionState) (old new : LinkState) (layers : List LayerState) : Type 0 where
  pub pieces : List Piece
  pub told_is : new.talk ≡ then_pieces old.talk pieces
  pub took : old.input ≡ prepend_known (got pieces) new.input
  pub stand : IsBeforeUnsaid start pieces old.input layers ⊎ IsBehindAll start pieces old.input layers

-- memory ran out, or the terminal failed, or a save did, or a line of the wire was unreadable
abbrev pub EndsEarly : End → Type 0
EndsEarly end.OutOfMemory = Unit {0}
EndsEarly end.TermFault = Unit {0}
EndsEarly (end.FilesFault path) = Unit {0}
EndsEarly (end.BadWire line) = Unit {0}
EndsEarly how = ⊥

-- ---- the replies of a session at which no file was unreadable

-- what is heard in a line is answered by its row, with what is found of the file that it looks for
abbrev pub AnswersHeard : Heard → SessionState → Stepped → SessionState → Type 0
AnswersHeard Nothing old did new = StepsHeard Nothing old did new
AnswersHeard (Known command) old did new = (done : HasDone command old did new) × (done.given.found ≢ Unreadable)
AnswersHeard (Refused reply) old did new = StepsHeard (Refused reply) old did new

abbrev pub AnswersLine : SessionState → Line → Stepped → SessionState → Type 0
AnswersLine old TooLong did new = Steps old TooLong did new
AnswersLine old (Whole line) did new = AnswersHeard (heard old.asking.escape line) old did new

-- a line was answered so, and the reply is sent in the mode that stands before it
pub record HandlesFound (old : SessionState) (line : Line) (did : Response) (new : SessionState) : Type 0 where
  pub stepped : Stepped
  pub steps : AnswersLine old line stepped new
  pub did_is : did ≡ sent_in old.asking.escape stepped

-- the same, where one that asks for a save is answered by that
abbrev pub HandlesAll : Bool → SessionState → Line → Response → SessionState → Type 0
HandlesAll true old line did new = SavesAll old did new
HandlesAll false old line did new = HandlesFound old line did new

-- A line had its turn so. What the layers told at it is told behind the reply.
pub record Answers (old : SessionState) (line : Line) (did : Response) (new : SessionState) : Type 0 where
  pub mid : SessionState
  pub handled : HandlesAll (asks_to_save old.asking.escape line) old line did mid
  pub tells : TellsStore mid new

-- Each line that counts had its turn so, or one stopped the session, and the replies were sent on the link, whole and in order.
pub record AnswersAll (start : SessionState) (old new : LinkState) : Type 0 where
  pub pieces : List Piece
  pub told_is : new.talk ≡ then_pieces old.talk pieces
  pub took : old.input ≡ prepend_known (got pieces) new.input
  pub turns : List (Transition SessionState)
  pub course : IsExecution Answers start turns
  pub replied : said pieces ≡ replies turns
  pub read : (stops turns ≡ true) ⊎ ((lines_of turns ≡ all_lines (got pieces)) × IsWhole pieces old.input)
