-- What the inner functions of a run promise. No public clause cites these.
use Rattle.std.specs.Prelude.{◌≡◌, ◌⊎◌, ℕ, ◌==◌, nat_lt, Bool, true, false, List, [], ◌∷◌, ◌++◌, ◌<◌, ◌≤◌, length, Option, Some, None, is_some, option_map, option_to_list, Result, Ok, Err, codes, decimal, if◌then◌else◌}
use Rattle.std.specs.Option.{option_map_or}
use Rattle.std.specs.List.{AllByRecursion, flat_map, list_all}
use Rattle.dc_conf.specs.Configuration.{AreDisjoint, Configuration, HavePlans, IsOnce}
use Rattle.dc_conf.specs.Nodes.{driver_line_of}
use Rattle.dc_conf.specs.Plans.{IsOver, are_disjoint}
use Rattle.dc_conf.specs.Trees.{shape}
use Rattle.dc_conf.specs.declared.faults.ConfKind.TheVariants.{PipeUse}
use Rattle.dc_conf.specs.declared.plans.Plan.{Plan}
use Rattle.dc_conf.specs.declared.plans.Resolved.{Resolved}
use Rattle.dc_conf.specs.declared.spec.LayerSort.TheVariants.{File, Tree as InTree, Pack, Pipe}
use Rattle.dc_conf.specs.declared.spec.LayerSpec.{LayerSpec}
use Rattle.dc_shelf.specs.Shelves.{count_of}
use Rattle.dc_layer.specs.Patterns.{Sought}
use Rattle.dc_layer.specs.declared.pattern.PatternError.{PatternError}
use Rattle.dc_store.specs.StoreLaws.{AreSameButAll}
use Rattle.dc_tools.specs.Copying.{Copying}
use Rattle.dc_tools.specs.Showing.{owner_text}
use Rattle.dc_text.specs.Ascii.{newline}
use Rattle.dc_layer.specs.State.{LayerState}
use Rattle.dc_question.specs.Questions.{QuestionContext}
use Rattle.dc_session.specs.Refusals.{refusal}
use Rattle.dc_serve.specs.declared.outcome.LinkEnd.{LinkEnd}
use Rattle.dc_save.specs.declared.saving.SaveError.{SaveError}
use Rattle.dc_session.specs.Serving.{Resources, resources_of}
use Rattle.dc_run.specs.Saves.{IsSave, Save, kept_by}
use Rattle.dc_run.specs.SavingSession.{IsServedSaving, save_of}
use Rattle.dc_run.specs.declared.saving_session.SavingBreak.{SavingBreak}
use Rattle.dc_outside.specs.State.{FilesState, LinkState}
use Rattle.dc_session.specs.SessionState.{SessionState, session_of}
use Rattle.dc_session.specs.declared.session.Session.{Session}
use Rattle.dc_session.specs.declared.asking.Asking.{Asking}
use Rattle.dc_session.specs.declared.policy.AskPolicy.{AskPolicy}
use Rattle.dc_session.specs.declared.stepped.StepError.{StepError}
use Rattle.dc_session.specs.declared.stepped.Stepped.{Stepped}
use Rattle.dc_session.specs.declared.stepped.Stepped.TheVariants as saving
use Rattle.dc_store.specs.Plans.{names, stored}
use Rattle.dc_session.specs.declared.template_loading.FileEnd.{FileEnd}
use Rattle.dc_session.specs.declared.template_loading.FileEnd.TheVariants as file
use Rattle.dc_run.specs.declared.loading_templates.FilesLoaded.{FilesLoaded}
use Rattle.dc_run.specs.declared.outcome.ToolAnswer.{ToolAnswer}
use Rattle.dc_run.specs.declared.outcome.ToolEnd.{ToolEnd}
use Rattle.dc_run.specs.declared.serving.RunAsking.{RunAsking}
use Rattle.dc_cli.specs.declared.tool.Tool.{Tool}
use Rattle.dc_cli.specs.declared.tool.Tool.TheVariants.{Run, Show, CopyDb, Answer}
use Rattle.dc_cli.specs.declared.tool.PlacedWord.{PlacedWord}
use Rattle.dc_tools.specs.declared.report.CopyReport.{CopyReport}
use Rattle.dc_run.specs.Jobs.{Copies, Prints, PrintsMade, TellsUnsaid, refused_status, selections_end}
use Rattle.dc_drill.specs.Drilling.{Drills}
use Rattle.dc_dump.specs.declared.saying.Said.{Said}
use Rattle.dc_preseed.specs.Selecting.{HasSelected, selections_over}
use Rattle.dc_preseed.specs.declared.selected.Choices.{Choices}
use Rattle.dc_text.specs.declared.memory.OutOfMemory.{OutOfMemory as NoMemory}
use Rattle.dc_frontend.specs.declared.frontend.Frontend.TheVariants.{Noninteractive}
use Rattle.dc_session.specs.SessionState.{ScreenState}
use Rattle.dc_run.specs.declared.settings.Settings.{Settings}
use Rattle.dc_run.specs.declared.outcome.ToolEnd.TheVariants as tool
use Rattle.dc_run.specs.Starting.{IsRefusedFor, IsWrongWord, chosen, session_at, are_patterns, databases_of, misused_among, roots, sought}
use Rattle.dc_run.specs.declared.outcome.End.{End}
use Rattle.dc_run.specs.declared.outcome.End.TheVariants as end
use Rattle.dc_run.specs.declared.outcome.PatternAt.TheVariants.{Word}
use Rattle.dc_run.specs.Roots.{CopyRoots, Roots}
use Rattle.dc_run.specs.declared.starting.CopyRoots.{CopyRoots as CopyRootsOf}
use Rattle.dc_run.specs.declared.starting.Roots.{Roots as RootsOf}
use Rattle.dc_run.specs.EndLines.{HasSaid}
use Rattle.dc_run.specs.Ends.{end_of_pattern, tool_end_of}
use Rattle.dc_run.specs.TemplateLoading.{FileTurn, IsFileTurn, refusal_of, lines_at, EndsAt, HasLoadedFiles}

-- ---- one template file

-- what is told of a file, where it is refused
abbrev pub end_text : List ℕ → FileEnd → Option (List ℕ)
end_text path file.Loaded = None
end_text path file.Unreadable = None
end_text path file.Missing = Some (path ++ codes ": no such file")
end_text path (file.Faulty line) = Some (path ++ codes ": bad template, line " ++ decimal line)
end_text path (file.Refused error) = Some (refusal [] error).text

-- the read of the file failed
abbrev pub is_unread : FileEnd → Bool
is_unread file.Unreadable = true
is_unread _ = false

-- in a line
abbrev pub told_line : Option (List ℕ) → List ℕ
told_line text = option_map_or (λ line. line ++ newline ∷ []) text []

-- the file was read, and its templates were loaded, or it was told why not, and behind it what the layers told
pub record GoesThrough (start : SessionState) (path : List ℕ) (old new : LinkState) (refused : Bool) (left : SessionState) : Type 0 where
  pub turn : FileTurn
  pub path_is : turn.path ≡ path
  pub left_is : left ≡ turn.new
  pub taken : IsFileTurn start turn
  pub refused_is : refused ≡ is_some (refusal_of start turn.path turn.found)
  pub said : HasSaid (lines_at start turn) old new

-- or the tool ended at it, and nothing was told
abbrev pub LoadsOne : SessionState → List ℕ → LinkState → LinkState → Result Bool ToolEnd → SessionState → Type 0
LoadsOne start path old new (Ok refused) left = GoesThrough start path old new refused left
LoadsOne start path old new (Err ended) left = ((later : List (List ℕ)) → EndsAt ended start (path ∷ later) left) × (new ≡ old)

-- ---- all files

abbrev pub status_by : Bool → ℕ
status_by refused = if refused then 1 else 0

pub record LoadsFiles (start : SessionState) (paths : List (List ℕ)) (old new : LinkState) (loaded : FilesLoaded) (left : SessionState) : Type 0 where
  pub said : List ℕ
  pub loads : HasLoadedFiles start paths loaded.ended said (status_by loaded.refused) left
  pub telling : HasSaid said old new

-- a session over these, whatever it asks, which the loading of templates doesn't look at
abbrev pub loading_over : Resources → QuestionContext → List ℕ → AskPolicy → Asking → SessionState
loading_over resources at owner policy asking = record {
  store = stored resources.layers [];
  files = resources.files;
  terminal = resources.terminal;
  err = resources.err;
  at = at;
  owner = owner;
  policy = policy;
  asking = asking;
}

-- the same over layers and files, behind a reply of this code
pub record HasLoadedOver (start : SessionState) (paths : List (List ℕ)) (old new : LinkState)
    (before : ℕ) (answer : ToolAnswer) (layers : List LayerState) (files : FilesState) : Type 0 where
  pub said : List ℕ
  pub state : SessionState
  pub layers_are : layers ≡ state.store.layers
  pub files_are : files ≡ state.files
  pub terminal_is : state.terminal ≡ start.terminal
  pub err_is : state.err ≡ start.err
  pub loads : HasLoadedFiles start paths answer.ended said answer.status state
  pub last_code_is : answer.last_code ≡ before
  pub waits : answer.is_started ≡ false
  pub telling : HasSaid said old new

-- ---- a tool

-- a session, by the states of its boxes, where no box is named beside it
abbrev pub session_in : {A B C X : Type 0} {F : X → Type 0} → ((x : X) × F x → LayerState) → (A → FilesState) → (B → LinkState) → (C → LinkState)
    → Session A B C X F → SessionState
session_in state files link err session = session_of (λ b. state (b.vtable, b.value)) files link err session

-- whether a line came to a save
abbrev pub is_saving : Stepped → Bool
is_saving saving.Save = true
is_saving _ = false

-- all layers of a session were saved, or a call of that failed or found no memory
pub record SavesAsked (old new : SessionState) (answer : Result (Unit {0}) SaveError) : Type 0 where
  pub is : IsSave (save_of old new.files answer)
  pub new_is : new ≡ record old { store = stored (kept_by answer old.store.layers) old.store.told; files = new.files }

-- the commands of a program were served, with the terminal left so and these saves
pub record HasServedProgram (start : SessionState) (old new : LinkState)
    (before : ℕ) (answer : ToolAnswer) (left : Resources) (saves : List Save) : Type 0 where
  pub ended : LinkEnd SavingBreak
  pub ended_is : answer.ended ≡ tool_end_of ended
  pub served : IsServedSaving start left old new ended before answer.last_code saves
  pub waits : answer.is_started ≡ true

-- the tool that asks so, with this command
abbrev pub asked_run : RunAsking → List (List ℕ) → Tool
asked_run asking command = Run asking.owner.now asking.frontend asking.priority command

-- the command of a tool that has one has a word
abbrev pub HasCommand : Tool → Type 0
HasCommand (Run owner frontend priority command) = 0 < length command
HasCommand (Answer command) = 0 < length command
HasCommand used = Unit {0}

-- ---- the databases of a tool

-- the destination of a copy shares no database with its source, and neither does that of questions with that of templates, where these are used
abbrev pub AreApartIn : Tool → List Plan → Type 0
AreApartIn (Show database shown) plans = Unit {0}
AreApartIn (CopyDb copy) (source ∷ templates ∷ dest ∷ []) = are_disjoint (shape source) (shape dest) ≡ true
AreApartIn (CopyDb copy) plans = ⊥
AreApartIn used plans = AreDisjoint plans

-- at most sixteen databases are of each sort that is kept in files, and one comes through a pipe
pub record AreFew (specs : List LayerSpec) : Type 0 where
  pub files : count_of File specs ≤ 16
  pub trees : count_of InTree specs ≤ 16
  pub packs : count_of Pack specs ≤ 16
  pub pipes : count_of Pipe specs ≤ 1

-- the databases that a tool reaches, and the plan of each of its roots
pub record IsResolvedFor (used : Tool) (conf : Configuration) (resolved : Resolved) : Type 0 where
  pub specs_are : resolved.specs ≡ databases_of used conf
  pub plans_are : HavePlans conf.nodes (databases_of used conf) resolved.plans (roots used conf)
  pub over : AllByRecursion (λ plan. IsOver (shape plan) (length resolved.specs)) resolved.plans
  pub once : AllByRecursion IsOnce resolved.plans
  pub few : AreFew resolved.specs
  pub made : list_all (λ spec. is_some (driver_line_of conf.nodes spec.name)) resolved.specs ≡ true
  pub right : IsWrongWord used conf None
  pub apart : AreApartIn used resolved.plans

-- a word names a wrong database, or memory ran out
abbrev pub IsUnresolvedFor : Tool → Configuration → End → Type 0
IsUnresolvedFor used conf how = (how ≡ end.OutOfMemory) ⊎ ((word : ℕ) × (how ≡ end.Usage word) × IsWrongWord used conf (Some word))

-- the end of a run whose root at this place is unknown: one of the configuration itself is none
abbrev pub unknown_end : Tool → ℕ → End
unknown_end (CopyDb copy) root = if root == 0 then end.Usage copy.source.place else (if root == 2 then end.Usage copy.dest.place else end.OutOfMemory)
unknown_end (Show (Some database) shown) root = if root == 0 then end.Usage database.place else end.OutOfMemory
unknown_end used root = end.OutOfMemory

-- the place of the destination, where its plan shares a database with that of the source
abbrev pub overlap_in : Tool → List Plan → Option ℕ
overlap_in (CopyDb copy) (source ∷ templates ∷ dest ∷ []) = if are_disjoint (shape source) (shape dest) then None else Some copy.dest.place
overlap_in used plans = None

-- one of these databases comes or goes through a pipe, and the tool doesn't copy
pub record IsMisusedIn (used : Tool) (conf : Configuration) (specs : List LayerSpec) (how : End) : Type 0 where
  pub spec : LayerSpec
  pub line : ℕ
  pub end_is : how ≡ end.ConfRefused line PipeUse
  pub misused : misused_among used specs ≡ Some spec
  pub line_is : driver_line_of conf.nodes spec.name ≡ Some line

-- ---- the patterns of a tool

-- one of the words isn't built, and those before it are patterns, or memory ran out
pub record IsUnbuiltAt (words : List PlacedWord) (how : End) : Type 0 where
  pub error : PatternError
  pub before : List PlacedWord
  pub word : PlacedWord
  pub after : List PlacedWord
  pub end_is : how ≡ end_of_pattern (Word word.place) error
  pub words_are : words ≡ before ++ word ∷ after
  pub built : are_patterns before ≡ true
  pub refused : IsRefusedFor word.word error

abbrev pub IsUnbuilt : List PlacedWord → End → Type 0
IsUnbuilt words how = (how ≡ end.OutOfMemory) ⊎ IsUnbuiltAt words how

-- both words are given, and the one stands before the other
abbrev pub comes_before : Option PlacedWord → Option PlacedWord → Bool
comes_before (Some one) (Some other) = nat_lt one.place other.place
comes_before one other = false

-- the patterns by which a tool copies
abbrev pub ArePatternsOf : Tool → Option Sought → Option Sought → Type 0
ArePatternsOf (CopyDb copy) by_name by_owner = (by_name ≡ option_map sought copy.by_name) × (by_owner ≡ option_map sought copy.by_owner)
ArePatternsOf used by_name by_owner = Unit {0}

-- a tool that copies does it by these patterns, and no other copies
abbrev pub IsCopyBy : Tool → Option Sought → Option Sought → Option CopyRootsOf → Type 0
IsCopyBy (CopyDb copy) by_name by_owner made = (dest : Plan) × (made ≡ Some (record { dest = dest; by_name = by_name; by_owner = by_owner }))
IsCopyBy used by_name by_owner made = made ≡ None

-- the plans of the roots
abbrev pub plans_of : RootsOf → List Plan
plans_of roots = roots.config ∷ roots.templates ∷ option_to_list (option_map (λ copy. copy.dest) roots.copy)

-- ---- show and copydb

-- where questions and templates stand for a user of the language
abbrev pub context_by : Roots → List ℕ → QuestionContext
context_by roots lang = record { config = roots.config; templates = roots.templates; lang = lang }

-- a line for each question of the owners
abbrev pub owners_texts : List LayerState → QuestionContext → List (List ℕ) → List ℕ
owners_texts layers at owners = flat_map (owner_text layers at) owners

-- the text was printed, or that failed, and that is the answer
pub record HasPrinted (text : List ℕ) (old new : LinkState) (before : ℕ) (answer : ToolAnswer) : Type 0 where
  pub prints : Prints text old new answer.ended
  pub code_is : answer.last_code ≡ before
  pub status_is : answer.status ≡ 0
  pub waits : answer.is_started ≡ false

-- the copy from the one database into the other
abbrev pub copying_by : Roots → CopyRoots → Copying
copying_by roots copy = record { source = roots.config; dest = copy.dest; templates = roots.templates; by_name = copy.by_name; by_owner = copy.by_owner }

-- the items were copied over these layers, and what is reported of them is told
pub record HasCopiedOver (copy : Copying) (layers left : List LayerState) (old new : LinkState) (before : ℕ) (answer : ToolAnswer) : Type 0 where
  pub said : List ℕ
  pub copies : Copies copy layers left answer.ended said answer.status
  pub others : AreSameButAll (names layers copy.source) layers left
  pub telling : HasSaid said old new
  pub code_is : answer.last_code ≡ before
  pub waits : answer.is_started ≡ false

abbrev pub CopiesOver : Roots → List LayerState → List LayerState → LinkState → LinkState → ℕ → ToolAnswer → Type 0
CopiesOver roots layers left old new before answer =
    (copy : CopyRoots) × (roots.copy ≡ Some copy) × HasCopiedOver (copying_by roots copy) layers left old new before answer

-- the answer of a copy whose report was told, or that ran out of memory
abbrev pub TellsCopied : {E : Type 0} → Result CopyReport E → LinkState → LinkState → ℕ → ToolAnswer → Type 0
TellsCopied (Ok report) old new before answer =
    HasSaid report.lines old new
    × (answer ≡ record { ended = tool.Done; is_started = false; last_code = before; status = refused_status report.refused })
TellsCopied (Err error) old new before answer = (new ≡ old) × (answer ≡ record { ended = tool.OutOfMemory; is_started = false; last_code = before; status = 0 })

-- ---- set-selections, get-selections and drill

-- it was told which questions can't be said, behind a text whose printing ended so
pub record HasToldUnsaid (names : List (List ℕ)) (ended : ToolEnd) (status : ℕ) (err new_err : LinkState) : Type 0 where
  pub said : List ℕ
  pub tells : TellsUnsaid names ended said status
  pub telling : HasSaid said err new_err

-- the text was printed, or that failed, and it was told what can't be said
pub record HasPrintedAnswers (answers : Said) (old new err new_err : LinkState) (before : ℕ) (answer : ToolAnswer) : Type 0 where
  pub prints : Prints answers.text old new answer.ended
  pub told : HasToldUnsaid answers.left_out answer.ended answer.status err new_err
  pub code_is : answer.last_code ≡ before
  pub waits : answer.is_started ≡ false

-- the answer of a text that was made and printed, or for which there was no memory
abbrev pub PrintsAnswers : {E : Type 0} → Result Said E → LinkState → LinkState → LinkState → LinkState → ℕ → ToolAnswer → Type 0
PrintsAnswers (Ok answers) old new err new_err before answer = HasPrintedAnswers answers old new err new_err before answer
PrintsAnswers (Err error) old new err new_err before answer =
    (new ≡ old) × (new_err ≡ err) × (answer ≡ record { ended = tool.OutOfMemory; is_started = false; last_code = before; status = 0 })

-- the selections that came on the link were taken into these layers, and told on standard error
pub record HasTakenOver (choices : Choices) (at : QuestionContext) (layers left : List LayerState) (old new err new_err : LinkState)
    (before : ℕ) (answer : ToolAnswer) : Type 0 where
  pub ended : LinkEnd NoMemory
  pub ended_is : answer.ended ≡ selections_end ended
  pub refused : Bool
  pub selected : HasSelected (selections_over layers at choices err) left new_err refused old new ended before answer.last_code
  pub status_is : answer.status ≡ refused_status refused
  pub waits : answer.is_started ≡ false

-- a session of these roots over these layers, whatever else it works on, was served the commands for so many questions
abbrev pub DrillsOver : ℕ → Roots → Settings → List LayerState → List LayerState → Result (List ℕ) (LinkEnd StepError) → Type 0
DrillsOver count roots settings layers left result =
    (files : FilesState) (terminal : ScreenState) (err : LinkState)
    → Drills count
    (session_at (resources_of layers files terminal err) roots settings (codes "drill") (Some Noninteractive) (chosen settings roots)) left result

-- and its numbers were printed
pub record HasDrilledOver (count : ℕ) (roots : Roots) (settings : Settings) (layers left : List LayerState) (old new : LinkState)
    (before : ℕ) (answer : ToolAnswer) : Type 0 where
  pub result : Result (List ℕ) (LinkEnd StepError)
  pub drills : DrillsOver count roots settings layers left result
  pub prints : PrintsMade result old new answer.ended
  pub code_is : answer.last_code ≡ before
  pub status_is : answer.status ≡ 0
  pub waits : answer.is_started ≡ false
