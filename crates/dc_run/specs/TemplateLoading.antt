-- What the tool `loadtemplate` does with its files, one after another (debconf-loadtemplate(1)): the templates of each are loaded, or it is told
-- why not and the next file goes on. What the layers tell of a file is told behind that. A file that can't be read ends the tool.
use Rattle.std.specs.Prelude.{◌≡◌, ◌≢◌, ◌⊎◌, ℕ, Bool, false, ◌||◌, List, [], ◌∷◌, ◌++◌, Option, Some, None, is_some, Result, Ok, Err, codes, decimal, if◌then◌else◌}
use Rattle.std.specs.Option.{option_map_or}
use Rattle.dc_text.specs.Ascii.{newline}
use Rattle.dc_proto.specs.declared.command.Command.TheVariants.{LoadTemplateFile}
use Rattle.dc_store.specs.Plans.{StoreState, stored}
use Rattle.dc_question.specs.Ownership.{loaded}
use Rattle.dc_question.specs.declared.errors.QuestionError.{QuestionError}
use Rattle.dc_session.specs.Answers.{loading}
use Rattle.dc_session.specs.Machine.{IsDoneInPart}
use Rattle.dc_session.specs.Refusals.{refusal}
use Rattle.dc_session.specs.SessionState.{SessionState}
use Rattle.dc_session.specs.TemplateFiles.{Finds}
use Rattle.dc_session.specs.declared.template_files.Found.{Found}
use Rattle.dc_session.specs.declared.template_files.Found.TheVariants.{Unreadable, Missing, Faulty, Templates}
use Rattle.dc_run.specs.declared.outcome.ToolEnd.{ToolEnd}
use Rattle.dc_run.specs.declared.outcome.ToolEnd.TheVariants as tool

-- ---- one file

-- why the templates of a file aren't loaded: a question has another template, or can't be changed
abbrev pub refused_by : Result StoreState QuestionError → Option (List ℕ)
refused_by (Ok store) = None
refused_by (Err error) = Some (refusal [] error).text

-- why nothing of the file at the path is loaded, as it is told, where it isn't
abbrev pub refusal_of : SessionState → List ℕ → Found → Option (List ℕ)
refusal_of state path Unreadable = None
refusal_of state path Missing = Some (path ++ codes ": no such file")
refusal_of state path (Faulty line) = Some (path ++ codes ": bad template, line " ++ decimal line)
refusal_of state path (Templates templates) = refused_by (loaded state.store state.at state.owner templates)

-- a path, what was found there, and the state that was left
pub record FileTurn : Type 0 where
  pub path : List ℕ
  pub found : Found
  pub new : SessionState

-- the file was read, its templates were loaded as X_LOADTEMPLATEFILE loads them, and what the layers told at that was taken
pub record IsFileTurn (old : SessionState) (turn : FileTurn) : Type 0 where
  pub finds : Finds turn.path old.files turn.found turn.new.files
  pub readable : turn.found ≢ Unreadable
  pub new_is : turn.new ≡ record old { store = stored (loading old old.owner turn.found).store.layers []; files = turn.new.files }

-- what is told of a file: why it is refused, where it is, and behind it what the layers told
abbrev pub lines_at : SessionState → FileTurn → List ℕ
lines_at state turn =
    option_map_or (λ text. text ++ newline ∷ []) (refusal_of state turn.path turn.found) [] ++ (loading state state.owner turn.found).store.told

-- ---- all files

abbrev pub IsFileCourse : SessionState → List FileTurn → Type 0
IsFileCourse start [] = Unit {0}
IsFileCourse start (turn ∷ turns) = IsFileTurn start turn × IsFileCourse turn.new turns

abbrev pub paths_of : List FileTurn → List (List ℕ)
paths_of [] = []
paths_of (turn ∷ turns) = turn.path ∷ paths_of turns

abbrev pub state_after : SessionState → List FileTurn → SessionState
state_after start [] = start
state_after start (turn ∷ turns) = state_after turn.new turns

-- what is told of the files, in order
abbrev pub lines_of : SessionState → List FileTurn → List ℕ
lines_of start [] = []
lines_of start (turn ∷ turns) = lines_at start turn ++ lines_of turn.new turns

-- one of the files is refused
abbrev pub refuses : SessionState → List FileTurn → Bool
refuses start [] = false
refuses start (turn ∷ turns) = is_some (refusal_of start turn.path turn.found) || refuses turn.new turns

-- the tool's own status: 1 where a file was refused
abbrev pub load_status : SessionState → List FileTurn → ℕ
load_status start turns = if refuses start turns then 1 else 0

-- which files are left, and what the file at which the tool ended did to the state that those before it left
abbrev pub EndsAt : ToolEnd → SessionState → List (List ℕ) → SessionState → Type 0
EndsAt tool.Done state rest new = (rest ≡ []) × (new ≡ state)
EndsAt (tool.FilesFault path) state rest new =
    (later : List (List ℕ)) × (rest ≡ path ∷ later) × Finds path state.files Unreadable new.files × (new ≡ record state { files = new.files })
EndsAt tool.OutOfMemory state rest new =
    (path : List ℕ) × (later : List (List ℕ)) × (rest ≡ path ∷ later) × ((new ≡ state) ⊎ IsDoneInPart (LoadTemplateFile path None) state new)
EndsAt tool.LinkFault state rest new = ⊥
EndsAt tool.TooLong state rest new = ⊥
EndsAt tool.PrintFault state rest new = ⊥
EndsAt tool.TermFault state rest new = ⊥
EndsAt tool.ChildFault state rest new = ⊥
EndsAt (tool.BadWire line) state rest new = ⊥

-- From this state the files at the paths were loaded, up to the end of the tool: what was told, its status, and the state that it left.
pub record HasLoadedFiles (start : SessionState) (paths : List (List ℕ)) (ended : ToolEnd) (said : List ℕ) (status : ℕ) (new : SessionState) : Type 0 where
  pub turns : List FileTurn
  pub rest : List (List ℕ)
  pub paths_are : paths ≡ paths_of turns ++ rest
  pub course : IsFileCourse start turns
  pub ends : EndsAt ended (state_after start turns) rest new
  pub said_is : said ≡ lines_of start turns
  pub status_is : status ≡ load_status start turns
