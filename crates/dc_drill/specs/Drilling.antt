-- A drill: the commands are served to a session that has files and links of its own.
use Rattle.std.specs.Prelude.{◌≡◌, ◌⊎◌, ℕ, List, [], ◌∷◌, Some, None, Result, Ok, Err}
use Rattle.dc_layer.specs.State.{LayerState}
use Rattle.dc_outside.specs.Memory.{files_from, files_of, fresh}
use Rattle.dc_outside.specs.Programs.{no_program}
use Rattle.dc_outside.specs.State.{FilesState, LinkState}
use Rattle.dc_outside.specs.declared.link.Piece.{Piece}
use Rattle.dc_proto.specs.declared.command.Command.TheVariants.{LoadTemplateFile}
use Rattle.dc_serve.specs.declared.outcome.LinkEnd.{LinkEnd}
use Rattle.dc_serve.specs.declared.outcome.LinkEnd.TheVariants.{Done, OutOfMemory}
use Rattle.dc_session.specs.FileLoading.{Loads}
use Rattle.dc_session.specs.Machine.{IsDoneInPart}
use Rattle.dc_session.specs.Serving.{IsServed, Resources}
use Rattle.dc_session.specs.SessionState.{SessionState, no_terminal, nowhere}
use Rattle.dc_session.specs.declared.stepped.StepError.{StepError}
use Rattle.dc_session.specs.declared.template_loading.FileEnd.{FileEnd}
use Rattle.dc_store.specs.Plans.{stored}
use Rattle.dc_drill.specs.Commands.{drill_input, template_path, template_text}
use Rattle.dc_drill.specs.Report.{report}

-- ---- what is its own

-- the files of a drill: the one of the template
abbrev pub drill_files : FilesState
drill_files = files_of (fresh (files_from ((template_path, template_text) ∷ [])) [] None)

-- the session with these files, without a terminal, and of which nothing is told
abbrev pub own : SessionState → SessionState
own start = record start { files = drill_files; terminal = no_terminal; err = nowhere }

-- the session begins anew: what its store told is passed over
abbrev pub anew : SessionState → SessionState
anew state = record state { store = stored state.store.layers [] }

-- the link on which this comes, and on which nothing was said yet
abbrev pub link_giving : List ℕ → LinkState
link_giving input = record { talk = Some []; input = Some input; counts = record { faults = 0; refusals = 0 }; program = no_program }

-- ---- what it comes to

-- The template was loaded for the session's owner, and then the commands were served, all on one link: its whole talk, its end, and the layers that
-- it left.
pub record IsServedTo (count : ℕ) (start : SessionState) (talk : List Piece) (ended : LinkEnd StepError) (left : List LayerState) : Type 0 where
  pub file : FileEnd
  pub loaded : SessionState
  pub loads : Loads template_path (own start) loaded (Ok file)
  pub link : LinkState
  pub rest : Resources
  pub code : ℕ
  pub served : IsServed (anew loaded) rest (link_giving (drill_input count)) link ended 0 code
  pub talk_is : link.talk ≡ Some talk
  pub left_is : left ≡ rest.layers

-- memory ran out before a command was served: nothing was done, or the template was loaded in part
pub record LoadsInPart (start : SessionState) (left : List LayerState) : Type 0 where
  pub loaded : SessionState
  pub loads : (loaded ≡ own start) ⊎ IsDoneInPart (LoadTemplateFile template_path None) (own start) loaded
  pub left_is : left ≡ loaded.store.layers

-- the commands were served to this end
abbrev pub IsServedUntil : ℕ → SessionState → List LayerState → LinkEnd StepError → Type 0
IsServedUntil count start left ended = (talk : List Piece) × IsServedTo count start talk ended left

-- the commands were not all served; or they were, and then there was no memory for the text
abbrev pub FailsToDrill : ℕ → SessionState → List LayerState → LinkEnd StepError → Type 0
FailsToDrill count start left Done = ⊥
FailsToDrill count start left OutOfMemory =
    LoadsInPart start left ⊎ (IsServedUntil count start left OutOfMemory ⊎ IsServedUntil count start left Done)
FailsToDrill count start left ended = IsServedUntil count start left ended

-- the commands were served to a session that began so, and the text tells of them; or why not
abbrev pub Drills : ℕ → SessionState → List LayerState → Result (List ℕ) (LinkEnd StepError) → Type 0
Drills count start left (Ok text) = (talk : List Piece) × IsServedTo count start talk Done left × (text ≡ report count talk left start.at.config)
Drills count start left (Err ended) = FailsToDrill count start left ended
