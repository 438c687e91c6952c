-- What the inner functions of a drill promise. No public clause cites these.
use Rattle.std.specs.Prelude.{◌≡◌, ◌⊎◌, ℕ, List, None, Result, Ok, Err}
use Rattle.dc_text.specs.declared.memory.OutOfMemory as memory
use Rattle.dc_layer.specs.State.{LayerState}
use Rattle.dc_outside.specs.State.{FilesState, LinkState}
use Rattle.dc_proto.specs.declared.command.Command.TheVariants.{LoadTemplateFile}
use Rattle.dc_serve.specs.declared.outcome.LinkEnd.{LinkEnd}
use Rattle.dc_serve.specs.declared.outcome.LinkEnd.TheVariants.{OutOfMemory}
use Rattle.dc_session.specs.FileLoading.{Loads}
use Rattle.dc_session.specs.Machine.{IsDoneInPart}
use Rattle.dc_session.specs.Serving.{IsServed, Resources}
use Rattle.dc_session.specs.SessionState.{SessionState}
use Rattle.dc_session.specs.declared.policy.AskPolicy.{AskPolicy}
use Rattle.dc_session.specs.declared.stepped.StepError.{StepError}
use Rattle.dc_session.specs.declared.template_loading.FileEnd.{FileEnd}
use Rattle.dc_drill.specs.Commands.{template_path}
use Rattle.dc_drill.specs.Drilling.{anew}

-- it is known how the session asks, and its template was loaded; or there was no memory for that
abbrev pub Begins : SessionState → SessionState → Result AskPolicy memory.OutOfMemory → Type 0
Begins old new (Ok policy) = (policy ≡ old.policy) × ((file : FileEnd) × Loads template_path old new (Ok file))
Begins old new (Err error) = Loads template_path old new (Err error)

-- the same, where it left these layers and files
pub record BeginsOver (start : SessionState) (begun : Result AskPolicy memory.OutOfMemory) (layers : List LayerState) (files : FilesState) : Type 0 where
  pub loaded : SessionState
  pub begins : Begins start loaded begun
  pub layers_are : layers ≡ loaded.store.layers
  pub files_are : files ≡ loaded.files

-- memory ran out before the link was served
pub record BreaksOff (start : SessionState) (left : List LayerState) : Type 0 where
  pub loaded : SessionState
  pub loads : (loaded ≡ start) ⊎ IsDoneInPart (LoadTemplateFile template_path None) start loaded
  pub left_is : left ≡ loaded.store.layers

-- the template was loaded, and then the link was served to this end
pub record ServesOver (start : SessionState) (old new : LinkState) (ended : LinkEnd StepError) (left : List LayerState) : Type 0 where
  pub file : FileEnd
  pub loaded : SessionState
  pub loads : Loads template_path start loaded (Ok file)
  pub rest : Resources
  pub code : ℕ
  pub served : IsServed (anew loaded) rest old new ended 0 code
  pub left_is : left ≡ rest.layers

-- the same, or memory ran out before
abbrev pub ServesTo : SessionState → LinkState → LinkState → LinkEnd StepError → List LayerState → Type 0
ServesTo start old new OutOfMemory left = BreaksOff start left ⊎ ServesOver start old new OutOfMemory left
ServesTo start old new ended left = ServesOver start old new ended left
