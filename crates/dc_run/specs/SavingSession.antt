-- A session with its saves. What saves the layers stands around the session, which itself writes no file: where a line asks for a save, all layers are
-- saved before its reply goes out.
use Rattle.std.specs.Prelude.{◌≡◌, ℕ, Bool, true, false, List, [], ◌∷◌, ◌++◌, map as each, Result, Ok, Err, if◌then◌else◌}
use Rattle.dc_words.specs.declared.stream.Line.{Line}
use Rattle.dc_outside.specs.State.{FilesState, LinkState}
use Rattle.dc_layer.specs.State.{saved}
use Rattle.dc_save.specs.declared.saving.SaveError.{SaveError}
use Rattle.dc_serve.specs.Execution.{Transition, state_after}
use Rattle.dc_serve.specs.declared.machine.Response.{Response}
use Rattle.dc_serve.specs.declared.outcome.LinkEnd.{LinkEnd}
use Rattle.dc_serve.specs.declared.outcome.LinkEnd.TheVariants as link
use Rattle.dc_session.specs.Machine.{Aborts, Handles, TellsStore, asks_to_save, printed_in}
use Rattle.dc_session.specs.Refusals.{saved as saved_reply}
use Rattle.dc_session.specs.Serving.{IsServedBy, Resources}
use Rattle.dc_session.specs.SessionState.{SessionState}
use Rattle.dc_store.specs.Plans.{stored}
use Rattle.dc_run.specs.Saves.{IsSave, Save}
use Rattle.dc_run.specs.declared.saving_session.SavingBreak.{SavingBreak}
use Rattle.dc_run.specs.declared.saving_session.SavingBreak.TheVariants as saving

-- ---- a line

-- the save of all layers of a session, from its files to these
abbrev pub save_of : SessionState → FilesState → Result (Unit {0}) SaveError → Save
save_of old files answer = record { layers = old.store.layers; before = old.files; after = files; answer = answer }

-- what that leaves where it is done: each layer is marked as saved
abbrev pub behind_save : SessionState → FilesState → SessionState
behind_save old files = record old { store = stored (each saved old.store.layers) old.store.told; files = files }

-- all layers were saved, which the reply tells
pub record SavesAll (old : SessionState) (did : Response) (new : SessionState) : Type 0 where
  pub is : IsSave (save_of old new.files (Ok tt))
  pub did_is : did ≡ printed_in old.asking.escape saved_reply
  pub new_is : new ≡ behind_save old new.files

abbrev pub HandlesBy : Bool → SessionState → Line → Response → SessionState → Type 0
HandlesBy true old line did new = SavesAll old did new
HandlesBy false old line did new = Handles old line did new

-- a line that asks for a save is handled by one, and every other by the session alone
abbrev pub HandlesSaving : SessionState → Line → Response → SessionState → Type 0
HandlesSaving old line did new = HandlesBy (asks_to_save old.asking.escape line) old line did new

-- a line came, and what the layers told at it was told behind its reply
pub record TakesSaving (old : SessionState) (line : Line) (did : Response) (new : SessionState) : Type 0 where
  pub mid : SessionState
  pub handled : HandlesSaving old line did mid
  pub tells : TellsStore mid new

-- a save was asked for, and a call of it failed or found no memory: nothing but the files has changed, and there is no reply
pub record FailsToSave (old : SessionState) (line : Line) (error : SaveError) (new : SessionState) : Type 0 where
  pub asks : asks_to_save old.asking.escape line ≡ true
  pub is : IsSave (save_of old new.files (Err error))
  pub new_is : new ≡ record old { files = new.files }

-- a line isn't heeded to its end: by the session, or for its save
abbrev pub BreaksSaving : SessionState → Line → SavingBreak → SessionState → Type 0
BreaksSaving old line (saving.Step error) new = Aborts old line error new
BreaksSaving old line (saving.Save error) new = FailsToSave old line error new

-- ---- all lines

-- the saves that these turns made, in order
abbrev pub saves_in : SessionState → List (Transition SessionState) → List Save
saves_in start [] = []
saves_in start (turn ∷ turns) =
    (if asks_to_save start.asking.escape turn.line then save_of start turn.new.files (Ok tt) ∷ [] else []) ++ saves_in turn.new turns

-- the save at which a session broke off, if it was one
abbrev pub broken_save : LinkEnd SavingBreak → SessionState → SessionState → List Save
broken_save (link.Broken (saving.Save error)) old new = save_of old new.files (Err error) ∷ []
broken_save ended old new = []

-- A session with its saves was served over a link, and finished, and these were its saves.
pub record IsServedSaving (start : SessionState) (left : Resources) (old new : LinkState) (ended : LinkEnd SavingBreak)
    (before code : ℕ) (saves : List Save) : Type 0 where
  pub by : IsServedBy TakesSaving BreaksSaving start left old new ended before code
  pub saves_are : saves ≡ saves_in start by.ran.transitions ++ broken_save by.served (state_after start by.ran.transitions) by.state
