-- What a line of a session with its saves does: what it does by itself, or all layers are saved.
use Rattle.std.proofs.Common.{◌≡◌, ◌⊎◌, inl, inr, ℕ, Bool, true, false, List, [], ◌∷◌, ◌++◌, Some, ap, sym, subst, ◌∙◌, map as each}
use Rattle.dc_words.specs.declared.stream.Line.{Line}
use Rattle.dc_outside.specs.Disk.{Disk, then_stands}
use Rattle.dc_outside.specs.LinkCalls.{Tells}
use Rattle.dc_outside.specs.State.{FilesState, FilesView}
use Rattle.dc_outside.specs.Steps.{Step, after_step, call_of, done as step_done}
use Rattle.dc_outside.specs.declared.files.FilesCall.{FilesCall}
use Rattle.dc_layer.specs.State.{LayerState, saved}
use Rattle.dc_layer.specs.declared.image.Image.{Image}
use Rattle.dc_save.specs.Saving.{after_image, after_images, image_steps}
use Rattle.dc_save.specs.Steps.{after_steps}
use Rattle.dc_serve.specs.declared.machine.Response.{Response}
use Rattle.dc_store.specs.Plans.{stored}
use Rattle.dc_session.specs.Alike.{AreAlike, AreScreensAlike, IsSameButErr}
use Rattle.dc_session.specs.Machine.{TakesLine, TellsStore, asks_to_save, printed_in}
use Rattle.dc_session.specs.Refusals.{saved as saved_reply}
use Rattle.dc_session.specs.SessionState.{SessionState, ScreenState}
use Rattle.dc_session.proofs.AlikeLaws.{TurnsAlike, takes_alike}
use Rattle.dc_session.proofs.Determined.{IsTold, TurnsSame, takes_once, takes_told}
use Rattle.dc_session.proofs.RunLaws.{DoesAlike}
use Rattle.dc_session.proofs.TerminalLaws.{AsksNobody}
use Rattle.dc_run.specs.Finishing.{images_of}
use Rattle.dc_run.specs.SavingSession.{HandlesBy, SavesAll, TakesSaving}

-- ---- a line

-- all layers were saved, and what they told before is told
pub record TakesSave (old : SessionState) (did : Response) (new : SessionState) : Type 0 where
  pub mid : SessionState
  pub saves : SavesAll old did mid
  pub tells : TellsStore mid new

abbrev pub TakesBy : Bool → SessionState → Line → Response → SessionState → Type 0
TakesBy true old line did new = TakesSave old did new
TakesBy false old line did new = TakesLine old line did new

taken_by : (asks : Bool) (old mid new : SessionState) (line : Line) (did : Response) → HandlesBy asks old line did mid → TellsStore mid new → TakesBy asks old line did new
taken_by true old mid new line did saves tells = record { mid = mid; saves = saves; tells = tells }
taken_by false old mid new line did handled tells = record { mid = mid; handled = handled; tells = tells }

-- by whether it asks for a save
pub taken : (old new : SessionState) (line : Line) (did : Response) → TakesSaving old line did new → TakesBy (asks_to_save old.asking.escape line) old line did new
taken old new line did takes = taken_by (asks_to_save old.asking.escape line) old takes.mid new line did takes.handled takes.tells

either : (asks : Bool) (old new : SessionState) (line : Line) (did : Response) → TakesBy asks old line did new → TakesLine old line did new ⊎ TakesSave old did new
either true old new line did takes = inr takes
either false old new line did takes = inl takes

pub line_or_save : (old new : SessionState) (line : Line) (did : Response) → TakesSaving old line did new → TakesLine old line did new ⊎ TakesSave old did new
line_or_save old new line did takes = either (asks_to_save old.asking.escape line) old new line did (taken old new line did takes)

-- ---- a save

-- the files once the images of these layers are saved
abbrev pub saved_files : FilesState → List LayerState → FilesState
saved_files files layers = record { view = after_images files.view (images_of layers); counts = files.counts }

module _ (old new : SessionState) (did : Response) (takes : TakesSave old did new) where
  mid_files : takes.mid.files ≡ saved_files old.files old.store.layers
  mid_files = λ i. record { view = takes.saves.is.saves i; counts = takes.saves.is.counts i }

  pub save_files : new.files ≡ saved_files old.files old.store.layers
  save_files = ap (λ (s : SessionState). s.files) takes.tells.new_is ∙ mid_files

  pub save_counts : new.files.counts ≡ old.files.counts
  save_counts = ap (λ (f : FilesState). f.counts) save_files

  -- what is left of the session
  pub save_left : new ≡ record old { store = stored (each saved old.store.layers) []; files = saved_files old.files old.store.layers; err = new.err }
  save_left =
      takes.tells.new_is ∙ ap (λ (s : SessionState). record s { store = stored s.store.layers []; err = new.err }) takes.saves.new_is
      ∙ ap (λ (f : FilesState). record old { store = stored (each saved old.store.layers) []; files = f; err = new.err }) mid_files

  pub save_layers : new.store.layers ≡ each saved old.store.layers
  save_layers = ap (λ (s : SessionState). s.store.layers) save_left

  save_tells : Tells old.store.told old.err new.err
  save_tells = subst (λ (s : SessionState). Tells s.store.told s.err new.err) takes.saves.new_is takes.tells.told

-- ---- what is told of the files

-- the disk and the calls are told
abbrev pub AreTold : FilesView → Type 0
AreTold view = (disk : Disk) × IsTold disk view

abbrev pub IsFilesTold : SessionState → Type 0
IsFilesTold state = AreTold state.files.view

step_told : (step : Step) (view : FilesView) → AreTold view → AreTold (after_step view step)
step_told step view told =
    let disk : Disk = told.0 in
    let calls : List FilesCall = told.1.0 in
    let is : view ≡ record { disk = Some disk; calls = Some calls } = told.1.1 in
    (then_stands disk (step_done step disk.current), (calls ++ call_of true step ∷ [], ap (λ (v : FilesView). after_step v step) is))

steps_told : (steps : List Step) (view : FilesView) → AreTold view → AreTold (after_steps view steps)
steps_told [] view told = told
steps_told (step ∷ steps) view told = steps_told steps (after_step view step) (step_told step view told)

images_told : (images : List Image) (view : FilesView) → AreTold view → AreTold (after_images view images)
images_told [] view told = told
images_told (image ∷ images) view told = images_told images (after_image view image) (steps_told (image_steps image) view told)

save_told : (old new : SessionState) (did : Response) → IsFilesTold old → TakesSave old did new → IsFilesTold new
save_told old new did told takes = subst (λ (f : FilesState). AreTold f.view) (sym (save_files old new did takes)) (images_told (images_of old.store.layers) old.files.view told)

pub saving_told : (old new : SessionState) (line : Line) (did : Response) → IsFilesTold old → TakesSaving old line did new → IsFilesTold new
saving_told old new line did told takes = elim (line_or_save old new line did takes) [
  | inl by_itself ↦ (told.0, takes_told told.0 old told.1 did new line by_itself)
  | inr save ↦ save_told old new did told save
]

-- ---- the same in sessions that are alike

module _ (old other : SessionState) (did again : Response) (new left : SessionState) (first : TakesSave old did new) (second : TakesSave other again left) where
  same_did : other.asking.escape ≡ old.asking.escape → did ≡ again
  same_did escape = first.saves.did_is ∙ ap (λ (b : Bool). printed_in b saved_reply) (sym escape) ∙ sym second.saves.did_is

  saves_alike : AreAlike old other → (line : Line) → TurnsAlike old other line did again new left
  saves_alike alike line =
      let one_terminal : new.terminal ≡ old.terminal = ap (λ (s : SessionState). s.terminal) (save_left old new did first) in
      let other_terminal : left.terminal ≡ other.terminal = ap (λ (s : SessionState). s.terminal) (save_left other left again second) in
      record {
        does = same_did (ap (λ (s : SessionState). s.asking.escape) alike.rest);
        leaves = record {
          rest = save_left other left again second
              ∙ ap (λ (s : SessionState). record s { store = stored (each saved s.store.layers) []; files = saved_files s.files s.store.layers; err = left.err }) alike.rest
              ∙ ap (λ (s : SessionState). record s { terminal = other.terminal; err = left.err }) (sym (save_left old new did first))
              ∙ ap (λ (t : ScreenState). record new { terminal = t; err = left.err }) (sym other_terminal);
          terminals = subst (λ (t : ScreenState). AreScreensAlike t left.terminal) (sym one_terminal)
              (subst (λ (t : ScreenState). AreScreensAlike old.terminal t) (sym other_terminal) alike.terminals);
        };
        told = old.store.told;
        one_tells = save_tells old new did first;
        other_tells = subst (λ (t : List ℕ). Tells t other.err left.err) (ap (λ (s : SessionState). s.store.told) alike.rest) (save_tells other left again second);
      }

  saves_once : IsSameButErr old other → (line : Line) → TurnsSame old other line did again new left
  saves_once same line = record {
    does = same_did (ap (λ (s : SessionState). s.asking.escape) same);
    leaves = save_left other left again second
        ∙ ap (λ (s : SessionState). record s { store = stored (each saved s.store.layers) []; files = saved_files s.files s.store.layers; err = left.err }) same
        ∙ ap (λ (s : SessionState). record s { err = left.err }) (sym (save_left old new did first));
    told = old.store.told;
    one_tells = save_tells old new did first;
    other_tells = subst (λ (t : List ℕ). Tells t other.err left.err) (ap (λ (s : SessionState). s.store.told) same) (save_tells other left again second);
  }

-- ---- a line in them

module _ (old other : SessionState) (told : IsFilesTold old) (did again : Response) (new left : SessionState) (files : new.files ≡ left.files) (line : Line) where
  by_alike : (asks : Bool) → AreAlike old other → TakesBy asks old line did new → TakesBy asks other line again left → TurnsAlike old other line did again new left
  by_alike true alike first second = saves_alike old other did again new left first second alike line
  by_alike false alike first second = takes_alike told.0 old other alike told.1 did again new left files line first second

  by_once : (asks : Bool) → IsSameButErr old other → AsksNobody old → TakesBy asks old line did new → TakesBy asks other line again left → TurnsSame old other line did again new left
  by_once true same nobody first second = saves_once old other did again new left first second same line
  by_once false same nobody first second = takes_once told.0 old other same nobody told.1 did again new left files line first second

  -- the line asks for a save in both, or in neither
  as_first : other.asking.escape ≡ old.asking.escape → TakesSaving other line again left → TakesBy (asks_to_save old.asking.escape line) other line again left
  as_first escape second = subst (λ (b : Bool). TakesBy (asks_to_save b line) other line again left) escape (taken other left line again second)

  pub saving_alike : AreAlike old other → TakesSaving old line did new → TakesSaving other line again left → TurnsAlike old other line did again new left
  saving_alike alike first second =
      by_alike (asks_to_save old.asking.escape line) alike (taken old new line did first) (as_first (ap (λ (s : SessionState). s.asking.escape) alike.rest) second)

  pub saving_once : IsSameButErr old other → AsksNobody old → TakesSaving old line did new → TakesSaving other line again left → TurnsSame old other line did again new left
  saving_once same nobody first second =
      by_once (asks_to_save old.asking.escape line) same nobody (taken old new line did first) (as_first (ap (λ (s : SessionState). s.asking.escape) same) second)

pub saving_does : DoesAlike TakesSaving IsFilesTold
saving_does = record {
  alike = λ old other alike told did again new left files line. saving_alike old other told did again new left files line alike;
  told = λ old new line did told takes. saving_told old new line did told takes;
}
