-- The saves of a run, in order.
use Rattle.std.specs.Prelude.{◌≡◌, ◌≢◌, ◌⊎◌, Bool, true, false, List, [], ◌∷◌, ◌++◌, Option, map as each, Result, Ok, Err}
use Rattle.dc_outside.specs.Disk.{Disk}
use Rattle.dc_layer.specs.State.{LayerState, saved}
use Rattle.dc_layer.specs.declared.image.Image.{Image}
use Rattle.dc_save.specs.Saving.{Saves, SaveCounts}
use Rattle.dc_save.specs.declared.saving.SaveError.{SaveError}
use Rattle.dc_outside.specs.State.{FilesState}
use Rattle.dc_run.specs.declared.outcome.End.{End}
use Rattle.dc_run.specs.declared.outcome.End.TheVariants as end
use Rattle.dc_run.specs.declared.outcome.ToolEnd.{ToolEnd}
use Rattle.dc_run.specs.Ends.{end_of, end_by}
use Rattle.dc_run.specs.Finishing.{images_of, IsUnsent, SendsOf}
use Rattle.dc_run.specs.World.{Ground}

-- ---- one save

-- a save that was begun: the layers that it saves, the files before and after, and its answer
pub record Save : Type 0 where
  pub layers : List LayerState
  pub before : FilesState
  pub after : FilesState
  pub answer : Result (Unit {0}) SaveError

-- all images of the layers were made before the first call, and saved in order
pub record IsSave (save : Save) : Type 0 where
  pub saves : Saves (images_of save.layers) save.before.view save.after.view save.answer
  pub counts : SaveCounts save.before.view save.after.view save.answer save.before.counts save.after.counts

-- what a save makes of the layers, by its answer
abbrev pub kept_by : Result (Unit {0}) SaveError → List LayerState → List LayerState
kept_by (Ok done) layers = each saved layers
kept_by (Err error) layers = layers

-- ---- several saves

-- Nothing changed on the disk but what these saves did, one after another. None follows one that wasn't done.
abbrev pub AreSaves : Option Disk → List Save → Option Disk → Type 0
AreSaves old [] new = new ≡ old
AreSaves old (save ∷ saves) new =
    (save.before.view.disk ≡ old) × IsSave save × (save.answer ≢ Ok tt → saves ≡ []) × AreSaves save.after.view.disk saves new

abbrev pub images_in : List Save → List Image
images_in [] = []
images_in (save ∷ saves) = images_of save.layers ++ images_in saves

-- ---- the save at the end of a round

-- it was made, of all layers that the job left, behind what goes out through a pipe
pub record HasSaved (ended : ToolEnd) (left new : Ground) (saves : List Save) (how : End) : Type 0 where
  pub answer : Result (Unit {0}) SaveError
  pub sent : SendsOf ended left new (Ok tt)
  pub saves_are : saves ≡ (record { layers = left.used; before = left.sources.files; after = new.sources.files; answer = answer }) ∷ []
  pub is : IsSave (record { layers = left.used; before = left.sources.files; after = new.sources.files; answer = answer })
  pub used_is : new.used ≡ kept_by answer left.used
  pub end_is : how ≡ end_by ended answer

-- what goes out through a pipe wasn't sent, and so no save was begun
pub record HasNotSent (ended : ToolEnd) (left new : Ground) (saves : List Save) (how : End) : Type 0 where
  pub unsent : IsUnsent left new ended how
  pub saves_are : saves ≡ []

-- there was no memory for the images
pub record HasNoImages (left new : Ground) (saves : List Save) (how : End) : Type 0 where
  pub saves_are : saves ≡ []
  pub stays : new ≡ left
  pub end_is : how ≡ end.OutOfMemory

-- it wasn't come to
pub record HasNotSaved (ended : ToolEnd) (left new : Ground) (saves : List Save) (how : End) : Type 0 where
  pub saves_are : saves ≡ []
  pub stays : new ≡ left
  pub end_is : how ≡ end_of ended

abbrev pub Commits : Bool → ToolEnd → Ground → Ground → List Save → End → Type 0
Commits true ended left new saves how = HasSaved ended left new saves how ⊎ HasNotSent ended left new saves how ⊎ HasNoImages left new saves how
Commits false ended left new saves how = HasNotSaved ended left new saves how
