-- What a run does to the disk, and what a crash at a moment of it leaves of the databases.
use Rattle.std.specs.Prelude.{◌≡◌, ℕ, List, Option, Some, Result, Ok}
use Rattle.std.specs.List.{AllByRecursion}
use Rattle.dc_outside.specs.Disk.{Disk, IsDurable}
use Rattle.dc_cli.specs.Tools.{Names}
use Rattle.dc_cli.specs.declared.tool.Tool.{Tool}
use Rattle.dc_conf.specs.Configuration.{Configuration}
use Rattle.dc_layer.specs.State.{LayerState}
use Rattle.dc_layer.specs.declared.image.Image.{Image}
use Rattle.dc_save.specs.Places.{AreOf}
use Rattle.dc_save.specs.Saving.{AreApart, Ends, KeepsPaths, StandSaved}
use Rattle.dc_save.specs.declared.saving.SaveError.{SaveError}
use Rattle.dc_outside.specs.State.{FilesState}
use Rattle.dc_run.specs.Finishing.{images_of}
use Rattle.dc_run.specs.Kills.{AllDone, KeepsSaves}
use Rattle.dc_run.specs.Saves.{Save, AreSaves}
use Rattle.dc_run.specs.Starting.{IsConfiguration, databases_of}
use Rattle.dc_run.specs.declared.outcome.End.{End}
use Rattle.dc_run.specs.declared.outcome.End.TheVariants as end

-- the layers are of the databases of the configuration at the path on which the tool works that the words name, in the order of the file, and no
-- two of their images may write the same path
pub record AreOfConfiguration (words : List (List ℕ)) (disk : Option Disk) (path : List ℕ) (layers : List LayerState) : Type 0 where
  pub used : Tool
  pub named : Names words used
  pub conf : Configuration
  pub conf_is : IsConfiguration used disk path conf
  pub are_of : AreOf (databases_of used conf) (images_of layers)
  pub apart : AreApart (images_of layers)

-- The saves of a run over the configuration at the path alone changed the disk, and each saved layers of its databases. Where nothing was
-- pending when the run began, a crash at any moment leaves what these saves say. Where the run did all that it was to do, each was done.
pub record KeepsDatabases (words : List (List ℕ)) (path : List ℕ) (old new : FilesState) (how : End) (saves : List Save) : Type 0 where
  pub are_saves : AreSaves old.view.disk saves new.view.disk
  pub are_of : AllByRecursion (λ save. AreOfConfiguration words old.view.disk path save.layers) saves
  pub killed : (before after : Disk) → old.view.disk ≡ Some before → new.view.disk ≡ Some after → IsDurable before.current → KeepsSaves saves before after
  pub all_done : how ≡ end.Done → AllDone saves

-- ---- a run that began one save

-- From the start of the save on, a crash leaves at the path of each image the file that stood there or the image's, and at every path but these
-- and those beside them what stood there. What stands at its end follows from its answer; where it was done, each image's file stands at its
-- path, the old text beside it, and nothing is pending.
pub record KeepsEachPath (images : List Image) (before after : Disk) (answer : Result (Unit {0}) SaveError) : Type 0 where
  pub keeps : KeepsPaths images before after
  pub ends : Ends images before.current after.current answer
  pub stands : answer ≡ Ok tt → StandSaved images before.current after.current
