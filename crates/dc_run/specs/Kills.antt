-- What a kill at a moment of a run leaves of the disk, by the saves of the run.
use Rattle.std.specs.Prelude.{◌≡◌, ◌⊎◌, ℕ, List, [], ◌∷◌, ◌++◌, Option, Some, Ok}
use Rattle.dc_outside.specs.Disk.{Disk, File, IsDurable, Left, file_at, moment}
use Rattle.dc_layer.specs.declared.image.Image.{Image}
use Rattle.dc_save.specs.Saving.{MayAddAny, all_saved}
use Rattle.dc_run.specs.Saves.{Save, images_in}

-- ---- the saves that are over

-- no call of them failed or was refused
abbrev pub AllDone : List Save → Type 0
AllDone [] = Unit {0}
AllDone (save ∷ saves) = (save.answer ≡ Ok tt) × AllDone saves

-- the disk when the last of them had ended
abbrev pub disk_after : Option Disk → List Save → Option Disk
disk_after old [] = old
disk_after old (save ∷ saves) = disk_after save.after.view.disk saves

-- ---- the kill

-- From this moment on a crash leaves at each path what stood there then, or the file of one of the images; at the paths beside theirs, to which
-- a save writes first and where it keeps the old text, it may leave anything.
abbrev pub LeavesOneOf : List Image → Disk → Disk → Type 0
LeavesOneOf images since after =
    (path : List ℕ) (entry : Option File) → Left after (moment since) path entry → (entry ≡ file_at since path) ⊎ MayAddAny images path entry

-- Once the first saves are over and done, and until the end of the run: a crash leaves at each path what stood there then, or what a later
-- save puts there. At that moment nothing was pending, and what stood is what the images of the first saves put there, in order.
pub record KeepsAfter (before after : Disk) (over later : List Save) (since : Disk) : Type 0 where
  pub leaves : LeavesOneOf (images_in later) since after
  pub durable : IsDurable since.current
  pub stands : since.current ≡ all_saved before.current (images_in over)

-- however many of the saves are taken as those that are over: none, at the start of the run, up to all
abbrev pub KeepsSaves : List Save → Disk → Disk → Type 0
KeepsSaves saves before after =
    (over later : List Save) → saves ≡ over ++ later → AllDone over
    → (since : Disk) → disk_after (Some before) over ≡ Some since → KeepsAfter before after over later since
