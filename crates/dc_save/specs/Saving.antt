-- The save of images: each is written beside its path, made to last there, and put in its place.
use Rattle.std.specs.Prelude.{◌≡◌, ◌⊎◌, ⊤, ℕ, List, [], ◌∷◌, ◌++◌, Option, Some, option_map, codes, Result, Ok, Err}
use Rattle.std.specs.List.{flat_map, AllByRecursion}
use Rattle.std.specs.Option.{option_map_or}
use Rattle.dc_outside.specs.Counts.{Counts, FaultRose, RefusalRose}
use Rattle.std.specs.FinMap as map
use Rattle.dc_text.specs.Maps.{Texts}
use Rattle.dc_outside.specs.Disk.{Disk, DiskState, File, file_at, Among, IsDurable, IsSound, moment, Left, HasLeftMore, MayLeaveMore}
use Rattle.dc_outside.specs.State.{FilesView}
use Rattle.dc_outside.specs.Steps.{Step, Writing, Syncing, Renaming, SyncingNames, Removing}
use Rattle.dc_layer.specs.declared.image.Image.{Image}
use Rattle.dc_save.specs.declared.saving.SaveError.{SaveError}
use Rattle.dc_save.specs.declared.saving.SaveError.TheVariants.{Failed, OutOfMemory}
use Rattle.dc_save.specs.Steps.{after_steps, FailsIn, StopsIn}

-- where a file is written before it takes its place
abbrev pub new_path : List ℕ → List ℕ
new_path path = path ++ codes "-new"

-- where the text before the change is kept
abbrev pub old_path : List ℕ → List ℕ
old_path path = path ++ codes "-old"

-- ---- the calls

-- a text is written to a path, and made to last there
abbrev pub written : List ℕ → List ℕ → ℕ → List Step
written path text mode = Writing path (record { bytes = text; mode = mode }) ∷ Syncing path ∷ []

-- the old text is kept beside the path, where there is one
abbrev pub keeping : Image → List Step
keeping image = option_map_or (λ text. written (old_path image.path) text image.mode) image.old []

-- a file takes the place of the path, and the rename is made to last
abbrev pub moved : List ℕ → List ℕ → List Step
moved from to = Renaming from to ∷ SyncingNames ∷ []

-- the path is taken away, and the removal is made to last
abbrev pub removed : List ℕ → List Step
removed path = Removing path ∷ SyncingNames ∷ []

-- the text is written beside the path and takes its place
abbrev pub put : Image → List ℕ → List Step
put image text = written (new_path image.path) text image.mode ++ moved (new_path image.path) image.path

-- the new text is put in its place, or the file goes where there is none
abbrev pub placing : Image → List Step
placing image = option_map_or (λ text. put image text) image.bytes (removed image.path)

abbrev pub image_steps : Image → List Step
image_steps image = keeping image ++ placing image

-- after a save of the image that is done
abbrev pub after_image : FilesView → Image → FilesView
after_image told image = after_steps told (image_steps image)

-- after saves of the images, in order
abbrev pub after_images : FilesView → List Image → FilesView
after_images files [] = files
after_images files (image ∷ images) = after_images (after_image files image) images

-- the images of all layers, in order
abbrev pub all_images : List (List Image) → List Image
all_images layers = flat_map (λ images. images) layers

-- ---- what a save does that isn't done

-- one of the calls of the image's save failed, and those before it were done
abbrev pub HasFailed : FilesView → FilesView → Image → Type 0
HasFailed files new image = FailsIn (image_steps image) files new

-- some first calls of the image's save were done, and not all
abbrev pub HasRunOut : FilesView → FilesView → Image → Type 0
HasRunOut files new image = StopsIn (image_steps image) files new

-- the save of the image at this path failed, and those before it are saved
abbrev pub FailsAmong : List Image → List ℕ → FilesView → FilesView → Type 0
FailsAmong [] path files new = ⊥
FailsAmong (image ∷ images) path files new = ((path ≡ image.path) × HasFailed files new image) ⊎ FailsAmong images path (after_image files image) new

-- some first images are saved, and of the next some first calls were done, and not all
abbrev pub StopsAmong : List Image → FilesView → FilesView → Type 0
StopsAmong [] files new = ⊥
StopsAmong (image ∷ images) files new = HasRunOut files new image ⊎ StopsAmong images (after_image files image) new

-- What saving the images does, by its answer. At want of memory no call was made, or some weren't.
abbrev pub Saves : List Image → FilesView → FilesView → Result (Unit {0}) SaveError → Type 0
Saves images files new (Ok done) = new ≡ after_images files images
Saves images files new (Err (Failed path)) = FailsAmong images path files new
Saves images files new (Err OutOfMemory) = (new ≡ files) ⊎ StopsAmong images files new

-- how the files count the calls of a save, by its answer
abbrev pub SaveCounted : Result (Unit {0}) SaveError → Counts → Counts → Type 0
SaveCounted (Ok done) before now = now ≡ before
SaveCounted (Err (Failed path)) before now = FaultRose before now
SaveCounted (Err OutOfMemory) before now = RefusalRose before now

-- the same, where the program's own memory may run out before the first call
abbrev pub SaveCounts : FilesView → FilesView → Result (Unit {0}) SaveError → Counts → Counts → Type 0
SaveCounts files new (Ok done) before now = SaveCounted (Ok done) before now
SaveCounts files new (Err (Failed path)) before now = SaveCounted (Err (Failed path)) before now
SaveCounts files new (Err OutOfMemory) before now = SaveCounted (Err OutOfMemory) before now ⊎ (now ≡ before) × (new ≡ files)

-- ---- what stands then

-- the file that the path is to have, where it is to have one
abbrev pub file_of : Image → Option File
file_of image = option_map (λ text. record { bytes = text; mode = image.mode }) image.bytes

-- the paths beside it that a save of the image writes
abbrev pub beside : Image → List (List ℕ)
beside image = option_map_or (λ text. old_path image.path ∷ []) image.old [] ++ option_map_or (λ text. new_path image.path ∷ []) image.bytes []

-- ---- every moment

-- What a save of the image may add to what a crash leaves: the new file at its path, or none where it is to go, and anything at
-- the paths beside it.
abbrev pub MayAdd : Image → List ℕ → Option File → Type 0
MayAdd image path entry = ((path ≡ image.path) × (entry ≡ file_of image)) ⊎ Among (beside image) path

-- what saves of the images may add
abbrev pub MayAddAny : List Image → List ℕ → Option File → Type 0
MayAddAny [] path entry = ⊥
MayAddAny (image ∷ images) path entry = MayAdd image path entry ⊎ MayAddAny images path entry

-- where the disk is told and was settled, a crash at any moment leaves what it would have left before, and at most what the saves
-- may add
abbrev pub LeavesOldOrNew : List Image → FilesView → FilesView → Type 0
LeavesOldOrNew images old new = (before after : Disk) → old.disk ≡ Some before → new.disk ≡ Some after → IsDurable before.current → HasLeftMore (MayAddAny images) before after

-- ---- what stands at the end

-- the old text stands beside the path, where there is one
abbrev pub with_kept : Texts File → Image → Texts File
with_kept files image = option_map_or (λ text. map.insert files (old_path image.path) (record { bytes = text; mode = image.mode })) image.old files

-- the path has the file, and nothing stands where it was written; or nothing stands at the path
abbrev pub with_placed : Texts File → Image → Texts File
with_placed files image = option_map_or (λ text. map.insert (map.remove files (new_path image.path)) image.path (record { bytes = text; mode = image.mode })) image.bytes (map.remove files image.path)

-- after a save of the image that is done a crash leaves what stands
abbrev pub saved : DiskState → Image → DiskState
saved old image = record { files = with_placed (with_kept old.files image) image; pending = map.empty }

-- after saves of the images, in order
abbrev pub all_saved : DiskState → List Image → DiskState
all_saved old [] = old
all_saved old (image ∷ images) = all_saved (saved old image) images

-- what stands may be left by a crash, and a crash leaves at most what the save of the image may add
pub record IsHalfSaved (image : Image) (old new : DiskState) : Type 0 where
  pub sound : IsSound new
  pub at_most : MayLeaveMore (MayAdd image) old new

-- the images before one are saved, that one by half, and no other
pub record IsSavedTo (path : List ℕ) (images : List Image) (old new : DiskState) : Type 0 where
  pub before : List Image
  pub image : Image
  pub after : List Image
  pub are : images ≡ before ++ image ∷ after
  pub path_is : path ≡ image.path
  pub half : IsHalfSaved image (all_saved old before) new

-- what stands at the end, by the answer
abbrev pub Ends : List Image → DiskState → DiskState → Result (Unit {0}) SaveError → Type 0
Ends images old new (Ok value) = new ≡ all_saved old images
Ends images old new (Err (Failed path)) = IsSavedTo path images old new
Ends images old new (Err OutOfMemory) = (new ≡ old) ⊎ ((path : List ℕ) × IsSavedTo path images old new)

-- where the disk is told and was settled
abbrev pub EndsWith : List Image → FilesView → FilesView → Result (Unit {0}) SaveError → Type 0
EndsWith images old new result = (before after : Disk) → old.disk ≡ Some before → new.disk ≡ Some after → IsDurable before.current → Ends images before.current after.current result

-- ---- paths apart

-- the paths that a save of the image may write
abbrev pub paths_of : Image → List (List ℕ)
paths_of image = image.path ∷ new_path image.path ∷ old_path image.path ∷ []

-- none of these paths is one of those
abbrev pub ShareNone : List (List ℕ) → List (List ℕ) → Type 0
ShareNone paths others = (path : List ℕ) → Among paths path → Among others path → ⊥

-- no two images may write the same path
abbrev pub AreApart : List Image → Type 0
AreApart [] = ⊤
AreApart (image ∷ images) = AllByRecursion (λ other. ShareNone (paths_of image) (paths_of other)) images × AreApart images

-- from the start of the save on, a crash leaves at the path of each image the entry from before or the image's
pub record KeepsPaths (images : List Image) (before after : Disk) : Type 0 where
  pub each : (image : Image) (entry : Option File) → Among images image → Left after (moment before) image.path entry → (entry ≡ file_at before image.path) ⊎ (entry ≡ file_of image)
  pub others : (path : List ℕ) (entry : Option File) → AllByRecursion (λ image. Among (paths_of image) path → ⊥) images → Left after (moment before) path entry → entry ≡ file_at before path

-- what stands after the images are saved: at each path the image's file, beside it the old text where there is one, and else what
-- stood before
pub record StandSaved (images : List Image) (old new : DiskState) : Type 0 where
  pub durable : IsDurable old → IsDurable new
  pub files : (image : Image) → Among images image → map.get new.files image.path ≡ file_of image
  pub kept : (image : Image) (text : List ℕ) → Among images image → image.old ≡ Some text → map.get new.files (old_path image.path) ≡ Some (record { bytes = text; mode = image.mode })
  pub others : (path : List ℕ) → AllByRecursion (λ image. Among (paths_of image) path → ⊥) images → map.get new.files path ≡ map.get old.files path
