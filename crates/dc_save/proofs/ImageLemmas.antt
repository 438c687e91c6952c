-- The steps of an image's save, one after another, and of images.
use Rattle.std.proofs.Common.{◌≡◌, inl, inr, ℕ, List, [], ◌∷◌, ◌++◌, Option, None, Some, Result, Err, refl, sym, ap, subst, ◌∙◌, append_assoc, reverse, map as each}
use Rattle.std.proofs.lemmas.List.{map-append, reverse-append, reverse-reverse}
use Rattle.dc_layer.specs.declared.image.Image.{Image}
use Rattle.dc_save.specs.declared.saving.SaveError.{SaveError}
use Rattle.dc_save.specs.declared.saving.SaveError.TheVariants.{Failed, OutOfMemory}
use Rattle.dc_outside.specs.State.{FilesView}
use Rattle.dc_save.specs.Saving.{after_image, after_images, HasRunOut, FailsAmong, StopsAmong, Saves}

-- ---- images, in order

pub after_images-more : (files : FilesView) (done : List Image) (image : Image) → after_images files (done ++ image ∷ []) ≡ after_image (after_images files done) image
after_images-more files [] image = refl
after_images-more files (first ∷ done) image = after_images-more (after_image files first) done image

-- an image's save has a first call
begun : (path : List ℕ) (mode : ℕ) (bytes old : Option (List ℕ)) (files new : FilesView) → let image : Image = record { path = path; mode = mode; bytes = bytes; old = old } in new ≡ files → HasRunOut files new image
begun path mode None None files new e = inl e
begun path mode None (Some old) files new e = inl e
begun path mode (Some bytes) None files new e = inl e
begun path mode (Some bytes) (Some old) files new e = inl e

stopped_one : (image : Image) (files new : FilesView) → Saves (image ∷ []) files new (Err OutOfMemory) → HasRunOut files new image
stopped_one image files new (inl e) = begun image.path image.mode image.bytes image.old files new e
stopped_one image files new (inr (inl stops)) = stops
stopped_one image files new (inr (inr none)) = absurd none

stopped_after : (files new : FilesView) (done : List Image) (image : Image) (rest : List Image) → HasRunOut (after_images files done) new image → StopsAmong (done ++ image ∷ rest) files new
stopped_after files new [] image rest stops = inl stops
stopped_after files new (first ∷ done) image rest stops = inr (stopped_after (after_image files first) new done image rest stops)

failed_after : (files new : FilesView) (done : List Image) (image : Image) (rest : List Image) (path : List ℕ) → FailsAmong (image ∷ []) path (after_images files done) new → FailsAmong (done ++ image ∷ rest) path files new
failed_after files new [] image rest path (inl fails) = inl fails
failed_after files new [] image rest path (inr none) = absurd none
failed_after files new (first ∷ done) image rest path fails = inr (failed_after (after_image files first) new done image rest path fails)

-- a save that ended, after the saves of other images
pub ended_after : (files new : FilesView) (done : List Image) (image : Image) (rest : List Image) (error : SaveError) → Saves (image ∷ []) (after_images files done) new (Err error) → Saves (done ++ image ∷ rest) files new (Err error)
ended_after files new done image rest (Failed path) fails = failed_after files new done image rest path fails
ended_after files new done image rest OutOfMemory stops = inr (stopped_after files new done image rest (stopped_one image (after_images files done) new stops))

pub each-reverse : {S : Type 0} (image_in : S → Image) (l : List S) → each image_in (reverse l) ≡ reverse (each image_in l)
each-reverse image_in [] = refl
each-reverse image_in (s ∷ l) =
    ap (each image_in) (reverse-append (s ∷ []) l) ∙ map-append image_in (reverse l) (s ∷ []) ∙ ap (λ m. m ++ image_in s ∷ []) (each-reverse image_in l)
    ∙ sym (reverse-append (image_in s ∷ []) (each image_in l))

-- what is left, the last first, and the one that is taken of it
pub left_of : {S : Type 0} (image_in : S → Image) (whole : List Image) (done : List Image) (left more : List S) (taken : S) → whole ≡ done ++ reverse (each image_in left) → left ≡ more ++ taken ∷ [] → whole ≡ done ++ image_in taken ∷ reverse (each image_in more)
left_of image_in whole done left more taken is e = is ∙ ap (λ l. done ++ reverse (each image_in l)) e ∙ ap (λ l. done ++ reverse l) (map-append image_in more (taken ∷ [])) ∙ ap (λ l. done ++ l) (reverse-append (each image_in more) (image_in taken ∷ []))

module _ {S : Type 0} (image_in : S → Image) (files mid : FilesView) (whole done : List Image) (left more : List S) (taken : S)
    (is : whole ≡ done ++ reverse (each image_in left)) (e : left ≡ more ++ taken ∷ []) (told : mid ≡ after_images files done) where
  -- the one that is taken was saved
  pub whole_more : whole ≡ (done ++ image_in taken ∷ []) ++ reverse (each image_in more)
  whole_more = left_of image_in whole done left more taken is e ∙ sym (append_assoc done (image_in taken ∷ []) (reverse (each image_in more)))

  pub told_more : (new : FilesView) → new ≡ after_image mid (image_in taken) → new ≡ after_images files (done ++ image_in taken ∷ [])
  told_more new saved = saved ∙ ap (λ (m : FilesView). after_image m (image_in taken)) told ∙ sym (after_images-more files done (image_in taken))

  -- its save ended
  pub whole_ended : (new : FilesView) (error : SaveError) → Saves (image_in taken ∷ []) mid new (Err error) → Saves whole files new (Err error)
  whole_ended new error ended = subst (λ (w : List Image). Saves w files new (Err error)) (sym (left_of image_in whole done left more taken is e))
      (ended_after files new done (image_in taken) (reverse (each image_in more)) error (subst (λ (m : FilesView). Saves (image_in taken ∷ []) m new (Err error)) told ended))

-- the images of what is saved the last first
pub reversed_saves : (savings images : List Image) → savings ≡ reverse images → (old new : FilesView) (result : Result (Unit {0}) SaveError) → Saves (reverse savings) old new result → Saves images old new result
reversed_saves savings images are old new result saves = subst (λ (l : List Image). Saves l old new result) (ap (λ (l : List Image). reverse l) are ∙ reverse-reverse images) saves
