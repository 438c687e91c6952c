-- What a crash leaves at each moment of saves.
use Rattle.std.proofs.Common.{◌≡◌, ◌⊎◌, inl, inr, ⊎_elim, ℕ, ◌++◌, List, [], ◌∷◌, Option, None, Some, Result, Ok, Err, refl, sym, ap, subst, ◌∙◌}
use Rattle.std.specs.Option.{option_map}
use Rattle.dc_outside.specs.Disk.{Disk, DiskState, File, CrashOutcome, OneOf, Allows, MayLeave, MayLeaveMore, HasLeftMore, IsSound, then_stands, open_at, durable_at, moved_outcome, with_rename, with_removal, names_durable}
use Rattle.dc_outside.specs.State.{FilesView}
use Rattle.dc_outside.specs.Steps.{Step, Writing, Syncing, Renaming, SyncingNames, Removing, done, after_step, HalfDone, Leaves}
use Rattle.dc_outside.proofs.Moments.{none_more, more_then, more_more, sound_open, sound_settled, sound_with, sound_renamed, sound_removed, sound_names, same_more, open_more, settled_more, rename_more, renamed_more, removal_more, removed_more, names_more, moved_written}
use Rattle.dc_layer.specs.declared.image.Image.{Image}
use Rattle.dc_save.specs.declared.saving.SaveError.{SaveError}
use Rattle.dc_save.specs.declared.saving.SaveError.TheVariants.{Failed, OutOfMemory}
use Rattle.dc_save.specs.Steps.{all_done, after_steps, FailsIn, StopsIn}
use Rattle.dc_save.specs.Saving.{new_path, old_path, written, moved, removed, image_steps, file_of, after_image, after_images, HasFailed, HasRunOut, FailsAmong, StopsAmong, Saves, MayAdd, MayAddAny, LeavesOldOrNew}

pub same_some : {A : Type 0} (a b : A) → Some a ≡ Some b → a ≡ b
same_some a b e = cc

-- ---- steps that leave what is good, done or not

Safe : (DiskState → Type 0) → DiskState → List Step → Type 0
Safe Good current [] = Good current
Safe Good current (step ∷ steps) = Good current × ((half : DiskState) → HalfDone step current half → Good half) × Safe Good (done step current) steps

-- the moments from the old disk to the new one are good, and so is what stands now
pub record Runs (more : List ℕ → Option File → Type 0) (Good : DiskState → Type 0) (old new : Disk) : Type 0 where
  pub moments : HasLeftMore more old new
  pub now : Good new.current

module _ (more : List ℕ → Option File → Type 0) (Good : DiskState → Type 0) (old : Disk) (within : (current : DiskState) → Good current → MayLeaveMore more old.current current) where
  first_good : (steps : List Step) (current : DiskState) → Safe Good current steps → Good current
  unfolding Safe
  first_good [] current safe = safe
  first_good (step ∷ steps) current safe = safe.0

  one_more : (mid : Disk) (current : DiskState) → HasLeftMore more old mid → Good current → Runs more Good old (then_stands mid current)
  one_more mid current so_far good = record { moments = more_then more old mid current so_far (within current good); now = good }

  failed_at : (step : Step) (mid new : Disk) (told : Option Disk) → told ≡ Some new → HasLeftMore more old mid → Good mid.current → ((half : DiskState) → HalfDone step mid.current half → Good half) → Leaves step (Some mid) told → Runs more Good old new
  failed_at step mid new told is so_far good half (inl same) = subst (λ (d : Disk). Runs more Good old d) (same_some mid new (sym same ∙ is)) (record { moments = so_far; now = good })
  failed_at step mid new told is so_far good half (inr left) = subst (λ (d : Disk). Runs more Good old d) (same_some (then_stands mid left.0) new (sym left.2 ∙ is)) (one_more mid left.0 so_far (half left.0 left.1))

  module _ (new : FilesView) (after : Disk) (is : new.disk ≡ Some after) where
    run_failed : (steps : List Step) (told : FilesView) (mid : Disk) → told.disk ≡ Some mid → HasLeftMore more old mid → Safe Good mid.current steps → FailsIn steps told new → Runs more Good old after
    unfolding Safe
    run_failed [] told mid at so_far safe fails = absurd fails
    run_failed (step ∷ steps) told mid at so_far safe (inl fails) =
        failed_at step mid after new.disk is so_far safe.0 safe.1 (subst (λ (o : Option Disk). Leaves step o new.disk) at fails.disk)
    run_failed (step ∷ steps) told mid at so_far safe (inr fails) =
        run_failed steps (after_step told step) (then_stands mid (done step mid.current)) (ap (λ (o : Option Disk). option_map (λ disk. then_stands disk (done step disk.current)) o) at)
        (more_then more old mid (done step mid.current) so_far (within _ (first_good steps _ safe.2))) safe.2 fails

    run_stopped : (steps : List Step) (told : FilesView) (mid : Disk) → told.disk ≡ Some mid → HasLeftMore more old mid → Safe Good mid.current steps → StopsIn steps told new → Runs more Good old after
    unfolding Safe
    run_stopped [] told mid at so_far safe stops = absurd stops
    run_stopped (step ∷ steps) told mid at so_far safe (inl stops) = subst (λ (d : Disk). Runs more Good old d) (same_some mid after (sym at ∙ ap (λ (t : FilesView). t.disk) (sym stops) ∙ is)) (record { moments = so_far; now = safe.0 })
    run_stopped (step ∷ steps) told mid at so_far safe (inr stops) =
        run_stopped steps (after_step told step) (then_stands mid (done step mid.current)) (ap (λ (o : Option Disk). option_map (λ disk. then_stands disk (done step disk.current)) o) at)
        (more_then more old mid (done step mid.current) so_far (within _ (first_good steps _ safe.2))) safe.2 stops

-- ---- the steps of an image

module _ (start : DiskState) (image : Image) where
  pub record Good (current : DiskState) : Type 0 where
    pub sound : IsSound current
    pub within : MayLeaveMore (MayAdd image) start current

  IsBeside : List ℕ → Type 0
  IsBeside path = (entry : Option File) → MayAdd image path entry

  -- a file that is written and synced beside the path
  wrote : (current : DiskState) (path : List ℕ) (entry : Option File) → IsBeside path → Good current → Good (open_at current path entry)
  unfolding IsBeside
  wrote current path entry is good = record { sound = sound_open current path entry good.sound; within = open_more (MayAdd image) start current path entry is good.within }

  synced : (current : DiskState) (path : List ℕ) → IsBeside path → Good current → Good (durable_at current path)
  unfolding IsBeside
  synced current path is good = record { sound = sound_settled current path good.sound; within = settled_more (MayAdd image) start current path is good.within }

  safe_written : (current : DiskState) (path : List ℕ) (file : File) (rest : List Step) → IsBeside path → Good current → Safe Good (durable_at (open_at current path (Some file)) path) rest → Safe Good current (Writing path file ∷ Syncing path ∷ rest)
  unfolding Safe
  safe_written current path file rest is good more = (
    good,
    (λ half left. subst Good (sym left.1) (wrote current path left.0 is good)),
    (wrote current path (Some file) is good, (λ half left. absurd left), more),
  )

  named : (current : DiskState) → Good current → Good (names_durable current)
  named current good = record { sound = sound_names current good.sound; within = names_more (MayAdd image) start current good.sound good.within }

  -- two steps, of which the first may be done by half
  safe_two : (current : DiskState) (step : Step) → Good current → ((half : DiskState) → HalfDone step current half → Good half) → Good (done step current) → Safe Good current (step ∷ SyncingNames ∷ [])
  unfolding Safe
  safe_two current step good half all = (good, half, (all, (λ half left. absurd left), named (done step current) all))

  safe_moved : (current : DiskState) (beside_path : List ℕ) (file : File) → IsBeside beside_path → file_of image ≡ Some file → moved_outcome current beside_path ≡ OneOf (Some file ∷ []) → Good current → Safe Good current (moved beside_path image.path)
  unfolding IsBeside
  safe_moved current beside_path file is has at good =
      let moves : (entry : Option File) → Allows (moved_outcome current beside_path) entry → MayLeave start image.path entry ⊎ MayAdd image image.path entry =
      λ entry left. elim (subst (λ (o : CrashOutcome). Allows o entry) at left) [ inl e ↦ inr (inl (refl, e ∙ sym has)) | inr none ↦ absurd none ] in
      let half : Good (with_rename current beside_path image.path) = record { sound = sound_with _ beside_path (OneOf (None ∷ [])) (sound_with current image.path (moved_outcome current beside_path) good.sound); within = rename_more (MayAdd image) start current beside_path image.path moves is good.within } in
      let all : Good (done (Renaming beside_path image.path) current) = record { sound = sound_renamed current beside_path image.path good.sound; within = renamed_more (MayAdd image) start current beside_path image.path moves is good.within } in
      safe_two current (Renaming beside_path image.path) good (λ h left. elim left [ inl e ↦ subst Good (sym e) half | inr e ↦ subst Good (sym e) all ]) all

  safe_removed : (current : DiskState) → file_of image ≡ None → Good current → Safe Good current (removed image.path)
  safe_removed current has good =
      let gone : MayAdd image image.path None = inl (refl, sym has) in
      let half : Good (with_removal current image.path) = record { sound = sound_with current image.path (OneOf (None ∷ [])) good.sound; within = removal_more (MayAdd image) start current image.path gone good.within } in
      let all : Good (done (Removing image.path) current) = record { sound = sound_removed current image.path good.sound; within = removed_more (MayAdd image) start current image.path gone good.within } in
      safe_two current (Removing image.path) good (λ h left. elim left [ inl e ↦ subst Good (sym e) half | inr e ↦ subst Good (sym e) all ]) all

-- every step of the image's save is safe
safe_image : (start : DiskState) (path : List ℕ) (mode : ℕ) (bytes old : Option (List ℕ)) → let image : Image = record { path = path; mode = mode; bytes = bytes; old = old } in IsSound start → Safe (Good start image) start (image_steps image)
unfolding IsBeside
safe_image start path mode None None sound = let image : Image = record { path = path; mode = mode; bytes = None; old = None } in
    safe_removed start image start refl (record { sound = sound; within = same_more (MayAdd image) start })
safe_image start path mode (Some bytes) None sound = let image : Image = record { path = path; mode = mode; bytes = Some bytes; old = None } in
    safe_written start image start (new_path path) _ (moved (new_path path) path) (λ entry. inr (inl refl)) (record { sound = sound; within = same_more (MayAdd image) start })
    (safe_moved start image _ (new_path path) _ (λ entry. inr (inl refl)) refl (moved_written start (new_path path) _) (synced start image _ (new_path path) (λ entry. inr (inl refl)) (wrote start image start (new_path path) (Some (record { bytes = bytes; mode = mode })) (λ entry. inr (inl refl)) (record { sound = sound; within = same_more (MayAdd image) start }))))
safe_image start path mode None (Some old) sound = let image : Image = record { path = path; mode = mode; bytes = None; old = Some old } in
    let first : Good start image start = record { sound = sound; within = same_more (MayAdd image) start } in
    let kept = synced start image _ (old_path path) (λ entry. inr (inl refl)) (wrote start image start (old_path path) (Some (record { bytes = old; mode = mode })) (λ entry. inr (inl refl)) first) in
    safe_written start image start (old_path path) _ (removed path) (λ entry. inr (inl refl)) first (safe_removed start image _ refl kept)
safe_image start path mode (Some bytes) (Some old) sound = let image : Image = record { path = path; mode = mode; bytes = Some bytes; old = Some old } in
    let first : Good start image start = record { sound = sound; within = same_more (MayAdd image) start } in
    let kept = synced start image _ (old_path path) (λ entry. inr (inl refl)) (wrote start image start (old_path path) (Some (record { bytes = old; mode = mode })) (λ entry. inr (inl refl)) first) in
    let both = synced start image _ (new_path path) (λ entry. inr (inr (inl refl))) (wrote start image _ (new_path path) (Some (record { bytes = bytes; mode = mode })) (λ entry. inr (inr (inl refl))) kept) in
    safe_written start image start (old_path path) _ (written (new_path path) bytes mode ++ moved (new_path path) path) (λ entry. inr (inl refl)) first
    (safe_written start image _ (new_path path) _ (moved (new_path path) path) (λ entry. inr (inr (inl refl))) kept
    (safe_moved start image _ (new_path path) _ (λ entry. inr (inr (inl refl))) refl (moved_written _ (new_path path) _) both))

-- ---- one image, and then images

weaker : (few more : List ℕ → Option File → Type 0) (old new : Disk) → ((path : List ℕ) (entry : Option File) → few path entry → more path entry) → HasLeftMore few old new → HasLeftMore more old new
weaker few more old new also left = record { later = left.later; at_most = λ since path entry le l. ⊎_elim (λ before. inl before) (λ added. inr (also path entry added)) (left.at_most since path entry le l) }

-- all steps were done
pub record RunsTo (more : List ℕ → Option File → Type 0) (Good : DiskState → Type 0) (old : Disk) (steps : List Step) (mid : Disk) (told : Option Disk) : Type 0 where
  pub after : Disk
  pub is : told ≡ Some after
  pub stands : after.current ≡ all_done steps mid.current
  pub runs : Runs more Good old after

module _ (more : List ℕ → Option File → Type 0) (Good : DiskState → Type 0) (old : Disk) (within : (current : DiskState) → Good current → MayLeaveMore more old.current current) where
  run_done : (steps : List Step) (told : FilesView) (mid : Disk) → told.disk ≡ Some mid → HasLeftMore more old mid → Safe Good mid.current steps → RunsTo more Good old steps mid (after_steps told steps).disk
  unfolding Safe
  run_done [] told mid at so_far safe = record { after = mid; is = at; stands = refl; runs = record { moments = so_far; now = safe } }
  run_done (step ∷ steps) told mid at so_far safe =
      let next : Disk = then_stands mid (done step mid.current) in
      let rest = run_done steps (after_step told step) next (ap (λ (o : Option Disk). option_map (λ disk. then_stands disk (done step disk.current)) o) at)
      (more_then more old mid (done step mid.current) so_far (within _ (first_good more Good old within steps _ safe.2))) safe.2 in
      record { after = rest.after; is = rest.is; stands = rest.stands; runs = rest.runs }

module _ (image : Image) (told : FilesView) (old : Disk) (at : told.disk ≡ Some old) (sound : IsSound old.current) where
  safe : Safe (Good old.current image) old.current (image_steps image)
  safe = safe_image old.current image.path image.mode image.bytes image.old sound

  pub image_done : RunsTo (MayAdd image) (Good old.current image) old (image_steps image) old (after_image told image).disk
  image_done = run_done (MayAdd image) (Good old.current image) old (λ current good. good.within) (image_steps image) told old at (none_more (MayAdd image) old) safe

  pub image_failed : (new : FilesView) (after : Disk) → new.disk ≡ Some after → HasFailed told new image → Runs (MayAdd image) (Good old.current image) old after
  image_failed new after is fails = run_failed (MayAdd image) (Good old.current image) old (λ current good. good.within) new after is (image_steps image) told old at (none_more (MayAdd image) old) safe fails

  pub image_stopped : (new : FilesView) (after : Disk) → new.disk ≡ Some after → HasRunOut told new image → Runs (MayAdd image) (Good old.current image) old after
  image_stopped new after is stops = run_stopped (MayAdd image) (Good old.current image) old (λ current good. good.within) new after is (image_steps image) told old at (none_more (MayAdd image) old) safe stops

first_added : (image : Image) (images : List Image) (path : List ℕ) (entry : Option File) → MayAdd image path entry → MayAddAny (image ∷ images) path entry
first_added image images path entry added = inl added

later_added : (image : Image) (images : List Image) (path : List ℕ) (entry : Option File) → MayAddAny images path entry → MayAddAny (image ∷ images) path entry
later_added image images path entry added = inr added

pub same_disks : (old after : Disk) (told new : FilesView) → told.disk ≡ Some old → new.disk ≡ Some after → new ≡ told → old ≡ after
same_disks old after told new at is same = same_some old after (sym at ∙ ap (λ (t : FilesView). t.disk) (sym same) ∙ is)

module _ (new : FilesView) (after : Disk) (is : new.disk ≡ Some after) where
  among_done : (images : List Image) (told : FilesView) (old : Disk) → told.disk ≡ Some old → IsSound old.current → new ≡ after_images told images → HasLeftMore (MayAddAny images) old after
  among_done [] told old at sound same = subst (λ (d : Disk). HasLeftMore (MayAddAny []) old d) (same_disks old after told new at is same) (none_more (MayAddAny []) old)
  among_done (image ∷ images) told old at sound all =
      let first = image_done image told old at sound in
      more_more (MayAdd image) (MayAddAny images) (MayAddAny (image ∷ images)) (first_added image images) (later_added image images) old first.after after first.runs.moments
      (among_done images (after_image told image) first.after first.is first.runs.now.sound all)

  among_failed : (images : List Image) (path : List ℕ) (told : FilesView) (old : Disk) → told.disk ≡ Some old → IsSound old.current → FailsAmong images path told new → HasLeftMore (MayAddAny images) old after
  among_failed [] path told old at sound fails = absurd fails
  among_failed (image ∷ images) path told old at sound (inl fails) =
      weaker (MayAdd image) (MayAddAny (image ∷ images)) old after (first_added image images) (image_failed image told old at sound new after is fails.1).moments
  among_failed (image ∷ images) path told old at sound (inr fails) =
      let first = image_done image told old at sound in
      more_more (MayAdd image) (MayAddAny images) (MayAddAny (image ∷ images)) (first_added image images) (later_added image images) old first.after after first.runs.moments
      (among_failed images path (after_image told image) first.after first.is first.runs.now.sound fails)

  among_stopped : (images : List Image) (told : FilesView) (old : Disk) → told.disk ≡ Some old → IsSound old.current → StopsAmong images told new → HasLeftMore (MayAddAny images) old after
  among_stopped [] told old at sound stops = absurd stops
  among_stopped (image ∷ images) told old at sound (inl stops) =
      weaker (MayAdd image) (MayAddAny (image ∷ images)) old after (first_added image images) (image_stopped image told old at sound new after is stops).moments
  among_stopped (image ∷ images) told old at sound (inr stops) =
      let first = image_done image told old at sound in
      more_more (MayAdd image) (MayAddAny images) (MayAddAny (image ∷ images)) (first_added image images) (later_added image images) old first.after after first.runs.moments
      (among_stopped images (after_image told image) first.after first.is first.runs.now.sound stops)

-- a save of images, however it ends
pub every_moment : (images : List Image) (old new : FilesView) (result : Result (Unit {0}) SaveError) → Saves images old new result → LeavesOldOrNew images old new
every_moment images old new (Ok value) all before after at is durable = among_done new after is images old before at durable.sound all
every_moment images old new (Err (Failed path)) fails before after at is durable = among_failed new after is images path old before at durable.sound fails
every_moment images old new (Err OutOfMemory) (inl same) before after at is durable = subst (λ (d : Disk). HasLeftMore (MayAddAny images) before d) (same_disks before after old new at is same) (none_more (MayAddAny images) before)
every_moment images old new (Err OutOfMemory) (inr stops) before after at is durable = among_stopped new after is images old before at durable.sound stops

-- saves in one run, one after another
added_first : (images others : List Image) (path : List ℕ) (entry : Option File) → MayAddAny images path entry → MayAddAny (images ++ others) path entry
added_first [] others path entry none = absurd none
added_first (image ∷ images) others path entry (inl here) = inl here
added_first (image ∷ images) others path entry (inr there) = inr (added_first images others path entry there)

added_then : (images others : List Image) (path : List ℕ) (entry : Option File) → MayAddAny others path entry → MayAddAny (images ++ others) path entry
added_then [] others path entry added = added
added_then (image ∷ images) others path entry added = inr (added_then images others path entry added)

pub chain : (images others : List Image) (first middle last : Disk) → HasLeftMore (MayAddAny images) first middle → HasLeftMore (MayAddAny others) middle last → HasLeftMore (MayAddAny (images ++ others)) first last
chain images others first middle last one two = more_more (MayAddAny images) (MayAddAny others) (MayAddAny (images ++ others)) (added_first images others) (added_then images others) first middle last one two
