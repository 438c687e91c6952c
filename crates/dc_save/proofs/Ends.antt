-- What stands when a save of images has ended.
use Rattle.std.specs.Prelude.{get_or}
use Rattle.std.proofs.Common.{◌≡◌, ◌≢◌, ◌<◌, length, length-append, arith, lit<, codes, inl, inr, ⊎_elim, ℕ, cond, true, false, ◌++◌, List, [], ◌∷◌, Option, None, Some, Result, Ok, Err, refl, sym, ap, subst, ◌∙◌}
use Rattle.std.proofs.lemmas.List.{append_cancel_left}
use Rattle.std.specs.List.{AllByRecursion}
use Rattle.std.specs.Cmp.Lexicographic.{nat_list_cmp_total}
use Rattle.std.specs.FinMap as map
use Rattle.std.specs.FinMap.{get-insert, get-remove}
use Rattle.dc_text.specs.Maps.{Texts}
use Rattle.dc_outside.specs.Disk.{Disk, DiskState, File, Among, HasLeftMore, IsDurable, moment, renamed, open_at, durable_at}
use Rattle.dc_outside.specs.State.{FilesView}
use Rattle.dc_outside.specs.Steps.{Renaming, Removing, done}
use Rattle.dc_outside.proofs.DiskLemmas.{same, same_files, get-here, get-renamed, with_entry-apart}
use Rattle.dc_outside.proofs.Moments.{at_rest, none_open, none_written, none_renamed, none_removed, none_pending, left_now}
use Rattle.dc_layer.specs.declared.image.Image.{Image}
use Rattle.dc_save.specs.declared.saving.SaveError.{SaveError}
use Rattle.dc_save.specs.declared.saving.SaveError.TheVariants.{Failed, OutOfMemory}
use Rattle.dc_save.specs.Steps.{all_done}
use Rattle.dc_save.specs.Saving.{new_path, old_path, image_steps, file_of, beside, after_image, FailsAmong, StopsAmong, Saves, MayAdd, MayAddAny, with_kept, with_placed, saved, all_saved, IsHalfSaved, IsSavedTo, EndsWith, paths_of, ShareNone, AreApart, KeepsPaths, StandSaved}
use Rattle.dc_save.proofs.DiskState.{same_some, same_disks, Good, Runs, image_done, image_failed, image_stopped}

-- ---- one image

gone : (files : Texts File) (beside_path : List ℕ) (file : File) (q : List ℕ) → cond (same q beside_path) None (map.get (map.insert files beside_path file) q) ≡ cond (same q beside_path) None (map.get files q)
gone files beside_path file q = ap (cond (same q beside_path) None) (get-insert nat_list_cmp_total files beside_path file q)
    ∙ elim (same q beside_path) as (λ b. cond b None (cond b (Some file) (map.get files q)) ≡ cond b None (map.get files q)) [ true ↦ refl | false ↦ refl ]

-- a file that was written beside its path, and takes its place
renamed_beside : (files : Texts File) (beside_path path : List ℕ) (file : File) → renamed (map.insert files beside_path file) beside_path path ≡ map.insert (map.remove files beside_path) path file
renamed_beside files beside_path path file = same_files _ _ (λ q.
    get-renamed (map.insert files beside_path file) beside_path path q
    ∙ ap (λ o. cond (same q path) o (cond (same q beside_path) None (map.get (map.insert files beside_path file) q))) (get-here files beside_path (Some file))
    ∙ ap (cond (same q path) (Some file)) (gone files beside_path file q)
    ∙ sym (get-insert nat_list_cmp_total (map.remove files beside_path) path file q ∙ ap (cond (same q path) (Some file)) (get-remove nat_list_cmp_total files beside_path q)))

same_standing : (a b : DiskState) → a.files ≡ b.files → a.pending ≡ b.pending → a ≡ b
same_standing a b files pending = λ i. record { files = files i; pending = pending i }

image_saved : (start : DiskState) (path : List ℕ) (mode : ℕ) (bytes old : Option (List ℕ)) → let image : Image = record { path = path; mode = mode; bytes = bytes; old = old } in IsDurable start → all_done (image_steps image) start ≡ saved start image
image_saved start path mode None None durable = same_standing _ _ refl (none_pending (done (Removing path) start) (none_removed start path (none_open start durable)))
image_saved start path mode None (Some old) durable =
    let kept : DiskState = durable_at (open_at start (old_path path) (Some (record { bytes = old; mode = mode }))) (old_path path) in
    same_standing _ _ refl (none_pending (done (Removing path) kept) (none_removed kept path (none_written start (old_path path) (Some (record { bytes = old; mode = mode })) (none_open start durable))))
image_saved start path mode (Some bytes) None durable =
    let wrote : DiskState = durable_at (open_at start (new_path path) (Some (record { bytes = bytes; mode = mode }))) (new_path path) in
    same_standing _ _ (renamed_beside start.files (new_path path) path (record { bytes = bytes; mode = mode }))
    (none_pending (done (Renaming (new_path path) path) wrote) (none_renamed wrote (new_path path) path (none_written start (new_path path) (Some (record { bytes = bytes; mode = mode })) (none_open start durable))))
image_saved start path mode (Some bytes) (Some old) durable =
    let kept : DiskState = durable_at (open_at start (old_path path) (Some (record { bytes = old; mode = mode }))) (old_path path) in
    let wrote : DiskState = durable_at (open_at kept (new_path path) (Some (record { bytes = bytes; mode = mode }))) (new_path path) in
    same_standing _ _ (renamed_beside kept.files (new_path path) path (record { bytes = bytes; mode = mode }))
    (none_pending (done (Renaming (new_path path) path) wrote) (none_renamed wrote (new_path path) path
    (none_written kept (new_path path) (Some (record { bytes = bytes; mode = mode })) (none_written start (old_path path) (Some (record { bytes = old; mode = mode })) (none_open start durable)))))

-- ---- images

module _ (image : Image) (told : FilesView) (old : Disk) (at : told.disk ≡ Some old) (durable : IsDurable old.current) where
  stands : (image_done image told old at durable.sound).after.current ≡ saved old.current image
  stands = (image_done image told old at durable.sound).stands ∙ image_saved old.current image.path image.mode image.bytes image.old durable

  rests : IsDurable (image_done image told old at durable.sound).after.current
  rests = subst IsDurable (sym stands) (at_rest (saved old.current image) refl)

half_saved : (image : Image) (old after : Disk) → Runs (MayAdd image) (Good old.current image) old after → IsHalfSaved image old.current after.current
half_saved image old after runs = record { sound = runs.now.sound; at_most = runs.now.within }

one_more : (path : List ℕ) (first : Image) (images : List Image) (old new : DiskState) → IsSavedTo path images (saved old first) new → IsSavedTo path (first ∷ images) old new
one_more path first images old new to = record { before = first ∷ to.before; image = to.image; after = to.after; are = ap (λ l. first ∷ l) to.are; path_is = to.path_is; half = to.half }

module _ (new : FilesView) (after : Disk) (is : new.disk ≡ Some after) where
  ends_done : (images : List Image) (told : FilesView) (old : Disk) → told.disk ≡ Some old → IsDurable old.current → Saves images told new (Ok tt) → after.current ≡ all_saved old.current images
  ends_done [] told old at durable all = sym (ap (λ (d : Disk). d.current) (same_disks old after told new at is all))
  ends_done (image ∷ images) told old at durable all =
      let first = image_done image told old at durable.sound in
      ends_done images (after_image told image) first.after first.is (rests image told old at durable) all
      ∙ ap (λ s. all_saved s images) (stands image told old at durable)

  ends_failed : (images : List Image) (path : List ℕ) (told : FilesView) (old : Disk) → told.disk ≡ Some old → IsDurable old.current → FailsAmong images path told new → IsSavedTo path images old.current after.current
  ends_failed [] path told old at durable fails = absurd fails
  ends_failed (image ∷ images) path told old at durable (inl fails) = record {
    before = [];
    image = image;
    after = images;
    are = refl;
    path_is = fails.0;
    half = half_saved image old after (image_failed image told old at durable.sound new after is fails.1);
  }
  ends_failed (image ∷ images) path told old at durable (inr fails) =
      let first = image_done image told old at durable.sound in
      one_more path image images old.current after.current (subst (λ s. IsSavedTo path images s after.current) (stands image told old at durable)
      (ends_failed images path (after_image told image) first.after first.is (rests image told old at durable) fails))

  ends_stopped : (images : List Image) (told : FilesView) (old : Disk) → told.disk ≡ Some old → IsDurable old.current → StopsAmong images told new → (path : List ℕ) × IsSavedTo path images old.current after.current
  ends_stopped [] told old at durable stops = absurd stops
  ends_stopped (image ∷ images) told old at durable (inl stops) = (
    image.path,
    record {
      before = [];
      image = image;
      after = images;
      are = refl;
      path_is = refl;
      half = half_saved image old after (image_stopped image told old at durable.sound new after is stops);
    },
  )
  ends_stopped (image ∷ images) told old at durable (inr stops) =
      let first = image_done image told old at durable.sound in
      let to = ends_stopped images (after_image told image) first.after first.is (rests image told old at durable) stops in
      (to.0, one_more to.0 image images old.current after.current (subst (λ s. IsSavedTo to.0 images s after.current) (stands image told old at durable) to.1))

pub ends : (images : List Image) (old new : FilesView) (result : Result (Unit {0}) SaveError) → Saves images old new result → EndsWith images old new result
ends images old new (Ok value) all before after at is durable = ends_done new after is images old before at durable all
ends images old new (Err (Failed path)) fails before after at is durable = ends_failed new after is images path old before at durable fails
ends images old new (Err OutOfMemory) (inl same) before after at is durable = inl (sym (ap (λ (d : Disk). d.current) (same_disks before after old new at is same)))
ends images old new (Err OutOfMemory) (inr stops) before after at is durable = inr (ends_stopped new after is images old before at durable stops)

-- ---- paths apart

longer : (path more : List ℕ) → 0 < length more → path ≢ path ++ more
longer path more some e = let l : length path ≡ length (path ++ more) = ap length e in omega (arith, length-append path more, l)

longer_new : (path : List ℕ) → path ≢ new_path path
longer_new path = longer path (codes "-new") (lit< tt)

longer_old : (path : List ℕ) → path ≢ old_path path
longer_old path = longer path (codes "-old") (lit< tt)

own_path : (image : Image) (path : List ℕ) (entry : Option File) → MayAdd image path entry → Among (paths_of image) path
own_path image path entry (inl here) = inl here.0
own_path image path entry (inr there) = beside_among image.path image.mode image.bytes image.old path there where
  beside_among : (at : List ℕ) (mode : ℕ) (bytes old : Option (List ℕ)) (path : List ℕ) → Among (beside (record { path = at; mode = mode; bytes = bytes; old = old })) path → Among (at ∷ new_path at ∷ old_path at ∷ []) path
  beside_among at mode None None path none = absurd none
  beside_among at mode None (Some old) path (inl e) = inr (inr (inl e))
  beside_among at mode None (Some old) path (inr none) = absurd none
  beside_among at mode (Some bytes) None path (inl e) = inr (inl e)
  beside_among at mode (Some bytes) None path (inr none) = absurd none
  beside_among at mode (Some bytes) (Some old) path (inl e) = inr (inr (inl e))
  beside_among at mode (Some bytes) (Some old) path (inr (inl e)) = inr (inl e)
  beside_among at mode (Some bytes) (Some old) path (inr (inr none)) = absurd none

none_added : (images : List Image) (path : List ℕ) (entry : Option File) → AllByRecursion (λ image. Among (paths_of image) path → ⊥) images → MayAddAny images path entry → ⊥
none_added [] path entry apart none = none
none_added (image ∷ images) path entry apart (inl added) = apart.0 (own_path image path entry added)
none_added (image ∷ images) path entry apart (inr added) = none_added images path entry apart.1 added

-- where no image shares a path with this one
shares_none : (image : Image) (images : List Image) → AllByRecursion (λ other. ShareNone (paths_of image) (paths_of other)) images → AllByRecursion (λ other. Among (paths_of other) image.path → ⊥) images
shares_none image [] apart = tt
shares_none image (other ∷ images) apart = ((λ among. apart.0 image.path (inl refl) among), shares_none image images apart.1)

one_shares : (image first : Image) (images : List Image) → Among images image → AllByRecursion (λ other. ShareNone (paths_of first) (paths_of other)) images → Among (paths_of first) image.path → ⊥
one_shares image first [] none apart among = none
one_shares image first (other ∷ images) (inl e) apart among = apart.0 image.path among (inl (ap (λ (i : Image). i.path) e))
one_shares image first (other ∷ images) (inr among_them) apart among = one_shares image first images among_them apart.1 among

own_added : (path : List ℕ) (mode : ℕ) (bytes old : Option (List ℕ)) (entry : Option File) → let image : Image = record { path = path; mode = mode; bytes = bytes; old = old } in MayAdd image path entry → entry ≡ file_of image
own_added path mode bytes old entry (inl here) = here.1
own_added path mode None None entry (inr none) = absurd none
own_added path mode None (Some kept) entry (inr (inl e)) = absurd (longer_old path e)
own_added path mode None (Some kept) entry (inr (inr none)) = absurd none
own_added path mode (Some bytes) None entry (inr (inl e)) = absurd (longer_new path e)
own_added path mode (Some bytes) None entry (inr (inr none)) = absurd none
own_added path mode (Some bytes) (Some kept) entry (inr (inl e)) = absurd (longer_old path e)
own_added path mode (Some bytes) (Some kept) entry (inr (inr (inl e))) = absurd (longer_new path e)
own_added path mode (Some bytes) (Some kept) entry (inr (inr (inr none))) = absurd none

image_added : (images : List Image) (image : Image) (entry : Option File) → AreApart images → Among images image → MayAddAny images image.path entry → entry ≡ file_of image
image_added [] image entry apart none added = absurd none
image_added (first ∷ images) image entry apart (inl e) (inl added) =
    subst (λ (i : Image). MayAdd i image.path entry → entry ≡ file_of image) e (own_added image.path image.mode image.bytes image.old entry) added
image_added (first ∷ images) image entry apart (inl e) (inr added) =
    absurd (none_added images image.path entry (shares_none image images (subst (λ (i : Image). AllByRecursion (λ other. ShareNone (paths_of i) (paths_of other)) images) (sym e) apart.0)) added)
image_added (first ∷ images) image entry apart (inr among_them) (inl added) = absurd (one_shares image first images among_them apart.0 (own_path first image.path entry added))
image_added (first ∷ images) image entry apart (inr among_them) (inr added) = image_added images image entry apart.1 among_them added

pub keeps_paths : (images : List Image) (before after : Disk) → AreApart images → IsDurable before.current → HasLeftMore (MayAddAny images) before after → KeepsPaths images before after
keeps_paths images before after apart durable more = record {
  each = λ image entry among left. ⊎_elim (λ old. inl (durable.alone image.path entry (left_now before image.path entry old))) (λ added. inr (image_added images image entry apart among added)) (more.at_most (moment before) image.path entry (omega arith) left);
  others = λ path entry none left. ⊎_elim (λ old. durable.alone path entry (left_now before path entry old)) (λ added. absurd (none_added images path entry none added)) (more.at_most (moment before) path entry (omega arith) left);
}

-- ---- what stands at each path

with_kept_other : (files : Texts File) (path : List ℕ) (mode : ℕ) (bytes old : Option (List ℕ)) (q : List ℕ) → q ≢ old_path path → let image : Image = record { path = path; mode = mode; bytes = bytes; old = old } in map.get (with_kept files image) q ≡ map.get files q
with_kept_other files path mode bytes None q apart = refl
with_kept_other files path mode bytes (Some old) q apart = with_entry-apart files (old_path path) (Some (record { bytes = old; mode = mode })) q apart

with_placed_other : (files : Texts File) (path : List ℕ) (mode : ℕ) (bytes old : Option (List ℕ)) (q : List ℕ) → q ≢ path → q ≢ new_path path → let image : Image = record { path = path; mode = mode; bytes = bytes; old = old } in map.get (with_placed files image) q ≡ map.get files q
with_placed_other files path mode None old q apart beside_it = with_entry-apart files path None q apart
with_placed_other files path mode (Some bytes) old q apart beside_it = with_entry-apart (map.remove files (new_path path)) path (Some (record { bytes = bytes; mode = mode })) q apart ∙ with_entry-apart files (new_path path) None q beside_it

saved_other : (current : DiskState) (image : Image) (q : List ℕ) → (Among (paths_of image) q → ⊥) → map.get (saved current image).files q ≡ map.get current.files q
saved_other current image q apart =
    with_placed_other (with_kept current.files image) image.path image.mode image.bytes image.old q (λ e. apart (inl e)) (λ e. apart (inr (inl e)))
    ∙ with_kept_other current.files image.path image.mode image.bytes image.old q (λ e. apart (inr (inr (inl e))))

placed_here : (files : Texts File) (path : List ℕ) (mode : ℕ) (bytes old : Option (List ℕ)) → let image : Image = record { path = path; mode = mode; bytes = bytes; old = old } in map.get (with_placed files image) path ≡ file_of image
placed_here files path mode None old = get-here files path None
placed_here files path mode (Some bytes) old = get-here (map.remove files (new_path path)) path (Some (record { bytes = bytes; mode = mode }))

apart_beside : (path : List ℕ) → old_path path ≢ new_path path
apart_beside path e = suffixes (append_cancel_left path (codes "-old") (codes "-new") e) where
  suffixes : codes "-old" ≢ codes "-new"
  suffixes e = let n : 111 ≡ 110 = ap (λ l. get_or l 1 0) e in omega (arith, n)

kept_here : (files : Texts File) (path : List ℕ) (mode : ℕ) (bytes : Option (List ℕ)) (text : List ℕ) → let image : Image = record { path = path; mode = mode; bytes = bytes; old = Some text } in map.get (with_placed (with_kept files image) image) (old_path path) ≡ Some (record { bytes = text; mode = mode })
kept_here files path mode bytes text = let image : Image = record { path = path; mode = mode; bytes = bytes; old = Some text } in
    with_placed_other (with_kept files image) path mode bytes (Some text) (old_path path) (λ e. longer_old path (sym e)) (apart_beside path)
    ∙ get-here files (old_path path) (Some (record { bytes = text; mode = mode }))

all_others : (images : List Image) (current : DiskState) (q : List ℕ) → AllByRecursion (λ image. Among (paths_of image) q → ⊥) images → map.get (all_saved current images).files q ≡ map.get current.files q
all_others [] current q apart = refl
all_others (image ∷ images) current q apart = all_others images (saved current image) q apart.1 ∙ saved_other current image q apart.0

old_shares : (image : Image) (images : List Image) → AllByRecursion (λ other. ShareNone (paths_of image) (paths_of other)) images → AllByRecursion (λ other. Among (paths_of other) (old_path image.path) → ⊥) images
old_shares image [] apart = tt
old_shares image (other ∷ images) apart = ((λ among. apart.0 (old_path image.path) (inr (inr (inl refl))) among), old_shares image images apart.1)

all_here : (images : List Image) (current : DiskState) (image : Image) → AreApart images → Among images image → map.get (all_saved current images).files image.path ≡ file_of image
all_here [] current image apart none = absurd none
all_here (first ∷ images) current image apart (inl e) = subst (λ (i : Image). map.get (all_saved (saved current first) images).files i.path ≡ file_of i) (sym e)
    (all_others images (saved current first) first.path (shares_none first images apart.0) ∙ placed_here (with_kept current.files first) first.path first.mode first.bytes first.old)
all_here (first ∷ images) current image apart (inr among) = all_here images (saved current first) image apart.1 among

kept_first : (current : DiskState) (path : List ℕ) (mode : ℕ) (bytes old : Option (List ℕ)) (text : List ℕ) → old ≡ Some text → let image : Image = record { path = path; mode = mode; bytes = bytes; old = old } in map.get (saved current image).files (old_path path) ≡ Some (record { bytes = text; mode = mode })
kept_first current path mode bytes None text e = absurd (cc)
kept_first current path mode bytes (Some old) text e = kept_here current.files path mode bytes old ∙ ap (λ (t : List ℕ). Some (record { bytes = t; mode = mode })) (same_some old text e)

all_kept : (images : List Image) (current : DiskState) (image : Image) (text : List ℕ) → AreApart images → Among images image → image.old ≡ Some text → map.get (all_saved current images).files (old_path image.path) ≡ Some (record { bytes = text; mode = image.mode })
all_kept [] current image text apart none old = absurd none
all_kept (first ∷ images) current image text apart (inl e) old =
    subst (λ (i : Image). i.old ≡ Some text → map.get (all_saved (saved current first) images).files (old_path i.path) ≡ Some (record { bytes = text; mode = i.mode })) (sym e)
    (λ has. all_others images (saved current first) (old_path first.path) (old_shares first images apart.0) ∙ kept_first current first.path first.mode first.bytes first.old text has) old
all_kept (first ∷ images) current image text apart (inr among) old = all_kept images (saved current first) image text apart.1 among old

still_settled : (images : List Image) (current : DiskState) → IsDurable current → IsDurable (all_saved current images)
still_settled [] current durable = durable
still_settled (image ∷ images) current durable = still_settled images (saved current image) (at_rest (saved current image) refl)

pub stand_saved : (images : List Image) (old : DiskState) → AreApart images → StandSaved images old (all_saved old images)
stand_saved images old apart = record { durable = still_settled images old; files = λ image among. all_here images old image apart among; kept = λ image text among has. all_kept images old image text apart among has; others = λ path none. all_others images old path none }
