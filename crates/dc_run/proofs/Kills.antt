-- What a crash leaves of a run that saves several times.
use Rattle.std.proofs.Common.{◌≡◌, ◌≢◌, ◌⊎◌, inl, inr, ⊎_elim, List, [], ◌∷◌, ◌++◌, Option, Some, refl, sym, ap, subst, ◌∙◌, arith}
use Rattle.std.specs.Prelude.{Result, Ok, Err}
use Rattle.std.specs.Option.{option_map}
use Rattle.std.specs.List.{AllByRecursion}
use Rattle.dc_outside.specs.Disk.{Disk, DiskState, IsDurable, moment, HasLeftMore, then_stands}
use Rattle.dc_outside.specs.Steps.{Step, after_step, done}
use Rattle.dc_outside.specs.State.{FilesView}
use Rattle.dc_outside.proofs.Moments.{at_rest, none_more, left_now}
use Rattle.dc_layer.specs.declared.image.Image.{Image}
use Rattle.dc_save.specs.Steps.{after_steps}
use Rattle.dc_save.specs.Saving.{Saves, MayAddAny, all_saved, saved, Ends, after_image, after_images, image_steps}
use Rattle.dc_save.specs.declared.saving.SaveError.{SaveError}
use Rattle.dc_save.proofs.Ends.{ends}
use Rattle.dc_save.proofs.DiskState.{every_moment, same_some, chain}
use Rattle.dc_run.specs.Finishing.{images_of}
use Rattle.dc_run.specs.Kills.{AllDone, disk_after, KeepsSaves}
use Rattle.dc_run.specs.Saves.{Save, IsSave, AreSaves, images_in}

-- ---- what is saved rests

pub rests : (images : List Image) (old : DiskState) → IsDurable old → IsDurable (all_saved old images)
rests [] old durable = durable
rests (image ∷ images) old durable = rests images (saved old image) (at_rest (saved old image) refl)

pub all_saved-append : (images others : List Image) (old : DiskState) → all_saved old (images ++ others) ≡ all_saved (all_saved old images) others
all_saved-append [] others old = refl
all_saved-append (image ∷ images) others old = all_saved-append images others (saved old image)

-- ---- one save

-- a save of which the disk is told: the disk after it is told too
module _ (save : Save) (before after : Disk) (is : IsSave save) (at : save.before.view.disk ≡ Some before) (to : save.after.view.disk ≡ Some after) (durable : IsDurable before.current) where
  pub leaves : HasLeftMore (MayAddAny (images_of save.layers)) before after
  leaves = every_moment (images_of save.layers) save.before.view save.after.view save.answer is.saves before after at to durable

  ended : Ends (images_of save.layers) before.current after.current save.answer
  ended = ends (images_of save.layers) save.before.view save.after.view save.answer is.saves before after at to durable

  pub stands_done : save.answer ≡ Ok tt → after.current ≡ all_saved before.current (images_of save.layers)
  stands_done done = subst (Ends (images_of save.layers) before.current after.current) done ended

  pub rests_done : save.answer ≡ Ok tt → IsDurable after.current
  rests_done done = subst IsDurable (sym (stands_done done)) (rests (images_of save.layers) before.current durable)

-- ---- the disk is told from the first save to the last

some_step : (told : FilesView) (step : Step) (disk : Disk) → told.disk ≡ Some disk → (after_step told step).disk ≡ Some (then_stands disk (done step disk.current))
some_step told step disk at = ap (option_map (λ (d : Disk). then_stands d (done step d.current))) at

some_steps : (steps : List Step) (told : FilesView) (disk : Disk) → told.disk ≡ Some disk → (new : Disk) × ((after_steps told steps).disk ≡ Some new)
some_steps [] told disk at = (disk, at)
some_steps (step ∷ steps) told disk at = some_steps steps (after_step told step) (then_stands disk (done step disk.current)) (some_step told step disk at)

some_images : (images : List Image) (told : FilesView) (disk : Disk) → told.disk ≡ Some disk → (new : Disk) × ((after_images told images).disk ≡ Some new)
some_images [] told disk at = (disk, at)
some_images (image ∷ images) told disk at =
    let first = some_steps (image_steps image) told disk at in
    some_images images (after_image told image) first.0 first.1

some_after : (save : Save) (before : Disk) → IsSave save → save.before.view.disk ≡ Some before → save.answer ≡ Ok tt → (mid : Disk) × (save.after.view.disk ≡ Some mid)
some_after save before is at done =
    let all : save.after.view ≡ after_images save.before.view (images_of save.layers) = subst (Saves (images_of save.layers) save.before.view save.after.view) done is.saves in
    let told = some_images (images_of save.layers) save.before.view before at in
    (told.0, ap (λ (t : FilesView). t.disk) all ∙ told.1)

-- ---- the saves that are left

abbrev Answer : Type 0
Answer = Result (Unit {0}) SaveError

is_ok : (answer : Answer) → (answer ≡ Ok tt) ⊎ (answer ≢ Ok tt)
is_ok (Ok done) = inl refl
is_ok (Err error) = inr (λ e. absurd (cc))

from_here : (saves : List Save) (since after : Disk) → AreSaves (Some since) saves (Some after) → IsDurable since.current → HasLeftMore (MayAddAny (images_in saves)) since after
from_here [] since after are durable = subst (λ (d : Disk). HasLeftMore (MayAddAny []) since d) (sym (same_some after since are)) (none_more (MayAddAny []) since)
from_here (save ∷ saves) since after are durable = elim (is_ok save.answer) [
  | inl done ↦
      let mid = some_after save since are.1 are.0 done in
      chain (images_of save.layers) (images_in saves) since mid.0 after (leaves save since mid.0 are.1 are.0 mid.1 durable)
      (from_here saves mid.0 after (subst (λ (d : Option Disk). AreSaves d saves (Some after)) mid.1 are.3) (rests_done save since mid.0 are.1 are.0 mid.1 durable done))
  | inr failed ↦
      let none : saves ≡ [] = are.2 failed in
      let to : save.after.view.disk ≡ Some after = sym (subst (λ (l : List Save). AreSaves save.after.view.disk l (Some after)) none are.3) in
      subst (λ (l : List Save). HasLeftMore (MayAddAny (images_of save.layers ++ images_in l)) since after) (sym none)
      (chain (images_of save.layers) [] since after after (leaves save since after are.1 are.0 to durable) (none_more (MayAddAny []) after))
]

-- ---- those that are over

pub record IsOver (before after : Disk) (over later : List Save) (since : Disk) : Type 0 where
  pub are : AreSaves (Some since) later (Some after)
  pub durable : IsDurable since.current
  pub stands : since.current ≡ all_saved before.current (images_in over)

pub over_then : (over later : List Save) (before after since : Disk) → AreSaves (Some before) (over ++ later) (Some after) → AllDone over → IsDurable before.current → disk_after (Some before) over ≡ Some since → IsOver before after over later since
over_then [] later before after since are done durable at =
    let same : since ≡ before = sym (same_some before since at) in
    record {
      are = subst (λ (d : Disk). AreSaves (Some d) later (Some after)) (sym same) are;
      durable = subst (λ (d : Disk). IsDurable d.current) (sym same) durable;
      stands = ap (λ (d : Disk). d.current) same;
    }
over_then (save ∷ over) later before after since are done durable at =
    let mid = some_after save before are.1 are.0 done.0 in
    let rest = over_then over later mid.0 after since (subst (λ (d : Option Disk). AreSaves d (over ++ later) (Some after)) mid.1 are.3) done.1
    (rests_done save before mid.0 are.1 are.0 mid.1 durable done.0) (ap (λ (d : Option Disk). disk_after d over) (sym mid.1) ∙ at) in
    record {
      are = rest.are;
      durable = rest.durable;
      stands = rest.stands ∙ ap (λ (s : DiskState). all_saved s (images_in over)) (stands_done save before mid.0 are.1 are.0 mid.1 durable done.0)
          ∙ sym (all_saved-append (images_of save.layers) (images_in over) before.current);
    }

pub keeps_saves : (saves : List Save) (before after : Disk) → AreSaves (Some before) saves (Some after) → IsDurable before.current → KeepsSaves saves before after
keeps_saves saves before after are durable over later split done since at =
    let now = over_then over later before after since (subst (λ (l : List Save). AreSaves (Some before) l (Some after)) split are) done durable at in
    let more = from_here later since after now.are now.durable in
    record {
      leaves = λ path entry left. ⊎_elim (λ old. inl (now.durable.alone path entry (left_now since path entry old))) (λ added. inr added) (more.at_most (moment since) path entry (omega arith) left);
      durable = now.durable;
      stands = now.stands;
    }

-- ---- some saves behind others

-- of which all were done, or that none follow
pub saves_joined : (old mid new : Option Disk) (saves more : List Save) → AreSaves old saves mid → AllDone saves ⊎ (more ≡ []) → AreSaves mid more new → AreSaves old (saves ++ more) new
saves_joined old mid new [] more are done later = subst (λ (d : Option Disk). AreSaves d more new) are later
saves_joined old mid new (save ∷ saves) more are (inl done) later =
    (are.0, are.1, (λ failed. absurd (failed done.0)), saves_joined save.after.view.disk mid new saves more are.3 (inl done.1) later)
saves_joined old mid new (save ∷ saves) more are (inr none) later =
    (are.0, are.1, (λ failed. ap (λ (l : List Save). l ++ more) (are.2 failed) ∙ none), saves_joined save.after.view.disk mid new saves more are.3 (inr none) later)

pub done_joined : (saves more : List Save) → AllDone saves → AllDone more → AllDone (saves ++ more)
done_joined [] more done later = later
done_joined (save ∷ saves) more done later = (done.0, done_joined saves more done.1 later)

-- what is said of each is said of all
pub each_joined : (Of : Save → Type 0) (saves more : List Save) → AllByRecursion Of saves → AllByRecursion Of more → AllByRecursion Of (saves ++ more)
each_joined Of [] more are later = later
each_joined Of (save ∷ saves) more are later = (are.0, each_joined Of saves more are.1 later)

pub each_mapped : (One Other : Save → Type 0) → ((save : Save) → One save → Other save) → (saves : List Save) → AllByRecursion One saves → AllByRecursion Other saves
each_mapped One Other step [] are = tt
each_mapped One Other step (save ∷ saves) are = (step save are.0, each_mapped One Other step saves are.1)
