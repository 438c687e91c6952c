-- What one call leaves, at each moment.
use Rattle.std.proofs.Common.{◌≡◌, ◌↔◌, inl, inr, ℕ, List, Option, Some, Result, Ok, Err, sym, ap, subst, ◌∙◌}
use Rattle.std.specs.Option.{option_map}
use Rattle.dc_outside.specs.Disk.{Disk, DiskState, File, MayLeave, IsSound, HasLeftMore, Left, moment, then_stands}
use Rattle.dc_outside.specs.State.{FilesView, FilesState}
use Rattle.dc_outside.specs.Steps.{Step, Writing, Syncing, Renaming, SyncingNames, Removing, Takes, AddsStep, Leaves, done}
use Rattle.dc_outside.specs.declared.files.FilesError.{FilesError}
use Rattle.dc_outside.specs.declared.files.FilesError.TheVariants.{Failed, OutOfMemory}
use Rattle.dc_outside.proofs.Moments.{none_more, more_then, left_now, sound_open, sound_settled, sound_renamed, sound_names, sound_removed}

same_some : {A : Type 0} (a b : A) → Some a ≡ Some b → a ≡ b
same_some a b e = cc

stood : (before after : Disk) → before ≡ after → HasLeftMore (MayLeave after.current) before after
stood before after e = subst (λ (d : Disk). HasLeftMore (MayLeave d.current) before d) e (none_more (MayLeave before.current) before)

moved_on : (before after : Disk) (current : DiskState) → then_stands before current ≡ after → HasLeftMore (MayLeave after.current) before after
moved_on before after current e = subst (λ (d : Disk). HasLeftMore (MayLeave d.current) before d) e
    (more_then (MayLeave current) before before current (none_more (MayLeave current) before) (λ path entry left. inr left))

failed_join : (step : Step) (before after : Disk) (new : Option Disk) → new ≡ Some after → Leaves step (Some before) new → HasLeftMore (MayLeave after.current) before after
failed_join step before after new is (inl same) = stood before after (same_some before after (sym same ∙ is))
failed_join step before after new is (inr half) = moved_on before after half.0 (same_some (then_stands before half.0) after (sym half.2 ∙ is))

joined : (step : Step) (old new : FilesView) (result : Result (Unit {0}) FilesError) (before after : Disk) → AddsStep step old new result → old.disk ≡ Some before → new.disk ≡ Some after → HasLeftMore (MayLeave after.current) before after
joined step old new (Ok value) before after takes at is =
    moved_on before after (done step before.current) (same_some _ after (sym (ap (λ (o : Option Disk). option_map (λ disk. then_stands disk (done step disk.current)) o) at) ∙ ap (λ (t : FilesView). t.disk) (sym takes) ∙ is))
joined step old new (Err Failed) before after takes at is = failed_join step before after new.disk is (subst (λ (o : Option Disk). Leaves step o new.disk) at takes.disk)
joined step old new (Err OutOfMemory) before after takes at is = stood before after (same_some before after (sym at ∙ ap (λ (t : FilesView). t.disk) (sym takes) ∙ is))

pub join : (step : Step) (old new : FilesState) (result : Result (Unit {0}) FilesError) (before after : Disk) → Takes step old new result → old.view.disk ≡ Some before → new.view.disk ≡ Some after → HasLeftMore (MayLeave after.current) before after
join step old new result before after takes at is = joined step old.view new.view result before after takes.view at is

pub left_at : (disk : Disk) (path : List ℕ) (entry : Option File) → Left disk (moment disk) path entry ↔ MayLeave disk.current path entry
left_at disk path entry = (left_now disk path entry, λ now. inr now)

pub sound_done : (step : Step) (current : DiskState) → IsSound current → IsSound (done step current)
sound_done (Writing path file) current sound = sound_open current path (Some file) sound
sound_done (Syncing path) current sound = sound_settled current path sound
sound_done (Renaming from to) current sound = sound_renamed current from to sound
sound_done SyncingNames current sound = sound_names current sound
sound_done (Removing path) current sound = sound_removed current path sound
