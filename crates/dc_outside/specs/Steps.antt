-- What a call of the files does, by its answer.
use Rattle.std.specs.Prelude.{◌≡◌, ◌⊎◌, ℕ, Bool, true, false, List, [], ◌∷◌, ◌++◌, Option, None, Some, option_map, IfOk, IfSome, Result, Ok, Err}
use Rattle.std.specs.FinMap as map
use Rattle.dc_outside.specs.Disk.{Disk, DiskState, File, renamed, then_stands, open_at, durable_at, with_rename, with_removal, names_durable}
use Rattle.dc_outside.specs.Counts.{Counted}
use Rattle.dc_outside.specs.State.{FilesView, FilesState}
use Rattle.dc_outside.specs.declared.files.FilesOp.{FilesOp}
use Rattle.dc_outside.specs.declared.files.FilesOp.TheVariants.{Write, Sync, Rename, SyncNames, Remove}
use Rattle.dc_outside.specs.declared.files.FilesCall.{FilesCall}
use Rattle.dc_outside.specs.declared.files.FilesError.{FilesError}
use Rattle.dc_outside.specs.declared.files.FilesError.TheVariants.{Failed, OutOfMemory}

-- what is told of the calls, and then these
abbrev pub then_calls : Option (List FilesCall) → List FilesCall → Option (List FilesCall)
then_calls calls more = option_map (λ before. before ++ more) calls

-- after a read or a list of the path, which was answered or failed
abbrev pub after_look : FilesView → FilesOp → List ℕ → Bool → FilesView
after_look view op path ok = record view { calls = then_calls view.calls (record { op = op; path = path; ok = ok } ∷ []) }

-- what a read or a list adds to what is told, by its answer
abbrev pub AddsLook : {T : Type 0} → FilesOp → List ℕ → FilesView → FilesView → Result T FilesError → Type 0
AddsLook op path old new (Ok value) = new ≡ after_look old op path true
AddsLook op path old new (Err Failed) = new ≡ after_look old op path false
AddsLook op path old new (Err OutOfMemory) = new ≡ old

-- a read or a list, which gives what this finds on a disk that is told
pub record Looks {T : Type 0} (op : FilesOp) (path : List ℕ) (found : Disk → T) (old new : FilesState) (result : Result T FilesError) : Type 0 where
  pub value : IfOk result (λ value. IfSome old.view.disk (λ disk. value ≡ found disk))
  pub view : AddsLook op path old.view new.view result
  pub counts : Counted old.counts new.counts result

-- ---- calls that change the disk

-- A file is written to a path, what was written there is made to last, a file takes the place of another path, renames and
-- removals are made to last, or a path is taken away.
pub data Step : Type 0 where
  Writing : List ℕ → File → Step
  Syncing : List ℕ → Step
  Renaming : List ℕ → List ℕ → Step
  SyncingNames : Step
  Removing : List ℕ → Step

-- the call of a step, with its answer
abbrev pub call_of : Bool → Step → FilesCall
call_of ok (Writing path file) = record { op = Write; path = path; ok = ok }
call_of ok (Syncing path) = record { op = Sync; path = path; ok = ok }
call_of ok (Renaming from to) = record { op = Rename; path = to; ok = ok }
call_of ok SyncingNames = record { op = SyncNames; path = []; ok = ok }
call_of ok (Removing path) = record { op = Remove; path = path; ok = ok }

-- what stands after a step that is done
abbrev pub done : Step → DiskState → DiskState
done (Writing path file) current = open_at current path (Some file)
done (Syncing path) current = durable_at current path
done (Renaming from to) current = record (with_rename current from to) { files = renamed current.files from to }
done SyncingNames current = names_durable current
done (Removing path) current = record (with_removal current path) { files = map.remove current.files path }

-- what may stand after a step that failed, where it did something: at a write anything or nothing at its path, and a rename or a
-- removal was done or not, and a crash may leave either
abbrev pub HalfDone : Step → DiskState → DiskState → Type 0
HalfDone (Writing path file) old new = (left : Option File) × (new ≡ open_at old path left)
HalfDone (Syncing path) old new = ⊥
HalfDone (Renaming from to) old new = (new ≡ with_rename old from to) ⊎ (new ≡ done (Renaming from to) old)
HalfDone SyncingNames old new = ⊥
HalfDone (Removing path) old new = (new ≡ with_removal old path) ⊎ (new ≡ done (Removing path) old)

abbrev pub after_step : FilesView → Step → FilesView
after_step view step = record {
  disk = option_map (λ disk. then_stands disk (done step disk.current)) view.disk;
  calls = then_calls view.calls (call_of true step ∷ []);
}

-- what a step that failed leaves of the disk: nothing changed, or it was done by half
abbrev pub Leaves : Step → Option Disk → Option Disk → Type 0
Leaves step None new = new ≡ None
Leaves step (Some old) new = (new ≡ Some old) ⊎ ((half : DiskState) × HalfDone step old.current half × (new ≡ Some (then_stands old half)))

pub record FailsAt (step : Step) (old new : FilesView) : Type 0 where
  pub calls : new.calls ≡ then_calls old.calls (call_of false step ∷ [])
  pub disk : Leaves step old.disk new.disk

-- what a step adds to what is told, by its answer
abbrev pub AddsStep : {T : Type 0} → Step → FilesView → FilesView → Result T FilesError → Type 0
AddsStep step old new (Ok value) = new ≡ after_step old step
AddsStep step old new (Err Failed) = FailsAt step old new
AddsStep step old new (Err OutOfMemory) = new ≡ old

-- A call that makes a step. One that is refused for want of memory has done nothing.
pub record Takes {T : Type 0} (step : Step) (old new : FilesState) (result : Result T FilesError) : Type 0 where
  pub view : AddsStep step old.view new.view result
  pub counts : Counted old.counts new.counts result
