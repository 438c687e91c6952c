-- Steps of a save, one after another.
use Rattle.std.specs.Prelude.{◌≡◌, ◌⊎◌, List, [], ◌∷◌, Result, Ok, Err}
use Rattle.dc_outside.specs.Disk.{DiskState}
use Rattle.dc_outside.specs.State.{FilesView}
use Rattle.dc_outside.specs.Steps.{Step, done, after_step, FailsAt}
use Rattle.dc_outside.specs.declared.files.FilesError.{FilesError}
use Rattle.dc_outside.specs.declared.files.FilesError.TheVariants.{Failed, OutOfMemory}

-- what stands after steps that are done
abbrev pub all_done : List Step → DiskState → DiskState
all_done [] current = current
all_done (step ∷ steps) current = all_done steps (done step current)

abbrev pub after_steps : FilesView → List Step → FilesView
after_steps told [] = told
after_steps told (step ∷ steps) = after_steps (after_step told step) steps

-- one of the steps failed, and those before it were done
abbrev pub FailsIn : List Step → FilesView → FilesView → Type 0
FailsIn [] old new = ⊥
FailsIn (step ∷ steps) old new = FailsAt step old new ⊎ FailsIn steps (after_step old step) new

-- some first steps were done, and not all
abbrev pub StopsIn : List Step → FilesView → FilesView → Type 0
StopsIn [] old new = ⊥
StopsIn (step ∷ steps) old new = (new ≡ old) ⊎ StopsIn steps (after_step old step) new

-- what doing the steps does, by its answer
abbrev pub Does : List Step → FilesView → FilesView → Result (Unit {0}) FilesError → Type 0
Does steps old new (Ok value) = new ≡ after_steps old steps
Does steps old new (Err Failed) = FailsIn steps old new
Does steps old new (Err OutOfMemory) = StopsIn steps old new
