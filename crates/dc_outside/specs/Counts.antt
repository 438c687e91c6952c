-- Counts that rise at each fault and at each refusal for want of memory.
use Rattle.std.specs.Prelude.{◌≡◌, ℕ, ◌+◌, ◌-◌, ◌^◌, ◌≤◌, min, Result, Ok, Err}
use Rattle.dc_outside.specs.declared.link.LinkError.{LinkError}
use Rattle.dc_outside.specs.declared.link.LinkError.TheVariants.{Failed, OutOfMemory}
use Rattle.dc_outside.specs.declared.files.FilesError.{FilesError}
use Rattle.dc_outside.specs.declared.files.FilesError.TheVariants.{Failed as FilesFailed, OutOfMemory as FilesRefused}

-- how often a call failed, and how often one was refused for want of memory
pub record Counts : Type 0 where
  pub faults : ℕ
  pub refusals : ℕ

-- a count rose, or stands at its last value
pub record Rose (before now : ℕ) : Type 0 where
  pub later : before ≤ now
  pub rose : min (before + 1) (2 ^ 64 - 1) ≤ now

pub record FaultRose (before now : Counts) : Type 0 where
  pub faults : Rose before.faults now.faults
  pub refusals : now.refusals ≡ before.refusals

pub record RefusalRose (before now : Counts) : Type 0 where
  pub faults : now.faults ≡ before.faults
  pub refusals : Rose before.refusals now.refusals

-- a call on files that failed raises the count of faults alone, and one that is refused for want of memory that of refusals
abbrev pub Counted : {T : Type 0} → Counts → Counts → Result T FilesError → Type 0
Counted before now (Ok value) = now ≡ before
Counted before now (Err FilesFailed) = FaultRose before now
Counted before now (Err FilesRefused) = RefusalRose before now

-- the same of a call on a link
abbrev pub LinkCounted : {T : Type 0} → Counts → Counts → Result T LinkError → Type 0
LinkCounted before now (Ok value) = now ≡ before
LinkCounted before now (Err Failed) = FaultRose before now
LinkCounted before now (Err OutOfMemory) = RefusalRose before now
