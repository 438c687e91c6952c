-- What a crash leaves of files in memory, by the pick.
use Rattle.std.specs.Prelude.{◌≡◌, ℕ, List, [], ◌∷◌, Option, None, Some, unwrap_or}
use Rattle.dc_outside.specs.Disk.{File, CrashOutcome, OneOf, Anything, DiskState, Disk, Allows, MayLeave, file_at, outcome_at}
use Rattle.dc_outside.specs.declared.crashing.Pick.{Pick}
use Rattle.dc_outside.specs.declared.crashing.Pick.TheVariants.{Oldest, Newest, Junk}

-- the last of them
abbrev pub last_of : {X : Type 0} → X → List X → X
last_of one [] = one
last_of one (next ∷ more) = last_of next more

-- the first entry that a crash may leave, where not anything is possible
abbrev pub oldest_of : CrashOutcome → Option (Option File)
oldest_of (OneOf []) = None
oldest_of (OneOf (entry ∷ entries)) = Some entry
oldest_of Anything = None

-- the last one
abbrev pub newest_of : CrashOutcome → Option (Option File)
newest_of (OneOf []) = None
newest_of (OneOf (entry ∷ entries)) = Some (last_of entry entries)
newest_of Anything = None

-- the entry may be left, and where there is none anything may
abbrev pub IsOneOf : CrashOutcome → Option (Option File) → Type 0
IsOneOf outcome (Some entry) = Allows outcome entry
IsOneOf outcome None = outcome ≡ Anything

abbrev pub listed_by : Pick → CrashOutcome → Option (Option File)
listed_by Oldest outcome = oldest_of outcome
listed_by Newest outcome = newest_of outcome
listed_by Junk outcome = oldest_of outcome

-- the first entry that was possible at the path at the last of these moments at which not anything was, and else this one
abbrev pub entry_before : List ℕ → Option File → List DiskState → Option File
entry_before path last [] = last
entry_before path last (current ∷ later) = entry_before path (unwrap_or (oldest_of (outcome_at current path)) last) later

-- the empty text with mode 600
abbrev pub junk : File
junk = record { bytes = []; mode = 384 }

-- where anything may be left at the path: the entry from before it was written, what was written, or junk
abbrev pub unlisted_by : Pick → Disk → List ℕ → Option File
unlisted_by Oldest disk path = entry_before path None disk.past
unlisted_by Newest disk path = file_at disk path
unlisted_by Junk disk path = Some junk

-- the entry that a crash with this pick leaves at the path
abbrev pub left_by : Pick → Disk → List ℕ → Option File
left_by pick disk path = unwrap_or (listed_by pick (outcome_at disk.current path)) (unlisted_by pick disk path)

-- a crash with this pick leaves this at the path, and may leave it
pub record IsLeftBy (pick : Pick) (disk : Disk) (path : List ℕ) (entry : Option File) : Type 0 where
  pub picked : entry ≡ left_by pick disk path
  pub may : MayLeave disk.current path entry
