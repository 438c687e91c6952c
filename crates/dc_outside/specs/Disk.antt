-- What the files hold, what a crash may leave of them, and what it might have left before.
use Rattle.std.specs.Prelude.{◌≡◌, ◌⊎◌, ◌≤◌, ⊤, ℕ, Bool, true, false, List, [], ◌∷◌, ◌++◌, length, drop, Option, None, Some, unwrap_or, if◌then◌else◌, ◌==◌, refl}
use Rattle.std.specs.List.{filter_map}
use Rattle.std.specs.Coded.{Coded, code_by, coded×, coded_list, coded_ℕ, coded_option}
use Rattle.std.specs.Option.{option_map}
use Rattle.std.specs.FinMap as map
use Rattle.dc_text.specs.Maps.{Texts}

-- the bytes of a file, and its permission bits
pub record File : Type 0 where
  pub bytes : List ℕ
  pub mode : ℕ

-- what a crash may leave at a path: one of these entries, each a file or none, or anything
pub data CrashOutcome : Type 0 where
  OneOf : List (Option File) → CrashOutcome
  Anything : CrashOutcome

-- what stands at a moment: the files by their paths, and what a crash then may leave where it isn't just what stands there
pub record DiskState : Type 0 where
  pub files : Texts File
  pub pending : Texts CrashOutcome

-- what stands now, and what stood at each moment before, in order
pub record Disk : Type 0 where
  pub current : DiskState
  pub past : List DiskState

-- the file that stands at the path
abbrev pub file_at : Disk → List ℕ → Option File
file_at disk path = map.get disk.current.files path

-- what a read of the path gives
abbrev pub bytes_at : Disk → List ℕ → Option (List ℕ)
bytes_at disk path = option_map (λ file. file.bytes) (file_at disk path)

-- ---- crashes

-- what a crash may leave at the path
abbrev pub outcome_at : DiskState → List ℕ → CrashOutcome
outcome_at current path = unwrap_or (map.get current.pending path) (OneOf (map.get current.files path ∷ []))

-- this is one of them
abbrev pub Among : {X : Type 0} → List X → X → Type 0
Among [] x = ⊥
Among (one ∷ others) x = (x ≡ one) ⊎ Among others x

abbrev pub Allows : CrashOutcome → Option File → Type 0
Allows (OneOf entries) entry = Among entries entry
Allows Anything entry = ⊤

-- a crash then may leave this entry at the path
abbrev pub MayLeave : DiskState → List ℕ → Option File → Type 0
MayLeave current path entry = Allows (outcome_at current path) entry

-- what stands at each path is among what a crash may leave there
abbrev pub IsSound : DiskState → Type 0
IsSound current = (path : List ℕ) → MayLeave current path (map.get current.files path)

-- nothing is pending: a crash leaves at each path exactly what stands there
pub record IsDurable (current : DiskState) : Type 0 where
  pub sound : IsSound current
  pub alone : (path : List ℕ) (entry : Option File) → MayLeave current path entry → entry ≡ map.get current.files path

-- at one of these moments a crash would have left this entry at the path
abbrev pub HasLeft : List DiskState → List ℕ → Option File → Type 0
HasLeft [] path entry = ⊥
HasLeft (current ∷ past) path entry = MayLeave current path entry ⊎ HasLeft past path entry

-- the clock
abbrev pub moment : Disk → ℕ
moment disk = length disk.past

-- At some moment from that one on a crash would have left this entry at the path. Inside a call it leaves what it might have
-- left before the call, or what it may leave after it.
abbrev pub Left : Disk → ℕ → List ℕ → Option File → Type 0
Left disk since path entry = HasLeft (drop since disk.past) path entry ⊎ MayLeave disk.current path entry

-- a crash may leave what it might have left before, and at most this more
abbrev pub MayLeaveMore : (List ℕ → Option File → Type 0) → DiskState → DiskState → Type 0
MayLeaveMore more old new = (path : List ℕ) (entry : Option File) → MayLeave new path entry → MayLeave old path entry ⊎ more path entry

-- From each moment that isn't after the old disk's on, a crash would have left what it would have left by then, and at most
-- this more.
pub record HasLeftMore (more : List ℕ → Option File → Type 0) (old new : Disk) : Type 0 where
  pub later : moment old ≤ moment new
  pub at_most : (since : ℕ) (path : List ℕ) (entry : Option File) → since ≤ moment old → Left new since path entry → Left old since path entry ⊎ more path entry

-- ---- what changes

-- a call leaves this, and time goes on
abbrev pub then_stands : Disk → DiskState → Disk
then_stands disk current = record { current = current; past = disk.past ++ disk.current ∷ [] }

-- the files with this at the path, a file or none
abbrev pub with_entry : Texts File → List ℕ → Option File → Texts File
with_entry files path None = map.remove files path
with_entry files path (Some file) = map.insert files path file

-- `to` has what stood at `from`, where nothing stands now
abbrev pub renamed : Texts File → List ℕ → List ℕ → Texts File
renamed files from to = with_entry (map.remove files from) to (map.get files from)

-- either outcome
abbrev pub either : CrashOutcome → CrashOutcome → CrashOutcome
either (OneOf entries) (OneOf others) = OneOf (entries ++ others)
either (OneOf entries) Anything = Anything
either Anything other = Anything

-- a crash may leave what it might have left at the path, or this
abbrev pub with_outcome : DiskState → List ℕ → CrashOutcome → DiskState
with_outcome current path outcome = record current { pending = map.insert current.pending path (either (outcome_at current path) outcome) }

-- the path was written, and nothing is known of it after a crash
abbrev pub open_at : DiskState → List ℕ → Option File → DiskState
open_at current path entry = record { files = with_entry current.files path entry; pending = map.insert current.pending path Anything }

-- a crash leaves what stands at the path
abbrev pub durable_at : DiskState → List ℕ → DiskState
durable_at current path = record current { pending = map.remove current.pending path }

abbrev pub is_anything : Option CrashOutcome → Bool
is_anything (Some Anything) = true
is_anything (Some (OneOf entries)) = false
is_anything None = false

-- what a crash may leave where the file at the path is put: that file, or anything where it isn't synced
abbrev pub moved_outcome : DiskState → List ℕ → CrashOutcome
moved_outcome current path = if is_anything (map.get current.pending path) then Anything else OneOf (map.get current.files path ∷ [])

-- a crash may leave at `to` the file at `from` too, and at `from` none too
abbrev pub with_rename : DiskState → List ℕ → List ℕ → DiskState
with_rename current from to = with_outcome (with_outcome current to (moved_outcome current from)) from (OneOf (None ∷ []))

-- a crash may leave none at the path too
abbrev pub with_removal : DiskState → List ℕ → DiskState
with_removal current path = with_outcome current path (OneOf (None ∷ []))

-- a crash leaves what stands at each path where it doesn't leave anything
abbrev pub names_durable : DiskState → DiskState
names_durable current = record current { pending = map.retain_keys current.pending (λ path. is_anything (map.get current.pending path)) }

-- ---- codes

-- a file is stored as the pair of its bytes and its mode
abbrev pub file_code : Coded File
file_code = code_by (List ℕ × ℕ) (coded× (coded_list coded_ℕ) coded_ℕ) (λ f. (f.bytes, f.mode)) (λ p. record { bytes = p.0; mode = p.1 }) (λ _. refl)

abbrev pub entries_in : CrashOutcome → Option (List (Option File))
entries_in (OneOf entries) = Some entries
entries_in Anything = None

abbrev pub outcome_of : Option (List (Option File)) → CrashOutcome
outcome_of (Some entries) = OneOf entries
outcome_of None = Anything

pub outcome_back : (outcome : CrashOutcome) → outcome_of (entries_in outcome) ≡ outcome
outcome_back (OneOf entries) = refl
outcome_back Anything = refl

-- an outcome is stored as its entries, or none
abbrev pub outcome_code : Coded CrashOutcome
outcome_code = code_by (Option (List (Option File))) (coded_option (coded_list (coded_option file_code))) entries_in outcome_of outcome_back

abbrev pub standing_code : Coded DiskState
standing_code = code_by (Texts File × Texts CrashOutcome) (coded× (map.code (coded_list coded_ℕ) file_code) (map.code (coded_list coded_ℕ) outcome_code)) (λ s. (s.files, s.pending)) (λ p. record { files = p.0; pending = p.1 }) (λ _. refl)

abbrev pub disk_code : Coded Disk
disk_code = code_by (DiskState × List DiskState) (coded× standing_code (coded_list standing_code)) (λ d. (d.current, d.past)) (λ p. record { current = p.0; past = p.1 }) (λ _. refl)

-- ---- folders

abbrev pub slash : ℕ
slash = 47

-- what follows this front in the text
abbrev pub after_front : List ℕ → List ℕ → Option (List ℕ)
after_front [] text = Some text
after_front (byte ∷ front) [] = None
after_front (byte ∷ front) (other ∷ text) = if byte == other then after_front front text else None

-- the paths of all files at any depth below the folder, without its own and the slash, in byte order
abbrev pub paths_below : Disk → List ℕ → List (List ℕ)
paths_below disk folder = filter_map (after_front (folder ++ slash ∷ [])) (map.keys disk.current.files)
