-- The locks that a program holds.
use Rattle.std.specs.Prelude.{◌≡◌, ◌⊎◌, ℕ, List, Bool, ◌&&◌, ◌||◌, ◌==◌, Option, Some, IfSome, nat_eq}
use Rattle.std.specs.List.{list_any, starts_with, Contains}
use Rattle.std.specs.FinMap as map
use Rattle.dc_host.specs.declared.guard.Written.{Written}
use Rattle.dc_host.specs.declared.locks.Lock.{Lock}
use Rattle.dc_host.specs.declared.locks.Locks.{Locks}
use Rattle.dc_host.specs.declared.system.FileId.{FileId}

-- it is the lock of this file
abbrev pub is_of : {H : Type 0} → FileId → Lock H → Bool
is_of id lock = lock.id.device == id.device && lock.id.number == id.number

-- the lock of the file is held
abbrev pub holds : {H : Type 0} → Locks H → FileId → Bool
holds locks id = list_any (is_of id) locks.read || list_any (is_of id) (map.values locks.placed)

-- the lock is held: of what was read, or of a file that the program put at some path
abbrev pub IsHeld : {H : Type 0} → Locks H → Lock H → Type 0
IsHeld locks lock = Contains locks.read lock ⊎ ((path : List ℕ) × (map.get locks.placed path ≡ Some lock))

-- no lock is let go
unfoldable pub KeepsLocks : {H : Type 0} → Locks H → Locks H → Type 0
KeepsLocks {H} before now = (lock : Lock H) → IsHeld before lock → IsHeld now lock

-- no lock is let go but that of the file that the program had put at the path
unfoldable pub KeepsLocksBut : {H : Type 0} → List ℕ → Locks H → Locks H → Type 0
KeepsLocksBut {H} path before now = (lock : Lock H) → IsHeld before lock → IsHeld now lock ⊎ (map.get before.placed path ≡ Some lock)

-- what was written last is the file of this lock, at the path
abbrev pub as_written : {H : Type 0} → List ℕ → Lock H → Option (Written H)
as_written path lock = Some (record { path = path; lock = lock })

-- the lock of what was written is held still: as of what was written last, or for the path
abbrev pub StaysLocked : {H : Type 0} → List ℕ → Option (Written H) → Option (Written H) → Locks H → Type 0
StaysLocked path before now locks = (now ≡ before) ⊎ IfSome before (λ written. map.get locks.placed path ≡ Some written.lock)

-- the path lies below one of the folders, which end with a slash
abbrev pub is_below : List (List ℕ) → List ℕ → Bool
is_below folders path = list_any (λ folder. starts_with nat_eq path folder) folders
