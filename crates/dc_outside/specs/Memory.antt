-- What a link, a program and files in memory are seen as.
use Rattle.std.specs.Prelude.{◌≡◌, ℕ, ◌+◌, ◌-◌, ◌^◌, min, max, Bool, true, false, List, [], ◌∷◌, ◌++◌, ◌||◌, length, nat_eq, nat_le, ⊤, reverse, map as each, Option, Some, Result, Ok, Err}
use Rattle.std.specs.List.{list_any}
use Rattle.std.specs.Option.{option_map_or}
use Rattle.std.specs.FinMap as map
use Rattle.dc_outside.specs.declared.link.Piece.{Piece}
use Rattle.dc_outside.specs.declared.link.Piece.TheVariants.{Sent, Cut, Lost}
use Rattle.dc_outside.specs.declared.link.LinkError.{LinkError}
use Rattle.dc_outside.specs.declared.link.LinkError.TheVariants.{Failed, OutOfMemory}
use Rattle.dc_outside.specs.declared.files.FilesOp.{FilesOp}
use Rattle.dc_outside.specs.declared.files.FilesCall.{FilesCall}
use Rattle.dc_outside.specs.declared.files.FilesError.{FilesError}
use Rattle.dc_outside.specs.declared.files.FilesError.TheVariants.{Failed as FilesFailed, OutOfMemory as FilesRefused}
use Rattle.dc_text.specs.Maps.{Texts}
use Rattle.dc_outside.specs.Disk.{Disk, File, then_stands}
use Rattle.dc_outside.specs.Counts.{Counts}
use Rattle.dc_outside.specs.Programs.{Program, no_program}
use Rattle.dc_outside.specs.State.{LinkState, FilesState}
use Rattle.dc_outside.specs.Steps.{Step, done, call_of}
use Rattle.dc_outside.specs.Talk.{come_pieces}

-- a link in memory
pub record MemLinkState : Type 0 where
  pub talk : List Piece
  pub input : List ℕ
  -- how many bytes the reads to come give at most
  pub cuts : List ℕ
  -- the numbers of the calls that fail, and that of the next call
  pub failing : List ℕ
  pub number : ℕ
  pub counts : Counts

-- what it tells
abbrev pub link_of : MemLinkState → LinkState
link_of link = record { talk = Some link.talk; input = Some link.input; counts = link.counts; program = no_program }

-- a program in memory
pub record MemChildState : Type 0 where
  pub link : MemLinkState
  pub program : Program
  -- what the program ends with
  pub status : ℕ

abbrev pub child_link_of : MemChildState → LinkState
child_link_of child = record (link_of child.link) { program = child.program }

-- whether the number is among these
abbrev pub is_among : List ℕ → ℕ → Bool
is_among numbers number = list_any (λ other. nat_eq other number) numbers

-- a call fails exactly where it's one that is to fail
abbrev pub FailsWhere : {T : Type 0} → Bool → Result T LinkError → Type 0
FailsWhere fails (Ok value) = fails ≡ false
FailsWhere fails (Err Failed) = fails ≡ true
FailsWhere fails (Err OutOfMemory) = ⊤

-- the most that a read gives to a buffer with that room
abbrev pub next_cut : List ℕ → ℕ → ℕ
next_cut [] room = room
next_cut (cut ∷ cuts) room = min (max cut 1) room

-- a call that is refused for want of memory has no number
abbrev pub TakesNumber : {T : Type 0} → ℕ → ℕ → Result T LinkError → Type 0
TakesNumber before now (Ok value) = now ≡ min (before + 1) (2 ^ 64 - 1)
TakesNumber before now (Err Failed) = now ≡ min (before + 1) (2 ^ 64 - 1)
TakesNumber before now (Err OutOfMemory) = now ≡ before

-- what a read in memory adds to the talk
abbrev pub read_pieces : Result ℕ LinkError → List ℕ → List Piece
read_pieces (Ok count) buf = come_pieces count buf
read_pieces (Err Failed) buf = Lost ∷ []
read_pieces (Err OutOfMemory) buf = []

-- no byte comes only where none is left
abbrev pub EndsAtNone : Result ℕ LinkError → List ℕ → Type 0
EndsAtNone (Ok count) left = count ≡ 0 → left ≡ []
EndsAtNone (Err error) left = ⊤

-- what a write in memory adds to the talk: nothing is sent where it fails
abbrev pub write_pieces : {T : Type 0} → Result T LinkError → List ℕ → List Piece
write_pieces (Ok done) bytes = Sent bytes ∷ []
write_pieces (Err Failed) bytes = Cut [] ∷ []
write_pieces (Err OutOfMemory) bytes = []

-- files in memory
pub record MemFilesState : Type 0 where
  pub disk : Disk
  -- the numbers of the calls that fail, and the number from which on each does. A call's number is its place in `calls`
  pub failing : List ℕ
  pub stopped : Option ℕ
  pub calls : List FilesCall
  pub counts : Counts

-- what they tell
abbrev pub files_of : MemFilesState → FilesState
files_of files = record { view = record { disk = Some files.disk; calls = Some files.calls }; counts = files.counts }

-- after a step that was done
abbrev pub after_call : MemFilesState → Step → MemFilesState
after_call files step = record files {
  disk = then_stands files.disk (done step files.disk.current);
  calls = files.calls ++ call_of true step ∷ [];
}

-- whether the next call is one that is to fail
abbrev pub fails_next : MemFilesState → Bool
fails_next files = option_map_or (λ first. nat_le first (length files.calls)) files.stopped false || is_among files.failing (length files.calls)

abbrev pub FilesFailsWhere : {T : Type 0} → Bool → Result T FilesError → Type 0
FilesFailsWhere fails (Ok value) = fails ≡ false
FilesFailsWhere fails (Err FilesFailed) = fails ≡ true
FilesFailsWhere fails (Err FilesRefused) = ⊤

-- a call that is refused for want of memory isn't kept
abbrev pub IsLogged : {T : Type 0} → FilesOp → List ℕ → List FilesCall → List FilesCall → Result T FilesError → Type 0
IsLogged op path old new (Ok value) = new ≡ old ++ record { op = op; path = path; ok = true } ∷ []
IsLogged op path old new (Err FilesFailed) = new ≡ old ++ record { op = op; path = path; ok = false } ∷ []
IsLogged op path old new (Err FilesRefused) = new ≡ old

-- the mode of the files that are there from the start, 644
abbrev pub plain_mode : ℕ
plain_mode = 420

-- the files of a list of paths and bytes, where a later entry of a path takes the place of an earlier one
abbrev pub files_from : List (List ℕ × List ℕ) → Texts File
files_from entries = map.from_entries (reverse (each (λ entry. (entry.0, record { bytes = entry.1; mode = plain_mode })) entries))

-- these files, of which no call was made yet
abbrev pub fresh : Texts File → List ℕ → Option ℕ → MemFilesState
fresh files failing stopped = record {
  disk = record { current = record { files = files; pending = map.empty }; past = [] };
  failing = failing;
  stopped = stopped;
  calls = [];
  counts = record { faults = 0; refusals = 0 };
}
