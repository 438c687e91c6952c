-- What the host's streams are given, where a writer tells what it holds.
use Rattle.std.specs.Prelude.{◌≡◌, ℕ, List, [], ◌++◌, Option, None, Result, Ok, Err}
use Rattle.std.specs.Io.KnownBytes.{Appends}
use Rattle.dc_outside.specs.Programs.{no_program}
use Rattle.dc_outside.specs.State.{LinkState}

-- a front of the bytes was written, and this is the rest
pub record IsWritten (old new : Option (List ℕ)) (bytes rest : List ℕ) : Type 0 where
  pub front : List ℕ
  pub whole : bytes ≡ front ++ rest
  pub written : Appends old new front

-- all the bytes were written, or, after a failure, a front of them
abbrev pub WritesAll : {E : Type 0} → Option (List ℕ) → Option (List ℕ) → Result (Unit {0}) E → List ℕ → Type 0
WritesAll old new (Ok done) bytes = IsWritten old new bytes []
WritesAll old new (Err error) bytes = (rest : List ℕ) × IsWritten old new bytes rest

-- a link that tells no talk and no input, has no program, and failed so often; it finds no want of memory
abbrev pub host_link : ℕ → LinkState
host_link faults = record {
  talk = None;
  input = None;
  counts = record { faults = faults; refusals = 0 };
  program = no_program;
}
