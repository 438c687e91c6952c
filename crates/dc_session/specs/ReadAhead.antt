-- What came from the user and isn't used yet.
use Rattle.std.specs.Prelude.{ℕ, [], Bool}
use Rattle.dc_teletype.specs.TerminalLines.{TypeAhead}

-- what came from the user and isn't used yet, and how many lines of a wire came in this run
pub record ReadAhead : Type 0 where
  pub typed : TypeAhead
  pub got : ℕ

-- nothing came from the user that wasn't used
abbrev pub nothing_typed : ReadAhead
nothing_typed = record { typed = record { held = []; has_ended = Bool.false }; got = 0 }
