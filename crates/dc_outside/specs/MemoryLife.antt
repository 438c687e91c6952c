-- What is kept of a program in memory.
use Rattle.std.specs.Prelude.{ℕ, List, Some}
use Rattle.dc_outside.specs.Programs.{Life, Unstarted, Running, Ended}
use Rattle.dc_outside.specs.declared.link.Piece.{Piece}
use Rattle.dc_outside.specs.declared.memory_child.Stage.{Stage}
use Rattle.dc_outside.specs.declared.memory_child.Stage.TheVariants.{Ready, Started, Over}

-- its life, if it ends with that status, and when it had ended this was said
abbrev pub life_in : Stage → ℕ → List Piece → Life
life_in Ready status said = Unstarted
life_in (Started words) status said = Running (Some words)
life_in (Over words) status said = Ended (Some words) status (Some said)
