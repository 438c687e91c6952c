-- What a read found, and what it may change of a layer.
use Rattle.std.specs.Prelude.{◌≡◌, ℕ, List, Option, IfSome}
use Rattle.dc_outside.specs.Disk.{Disk, bytes_at}
use Rattle.dc_layer.specs.State.{LayerState}

-- what a read of the path found, where the disk is told
abbrev pub IsFoundAt : Option Disk → List ℕ → Option (List ℕ) → Type 0
IsFoundAt disk path found = IfSome disk (λ files. found ≡ bytes_at files path)

-- at most the table changed
abbrev pub IsSameButTable : LayerState → LayerState → Type 0
IsSameButTable layer new = new ≡ record layer { table = new.table }
