-- What is told of a link, and of files: one record each.
use Rattle.std.specs.Prelude.{ℕ, List, Option}
use Rattle.dc_outside.specs.Counts.{Counts}
use Rattle.dc_outside.specs.Disk.{Disk}
use Rattle.dc_outside.specs.Programs.{Program}
use Rattle.dc_outside.specs.declared.files.FilesCall.{FilesCall}
use Rattle.dc_outside.specs.declared.link.Piece.{Piece}

-- the talk and the input that is left, each where it is told, how the calls were counted, and the program behind the link
pub record LinkState : Type 0 where
  pub talk : Option (List Piece)
  pub input : Option (List ℕ)
  pub counts : Counts
  pub program : Program

-- the disk, and all calls that were answered `Ok` or `Failed`, in order, each where it is told
pub record FilesView : Type 0 where
  pub disk : Option Disk
  pub calls : Option (List FilesCall)

-- what the files tell, and how their calls were counted
pub record FilesState : Type 0 where
  pub view : FilesView
  pub counts : Counts
