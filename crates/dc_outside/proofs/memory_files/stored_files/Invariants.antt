use Rattle.std.proofs.Common.{◌≡◌, take}
use Rattle.dc_outside.specs.Memory.{files_from}
use Rattle.dc_outside.proofs.memory_files.stored_files.Given as goal

abbrev pub invariant-loop-path : goal.invariant-loop-path
invariant-loop-path l = l.files ≡ files_from (take l.path-index l.entries)
