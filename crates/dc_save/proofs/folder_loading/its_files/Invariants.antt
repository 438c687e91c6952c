use Rattle.std.proofs.Common.{◌≡◌, ◌++◌, ℕ, List, length}
use Rattle.std.specs.Prelude.{filter}
use Rattle.dc_text.specs.Maps.{set_of}
use Rattle.dc_save.specs.FolderLoading.{is_its_file}
use Rattle.dc_save.proofs.folder_loading.its_files.Given as goal

abbrev pub invariant-loop-file : goal.invariant-loop-file
invariant-loop-file l = (done : List (List ℕ)) × (l.fn.listed ≡ l.left ++ done) × (l.its ≡ set_of (filter (is_its_file l.fn.spec) done))

abbrev pub decreases-loop-file : goal.decreases-loop-file
decreases-loop-file l = length l.left
