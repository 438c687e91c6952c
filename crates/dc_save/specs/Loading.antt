-- Loading a layer: one in one file from its text, and one in a folder from its files.
use Rattle.std.specs.Prelude.{◌≡◌, ◌⊎◌, ℕ, Bool, true, false, List, [], Option, None, Some, Result, Ok, Err, IfSome, unwrap_or, if◌then◌else◌}
use Rattle.dc_outside.specs.Counts.{Counts, FaultRose, RefusalRose}
use Rattle.dc_outside.specs.Disk.{Disk, bytes_at}
use Rattle.dc_item.specs.Records.{Reads, IsBad}
use Rattle.dc_item.specs.Table.{table_of}
use Rattle.dc_item.specs.declared.entry.Entry.{Entry}
use Rattle.dc_conf.specs.declared.spec.LayerSort.{LayerSort}
use Rattle.dc_conf.specs.declared.spec.LayerSort.TheVariants.{File, Tree, Pack, Pipe}
use Rattle.dc_conf.specs.declared.spec.LayerSpec.{LayerSpec}
use Rattle.dc_layer.specs.State.{Table, LayerState, without_items}
use Rattle.dc_save.specs.declared.loading.Loaded.{Loaded}
use Rattle.dc_save.specs.declared.loading.Loaded.TheVariants.{Here, LeftOut}
use Rattle.dc_save.specs.declared.loading.LoadError.{LoadError}
use Rattle.dc_save.specs.declared.loading.LoadError.TheVariants.{Failed, Damaged, OutOfMemory}
use Rattle.dc_save.specs.Found.{IsFoundAt, IsSameButTable}
use Rattle.dc_save.specs.FolderLoading.{LoadsFolder, LoadsFolderFiles, FolderCounts}
use Rattle.dc_outside.specs.State.{FilesView}
use Rattle.dc_outside.specs.Steps.{after_look}
use Rattle.dc_outside.specs.declared.files.FilesOp.TheVariants.{Read}

-- a file that isn't there is the empty text
abbrev pub text_in : Option (List ℕ) → List ℕ
text_in found = unwrap_or found []

-- the text at the path, where the disk is told
abbrev pub IsTextAt : Option Disk → List ℕ → List ℕ → Type 0
IsTextAt disk path text = IfSome disk (λ files. text ≡ text_in (bytes_at files path))

-- the text at the path has a reading, and the table is that of its records
pub record HasLoaded (disk : Option Disk) (path : List ℕ) (table : Table) : Type 0 where
  pub text : List ℕ
  pub text_is : IsTextAt disk path text
  pub records : List Entry
  pub reads : Reads text records
  pub table_is : table ≡ table_of records

-- the text at the path has no reading, and this is its first bad line
pub record IsDamaged (disk : Option Disk) (path : List ℕ) (line : ℕ) : Type 0 where
  pub text : List ℕ
  pub text_is : IsTextAt disk path text
  pub bad : IsBad text line

-- ---- a layer

-- the layer with this table, which keeps the text that was found where its spec asks for that
abbrev pub with_loaded : LayerSpec → LayerState → Table → Option (List ℕ) → LayerState
with_loaded spec layer table None = record layer { table = table }
with_loaded spec layer table (Some text) = record layer { table = table; old = if spec.backup then Some text else layer.old }

-- the text that was found at the layer's place has a reading, and the layer has the table of its records
pub record IsHere (disk : Option Disk) (spec : LayerSpec) (layer new : LayerState) : Type 0 where
  pub found : Option (List ℕ)
  pub found_is : IsFoundAt disk spec.place found
  pub records : List Entry
  pub reads : Reads (text_in found) records
  pub layer_is : new ≡ with_loaded spec layer (table_of records) found

-- what loading from one file does to the layer, by its answer
abbrev pub LoadsFile : Option Disk → LayerSpec → LayerState → LayerState → Result Loaded LoadError → Type 0
LoadsFile disk spec layer new (Ok Here) = IsHere disk spec layer new
LoadsFile disk spec layer new (Ok LeftOut) = (spec.required ≡ false) × (new ≡ without_items layer)
LoadsFile disk spec layer new (Err (Failed path)) = (path ≡ spec.place) × (spec.required ≡ true) × (new ≡ layer)
LoadsFile disk spec layer new (Err (Damaged path line)) = (path ≡ spec.place) × IsDamaged disk spec.place line × (new ≡ layer)
LoadsFile disk spec layer new (Err OutOfMemory) = IsSameButTable layer new

-- what it does to the files: one read, which was answered or failed, or for want of memory none
abbrev pub LoadsOneFile : FilesView → FilesView → List ℕ → Result Loaded LoadError → Type 0
LoadsOneFile old new path (Ok Here) = new ≡ after_look old Read path true
LoadsOneFile old new path (Ok LeftOut) = new ≡ after_look old Read path false
LoadsOneFile old new path (Err (Failed failed)) = new ≡ after_look old Read path false
LoadsOneFile old new path (Err (Damaged damaged line)) = new ≡ after_look old Read path true
LoadsOneFile old new path (Err OutOfMemory) = (new ≡ old) ⊎ (new ≡ after_look old Read path true)

-- how they count it: a fault where the read failed, and at want of memory a refusal, or none where it was the program's own
abbrev pub FileCounts : FilesView → FilesView → Result Loaded LoadError → Counts → Counts → Type 0
FileCounts old new (Ok Here) before now = now ≡ before
FileCounts old new (Ok LeftOut) before now = FaultRose before now
FileCounts old new (Err (Failed path)) before now = FaultRose before now
FileCounts old new (Err (Damaged path line)) before now = now ≡ before
FileCounts old new (Err OutOfMemory) before now = (now ≡ before) ⊎ RefusalRose before now × (new ≡ old)

-- ---- by how it is kept, where it is kept in files

-- what loading does to the layer, by its answer
abbrev pub LoadsBy : LayerSort → Option Disk → LayerSpec → LayerState → LayerState → Result Loaded LoadError → Type 0
LoadsBy File disk spec layer new result = LoadsFile disk spec layer new result
LoadsBy Tree disk spec layer new result = LoadsFolder disk spec layer new result
LoadsBy Pack disk spec layer new result = LoadsFolder disk spec layer new result
LoadsBy Pipe disk spec layer new result = ⊥

abbrev pub LoadsLayer : Option Disk → LayerSpec → LayerState → LayerState → Result Loaded LoadError → Type 0
LoadsLayer disk spec layer new result = LoadsBy spec.sort disk spec layer new result

-- what it does to the files
abbrev pub LoadsFilesBy : LayerSort → FilesView → FilesView → LayerSpec → Result Loaded LoadError → Type 0
LoadsFilesBy File old new spec result = LoadsOneFile old new spec.place result
LoadsFilesBy Tree old new spec result = LoadsFolderFiles old new spec result
LoadsFilesBy Pack old new spec result = LoadsFolderFiles old new spec result
LoadsFilesBy Pipe old new spec result = ⊥

abbrev pub LoadsFiles : FilesView → FilesView → LayerSpec → Result Loaded LoadError → Type 0
LoadsFiles old new spec result = LoadsFilesBy spec.sort old new spec result

-- how they count it
abbrev pub LoadCountsBy : LayerSort → FilesView → FilesView → Result Loaded LoadError → Counts → Counts → Type 0
LoadCountsBy File old new result before now = FileCounts old new result before now
LoadCountsBy Tree old new result before now = FolderCounts result before now
LoadCountsBy Pack old new result before now = FolderCounts result before now
LoadCountsBy Pipe old new result before now = ⊥

abbrev pub LoadCounts : LayerSpec → FilesView → FilesView → Result Loaded LoadError → Counts → Counts → Type 0
LoadCounts spec old new result before now = LoadCountsBy spec.sort old new result before now

-- ---- the machinery of the proofs

-- what taking in the text that was found answers, and does to the layer
abbrev pub Takes : LayerSpec → Option (List ℕ) → List ℕ → LayerState → LayerState → Result Loaded LoadError → Type 0
Takes spec found path layer new (Ok Here) = (records : List Entry) × Reads (text_in found) records × (new ≡ with_loaded spec layer (table_of records) found)
Takes spec found path layer new (Ok LeftOut) = ⊥
Takes spec found path layer new (Err (Failed failed)) = ⊥
Takes spec found path layer new (Err (Damaged damaged line)) = (damaged ≡ path) × IsBad (text_in found) line × (new ≡ layer)
Takes spec found path layer new (Err OutOfMemory) = IsSameButTable layer new

-- what a failed read answers, and does to the layer: it is left out where it isn't required
abbrev pub PassesOver : Bool → List ℕ → LayerState → LayerState → Result Loaded LoadError → Type 0
PassesOver required path layer new (Ok Here) = ⊥
PassesOver required path layer new (Ok LeftOut) = (required ≡ false) × (new ≡ without_items layer)
PassesOver required path layer new (Err (Failed failed)) = (failed ≡ path) × (required ≡ true) × (new ≡ layer)
PassesOver required path layer new (Err (Damaged damaged line)) = ⊥
PassesOver required path layer new (Err OutOfMemory) = ⊥
