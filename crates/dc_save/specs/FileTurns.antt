-- One file of a folder after another. The proofs alone speak of it: what loading a folder does is said by `LoadsFolder` of
-- FolderLoading.
use Rattle.std.specs.Prelude.{◌≡◌, ◌⊎◌, ℕ, List, ◌∷◌, ◌++◌, map as each, Option, Some, true, false, Result, Ok, Err}
use Rattle.std.specs.FinMap as map
use Rattle.dc_outside.specs.Disk.{Disk}
use Rattle.dc_outside.specs.State.{FilesView}
use Rattle.dc_outside.specs.Counts.{Counts, FaultRose, RefusalRose}
use Rattle.dc_outside.specs.Steps.{after_look}
use Rattle.dc_outside.specs.declared.files.FilesOp.TheVariants.{Read}
use Rattle.dc_item.specs.Table.{contents, table_of}
use Rattle.dc_item.specs.declared.entry.Entry.{Entry}
use Rattle.dc_conf.specs.declared.spec.LayerSpec.{LayerSpec}
use Rattle.dc_layer.specs.State.{Table, LayerState}
use Rattle.dc_save.specs.Found.{IsFoundAt, IsSameButTable}
use Rattle.dc_save.specs.FolderLoading.{Holds, HoldAll, IsDamagedIn, path_at, reads_of}
use Rattle.dc_save.specs.declared.loading.LoadError.{LoadError}
use Rattle.dc_save.specs.declared.loading.LoadError.TheVariants.{Failed, Damaged, OutOfMemory}

-- the table with those records whose names it doesn't have
abbrev pub table_with : Table → List Entry → Table
table_with table entries = map.from_entries (map.entries table ++ each contents entries)

abbrev pub with_new : LayerState → List Entry → LayerState
with_new layer entries = record layer { table = table_with layer.table entries }

-- what taking in the text of a file does to the layer, by its answer
abbrev pub TakesText : LayerSpec → List ℕ → List ℕ → List ℕ → LayerState → LayerState → Result (Unit {0}) LoadError → Type 0
TakesText spec file text path layer new (Ok value) = (entries : List Entry) × Holds spec file (Some text) entries × (new ≡ with_new layer entries)
TakesText spec file text path layer new (Err (Failed failed)) = ⊥
TakesText spec file text path layer new (Err (Damaged damaged line)) = (damaged ≡ path) × IsDamagedIn spec file text line × (new ≡ layer)
TakesText spec file text path layer new (Err OutOfMemory) = IsSameButTable layer new

-- what the load of one file does to the layer, by its answer
abbrev pub FileTurn : Option Disk → LayerSpec → List ℕ → LayerState → LayerState → Result (Unit {0}) LoadError → Type 0
FileTurn disk spec file layer new (Ok value) =
    (found : Option (List ℕ)) × (entries : List Entry) × IsFoundAt disk (path_at spec file) found × Holds spec file found entries × (new ≡ with_new layer entries)
FileTurn disk spec file layer new (Err (Failed path)) = (path ≡ path_at spec file) × (new ≡ layer)
FileTurn disk spec file layer new (Err (Damaged path line)) =
    (path ≡ path_at spec file) × (text : List ℕ) × IsFoundAt disk path (Some text) × IsDamagedIn spec file text line × (new ≡ layer)
FileTurn disk spec file layer new (Err OutOfMemory) = IsSameButTable layer new

-- what it does to the files
abbrev pub FileTurnTold : FilesView → FilesView → List ℕ → Result (Unit {0}) LoadError → Type 0
FileTurnTold old new path (Ok value) = new ≡ after_look old Read path true
FileTurnTold old new path (Err (Failed failed)) = new ≡ after_look old Read path false
FileTurnTold old new path (Err (Damaged damaged line)) = new ≡ after_look old Read path true
FileTurnTold old new path (Err OutOfMemory) = (new ≡ old) ⊎ (new ≡ after_look old Read path true)

abbrev pub FileTurnCounts : Result (Unit {0}) LoadError → Counts → Counts → Type 0
FileTurnCounts (Ok value) before now = now ≡ before
FileTurnCounts (Err (Failed failed)) before now = FaultRose before now
FileTurnCounts (Err (Damaged damaged line)) before now = now ≡ before
FileTurnCounts (Err OutOfMemory) before now = (now ≡ before) ⊎ RefusalRose before now

-- the first of these files were loaded, and then one wasn't
pub record StopsAt (spec : LayerSpec) (files : List (List ℕ)) (layer new : LayerState) (told told_new : FilesView) (counts counts_new : Counts) (result : Result (Unit {0}) LoadError) : Type 0 where
  pub before : List (List ℕ)
  pub file : List ℕ
  pub after : List (List ℕ)
  pub whole : files ≡ before ++ file ∷ after
  pub entries : List Entry
  pub hold : HoldAll told.disk spec before entries
  pub turn : FileTurn told.disk spec file (record layer { table = table_of entries }) new result
  pub told_is : FileTurnTold (reads_of told spec before) told_new (path_at spec file) result
  pub counted : FileTurnCounts result counts counts_new

-- what loading these files does, by its answer
abbrev pub FileTurns : LayerSpec → List (List ℕ) → LayerState → LayerState → FilesView → FilesView → Counts → Counts → Result (Unit {0}) LoadError → Type 0
FileTurns spec files layer new told told_new counts counts_new (Ok value) =
    (entries : List Entry) × HoldAll told.disk spec files entries × (new ≡ record layer { table = table_of entries }) × (told_new ≡ reads_of told spec files) × (counts_new ≡ counts)
FileTurns spec files layer new told told_new counts counts_new (Err error) = StopsAt spec files layer new told told_new counts counts_new (Err error)
