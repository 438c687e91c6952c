-- Loading a layer in a folder (debconf.conf(5), DirTree and PackageDir): which files there are its own, and what each must hold.
use Rattle.std.specs.Prelude.{◌≡◌, ◌⊎◌, ℕ, ◌-◌, Bool, true, false, not, ◌&&◌, nat_eq, List, [], ◌∷◌, ◌++◌, length, take, find, filter, Option, Some, None, Result, Ok, Err, IfSome, ◌==◌, if◌then◌else◌}
use Rattle.std.specs.List.{list_any, ends_with}
use Rattle.std.specs.Option.{option_map_or}
use Rattle.std.specs.Str.{bytes_eq}
use Rattle.std.specs.FinMap as map
use Rattle.dc_text.specs.Ascii.{slash}
use Rattle.dc_text.specs.Bytes.{is_nil}
use Rattle.dc_text.specs.Maps.{set_of}
use Rattle.dc_text.specs.Names.{is_name}
use Rattle.dc_outside.specs.Disk.{Disk, paths_below}
use Rattle.dc_outside.specs.State.{FilesView}
use Rattle.dc_outside.specs.Counts.{Counts, FaultRose, RefusalRose}
use Rattle.dc_outside.specs.Steps.{after_look}
use Rattle.dc_outside.specs.declared.files.FilesOp.TheVariants.{Read, List as ListOf}
use Rattle.dc_item.specs.Records.{Reads, IsBad}
use Rattle.dc_item.specs.Table.{table_of}
use Rattle.dc_item.specs.declared.entry.Entry.{Entry}
use Rattle.dc_conf.specs.declared.spec.LayerSort.{LayerSort}
use Rattle.dc_conf.specs.declared.spec.LayerSort.TheVariants.{File, Tree, Pack, Pipe}
use Rattle.dc_conf.specs.declared.spec.LayerSpec.{LayerSpec}
use Rattle.dc_layer.specs.Folders.{prefix, fits_tree}
use Rattle.dc_layer.specs.State.{LayerState, without_items}
use Rattle.dc_save.specs.Found.{IsFoundAt, IsSameButTable}
use Rattle.dc_save.specs.declared.loading.Loaded.{Loaded}
use Rattle.dc_save.specs.declared.loading.Loaded.TheVariants.{Here, LeftOut}
use Rattle.dc_save.specs.declared.loading.LoadError.{LoadError}
use Rattle.dc_save.specs.declared.loading.LoadError.TheVariants.{Failed, Damaged, OutOfMemory}

-- ---- its files

-- a file may be called so before its extension: in a tree by the name of an item that has a place there, in a pack by a prefix of names
abbrev pub is_front : LayerSort → List ℕ → List ℕ → Bool
is_front File extension front = false
is_front Tree extension front = is_name front && fits_tree extension front
is_front Pack extension front = is_name front && not (list_any (λ byte. byte == slash) front)
is_front Pipe extension front = false

-- what stands before the extension
abbrev pub front_of : LayerSpec → List ℕ → List ℕ
front_of spec file = take (length file - length spec.extension) file

-- the path in the folder is that of a file of the database
abbrev pub is_its_file : LayerSpec → List ℕ → Bool
is_its_file spec file = ends_with nat_eq file spec.extension && is_front spec.sort spec.extension (front_of spec file)

-- its files among those that are listed, in byte order. Others are passed over
abbrev pub its_files : LayerSpec → List (List ℕ) → List (List ℕ)
its_files spec listed = map.keys (set_of (filter (is_its_file spec) listed))

-- the path of a file in the folder
abbrev pub path_at : LayerSpec → List ℕ → List ℕ
path_at spec file = spec.place ++ slash ∷ file

-- ---- what a file must hold

-- the record is one for the file that is called so
abbrev pub belongs : LayerSort → List ℕ → Entry → Bool
belongs File front entry = true
belongs Tree front entry = bytes_eq entry.name front
belongs Pack front entry = bytes_eq (prefix entry.name) front
belongs Pipe front entry = true

-- a file in a tree holds a record
abbrev pub lacks_one : LayerSort → List Entry → Bool
lacks_one File entries = false
lacks_one Tree entries = is_nil entries
lacks_one Pack entries = false
lacks_one Pipe entries = false

-- The line at which the records of a file aren't those that it is for: that of the first other one, and else line 1 where it lacks
-- its own.
abbrev pub misfit : LayerSort → List ℕ → List Entry → Option ℕ
misfit sort front entries =
    option_map_or (λ entry. Some entry.line) (find (λ entry. not (belongs sort front entry)) entries) (if lacks_one sort entries then Some 1 else None)

-- what was found of the file has a reading, and these are its records, each of which belongs there. A file that went is none
abbrev pub Holds : LayerSpec → List ℕ → Option (List ℕ) → List Entry → Type 0
Holds spec file None entries = entries ≡ []
Holds spec file (Some text) entries = Reads text entries × (misfit spec.sort (front_of spec file) entries ≡ None)

-- the text of the file is damaged at this line: it has no reading from there on, or its records aren't those that it is for
abbrev pub IsDamagedIn : LayerSpec → List ℕ → List ℕ → ℕ → Type 0
IsDamagedIn spec file text line = IsBad text line ⊎ ((entries : List Entry) × Reads text entries × (misfit spec.sort (front_of spec file) entries ≡ Some line))

-- ---- all of them

-- what was listed below the folder, where the disk is told
abbrev pub IsListedAt : Option Disk → List ℕ → List (List ℕ) → Type 0
IsListedAt disk folder listed = IfSome disk (λ files. listed ≡ paths_below files folder)

-- the records of these files, one file after another
abbrev pub HoldAll : Option Disk → LayerSpec → List (List ℕ) → List Entry → Type 0
HoldAll disk spec [] entries = entries ≡ []
HoldAll disk spec (file ∷ files) entries =
    (found : Option (List ℕ)) × (first : List Entry) × (rest : List Entry)
    × IsFoundAt disk (path_at spec file) found × Holds spec file found first × HoldAll disk spec files rest × (entries ≡ first ++ rest)

-- the layer has the table of the records of its files
pub record IsFolderHere (disk : Option Disk) (spec : LayerSpec) (layer new : LayerState) : Type 0 where
  pub listed : List (List ℕ)
  pub listed_is : IsListedAt disk spec.place listed
  pub entries : List Entry
  pub hold : HoldAll disk spec (its_files spec listed) entries
  pub layer_is : new ≡ record layer { table = table_of entries }

-- one of its files is damaged at this line, and none before it
pub record IsFolderDamaged (disk : Option Disk) (spec : LayerSpec) (path : List ℕ) (line : ℕ) : Type 0 where
  pub listed : List (List ℕ)
  pub listed_is : IsListedAt disk spec.place listed
  pub before : List (List ℕ)
  pub file : List ℕ
  pub after : List (List ℕ)
  pub whole : its_files spec listed ≡ before ++ file ∷ after
  pub entries : List Entry
  pub hold : HoldAll disk spec before entries
  pub path_is : path ≡ path_at spec file
  pub text : List ℕ
  pub text_is : IsFoundAt disk path (Some text)
  pub damaged : IsDamagedIn spec file text line

-- what loading does to the layer, by its answer
abbrev pub LoadsFolder : Option Disk → LayerSpec → LayerState → LayerState → Result Loaded LoadError → Type 0
LoadsFolder disk spec layer new (Ok Here) = IsFolderHere disk spec layer new
LoadsFolder disk spec layer new (Ok LeftOut) = (spec.required ≡ false) × (new ≡ without_items layer)
LoadsFolder disk spec layer new (Err (Failed path)) = (spec.required ≡ true) × IsSameButTable layer new
LoadsFolder disk spec layer new (Err (Damaged path line)) = IsFolderDamaged disk spec path line × IsSameButTable layer new
LoadsFolder disk spec layer new (Err OutOfMemory) = IsSameButTable layer new

-- ---- the calls

-- after reads of these files, all answered
abbrev pub reads_of : FilesView → LayerSpec → List (List ℕ) → FilesView
reads_of told spec [] = told
reads_of told spec (file ∷ files) = reads_of (after_look told Read (path_at spec file) true) spec files

-- after the list of the folder, too
abbrev pub after_reads : FilesView → LayerSpec → List (List ℕ) → FilesView
after_reads told spec files = reads_of (after_look told ListOf spec.place true) spec files

-- the list was answered, and reads of these files after it, which are the first of its files
pub record HasRead (spec : LayerSpec) (before : List (List ℕ)) (old new : FilesView) : Type 0 where
  pub listed : List (List ℕ)
  pub listed_is : IsListedAt old.disk spec.place listed
  pub after : List (List ℕ)
  pub whole : its_files spec listed ≡ before ++ after
  pub told_is : new ≡ after_reads old spec before

-- the read of one of its files failed, after the list and the reads of those before it
pub record HasFailedAt (spec : LayerSpec) (path : List ℕ) (old new : FilesView) : Type 0 where
  pub listed : List (List ℕ)
  pub listed_is : IsListedAt old.disk spec.place listed
  pub before : List (List ℕ)
  pub file : List ℕ
  pub after : List (List ℕ)
  pub whole : its_files spec listed ≡ before ++ file ∷ after
  pub path_is : path ≡ path_at spec file
  pub told_is : new ≡ after_look (after_reads old spec before) Read path false

-- the call on this path failed: the list of the folder, or the read of one of its files
abbrev pub FailsOn : LayerSpec → List ℕ → FilesView → FilesView → Type 0
FailsOn spec path old new = ((path ≡ spec.place) × (new ≡ after_look old ListOf path false)) ⊎ HasFailedAt spec path old new

-- what loading does to the files, by its answer
abbrev pub LoadsFolderFiles : FilesView → FilesView → LayerSpec → Result Loaded LoadError → Type 0
LoadsFolderFiles old new spec (Ok Here) = (listed : List (List ℕ)) × IsListedAt old.disk spec.place listed × (new ≡ after_reads old spec (its_files spec listed))
LoadsFolderFiles old new spec (Ok LeftOut) = (path : List ℕ) × FailsOn spec path old new
LoadsFolderFiles old new spec (Err (Failed path)) = FailsOn spec path old new
LoadsFolderFiles old new spec (Err (Damaged path line)) = (before : List (List ℕ)) × (file : List ℕ) × (path ≡ path_at spec file) × HasRead spec (before ++ file ∷ []) old new
LoadsFolderFiles old new spec (Err OutOfMemory) = (new ≡ old) ⊎ ((before : List (List ℕ)) × HasRead spec before old new)

-- how they count it: a fault where a call failed, and at want of memory a refusal, or none where it was the program's own
abbrev pub FolderCounts : Result Loaded LoadError → Counts → Counts → Type 0
FolderCounts (Ok Here) before now = now ≡ before
FolderCounts (Ok LeftOut) before now = FaultRose before now
FolderCounts (Err (Failed path)) before now = FaultRose before now
FolderCounts (Err (Damaged path line)) before now = now ≡ before
FolderCounts (Err OutOfMemory) before now = (now ≡ before) ⊎ RefusalRose before now
