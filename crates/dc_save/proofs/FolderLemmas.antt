-- The load of a folder, from those of its files.
use Rattle.std.proofs.Common.{◌≡◌, ℕ, Bool, true, false, List, [], ◌∷◌, ◌++◌, map as each, Option, Some, Result, Ok, Err, Vec, Global, refl, sym, ap, ◌∙◌, subst, append_assoc, inl, inr}
use Rattle.std.specs.Prelude.{IfSome}
use Rattle.std.specs.FinMap as map
use Rattle.dc_outside.specs.Disk.{Disk, bytes_at}
use Rattle.dc_outside.specs.State.{FilesView}
use Rattle.dc_outside.specs.Counts.{Counts}
use Rattle.dc_outside.specs.Steps.{after_look}
use Rattle.dc_outside.specs.declared.files.FilesOp.TheVariants.{Read, List as ListOf}
use Rattle.dc_item.specs.Table.{table_of}
use Rattle.dc_item.specs.declared.entry.Entry.{Entry}
use Rattle.dc_conf.specs.declared.spec.LayerSpec.{LayerSpec}
use Rattle.dc_layer.specs.State.{Table, LayerState}
use Rattle.dc_save.specs.Found.{IsFoundAt, IsSameButTable}
use Rattle.dc_save.specs.FolderLoading.{Holds, HoldAll, IsListedAt, HasRead, HasFailedAt, FailsOn, LoadsFolder, LoadsFolderFiles, its_files, path_at, reads_of, after_reads}
use Rattle.dc_save.specs.FileTurns.{FileTurn, FileTurnTold, StopsAt, with_new}
use Rattle.dc_save.specs.Loading.{PassesOver}
use Rattle.dc_save.proofs.FileTurnLemmas.{reads_disk, reads_push, hold_push, table_push}
use Rattle.dc_save.specs.declared.loading.Loaded.{Loaded}
use Rattle.dc_save.specs.declared.loading.Loaded.TheVariants.{Here, LeftOut}
use Rattle.dc_save.specs.declared.loading.LoadError.{LoadError}
use Rattle.dc_save.specs.declared.loading.LoadError.TheVariants.{Failed, Damaged, OutOfMemory}

-- what was found, by other words for the path and for what it is
pub found_so : (disk : Option Disk) (path other : List ℕ) (found same : Option (List ℕ)) → path ≡ other → found ≡ same → IfSome disk (λ files. found ≡ bytes_at files path) → IsFoundAt disk other same
found_so disk path other found same e f at = subst (λ (p : List ℕ). IsFoundAt disk p same) e (subst (λ (o : Option (List ℕ)). IsFoundAt disk path o) f at)

-- ---- the keys of a set, as they are walked over

abbrev Key : Type 0
Key = List ℕ × Unit {0}

abbrev Kept : Type 0
Kept = Vec ℕ Global × Unit {0}

keys_seen : (es : List Kept) → each (λ (k : Key). k.0) (each (λ (e : Kept). (e.0.items, e.1)) es) ≡ each (λ (e : Kept). e.0.items) es
keys_seen [] = refl
keys_seen (e ∷ es) = ap (λ (l : List (List ℕ)). e.0.items ∷ l) (keys_seen es)

pub keys_shown : (es : List Kept) (ks : List Key) → each (λ (e : Kept). (e.0.items, e.1)) es ≡ ks → each (λ (e : Kept). e.0.items) es ≡ each (λ (k : Key). k.0) ks
keys_shown es ks e = sym (keys_seen es) ∙ ap (λ (l : List Key). each (λ (k : Key). k.0) l) e

pub nothing_yet : (layer : LayerState) → layer.table ≡ map.empty → layer ≡ record layer { table = table_of [] }
nothing_yet layer e = ap (λ (table : Table). record layer { table = table }) e

-- ---- one more file

module _ (spec : LayerSpec) (first_told told : FilesView) (done : List (List ℕ)) (file : List ℕ) (told_is : told ≡ reads_of first_told spec done) where
  disk_kept : told.disk ≡ first_told.disk
  disk_kept = ap (λ (t : FilesView). t.disk) told_is ∙ reads_disk first_told spec done

  pub turn_at : (first layer new : LayerState) (entries : List Entry) → layer ≡ record first { table = table_of entries } → (result : Result (Unit {0}) LoadError) → FileTurn told.disk spec file layer new result
      → FileTurn first_told.disk spec file (record first { table = table_of entries }) new result
  turn_at first layer new entries layer_is result turn =
      subst (λ (l : LayerState). FileTurn first_told.disk spec file l new result) layer_is (subst (λ (d : Option Disk). FileTurn d spec file layer new result) disk_kept turn)

  pub told_at : (told_new : FilesView) (result : Result (Unit {0}) LoadError) → FileTurnTold told told_new (path_at spec file) result → FileTurnTold (reads_of first_told spec done) told_new (path_at spec file) result
  told_at told_new result turn = subst (λ (t : FilesView). FileTurnTold t told_new (path_at spec file) result) told_is turn

  pub told_after : (told_new : FilesView) → told_new ≡ after_look told Read (path_at spec file) true → told_new ≡ reads_of first_told spec (done ++ file ∷ [])
  told_after told_new is = is ∙ ap (λ (t : FilesView). after_look t Read (path_at spec file) true) told_is ∙ sym (reads_push first_told spec done file)

  pub held_after : (entries more : List Entry) (found : Option (List ℕ)) → HoldAll first_told.disk spec done entries → IsFoundAt told.disk (path_at spec file) found → Holds spec file found more
      → HoldAll first_told.disk spec (done ++ file ∷ []) (entries ++ more)
  held_after entries more found hold at holds = hold_push first_told.disk spec done file entries more found hold (subst (λ (d : Option Disk). IsFoundAt d (path_at spec file) found) disk_kept at) holds

pub layer_after : (first layer new : LayerState) (entries more : List Entry) → layer ≡ record first { table = table_of entries } → new ≡ with_new layer more → new ≡ record first { table = table_of (entries ++ more) }
layer_after first layer new entries more layer_is is = is ∙ ap (λ (l : LayerState). with_new l more) layer_is ∙ ap (λ (t : Table). record first { table = t }) (table_push entries more)

pub next_file : (done : List (List ℕ)) (file : List ℕ) (value : Unit {0}) (key : Vec ℕ Global) (rest all : List Kept) (keys : List (List ℕ)) → file ≡ key.items → all ≡ (key, value) ∷ rest
    → done ++ each (λ (e : Kept). e.0.items) all ≡ keys → done ++ file ∷ each (λ (e : Kept). e.0.items) rest ≡ keys
next_file done file value key rest all keys is steps are =
    ap (λ (k : List ℕ). done ++ k ∷ each (λ (e : Kept). e.0.items) rest) is ∙ ap (λ (es : List Kept). done ++ each (λ (e : Kept). e.0.items) es) (sym steps) ∙ are

-- ---- after a file that wasn't answered

same_but : (layer new : LayerState) (table : Table) → new ≡ record layer { table = table } → IsSameButTable layer new
same_but layer new table is = is ∙ ap (λ (t : Table). record layer { table = t }) (sym (ap (λ (l : LayerState). l.table) is))

module _ (spec : LayerSpec) (listed its : List (List ℕ)) (layer new : LayerState) (old mid told_new : FilesView) (counts counts_new : Counts) (is : mid ≡ after_look old ListOf spec.place true) (at : IsListedAt old.disk spec.place listed) (are : its ≡ its_files spec listed) where
  reads_are : (files : List (List ℕ)) → reads_of mid spec files ≡ after_reads old spec files
  reads_are files = ap (λ (t : FilesView). reads_of t spec files) is

  disk_is : mid.disk ≡ old.disk
  disk_is = ap (λ (t : FilesView). t.disk) is

  pub failed_at : (path : List ℕ) (error : LoadError) → error ≡ Failed path → StopsAt spec its layer new mid told_new counts counts_new (Err error) → HasFailedAt spec path old told_new
  failed_at path error e given = let stops = subst (λ (x : LoadError). StopsAt spec its layer new mid told_new counts counts_new (Err x)) e given in record {
    listed = listed;
    listed_is = at;
    before = stops.before;
    file = stops.file;
    after = stops.after;
    whole = sym are ∙ stops.whole;
    path_is = stops.turn.0;
    told_is = stops.told_is ∙ (λ i. after_look (reads_are stops.before i) Read (sym stops.turn.0 i) false);
  }

  has_read : (before after : List (List ℕ)) (file : List ℕ) → its ≡ before ++ file ∷ after → told_new ≡ after_look (reads_of mid spec before) Read (path_at spec file) true → HasRead spec (before ++ file ∷ []) old told_new
  has_read before after file whole told_is = record {
    listed = listed;
    listed_is = at;
    after = after;
    whole = sym are ∙ whole ∙ sym (append_assoc before (file ∷ []) after);
    told_is = told_is ∙ sym (reads_push mid spec before file) ∙ reads_are (before ++ file ∷ []);
  }

  pub damaged_loads : (path : List ℕ) (line : ℕ) → StopsAt spec its layer new mid told_new counts counts_new (Err (Damaged path line)) → LoadsFolder old.disk spec layer new (Err (Damaged path line))
  damaged_loads path line stops = (
    record {
      listed = listed;
      listed_is = at;
      before = stops.before;
      file = stops.file;
      after = stops.after;
      whole = sym are ∙ stops.whole;
      entries = stops.entries;
      hold = subst (λ (d : Option Disk). HoldAll d spec stops.before stops.entries) disk_is stops.hold;
      path_is = stops.turn.0;
      text = stops.turn.1;
      text_is = subst (λ (d : Option Disk). IsFoundAt d path (Some stops.turn.1)) disk_is stops.turn.2;
      damaged = stops.turn.3;
    },
    same_but layer new (table_of stops.entries) stops.turn.4,
  )

  pub damaged_files : (path : List ℕ) (line : ℕ) (error : LoadError) → error ≡ Damaged path line → StopsAt spec its layer new mid told_new counts counts_new (Err error) → LoadsFolderFiles old told_new spec (Err (Damaged path line))
  damaged_files path line error e given = let stops = subst (λ (x : LoadError). StopsAt spec its layer new mid told_new counts counts_new (Err x)) e given in (stops.before, stops.file, stops.turn.0, has_read stops.before stops.after stops.file stops.whole stops.told_is)

  pub memory_loads : StopsAt spec its layer new mid told_new counts counts_new (Err OutOfMemory) → LoadsFolder old.disk spec layer new (Err OutOfMemory)
  memory_loads stops = stops.turn

  pub memory_files : (error : LoadError) → error ≡ OutOfMemory → StopsAt spec its layer new mid told_new counts counts_new (Err error) → LoadsFolderFiles old told_new spec (Err OutOfMemory)
  memory_files error e given = let stops = subst (λ (x : LoadError). StopsAt spec its layer new mid told_new counts counts_new (Err x)) e given in elim stops.told_is [
    | inl same ↦ inr (stops.before, record { listed = listed; listed_is = at; after = stops.file ∷ stops.after; whole = sym are ∙ stops.whole; told_is = same ∙ reads_are stops.before })
    | inr read ↦ inr (stops.before ++ stops.file ∷ [], has_read stops.before stops.after stops.file stops.whole read)
  ]

-- a folder of which a call failed
pub passes_files : (old new : FilesView) (spec : LayerSpec) (required : Bool) (path : List ℕ) (layer made : LayerState) (result : Result Loaded LoadError) → PassesOver required path layer made result → FailsOn spec path old new → LoadsFolderFiles old new spec result
passes_files old new spec required path layer made (Ok Here) over fails = absurd over
passes_files old new spec required path layer made (Ok LeftOut) over fails = (path, fails)
passes_files old new spec required path layer made (Err (Failed failed)) over fails = subst (λ (p : List ℕ). FailsOn spec p old new) (sym over.0) fails
passes_files old new spec required path layer made (Err (Damaged damaged line)) over fails = absurd over
passes_files old new spec required path layer made (Err OutOfMemory) over fails = absurd over

-- the layer that is left out, or stays as it was loaded so far
pub passes_loads : (disk : Option Disk) (spec : LayerSpec) (path : List ℕ) (layer now made : LayerState) (table : Table) (result : Result Loaded LoadError) → PassesOver spec.required path now made result → now ≡ record layer { table = table } → LoadsFolder disk spec layer made result
passes_loads disk spec path layer now made table (Ok Here) over is = absurd over
passes_loads disk spec path layer now made table (Ok LeftOut) over is = (over.0, over.1 ∙ ap (λ (l : LayerState). record l { table = map.empty; touched = []; left_out = true }) is)
passes_loads disk spec path layer now made table (Err (Failed failed)) over is = (over.1, same_but layer made table (over.2 ∙ is))
passes_loads disk spec path layer now made table (Err (Damaged damaged line)) over is = absurd over
passes_loads disk spec path layer now made table (Err OutOfMemory) over is = absurd over
