use Rattle.std.proofs.Common.{◌≡◌, ◌++◌, ℕ, List, map as each}
use Rattle.std.specs.FinMap as map
use Rattle.dc_item.specs.Table.{table_of}
use Rattle.dc_item.specs.declared.entry.Entry.{Entry}
use Rattle.dc_outside.specs.State.{FilesView}
use Rattle.dc_layer.specs.State.{LayerState}
use Rattle.dc_save.specs.FolderLoading.{HoldAll, reads_of}
use Rattle.dc_save.proofs.folder_loading.load_files.Given as goal

abbrev pub invariant-loop-file : goal.invariant-loop-file
invariant-loop-file g l =
    let layer : LayerState = (goal.Layer-dyn g (l.layer.vtable, l.layer.value)).state l.layer.value in
    let first : LayerState = (goal.Layer-dyn g (l.initial.layer.vtable, l.initial.layer.value)).state l.initial.layer.value in
    let told : FilesView = (g.F.Files.files l.initial.files).view in
    (done : List (List ℕ)) × (entries : List Entry) × record {
      files : done ++ each (λ e. e.0.items) l.file-iterator ≡ map.keys l.its;
      hold : HoldAll told.disk l.spec done entries;
      layer_is : layer ≡ record first { table = table_of entries };
      told_is : (g.F.Files.files l.files).view ≡ reads_of told l.spec done;
      counts_are : (g.F.Files.files l.files).counts ≡ (g.F.Files.files l.initial.files).counts;
    }
