use Rattle.std.proofs.Common.{◌≡◌, ◌-◌, ◌≤◌, [], length}
use Rattle.std.proofs.Common.{map as each}
use Rattle.dc_conf.specs.declared.spec.LayerSort.TheVariants.{File as OneFile, Tree, Pack, Pipe}
use Rattle.dc_shelf.specs.Shelves.{AreBlank}
use Rattle.dc_tests.proofs.running_tests.blank_shelf.Given as goal

abbrev pub invariant-loop-alloc : goal.invariant-loop-alloc
invariant-loop-alloc g l = record {
  files : AreBlank OneFile (each (λ b. (goal.Layer-dyn g (b.vtable, b.value)).state b.value) l.shelf.files.items);
  trees : AreBlank Tree (each (λ b. (goal.Layer-dyn g (b.vtable, b.value)).state b.value) l.shelf.trees.items);
  packs : AreBlank Pack (each (λ b. (goal.Layer-dyn g (b.vtable, b.value)).state b.value) l.shelf.packs.items);
  pipes : AreBlank Pipe (each (λ b. (goal.Layer-dyn g (b.vtable, b.value)).state b.value) l.shelf.pipes.items);
  some_pipes : 1 ≤ length l.shelf.pipes.items;
  count : length l.shelf.files.items ≤ 16;
  as_many_trees : length l.shelf.trees.items ≡ length l.shelf.files.items;
  as_many_packs : length l.shelf.packs.items ≡ length l.shelf.files.items;
  used : l.shelf.used.items ≡ [];
}

abbrev pub decreases-loop-alloc : goal.decreases-loop-alloc
decreases-loop-alloc g l = 16 - length l.shelf.files.items
