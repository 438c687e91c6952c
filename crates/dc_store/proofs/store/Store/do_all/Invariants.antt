use Rattle.std.proofs.Common.{◌≡◌, false, List, ℕ, map as each, length}
use Rattle.std.specs.List.{list_any, Contains}
use Rattle.std.specs.Vec.Iter.{into_iter_items, into_iter_len}
use Rattle.dc_store.specs.Targets.{AreTargets}
use Rattle.dc_store.specs.Plans.{stored}
use Rattle.dc_store.specs.Batches.{AreOver, AllDistinct, is_refused, all_done, names_of}
use Rattle.dc_store.specs.StoreLaws.{AreSameButAll}
use Rattle.dc_store.proofs.store.Store.do_all.Given as goal

abbrev pub invariant-loop-write : goal.invariant-loop-write
invariant-loop-write g l =
    let now = each (λ b. (goal.Layer-dyn g (b.vtable, b.value)).state b.value) l.self.layers.items in
    let start = each (λ b. (goal.Layer-dyn g (b.vtable, b.value)).state b.value) l.fn.self.layers.items in
    record {
      over : AreOver (into_iter_items l.writes) (length l.self.layers.items);
      distinct : AllDistinct (into_iter_items l.writes);
      left : all_done (stored now l.self.told) (into_iter_items l.writes) ≡ all_done (stored start l.fn.self.told) l.fn.batch.items;
      taken : list_any (is_refused now) (into_iter_items l.writes) ≡ false;
      targets : AreTargets now (into_iter_items l.writes) l.rest;
      among : (name : List ℕ) → Contains (names_of (into_iter_items l.writes)) name → Contains (names_of l.fn.batch.items) name;
      others : AreSameButAll (names_of l.fn.batch.items) start now;
      count : length l.self.layers.items ≡ length l.fn.self.layers.items;
    }

abbrev pub decreases-loop-write : goal.decreases-loop-write
decreases-loop-write g l = into_iter_len l.writes
