use Rattle.std.proofs.Common.{◌≡◌, List, [], ℕ, map as each, length}
use Rattle.std.specs.List.{Contains}
use Rattle.dc_store.specs.Plans.{stored}
use Rattle.dc_store.specs.StoreLaws.{AreSameButAll}
use Rattle.dc_tools.specs.Copying.{after_names, so_far}
use Rattle.dc_tools.proofs.copying.CopyTask.copy_all.Given as goal

-- what is left and reported from here on is what was to be left and reported
abbrev pub invariant-loop-rest : goal.invariant-loop-rest
invariant-loop-rest g l =
    let now = each (λ b. (goal.Layer-dyn g (b.vtable, b.value)).state b.value) l.store.layers.items in
    let start = each (λ b. (goal.Layer-dyn g (b.vtable, b.value)).state b.value) l.fn.store.layers.items in
    record {
      left : after_names l.self (so_far (stored now l.store.told) l.report) l.rest
          ≡ after_names l.self (so_far (stored start l.fn.store.told) l.fn.report) l.names;
      untold : l.store.told ≡ [];
      among : (name : List ℕ) → Contains l.rest name → Contains l.names name;
      others : AreSameButAll l.names start now;
      count : length l.store.layers.items ≡ length l.fn.store.layers.items;
    }

abbrev pub decreases-loop-rest : goal.decreases-loop-rest
decreases-loop-rest g l = length l.rest
