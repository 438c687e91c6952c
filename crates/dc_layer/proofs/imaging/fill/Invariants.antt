use Rattle.std.proofs.Common.{◌≡◌, drop, map as each}
use Rattle.std.specs.FinMap as map
use Rattle.dc_layer.specs.PrefixTexts.{with_records}
use Rattle.dc_layer.proofs.imaging.fill.Given as goal

abbrev pub invariant-loop-name : goal.invariant-loop-name
invariant-loop-name l = each (with_records (each (λ e. (e.0.now, e.1.now)) (drop l.name-index l.name-items))) l.texts.entries ≡ each (with_records (map.entries l.table.items)) l.initial.texts.entries
