use Rattle.std.proofs.Common.{◌≡◌, drop}
use Rattle.std.specs.List.{list_any}
use Rattle.std.specs.FinMap as map
use Rattle.dc_item.proofs.item.Item.has_any.Given as goal

abbrev pub invariant-loop-name : goal.invariant-loop-name
invariant-loop-name l = list_any (map.contains_key l.self.owners) l.names ≡ list_any (map.contains_key l.self.owners) (drop l.name-index l.names)
