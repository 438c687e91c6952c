use Rattle.std.proofs.Common.{◌≡◌, take}
use Rattle.std.specs.FinMap as map
use Rattle.dc_text.specs.Maps.{set_of}
use Rattle.dc_item.specs.Item.{selves}
use Rattle.dc_item.proofs.owners.by_name.Given as goal

abbrev pub invariant-loop-name : goal.invariant-loop-name
invariant-loop-name l = map.entries l.held ≡ selves (map.keys (set_of (take l.name-index l.names)))
