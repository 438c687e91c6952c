use Rattle.std.proofs.Common.{◌≡◌}
use Rattle.std.specs.FinMap as map
use Rattle.std.specs.List.{list_any}
use Rattle.dc_item.specs.Owners.{owners_left}
use Rattle.dc_tools.specs.Copying.{finds}
use Rattle.dc_tools.proofs.copying.has_owner_with.Given as goal

-- it is found in none of those before
abbrev pub invariant-loop-owner : goal.invariant-loop-owner
invariant-loop-owner l = list_any (finds l.pattern) (owners_left l.owner-iterator) ≡ list_any (finds l.pattern) (map.keys l.item.owners)
