use Rattle.std.proofs.Common.{◌≡◌}
use Rattle.std.specs.FinMap as map
use Rattle.dc_item.specs.Owners.{owners_left}
use Rattle.dc_tools.specs.Listing.{with_all}
use Rattle.dc_tools.proofs.listing.add_owners.Given as goal

-- what is still to come makes the set that is wanted
abbrev pub invariant-loop-owner : goal.invariant-loop-owner
invariant-loop-owner l = with_all l.owners (owners_left l.owner-iterator) ≡ with_all l.fn.owners (map.keys l.item.owners)
