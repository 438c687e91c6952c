use Rattle.std.proofs.Common.{◌≡◌, length, List, ℕ}
use Rattle.dc_item.specs.After.{without}
use Rattle.dc_item.specs.Item.{ItemParts}
use Rattle.dc_item.proofs.item.Item.drop_owners.Given as goal

abbrev pub dropped : ItemParts → List (List ℕ) → ItemParts
dropped item names = record item { owners = without item.owners names }

abbrev pub invariant-loop-last : goal.invariant-loop-last
invariant-loop-last l = dropped l.self l.rest ≡ dropped l.fn.self l.fn.names

abbrev pub decreases-loop-last : goal.decreases-loop-last
decreases-loop-last l = length l.rest
