use Rattle.std.proofs.Common.{◌≡◌, take}
use Rattle.dc_text.specs.Maps.{set_of}
use Rattle.dc_item.proofs.item_builder.ItemBuilder.put_owners.Given as goal

abbrev pub invariant-loop-owner : goal.invariant-loop-owner
invariant-loop-owner l = l.self ≡ record l.fn.self { owners = set_of (take l.owner-index l.all) }
