use Rattle.std.proofs.Common.{◌≡◌, take}
use Rattle.dc_text.specs.Maps.{set_of}
use Rattle.dc_item.proofs.item_builder.ItemBuilder.put_flags.Given as goal

abbrev pub invariant-loop-flag : goal.invariant-loop-flag
invariant-loop-flag l = l.self ≡ record l.fn.self { flags = set_of (take l.flag-index l.all) }
