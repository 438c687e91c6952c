use Rattle.std.proofs.Common.{◌≡◌, length}
use Rattle.dc_parts.specs.Entries.{entries_left}
use Rattle.dc_item.specs.Owners.{owners_left}
use Rattle.dc_item.proofs.owners.OwnersIterator.next.Given as goal

abbrev pub invariant-loop-key : goal.invariant-loop-key
invariant-loop-key l = owners_left l.self ≡ owners_left l.fn.self

abbrev pub decreases-loop-key : goal.decreases-loop-key
decreases-loop-key l = length (entries_left l.self.entries)
