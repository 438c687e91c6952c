use Rattle.std.proofs.Common.{◌≡◌}
use Rattle.dc_text.specs.Bytes.{is_nil}
use Rattle.dc_item.specs.After.{left_of}
use Rattle.dc_item.specs.Owners.{owners_left}
use Rattle.dc_item.proofs.owners.are_all_named.Given as goal

abbrev pub invariant-loop-owner : goal.invariant-loop-owner
invariant-loop-owner l = is_nil (left_of (owners_left l.owners) l.names) ≡ is_nil (left_of (owners_left l.owner-iterator) l.names)
