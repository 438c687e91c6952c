use Rattle.std.proofs.Common.{◌≡◌, ◌+◌, length}
use Rattle.dc_parts.specs.Packed.{entries_in, IsPacked}
use Rattle.dc_parts.proofs.places.count_of.Given as goal

abbrev pub invariant-loop-rest : goal.invariant-loop-rest
invariant-loop-rest l = record {
  is_packed : IsPacked l.rest;
  so_far : l.count + length (entries_in l.rest) ≡ length (entries_in l.bytes);
}

abbrev pub decreases-loop-rest : goal.decreases-loop-rest
decreases-loop-rest l = length l.rest
