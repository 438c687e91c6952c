use Rattle.std.proofs.Common.{◌≡◌, ◌+◌, length}
use Rattle.dc_parts.specs.Packed.{length_at, behind_length}
use Rattle.dc_parts.proofs.places.split_length.Given as goal

abbrev pub invariant-loop-byte : goal.invariant-loop-byte
invariant-loop-byte l = record {
  so_far : l.length + length_at l.rest ≡ length_at l.bytes;
  left : behind_length l.rest ≡ behind_length l.bytes;
}

abbrev pub decreases-loop-byte : goal.decreases-loop-byte
decreases-loop-byte l = length l.rest
