use Rattle.std.proofs.Common.{◌≡◌, ◌∷◌, length}
use Rattle.dc_parts.specs.Packed.{entries_in, IsPacked, from, behind, value_at}
use Rattle.dc_parts.proofs.places.place_of.Given as goal

abbrev pub invariant-loop-key : goal.invariant-loop-key
invariant-loop-key l = record {
  is_packed : IsPacked l.rest;
  same_from : from (l.key.mark ∷ l.key.key.now) (entries_in l.rest) ≡ from (l.key.mark ∷ l.key.key.now) (entries_in l.bytes);
  same_behind : behind (l.key.mark ∷ l.key.key.now) (entries_in l.rest) ≡ behind (l.key.mark ∷ l.key.key.now) (entries_in l.bytes);
  same_value : value_at (l.key.mark ∷ l.key.key.now) (entries_in l.rest) ≡ value_at (l.key.mark ∷ l.key.key.now) (entries_in l.bytes);
}

abbrev pub decreases-loop-key : goal.decreases-loop-key
decreases-loop-key l = length l.rest
