use Rattle.std.proofs.Common.{◌≡◌, ◌≤◌, ◌+◌, ◌-◌, ◌++◌}
use Rattle.dc_teletype.specs.Keys.{numerals, numerals_from}
use Rattle.dc_teletype.proofs.keys.numerals.Given as goal

abbrev pub invariant-loop-last : goal.invariant-loop-last
invariant-loop-last l = record {
  within : l.last ≤ l.count;
  numerals : l.numerals ++ numerals_from (l.last + 1) (l.count - l.last) ≡ numerals l.count;
}

abbrev pub decreases-loop-last : goal.decreases-loop-last
decreases-loop-last l = l.count - l.last
