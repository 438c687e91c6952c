use Rattle.std.proofs.Common.{◌≡◌, length, ◌+◌, ◌*◌, ◌^◌, ◌≤◌, true}
use Rattle.std.specs.List.{list_all}
use Rattle.dc_conf.specs.Values.{octal, octal_from, is_octal_digit}
use Rattle.dc_conf.proofs.values.octal.Given as goal

abbrev pub invariant-loop-rest : goal.invariant-loop-rest
invariant-loop-rest l = record {
  spelled : octal_from l.number l.rest ≡ octal l.value;
  digits : list_all is_octal_digit l.rest ≡ true;
  room : (l.number + 1) * 8 ^ length l.rest ≤ 4096;
}

abbrev pub decreases-loop-rest : goal.decreases-loop-rest
decreases-loop-rest l = length l.rest
