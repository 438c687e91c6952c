use Rattle.std.proofs.Common.{◌≡◌, length, ◌+◌, ◌≤◌}
use Rattle.dc_text.specs.Lines.{lines_of}
use Rattle.dc_conf.specs.Stanzas.{numbered}
use Rattle.dc_conf.specs.Machine.{at_start, run}
use Rattle.dc_conf.proofs.reading.read_stanzas.Given as goal

abbrev pub invariant-loop-rest : goal.invariant-loop-rest
invariant-loop-rest l = record {
  taken : run (numbered (l.number + 1) (lines_of l.rest)) l.gathered ≡ run (numbered 1 (lines_of l.text)) at_start;
  counted : l.number + length l.rest ≤ length l.text;
}

abbrev pub decreases-loop-rest : goal.decreases-loop-rest
decreases-loop-rest l = length l.rest
