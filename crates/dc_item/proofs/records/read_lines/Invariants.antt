use Rattle.std.proofs.Common.{◌≡◌, ◌+◌, ◌≤◌, length, map}
use Rattle.std.specs.List.{enumerate_from}
use Rattle.dc_text.specs.Faults.{run}
use Rattle.dc_text.specs.Lines.{lines_of}
use Rattle.dc_item.specs.Grammar.{line_said}
use Rattle.dc_item.specs.Reader.{line_step, read_all, IsReading}
use Rattle.dc_item.proofs.PlainLines.{PlainFront}
use Rattle.dc_item.proofs.records.read_lines.Given as goal

abbrev pub invariant-loop-rest : goal.invariant-loop-rest
invariant-loop-rest l = record {
  read : run line_step (enumerate_from (l.line + 1) (map line_said (lines_of l.rest))) l.reader ≡ read_all (lines_of l.bytes);
  is_reading : IsReading l.reader;
  plain : PlainFront l.plain l.rest;
  counted : l.line + length l.rest ≤ length l.bytes;
}

abbrev pub decreases-loop-rest : goal.decreases-loop-rest
decreases-loop-rest l = length l.rest
