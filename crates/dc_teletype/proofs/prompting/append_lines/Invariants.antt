use Rattle.std.proofs.Common.{◌≡◌, ◌++◌, length}
use Rattle.dc_text.specs.Lines.{text_of}
use Rattle.dc_teletype.proofs.prompting.append_lines.Given as goal

abbrev pub invariant-loop-rest : goal.invariant-loop-rest
invariant-loop-rest l = l.text ++ text_of l.rest ≡ l.initial.text ++ text_of l.lines

abbrev pub decreases-loop-rest : goal.decreases-loop-rest
decreases-loop-rest l = length l.rest
