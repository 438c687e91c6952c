use Rattle.std.proofs.Common.{◌≡◌, ◌++◌, take}
use Rattle.dc_text.specs.Lines.{text_of}
use Rattle.dc_dump.proofs.lines.append_lines.Given as goal

abbrev pub invariant-loop-line : goal.invariant-loop-line
invariant-loop-line l = l.text ≡ l.fn.text ++ text_of (take l.line-index l.lines)
