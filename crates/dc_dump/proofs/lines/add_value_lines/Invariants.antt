use Rattle.std.proofs.Common.{◌≡◌, ◌++◌, map as each, take}
use Rattle.dc_dump.specs.AnswerLines.{value_line}
use Rattle.dc_dump.proofs.lines.add_value_lines.Given as goal

abbrev pub invariant-loop-owner : goal.invariant-loop-owner
invariant-loop-owner l = l.lines ≡ l.fn.lines ++ each (value_line l.name l.kind l.answer.value) (take l.owner-index l.answer.owners)
