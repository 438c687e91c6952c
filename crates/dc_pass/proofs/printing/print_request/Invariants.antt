use Rattle.std.proofs.Common.{◌≡◌, ◌++◌, drop}
use Rattle.std.specs.List.{flat_map}
use Rattle.dc_text.specs.Lines.{text_of}
use Rattle.dc_pass.specs.Wire.{question_lines}
use Rattle.dc_pass.proofs.printing.print_request.Given as goal

abbrev pub invariant-loop-question : goal.invariant-loop-question
invariant-loop-question l = l.out ++ text_of (flat_map question_lines (drop l.question-index l.question-items)) ≡ l.initial.out ++ text_of (flat_map question_lines l.question-items)
