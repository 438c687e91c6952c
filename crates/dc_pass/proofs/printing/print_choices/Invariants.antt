use Rattle.std.proofs.Common.{◌≡◌, ◌++◌, length}
use Rattle.dc_text.specs.Lines.{text_of}
use Rattle.dc_pass.specs.Wire.{choice_lines}
use Rattle.dc_pass.proofs.printing.print_choices.Given as goal

abbrev pub invariant-loop-choices : goal.invariant-loop-choices
invariant-loop-choices l = l.out ++ text_of (choice_lines l.choices l.labels) ≡ l.initial.out ++ text_of (choice_lines l.initial.choices l.initial.labels)

abbrev pub decreases-loop-choices : goal.decreases-loop-choices
decreases-loop-choices l = length l.choices
