use Rattle.std.proofs.Common.{◌≡◌, length}
use Rattle.std.specs.List.{list_all}
use Rattle.dc_pass.specs.Wire.{fits, choice_lines}
use Rattle.dc_pass.proofs.sending.are_choices_sent.Given as goal

abbrev pub invariant-loop-choices : goal.invariant-loop-choices
invariant-loop-choices l = list_all fits (choice_lines l.choices l.labels) ≡ list_all fits (choice_lines l.initial.choices l.initial.labels)

abbrev pub decreases-loop-choices : goal.decreases-loop-choices
decreases-loop-choices l = length l.choices
