use Rattle.std.proofs.Common.{◌≡◌, ◌++◌, drop, map as each}
use Rattle.dc_text.specs.Lines.{text_of}
use Rattle.dc_item.specs.Printed.{variable_lines}
use Rattle.dc_item.specs.Sections.{under, variables_mark}
use Rattle.dc_item.proofs.VariableLines.{lines_left}
use Rattle.dc_item.proofs.printing.print_variables.Given as goal

abbrev pub invariant-loop-key : goal.invariant-loop-key
invariant-loop-key l =
    l.text ++ lines_left l.is_first (under variables_mark (each (λ e. (e.0.now, e.1.now)) (drop l.key-index l.entries)))
    ≡ l.initial.text ++ text_of (variable_lines (under variables_mark (each (λ e. (e.0.now, e.1.now)) l.entries)))
