use Rattle.std.proofs.Common.{◌++◌, ◌∷◌, [], List, ℕ, Bor, drop, slice_index_or, map as each, ◌+◌, sym, ap, ◌∙◌}
use Rattle.dc_text.specs.Lines.{text_of}
use Rattle.dc_item.specs.Printed.{shown_variable}
use Rattle.dc_item.specs.Sections.{under, unmarked, variables_mark}
use Rattle.dc_item.proofs.VariableLines.{lines_left, variable_next, under_marked, under_other, at_place}
use Rattle.dc_item.proofs.printing.print_variables.Goals as goal
use Rattle.dc_item.proofs.printing.print_variables.Goals.{then-has_mark+in_ok-push_heading+in_ok-print_variable, else-has_mark}

pub loop-key-preserved : goal.loop-key-preserved
loop-key-preserved c =
    let seen : Bor (List ℕ) × Bor (List ℕ) → List ℕ × List ℕ = λ e. (e.0.now, e.1.now) in
    let none : Bor (List ℕ) × Bor (List ℕ) = (record { ref_ptr = (0, 0); now = [] }, record { ref_ptr = (0, 0); now = [] }) in
    let entry : List ℕ × List ℕ = seen (slice_index_or c.args.entries.now c.loop-key.key-index none) in
    let left : List (List ℕ × List ℕ) = each seen (drop (c.loop-key.key-index + 1) c.args.entries.now) in
    let here = ap (under variables_mark) (at_place seen c.args.entries.now c.loop-key.key-index none c.loop-key-test.true) in
    elim c.if-has_mark.branch [
      | then-has_mark+in_ok-push_heading+in_ok-print_variable w ↦
          (λ i. w.text-is i ++ lines_left (w.is_first-is i) (under variables_mark left))
          ∙ variable_next c.loop-key.is_first c.loop-key.text w.push_heading.new.text w.print_variable.new.text _ (unmarked entry.0, entry.1) (under variables_mark left)
          w.in_ok-push_heading.ensures (w.in_ok-print_variable.ensures ∙ (λ i. w.push_heading.new.text ++ text_of (shown_variable (w.unmarked.ensures i, entry.1) ∷ [])))
          (ap (λ es. c.loop-key.text ++ lines_left c.loop-key.is_first es) (sym (here ∙ under_marked variables_mark entry left (sym w.if-has_mark.ensures))) ∙ c.loop-key.invariant)
      | else-has_mark w ↦
          (λ i. w.text-is i ++ lines_left (w.is_first-is i) (under variables_mark left))
          ∙ ap (λ es. c.loop-key.text ++ lines_left c.loop-key.is_first es) (sym (here ∙ under_other variables_mark entry left (sym w.if-has_mark.ensures)))
          ∙ c.loop-key.invariant
    ]
