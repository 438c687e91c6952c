use Rattle.std.proofs.Common.{◌≡◌, ◌∷◌, [], ◌++◌, ◌∙◌, List, ℕ}
use Rattle.std.specs.Prelude.{codes}
use Rattle.std.proofs.lemmas.Result.{on_ok_weaker}
use Rattle.dc_text.specs.Lines.{text_of}
use Rattle.dc_pass.specs.Wire.{heading_lines, choice_lines, wire_line}
use Rattle.dc_pass.proofs.PrintLemmas.{printed_two}
use Rattle.dc_pass.proofs.printing.print_question.Goals as goal

pub returns : goal.returns
returns c =
    let shown = c.args.shown.now in
    let heads : List (List ℕ) = heading_lines shown.name shown.kind shown.description shown.extended in
    let choices : List (List ℕ) = choice_lines shown.choices shown.labels in
    let one : c.print_heading.new.out ≡ c.args.out.now ++ text_of heads = c.in_ok-print_heading.ensures in
    let two : c.print_choices.new.out ≡ c.args.out.now ++ text_of (heads ++ choices) =
    printed_two c.args.out.now c.print_heading.new.out c.print_choices.new.out heads choices one
    (c.in_ok-print_choices.ensures ∙ (λ i. c.print_heading.new.out ++ text_of (choice_lines (c.as_slice.ensures i) (c.as_slice-2.ensures i)))) in
    on_ok_weaker c.append_line.result
    (λ e. printed_two c.args.out.now c.print_choices.new.out c.append_line.new.out (heads ++ choices) (wire_line (codes "value") shown.value ∷ []) two
    (e ∙ (λ i. c.print_choices.new.out ++ text_of (wire_line (codes "value") (c.bytes.ensures i) ∷ []))))
    c.append_line.ensures
