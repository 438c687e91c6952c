use Rattle.std.proofs.Common.{◌≡◌, ◌∷◌, [], ◌++◌, ◌∙◌, List, ℕ}
use Rattle.std.specs.Prelude.{codes}
use Rattle.std.proofs.lemmas.Result.{on_ok_weaker}
use Rattle.dc_text.specs.Lines.{text_of}
use Rattle.dc_template.specs.Kinds.{kind_word}
use Rattle.dc_pass.specs.Wire.{wire_line}
use Rattle.dc_pass.proofs.PrintLemmas.{printed_two}
use Rattle.dc_pass.proofs.printing.print_heading.Goals as goal

pub returns : goal.returns
returns c =
    let shown = c.args.shown.now in
    let name : List (List ℕ) = wire_line (codes "question") shown.name ∷ [] in
    let kind : List (List ℕ) = wire_line (codes "kind") (kind_word shown.kind) ∷ [] in
    let description : List (List ℕ) = wire_line (codes "description") shown.description ∷ [] in
    let extended : List (List ℕ) = wire_line (codes "extended") shown.extended ∷ [] in
    let one : c.append_line.new.out ≡ c.args.out.now ++ text_of name =
    c.in_ok-append_line.ensures ∙ (λ i. c.args.out.now ++ text_of (wire_line (codes "question") (c.bytes.ensures.value i) ∷ [])) in
    let two : c.append_line-2.new.out ≡ c.args.out.now ++ text_of (name ++ kind) =
    printed_two c.args.out.now c.append_line.new.out c.append_line-2.new.out name kind one
    (c.in_ok-append_line-2.ensures ∙ (λ i. c.append_line.new.out ++ text_of (wire_line (codes "kind") (c.word.ensures i) ∷ []))) in
    let three : c.append_line-3.new.out ≡ c.args.out.now ++ text_of (name ++ kind ++ description) =
    printed_two c.args.out.now c.append_line-2.new.out c.append_line-3.new.out (name ++ kind) description two
    (c.in_ok-append_line-3.ensures ∙ (λ i. c.append_line-2.new.out ++ text_of (wire_line (codes "description") (c.bytes-2.ensures i) ∷ []))) in
    on_ok_weaker c.append_line-4.result
    (λ e. printed_two c.args.out.now c.append_line-3.new.out c.append_line-4.new.out (name ++ kind ++ description) extended three
    (e ∙ (λ i. c.append_line-3.new.out ++ text_of (wire_line (codes "extended") (c.bytes-3.ensures i) ∷ []))))
    c.append_line-4.ensures
