use Rattle.std.proofs.Common.{◌≡◌, ◌++◌, ◌∷◌, [], subst}
use Rattle.std.specs.Prelude.{OnOk, codes}
use Rattle.dc_text.specs.Lines.{text_of}
use Rattle.dc_batch.proofs.printing.print_templates.Goals as goal

pub returns-in-Some : goal.returns-in-Some
returns-in-Some c =
    rw c.in-Some.is (subst (λ path. OnOk c.print_line.result (c.print_line.new.out ≡ c.args.out.now ++ text_of ((codes "Templates: " ++ path) ∷ []))) c.bytes.ensures c.print_line.ensures)
