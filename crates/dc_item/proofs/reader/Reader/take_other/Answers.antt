use Rattle.std.proofs.Common.{◌≡◌, Some, None, cond, sym, ◌∙◌, subst}
use Rattle.std.specs.Prelude.{IfOk, ◌==◌}
use Rattle.dc_item.specs.Plain.{PlainIf}
use Rattle.dc_item.proofs.FurtherLines.{indented_goes_on}
use Rattle.dc_item.proofs.PlainLines.{plain_after}
use Rattle.dc_item.proofs.reader.Reader.take_other.Goals as goal

pub returns-then-is_indented : goal.returns-then-is_indented
returns-then-is_indented c =
    subst (λ s. IfOk c.add_indented.result (λ stands. s ≡ cond stands (Some c.add_indented.new.self) None))
    (sym (indented_goes_on c.args.self.now c.args.number c.args.line.now (sym c.is_blank.ensures ∙ c.if-is_blank.false) (sym c.is_indented.ensures ∙ c.if-is_indented.true))) c.add_indented.ensures

pub take_headed-requires-clause-plain : goal.take_headed-requires-clause-plain
take_headed-requires-clause-plain c = subst (PlainIf c.args.is_plain) (sym c.in-Some.ensures.2) (plain_after (λ byte. byte == 58) c.args.is_plain c.args.line.now c.requires.plain)
