use Rattle.std.proofs.Common.{◌≡◌, Some, None, cond, map as each, sym, ◌∙◌, subst}
use Rattle.std.specs.Prelude.{IfOk}
use Rattle.dc_text.specs.Bytes.{lower}
use Rattle.dc_item.proofs.FurtherLines.{headed_goes_on}
use Rattle.dc_item.proofs.reader.Reader.take_headed.Goals as goal

pub returns-else-is_word : goal.returns-else-is_word
returns-else-is_word c =
    subst (λ s. IfOk c.add_headed.result (λ stands. s ≡ cond stands (Some c.add_headed.new.self) None))
    (sym (headed_goes_on c.args.self.now c.args.number (each lower c.args.word.now) c.args.rest.now (sym c.is_word.ensures ∙ c.if-is_word.false))) c.add_headed.ensures
