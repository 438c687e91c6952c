use Rattle.std.proofs.Common.{◌≡◌, Some, None, cond, sym, ap, ◌∙◌, subst}
use Rattle.std.specs.Prelude.{IfOk}
use Rattle.dc_item.specs.Grammar.{line_said}
use Rattle.dc_item.specs.Reader.{step}
use Rattle.dc_item.proofs.FurtherLines.{usual_said}
use Rattle.dc_item.proofs.reader.Reader.take.Goals as goal

pub returns-in-Some : goal.returns-in-Some
returns-in-Some c =
    subst (λ said. IfOk c.take_usual.result (λ stands. step c.args.self.now c.args.number said ≡ cond stands (Some c.take_usual.new.self) None))
    (sym (ap line_said c.in-Some.ensures ∙ usual_said c.in-Some.head c.in-Some.rest.now)) c.take_usual.ensures
