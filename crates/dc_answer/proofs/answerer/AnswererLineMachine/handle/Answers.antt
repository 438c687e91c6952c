use Rattle.std.proofs.Common.{refl}
use Rattle.dc_answer.proofs.HeedLemmas.{unreadable}
use Rattle.dc_answer.proofs.answerer.AnswererLineMachine.handle.Goals as goal

pub returns-in-Err-Bad-clause-err : goal.returns-in-Err-Bad-clause-err
returns-in-Err-Bad-clause-err g c =
    unreadable _ _ c.args.line.now c.in_ok-line_copy.field-0 c.take.result c.in-Err-Bad.field-0 c.saturating_add-self.result c.in_ok-line_copy.ensures c.in-Err-Bad.is c.in-Err-Bad.field-0-is
    c.take.ensures c.saturating_add-self.ensures refl
