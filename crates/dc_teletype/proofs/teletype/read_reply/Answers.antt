use Rattle.std.proofs.Common.{Err, ap, ◌∙◌}
use Rattle.std.proofs.lemmas.Result.{err_from_is_err_and}
use Rattle.dc_teletype.proofs.HearLemmas.{reply_refused}
use Rattle.dc_teletype.proofs.teletype.read_reply.Goals as goal

pub returns-in_err-read_answer-in-Some-Whole-clause-replied : goal.returns-in_err-read_answer-in-Some-Whole-clause-replied
returns-in_err-read_answer-in-Some-Whole-clause-replied g c =
    let p = err_from_is_err_and c.from_residual-in_err-read_answer-in-Some-Whole.result c.from_residual-in_err-read_answer-in-Some-Whole.ensures.1 in
    reply_refused c.in_ok-next.ensures.read c.from_residual-in_err-read_answer-in-Some-Whole.result (p.1 ∙ ap Err p.2)
