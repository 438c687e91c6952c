use Rattle.std.proofs.Common.{Bool, Some, Err, sym, ap, ◌∙◌, arith}
use Rattle.std.proofs.lemmas.Result.{err_from_is_err_and}
use Rattle.dc_pass.specs.declared.replies.ReplyStep.{ReplyStep}
use Rattle.dc_pass.specs.Hearing.{reply_step}
use Rattle.dc_pass.proofs.HearLemmas.{starts, heard_nothing, heard_failure, one_came, heard_bad, heard_memory, heard_refused, heard_back, heard_done, heard_answer, fewer_left}
use Rattle.dc_pass.proofs.pass.hear.Goals as goal

pub loop-error-init : goal.loop-error-init
loop-error-init g c = rw c.new-answers.ensures (starts c.args.backup c.args.shown.now _ c.args.got.now (omega arith))

pub returns-in-Err : goal.returns-in-Err
returns-in-Err g c =
    heard_failure c.loop-error.invariant (record { link = g.L.Link.link c.next_line.new.link; ahead = c.next_line.new.ahead }) c.next_line.new.got c.in-Err.error c.in-Err.ensures

pub returns-in-Ok-None : goal.returns-in-Ok-None
returns-in-Ok-None g c =
    heard_nothing c.loop-error.invariant (record { link = g.L.Link.link c.next_line.new.link; ahead = c.next_line.new.ahead }) c.next_line.new.got (rw c.in-Ok-None.field-0-is at c.in-Ok-None.ensures)

pub returns-in_err-push-in-Ok-Answered : goal.returns-in_err-push-in-Ok-Answered
returns-in_err-push-in-Ok-Answered g c =
    let one = one_came c.loop-error.invariant (record { link = g.L.Link.link c.next_line.new.link; ahead = c.next_line.new.ahead }) c.next_line.new.got c.in-Ok-Some.line (rw c.in-Ok-Some.field-0-is at c.in-Ok-Some.ensures) in
    let p = err_from_is_err_and c.from_residual.result c.from_residual.ensures.1 in
    heard_refused one c.from_residual.result (p.1 ∙ ap Err p.2)

pub returns-in-Ok-Done : goal.returns-in-Ok-Done
returns-in-Ok-Done g c =
    let one = one_came c.loop-error.invariant (record { link = g.L.Link.link c.next_line.new.link; ahead = c.next_line.new.ahead }) c.next_line.new.got c.in-Ok-Some.line (rw c.in-Ok-Some.field-0-is at c.in-Ok-Some.ensures) in
    heard_done one (ap (λ (b : Bool). reply_step b c.loop-error.left.now c.in-Ok-Some.line) (sym c.may_go_back-first.ensures) ∙ c.in-Ok-Done.ensures ∙ ap (λ (s : ReplyStep). Some s) c.in-Ok-Done.field-0-is)

pub returns-in-Ok-Back : goal.returns-in-Ok-Back
returns-in-Ok-Back g c =
    let one = one_came c.loop-error.invariant (record { link = g.L.Link.link c.next_line.new.link; ahead = c.next_line.new.ahead }) c.next_line.new.got c.in-Ok-Some.line (rw c.in-Ok-Some.field-0-is at c.in-Ok-Some.ensures) in
    heard_back one (ap (λ (b : Bool). reply_step b c.loop-error.left.now c.in-Ok-Some.line) (sym c.may_go_back-first.ensures) ∙ c.in-Ok-Back.ensures ∙ ap (λ (s : ReplyStep). Some s) c.in-Ok-Back.field-0-is)

pub returns-in-Err-Bad : goal.returns-in-Err-Bad
returns-in-Err-Bad g c =
    let one = one_came c.loop-error.invariant (record { link = g.L.Link.link c.next_line.new.link; ahead = c.next_line.new.ahead }) c.next_line.new.got c.in-Ok-Some.line (rw c.in-Ok-Some.field-0-is at c.in-Ok-Some.ensures) in
    heard_bad one (ap (λ (b : Bool). reply_step b c.loop-error.left.now c.in-Ok-Some.line) (sym c.may_go_back-first.ensures) ∙ (rw c.in-Err-Bad.field-0-is at c.in-Err-Bad.ensures))

pub returns-in-Err-OutOfMemory : goal.returns-in-Err-OutOfMemory
returns-in-Err-OutOfMemory g c =
    heard_memory (one_came c.loop-error.invariant (record { link = g.L.Link.link c.next_line.new.link; ahead = c.next_line.new.ahead }) c.next_line.new.got c.in-Ok-Some.line (rw c.in-Ok-Some.field-0-is at c.in-Ok-Some.ensures))

pub loop-error-smaller : goal.loop-error-smaller
loop-error-smaller g c =
    rw c.others-left.ensures (fewer_left c.may_go_back-first.result c.loop-error.left.now c.in-Ok-Some.line c.in-Ok-Answered.answer (c.in-Ok-Answered.ensures ∙ ap (λ (s : ReplyStep). Some s) c.in-Ok-Answered.field-0-is))

pub loop-error-preserved : goal.loop-error-preserved
loop-error-preserved g c =
    let one = one_came c.loop-error.invariant (record { link = g.L.Link.link c.next_line.new.link; ahead = c.next_line.new.ahead }) c.next_line.new.got c.in-Ok-Some.line (rw c.in-Ok-Some.field-0-is at c.in-Ok-Some.ensures) in
    rw (c.others-left.ensures, c.in_ok-push-in-Ok-Answered.ensures.ok) (heard_answer one c.in-Ok-Answered.answer (ap (λ (b : Bool). reply_step b c.loop-error.left.now c.in-Ok-Some.line) (sym c.may_go_back-first.ensures) ∙ c.in-Ok-Answered.ensures ∙ ap (λ (s : ReplyStep). Some s) c.in-Ok-Answered.field-0-is))
