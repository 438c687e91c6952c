use Rattle.std.proofs.Common.{◌-◌, Bool, List, Some, cond, drop, take, length, sym, subst, ◌∙◌}
use Rattle.dc_frontend.specs.declared.shown.Shown.{Shown}
use Rattle.dc_teletype.proofs.AskLemmas.{list_apart}
use Rattle.dc_pass.specs.declared.replies.ReplyStep.TheVariants.{Back}
use Rattle.dc_pass.specs.Machine.{Gives}
use Rattle.dc_pass.specs.Hearing.{left_step}
use Rattle.dc_pass.proofs.replies.read_said.Goals as goal

pub returns-in-len1-up : goal.returns-in-len1-up
returns-in-len1-up c =
    let tail : List Shown = take (length c.args.left.now - 1) (drop 1 c.args.left.now) in
    let whole = list_apart c.args.left.now c.question-item.result c.in-len1-up.len_at_least c.question-item.is in
    subst (λ (b : Bool). Gives c.read_answer.result (cond b (Some Back) (left_step c.args.left.now c.args.said.word c.args.said.text))) (sym (sym c.is_back.ensures ∙ c.if-is_back.false))
    (subst (λ (l : List Shown). Gives c.read_answer.result (left_step l c.args.said.word c.args.said.text)) (sym whole) (c.read_answer.ensures tail))
