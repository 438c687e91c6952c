use Rattle.std.proofs.Common.{◌≡◌, ◌∙◌, ◌-◌, [], Err, Some, None, inl, refl, sym, ap, take, drop, length}
use Rattle.std.proofs.lemmas.Result.{err_from_is_err_and}
use Rattle.std.specs.Io.KnownBytes.{prepend_known}
use Rattle.dc_outside.specs.State.{LinkState}
use Rattle.dc_outside.specs.Talk.{got}
use Rattle.dc_outside.proofs.LinkLemmas.{AddsWrite, sends_talk, sends_input}
use Rattle.dc_teletype.specs.Dialogue.{opening}
use Rattle.dc_teletype.proofs.ReadLemmas.{ends_then}
use Rattle.dc_teletype.proofs.HearLemmas.{hear_start}
use Rattle.dc_teletype.proofs.AskLemmas.{heard_on, held_stopped, held_refused, held_end, held_unsaid, put_next, list_apart, nil_below}
use Rattle.dc_teletype.proofs.teletype.Teletype.ask.Goals as goal

pub returns-in_err-said-clause-held : goal.returns-in_err-said-clause-held
returns-in_err-said-clause-held g c =
    let p = err_from_is_err_and c.from_residual.result c.from_residual.ensures.1 in
    held_refused (hear_start c.args.backup (opening c.args.title.now c.args.shown.now) c.args.self.now.ahead (g.L.Link.link c.args.link.now).talk (g.L.Link.link c.args.link.now).input) c.args.self.now.ahead c.from_residual.result (p.1 ∙ ap Err p.2)

pub loop-rest-init : goal.loop-rest-init
loop-rest-init g c = record {
  progress = rw (c.in_ok-said.ensures, c.bytes.ensures, c.as_slice-rest.ensures, c.new-answers.ensures) (hear_start c.args.backup (opening c.args.title.now c.args.shown.now) c.args.self.now.ahead (g.L.Link.link c.args.link.now).talk (g.L.Link.link c.args.link.now).input);
  end = λ ended. inl ended;
  counts = refl;
  program = refl;
}

pub returns-in_err-append_question-clause-held : goal.returns-in_err-append_question-clause-held
returns-in_err-append_question-clause-held g c =
    let p = err_from_is_err_and c.from_residual-in_err-append_question.result c.from_residual-in_err-append_question.ensures.1 in
    held_refused c.loop-rest.invariant.progress c.loop-rest.self.ahead c.from_residual-in_err-append_question.result (p.1 ∙ ap Err p.2)

pub returns-in_err-hear-clause-held : goal.returns-in_err-hear-clause-held
returns-in_err-hear-clause-held g c =
    let p = err_from_is_err_and c.from_residual-in_err-hear.result c.from_residual-in_err-hear.ensures.1 in
    let whole = list_apart c.loop-rest.rest.now c.question-item.result c.in-len1-up.len_at_least c.question-item.is in
    let put = put_next c.loop-rest.said c.append_question.new.said c.question-item.result _ c.loop-rest.answers c.loop-rest.rest.now whole c.in_ok-append_question.ensures c.loop-rest.invariant.progress in
    held_stopped put c.hear.new.ahead (g.L.Link.link c.hear.new.link).talk (g.L.Link.link c.hear.new.link).input c.in_err-hear.field-0.0 _ c.loop-rest.answers (c.in_err-hear.ensures.heard _ c.loop-rest.answers)
    c.from_residual-in_err-hear.result (p.1 ∙ ap Err p.2)

pub returns-in_err-hear-clause-end : goal.returns-in_err-hear-clause-end
returns-in_err-hear-clause-end g c =
    let heard = c.in_err-hear.ensures.heard [] [] in
    ends_then c.args.self.now.ahead c.loop-rest.self.ahead c.hear.new.ahead (got heard.pieces) (g.L.Link.link c.loop-rest.link).input (g.L.Link.link c.hear.new.link).input heard.took c.loop-rest.invariant.end c.in_err-hear.ensures.end

pub returns-in_err-write-in-None-clause-held : goal.returns-in_err-write-in-None-clause-held
returns-in_err-write-in-None-clause-held g c =
    let adds : AddsWrite {T = Unit {0}} (g.L.Link.link c.hear.new.link).talk (g.L.Link.link c.write.new.self).talk (Err c.in_err-write-in-None.field-0.0) c.bytes-in-None.result.now = sends_talk {T = Unit {0}} (Err c.in_err-write-in-None.field-0.0) c.bytes-in-None.result.now (g.L.Link.link c.hear.new.link) (g.L.Link.link c.write.new.self) c.in_err-write-in-None.ensures in
    let p = err_from_is_err_and c.from_residual-in_err-write-in-None.result c.from_residual-in_err-write-in-None.ensures.1 in
    let whole = list_apart c.loop-rest.rest.now c.question-item.result c.in-len1-up.len_at_least c.question-item.is in
    let put = put_next c.loop-rest.said c.append_question.new.said c.question-item.result _ c.loop-rest.answers c.loop-rest.rest.now whole c.in_ok-append_question.ensures c.loop-rest.invariant.progress in
    let heard = rw c.in-None.is at (c.in_ok-hear.ensures.heard (take (length c.loop-rest.rest.now - 1) (drop 1 c.loop-rest.rest.now)) c.loop-rest.answers) in
    let on = heard_on put c.hear.new.ahead (g.L.Link.link c.hear.new.link).talk (g.L.Link.link c.hear.new.link).input None _ c.loop-rest.answers heard in
    held_unsaid on (g.L.Link.link c.write.new.self).talk (g.L.Link.link c.write.new.self).input (sends_input {T = Unit {0}} (Err c.in_err-write-in-None.field-0.0) c.bytes-in-None.result.now (g.L.Link.link c.hear.new.link) (g.L.Link.link c.write.new.self) c.in_err-write-in-None.ensures) c.in_err-write-in-None.field-0.0
    (rw (c.bytes-in-None.ensures, c.in_ok-hear.ensures.said) at adds) c.from_residual-in_err-write-in-None.result (p.1 ∙ ap Err p.2)

pub returns-in_err-write-in-None-clause-end : goal.returns-in_err-write-in-None-clause-end
returns-in_err-write-in-None-clause-end g c =
    let kept : (g.L.Link.link c.write.new.self).input ≡ (g.L.Link.link c.hear.new.link).input =
    sends_input {T = Unit {0}} (Err c.in_err-write-in-None.field-0.0) c.bytes-in-None.result.now (g.L.Link.link c.hear.new.link) (g.L.Link.link c.write.new.self) c.in_err-write-in-None.ensures in
    let heard = c.in_ok-hear.ensures.heard [] [] in
    ends_then c.args.self.now.ahead c.loop-rest.self.ahead c.hear.new.ahead (got heard.pieces) (g.L.Link.link c.loop-rest.link).input (g.L.Link.link c.write.new.self).input (heard.took ∙ ap (prepend_known (got heard.pieces)) (sym kept)) c.loop-rest.invariant.end
    (rw (sym kept) at c.in_ok-hear.ensures.end)

pub returns-in-None-clause-held : goal.returns-in-None-clause-held
returns-in-None-clause-held g c =
    let whole = list_apart c.loop-rest.rest.now c.question-item.result c.in-len1-up.len_at_least c.question-item.is in
    let put = put_next c.loop-rest.said c.append_question.new.said c.question-item.result _ c.loop-rest.answers c.loop-rest.rest.now whole c.in_ok-append_question.ensures c.loop-rest.invariant.progress in
    let heard = rw c.in-None.is at (c.in_ok-hear.ensures.heard (take (length c.loop-rest.rest.now - 1) (drop 1 c.loop-rest.rest.now)) c.loop-rest.answers) in
    let on = heard_on put c.hear.new.ahead (g.L.Link.link c.hear.new.link).talk (g.L.Link.link c.hear.new.link).input None _ c.loop-rest.answers heard in
    held_end on (g.L.Link.link c.write.new.self).talk (g.L.Link.link c.write.new.self).input (rw (c.bytes-in-None.ensures, c.in_ok-hear.ensures.said) at (ap (λ (s : LinkState). s.talk) c.in_ok-write-in-None.ensures)) (ap (λ (s : LinkState). s.input) c.in_ok-write-in-None.ensures)

pub returns-in-None-clause-end : goal.returns-in-None-clause-end
returns-in-None-clause-end g c =
    let kept : (g.L.Link.link c.write.new.self).input ≡ (g.L.Link.link c.hear.new.link).input = ap (λ (s : LinkState). s.input) c.in_ok-write-in-None.ensures in
    let heard = c.in_ok-hear.ensures.heard [] [] in
    ends_then c.args.self.now.ahead c.loop-rest.self.ahead c.hear.new.ahead (got heard.pieces) (g.L.Link.link c.loop-rest.link).input (g.L.Link.link c.write.new.self).input (heard.took ∙ ap (prepend_known (got heard.pieces)) (sym kept)) c.loop-rest.invariant.end
    (rw (sym kept) at c.in_ok-hear.ensures.end)

pub returns-in_err-push-in-Some-clause-held : goal.returns-in_err-push-in-Some-clause-held
returns-in_err-push-in-Some-clause-held g c =
    let p = err_from_is_err_and c.from_residual-in_err-push-in-Some.result c.from_residual-in_err-push-in-Some.ensures.1 in
    let whole = list_apart c.loop-rest.rest.now c.question-item.result c.in-len1-up.len_at_least c.question-item.is in
    let put = put_next c.loop-rest.said c.append_question.new.said c.question-item.result _ c.loop-rest.answers c.loop-rest.rest.now whole c.in_ok-append_question.ensures c.loop-rest.invariant.progress in
    let heard = rw c.in-Some.is at (c.in_ok-hear.ensures.heard (take (length c.loop-rest.rest.now - 1) (drop 1 c.loop-rest.rest.now)) c.loop-rest.answers) in
    let on = heard_on put c.hear.new.ahead (g.L.Link.link c.hear.new.link).talk (g.L.Link.link c.hear.new.link).input (Some c.in-Some.answer) _ c.loop-rest.answers heard in
    held_refused on c.hear.new.ahead c.from_residual-in_err-push-in-Some.result (p.1 ∙ ap Err p.2)

pub returns-in_err-push-in-Some-clause-end : goal.returns-in_err-push-in-Some-clause-end
returns-in_err-push-in-Some-clause-end g c =
    let heard = c.in_ok-hear.ensures.heard [] [] in
    ends_then c.args.self.now.ahead c.loop-rest.self.ahead c.hear.new.ahead (got heard.pieces) (g.L.Link.link c.loop-rest.link).input (g.L.Link.link c.hear.new.link).input heard.took c.loop-rest.invariant.end c.in_ok-hear.ensures.end

pub loop-rest-preserved : goal.loop-rest-preserved
loop-rest-preserved g c =
    let whole = list_apart c.loop-rest.rest.now c.question-item.result c.in-len1-up.len_at_least c.question-item.is in
    let put = put_next c.loop-rest.said c.append_question.new.said c.question-item.result _ c.loop-rest.answers c.loop-rest.rest.now whole c.in_ok-append_question.ensures c.loop-rest.invariant.progress in
    let heard = rw c.in-Some.is at (c.in_ok-hear.ensures.heard (take (length c.loop-rest.rest.now - 1) (drop 1 c.loop-rest.rest.now)) c.loop-rest.answers) in
    let on = heard_on put c.hear.new.ahead (g.L.Link.link c.hear.new.link).talk (g.L.Link.link c.hear.new.link).input (Some c.in-Some.answer) _ c.loop-rest.answers heard in
    record {
      progress = rw (c.in_ok-push-in-Some.ensures.ok, c.in_ok-hear.ensures.said) on;
      end =
          let plain = c.in_ok-hear.ensures.heard [] [] in
          ends_then c.args.self.now.ahead c.loop-rest.self.ahead c.hear.new.ahead (got plain.pieces) (g.L.Link.link c.loop-rest.link).input (g.L.Link.link c.hear.new.link).input plain.took c.loop-rest.invariant.end c.in_ok-hear.ensures.end;
      counts = c.in_ok-hear.ensures.counts ∙ c.loop-rest.invariant.counts;
      program = c.in_ok-hear.ensures.program ∙ c.loop-rest.invariant.program;
    }

pub returns-in_err-write-clause-held : goal.returns-in_err-write-clause-held
returns-in_err-write-clause-held g c =
    let adds : AddsWrite {T = Unit {0}} (g.L.Link.link c.loop-rest.link).talk (g.L.Link.link c.write-2.new.self).talk (Err c.in_err-write.field-0.0) c.bytes-2.result.now = sends_talk {T = Unit {0}} (Err c.in_err-write.field-0.0) c.bytes-2.result.now (g.L.Link.link c.loop-rest.link) (g.L.Link.link c.write-2.new.self) c.in_err-write.ensures in
    let p = err_from_is_err_and c.from_residual-in_err-write.result c.from_residual-in_err-write.ensures.1 in
    let on = rw (nil_below c.loop-rest.rest.now c.in_default.len_below) at c.loop-rest.invariant.progress in
    held_unsaid on (g.L.Link.link c.write-2.new.self).talk (g.L.Link.link c.write-2.new.self).input (sends_input {T = Unit {0}} (Err c.in_err-write.field-0.0) c.bytes-2.result.now (g.L.Link.link c.loop-rest.link) (g.L.Link.link c.write-2.new.self) c.in_err-write.ensures) c.in_err-write.field-0.0
    (rw c.bytes-2.ensures at adds) c.from_residual-in_err-write.result (p.1 ∙ ap Err p.2)

pub returns-clause-held : goal.returns-clause-held
returns-clause-held g c =
    let on = rw (nil_below c.loop-rest.rest.now c.in_default.len_below) at c.loop-rest.invariant.progress in
    held_end on (g.L.Link.link c.write-2.new.self).talk (g.L.Link.link c.write-2.new.self).input (rw c.bytes-2.ensures at (ap (λ (s : LinkState). s.talk) c.in_ok-write.ensures)) (ap (λ (s : LinkState). s.input) c.in_ok-write.ensures)
