use Rattle.std.proofs.Common.{◌+◌, ◌∙◌, Err, inl, refl, sym, ap, arith}
use Rattle.std.proofs.lemmas.Result.{err_from_is_err_and}
use Rattle.dc_outside.specs.State.{LinkState}
use Rattle.dc_outside.specs.Talk.{got}
use Rattle.dc_outside.proofs.LinkLemmas.{AddsWrite, sends_talk, sends_input}
use Rattle.dc_teletype.proofs.ReadLemmas.{ends_then}
use Rattle.dc_teletype.proofs.HearLemmas.{hear_start, hear_turn, answer_step, again_step, below_by, heard_answer, heard_refused, heard_unsaid, heard_nothing}
use Rattle.dc_teletype.proofs.teletype.hear.Goals as goal

pub loop-ahead-init : goal.loop-ahead-init
loop-ahead-init g c = record {
  progress = λ others answers. hear_start c.args.backup _ c.args.ahead.now (g.L.Link.link c.args.link.now).talk (g.L.Link.link c.args.link.now).input;
  below = omega arith;
  end = λ ended. inl ended;
  counts = refl;
  program = refl;
}

pub returns-in_err-write-clause-heard : goal.returns-in_err-write-clause-heard
returns-in_err-write-clause-heard g c others answers =
    let adds : AddsWrite {T = Unit {0}} (g.L.Link.link c.loop-ahead.link).talk (g.L.Link.link c.write.new.self).talk (Err c.in_err-write.field-0.0) c.bytes.result.now = sends_talk {T = Unit {0}} (Err c.in_err-write.field-0.0) c.bytes.result.now (g.L.Link.link c.loop-ahead.link) (g.L.Link.link c.write.new.self) c.in_err-write.ensures in
    let p = err_from_is_err_and c.from_residual.result c.from_residual.ensures.1 in
    heard_unsaid (c.loop-ahead.invariant.progress others answers) (g.L.Link.link c.write.new.self).talk (g.L.Link.link c.write.new.self).input (sends_input {T = Unit {0}} (Err c.in_err-write.field-0.0) c.bytes.result.now (g.L.Link.link c.loop-ahead.link) (g.L.Link.link c.write.new.self) c.in_err-write.ensures) c.in_err-write.field-0.0
    (rw c.bytes.ensures at adds) c.from_residual.result (p.1 ∙ ap Err p.2) others answers

pub returns-in_err-reading-clause-heard : goal.returns-in_err-reading-clause-heard
returns-in_err-reading-clause-heard g c others answers =
    let p = err_from_is_err_and c.from_residual-in_err-reading.result c.from_residual-in_err-reading.ensures.1 in
    heard_nothing (c.loop-ahead.invariant.progress others answers) (g.L.Link.link c.write.new.self).talk (g.L.Link.link c.write.new.self).input (rw c.bytes.ensures at (ap (λ (s : LinkState). s.talk) c.in_ok-write.ensures)) (ap (λ (s : LinkState). s.input) c.in_ok-write.ensures)
    c.read_reply.new.ahead (g.L.Link.link c.read_reply.new.link).talk (g.L.Link.link c.read_reply.new.link).input c.in_err-reading.field-0.0 c.in_err-reading.ensures.replied
    c.from_residual-in_err-reading.result (p.1 ∙ ap Err p.2)

pub returns-in_err-said-clause-heard : goal.returns-in_err-said-clause-heard
returns-in_err-said-clause-heard g c others answers =
    let p = err_from_is_err_and c.from_residual-in_err-said.result c.from_residual-in_err-said.ensures.1 in
    let turned = hear_turn (c.loop-ahead.invariant.progress others answers) (g.L.Link.link c.write.new.self).talk (g.L.Link.link c.write.new.self).input (rw c.bytes.ensures at (ap (λ (s : LinkState). s.talk) c.in_ok-write.ensures)) (ap (λ (s : LinkState). s.input) c.in_ok-write.ensures)
    c.read_reply.new.ahead (g.L.Link.link c.read_reply.new.link).talk (g.L.Link.link c.read_reply.new.link).input c.in_ok-reading.reading c.in_ok-reading.ensures.replied in
    heard_refused turned c.read_reply.new.ahead c.from_residual-in_err-said.result (p.1 ∙ ap Err p.2) others answers

pub returns-in_err-said-2-clause-heard : goal.returns-in_err-said-2-clause-heard
returns-in_err-said-2-clause-heard g c others answers =
    let p = err_from_is_err_and c.from_residual-in_err-said-2.result c.from_residual-in_err-said-2.ensures.1 in
    let turned = hear_turn (c.loop-ahead.invariant.progress others answers) (g.L.Link.link c.write.new.self).talk (g.L.Link.link c.write.new.self).input (rw c.bytes.ensures at (ap (λ (s : LinkState). s.talk) c.in_ok-write.ensures)) (ap (λ (s : LinkState). s.input) c.in_ok-write.ensures)
    c.read_reply.new.ahead (g.L.Link.link c.read_reply.new.link).talk (g.L.Link.link c.read_reply.new.link).input c.in_ok-reading.reading c.in_ok-reading.ensures.replied in
    heard_refused turned c.read_reply.new.ahead c.from_residual-in_err-said-2.result (p.1 ∙ ap Err p.2) others answers

pub returns-then-is_answered-clause-heard : goal.returns-then-is_answered-clause-heard
returns-then-is_answered-clause-heard g c others answers =
    let turned = hear_turn (c.loop-ahead.invariant.progress others answers) (g.L.Link.link c.write.new.self).talk (g.L.Link.link c.write.new.self).input (rw c.bytes.ensures at (ap (λ (s : LinkState). s.talk) c.in_ok-write.ensures)) (ap (λ (s : LinkState). s.input) c.in_ok-write.ensures)
    c.read_reply.new.ahead (g.L.Link.link c.read_reply.new.link).talk (g.L.Link.link c.read_reply.new.link).input c.in_ok-reading.reading c.in_ok-reading.ensures.replied in
    rw c.answer_of.ensures (heard_answer turned _ others answers
    (answer_step c.in_ok-reading.reading c.args.question.now c.loop-ahead.unusable others answers (sym c.is_answered.ensures ∙ c.if-is_answered.true)))

pub returns-in_err-said-clause-end : goal.returns-in_err-said-clause-end
returns-in_err-said-clause-end g c =
    ends_then c.args.ahead.now c.loop-ahead.ahead c.read_reply.new.ahead (got c.in_ok-reading.ensures.replied.pieces) (g.L.Link.link c.loop-ahead.link).input (g.L.Link.link c.read_reply.new.link).input
    (sym (ap (λ (s : LinkState). s.input) c.in_ok-write.ensures) ∙ c.in_ok-reading.ensures.replied.took) c.loop-ahead.invariant.end c.in_ok-reading.ensures.end

pub returns-then-is_answered-clause-end : goal.returns-then-is_answered-clause-end
returns-then-is_answered-clause-end g c =
    ends_then c.args.ahead.now c.loop-ahead.ahead c.read_reply.new.ahead (got c.in_ok-reading.ensures.replied.pieces) (g.L.Link.link c.loop-ahead.link).input (g.L.Link.link c.read_reply.new.link).input
    (sym (ap (λ (s : LinkState). s.input) c.in_ok-write.ensures) ∙ c.in_ok-reading.ensures.replied.took) c.loop-ahead.invariant.end c.in_ok-reading.ensures.end

pub returns-in_err-said-2-clause-end : goal.returns-in_err-said-2-clause-end
returns-in_err-said-2-clause-end g c =
    ends_then c.args.ahead.now c.loop-ahead.ahead c.read_reply.new.ahead (got c.in_ok-reading.ensures.replied.pieces) (g.L.Link.link c.loop-ahead.link).input (g.L.Link.link c.read_reply.new.link).input
    (sym (ap (λ (s : LinkState). s.input) c.in_ok-write.ensures) ∙ c.in_ok-reading.ensures.replied.took) c.loop-ahead.invariant.end c.in_ok-reading.ensures.end

pub loop-ahead-preserved : goal.loop-ahead-preserved
loop-ahead-preserved g c = record {
  progress = λ others answers.
      let turned = hear_turn (c.loop-ahead.invariant.progress others answers) (g.L.Link.link c.write.new.self).talk (g.L.Link.link c.write.new.self).input (rw c.bytes.ensures at (ap (λ (s : LinkState). s.talk) c.in_ok-write.ensures)) (ap (λ (s : LinkState). s.input) c.in_ok-write.ensures)
      c.read_reply.new.ahead (g.L.Link.link c.read_reply.new.link).talk (g.L.Link.link c.read_reply.new.link).input c.in_ok-reading.reading c.in_ok-reading.ensures.replied in
      rw (again_step c.in_ok-reading.reading c.in_ok-said-2.field-0 c.args.question.now c.loop-ahead.unusable others answers (sym c.is_answered.ensures ∙ c.if-is_answered.false) c.in_ok-said-2.ensures) at turned;
  below = below_by c.in_ok-reading.reading (c.loop-ahead.unusable + 1) (sym c.is_answered.ensures ∙ c.if-is_answered.false);
  end =
      ends_then c.args.ahead.now c.loop-ahead.ahead c.read_reply.new.ahead (got c.in_ok-reading.ensures.replied.pieces) (g.L.Link.link c.loop-ahead.link).input (g.L.Link.link c.read_reply.new.link).input
      (sym (ap (λ (s : LinkState). s.input) c.in_ok-write.ensures) ∙ c.in_ok-reading.ensures.replied.took) c.loop-ahead.invariant.end c.in_ok-reading.ensures.end;
  counts = c.in_ok-reading.ensures.counts ∙ ap (λ (s : LinkState). s.counts) c.in_ok-write.ensures ∙ c.loop-ahead.invariant.counts;
  program = c.in_ok-reading.ensures.program ∙ ap (λ (s : LinkState). s.program) c.in_ok-write.ensures ∙ c.loop-ahead.invariant.program;
}
