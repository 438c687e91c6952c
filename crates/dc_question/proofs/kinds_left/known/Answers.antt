use Rattle.std.specs.Str.{bytes_eq}
use Rattle.std.proofs.Common.{ap, ◌∙◌}
use Rattle.dc_question.proofs.KindLemmas.{one_known, one_other}
use Rattle.dc_question.proofs.kinds_left.known.Goals as goal

pub returns-then-eq : goal.returns-then-eq
returns-then-eq c =
    one_known c.args.others.now c.args.name.now c.args.kind c.args.template.now c.eq.result (c.eq.ensures ∙ ap (λ bytes. bytes_eq bytes c.args.template.now) c.bytes.ensures.value) c.if-eq.true

pub returns : goal.returns
returns c =
    one_other c.args.others.now c.args.name.now c.args.kind c.args.template.now c.eq.result (c.eq.ensures ∙ ap (λ bytes. bytes_eq bytes c.args.template.now) c.bytes.ensures.value) c.if-eq.false
    c.copied.result (c.copied.ensures ∙ c.get.ensures)
