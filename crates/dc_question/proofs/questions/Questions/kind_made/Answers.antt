use Rattle.std.proofs.Common.{◌∙◌}
use Rattle.dc_question.specs.Readings.{kind_by}
use Rattle.dc_question.proofs.KindLemmas.{same_seen, changed_seen, gone_seen}
use Rattle.dc_question.proofs.questions.Questions.kind_made.Goals as goal

pub returns-in-Same : goal.returns-in-Same
returns-in-Same g c =
    c.kind.ensures ∙ same_seen _ c.args.self.now.context.templates c.args.name.now c.args.op.now kind_by _ c.in_ok-at.field-0 c.template_seen-item.ensures c.in_ok-at.ensures c.in-Same.is

pub returns-in-Changed : goal.returns-in-Changed
returns-in-Changed g c =
    c.kind-in-Changed.ensures ∙ changed_seen _ c.args.self.now.context.templates c.args.name.now c.args.op.now kind_by _ c.in_ok-at.field-0 _ c.template_seen-item.ensures c.in_ok-at.ensures c.in-Changed.is

pub returns-in-Gone : goal.returns-in-Gone
returns-in-Gone g c =
    c.kind-in-Gone.ensures
    ∙ gone_seen _ c.args.self.now.context.templates c.args.name.now c.args.op.now kind_by _ _ c.in_ok-at.field-0 c.template_seen-item.ensures c.template_below.ensures c.in_ok-at.ensures c.in-Gone.is
