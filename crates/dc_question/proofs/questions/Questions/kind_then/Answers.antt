use Rattle.std.proofs.Common.{map as each, ◌∙◌}
use Rattle.dc_question.specs.KindsLeft.{item_kind}
use Rattle.dc_question.proofs.KindLemmas.{item_kind_reads, put_seen}
use Rattle.dc_question.proofs.questions.Questions.kind_then.Goals as goal

pub returns-in-Put : goal.returns-in-Put
returns-in-Put g c =
    let layers = each (λ b. (goal.Layer-dyn g (b.vtable, b.value)).state b.value) c.args.self.now.store.now.layers.items in
    c.item_kind.ensures
    ∙ put_seen (item_kind layers c.args.self.now.context c.args.kinds.now) (item_kind_reads layers c.args.self.now.context c.args.kinds.now) layers c.args.self.now.context.config c.args.name.now
    c.args.op.now c.in-Put.made c.in-Put.is
