use Rattle.std.proofs.Common.{map as each}
use Rattle.dc_question.proofs.BindLemmas.{both_added}
use Rattle.dc_question.proofs.questions.Questions.add_bound.Goals as goal

pub returns-clause-batch : goal.returns-clause-batch
returns-clause-batch g c =
    let layers = each (λ b. (goal.Layer-dyn g (b.vtable, b.value)).state b.value) c.args.self.now.store.now.layers.items in
    both_added layers c.args.self.now.context c.args.name.now c.args.owner.now c.args.first c.in_ok-second.second c.args.batch.now c.push.new.self _ c.requires.first c.in_ok-second.ensures.write
    c.in_ok-push.ensures.ok c.in_ok-push-2.ensures.ok
