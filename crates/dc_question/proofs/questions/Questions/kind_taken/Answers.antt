use Rattle.std.proofs.Common.{map as each, ap, sym, ◌∙◌}
use Rattle.dc_store.specs.Batches.{Write}
use Rattle.dc_question.proofs.KindLemmas.{put_taken}
use Rattle.dc_question.proofs.questions.Questions.kind_taken.Goals as goal

pub returns-in-Put : goal.returns-in-Put
returns-in-Put g c =
    let layers = each (λ b. (goal.Layer-dyn g (b.vtable, b.value)).state b.value) c.args.self.now.store.now.layers.items in
    ap (λ (w : Write). w.kind) c.write.view_is
    ∙ put_taken layers c.args.self.now.context c.args.write.now c.in-Put.field-0 (sym (ap (λ (w : Write). w.op) c.write.view_is) ∙ c.in-Put.is) c.requires.tested
