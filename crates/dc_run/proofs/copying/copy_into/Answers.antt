use Rattle.std.proofs.Common.{map as each, ap, subst, ◌∙◌}
use Rattle.dc_conf.specs.Trees.{shape}
use Rattle.dc_run.specs.Inside.{HasCopiedOver}
use Rattle.dc_store.specs.Plans.{stored}
use Rattle.dc_tools.specs.Copying.{Copying}
use Rattle.dc_run.proofs.CopyLemmas.{copied_over}
use Rattle.dc_run.proofs.copying.copy_into.Goals as goal

pub returns : goal.returns
returns g c = record {
  copies =
      subst (λ (copy : Copying). HasCopiedOver copy (each (λ b. (goal.Layer-dyn g (b.vtable, b.value)).state b.value) c.args.used.now.items)
      (each (λ b. (goal.Layer-dyn g (b.vtable, b.value)).state b.value) c.copy_items-copied.new.store.layers.items) (g.E.Link.link c.args.err.now) (g.E.Link.link c.answer_of.new.err) c.args.last_code c.answer_of.result)
      (λ i. record { source = shape c.args.roots.now.config; dest = shape c.args.copy.now.dest; templates = shape c.args.roots.now.templates; by_name = c.as_ref.ensures.value i; by_owner = c.as_ref-2.ensures.value i })
      (copied_over _ _ _ _ _ c.args.last_code c.answer_of.result _
      (λ i. stored (each (λ b. (goal.Layer-dyn g (b.vtable, b.value)).state b.value) ((c.new-store.ensures.layers ∙ ap (λ v. v.items) c.replace.ensures.value) i)) (c.new-store.ensures.told i)) c.copy_items-copied.ensures.frame c.copy_items-copied.result c.copy_items-copied.ensures.copied c.answer_of.ensures);
}
