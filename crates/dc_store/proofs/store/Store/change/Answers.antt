use Rattle.std.proofs.Common.{is_some, map as each, sym, ap, ◌∙◌}
use Rattle.dc_conf.specs.Trees.{shape}
use Rattle.dc_store.specs.Plans.{stored}
use Rattle.dc_store.proofs.TestLemmas.{taken_is}
use Rattle.dc_store.proofs.store.Store.change.Goals as goal

pub returns-in-Err-clause-refused : goal.returns-in-Err-clause-refused
returns-in-Err-clause-refused g c refused =
    let layers = each (λ b. (goal.Layer-dyn g (b.vtable, b.value)).state b.value) c.args.self.now.layers.items in
    sym (taken_is (stored layers c.args.self.now.told) (shape c.args.plan.now) c.args.name.now c.args.kind c.args.op.now) ∙ ap is_some (c.in-Err.ensures.refused refused)
