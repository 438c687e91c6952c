use Rattle.std.proofs.Common.{map as each, ◌∙◌}
use Rattle.dc_conf.specs.Trees.{shape}
use Rattle.dc_conf.specs.Plans.{leaves}
use Rattle.dc_store.proofs.BelowLemmas.{seen_held}
use Rattle.dc_store.proofs.store.Store.change_on_top.Goals as goal

pub returns-in-Ok-clause-there : goal.returns-in-Ok-clause-there
returns-in-Ok-clause-there g c done =
    let layers = each (λ b. (goal.Layer-dyn g (b.vtable, b.value)).state b.value) c.args.self.now.layers.items in
    seen_held layers c.args.name.now (leaves (shape c.args.plan.now)) ∙ c.in-Ok.ensures.there done
