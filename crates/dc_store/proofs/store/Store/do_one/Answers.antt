use Rattle.std.proofs.Common.{◌≡◌, true, map as each, sym, subst}
use Rattle.dc_store.specs.Plans.{would_take}
use Rattle.dc_store.specs.Batches.{Write}
use Rattle.dc_store.proofs.LandingLemmas.{would_be_taken}
use Rattle.dc_store.proofs.store.Store.do_one.Goals as goal

pub do_op-requires-clause-taken : goal.do_op-requires-clause-taken
do_op-requires-clause-taken g c =
    let layers = each (λ b. (goal.Layer-dyn g (b.vtable, b.value)).state b.value) c.args.self.now.layers.items in
    subst (λ (w : Write). would_take layers w.plan w.name w.kind w.op ≡ true) (sym c.write.view_is) (would_be_taken layers c.args.write c.requires.taken)
