use Rattle.std.proofs.Common.{[], map as each, sym, subst, arith}
use Rattle.std.proofs.Math.ListN.{drop_of_length-le}
use Rattle.std.proofs.lemmas.List.{append-nil}
use Rattle.dc_store.specs.Targets.{AreTargets}
use Rattle.dc_store.proofs.LandingLemmas.{next_tests, next_targets}
use Rattle.dc_store.proofs.store.Store.targets.Goals as goal

pub returns-clause-targets : goal.returns-clause-targets
returns-clause-targets g c =
    let layers = each (λ b. (goal.Layer-dyn g (b.vtable, b.value)).state b.value) c.args.self.now.layers.items in
    subst (AreTargets layers c.args.batch.now) (append-nil c.loop-write.targets.items)
    (c.loop-write.invariant.1 [] (subst (λ rest. AreTargets layers rest []) (sym (drop_of_length-le c.args.batch.now (omega (arith, c.loop-write.auto.write-index-end)))) tt))

pub loop-write-preserved : goal.loop-write-preserved
loop-write-preserved g c =
    let layers = each (λ b. (goal.Layer-dyn g (b.vtable, b.value)).state b.value) c.args.self.now.layers.items in
    let w = c.write-item.result in
    let i = c.loop-write.write-index in (
      next_tests layers c.args.batch.now i w c.in_ok-put_target.put_target (omega (arith, c.loop-write-test.true)) c.write-item.is c.in_default.not-Nowhere c.in_ok-put_target.ensures c.loop-write.invariant.0,
      next_targets layers c.args.batch.now i w c.in_ok-put_target.put_target (omega (arith, c.loop-write-test.true)) c.write-item.is c.loop-write.targets.items c.push.new.self.items c.in_ok-put_target.ensures c.in_ok-push-in_default.ensures.items c.loop-write.invariant.1,
    )
