use Rattle.std.proofs.Common.{map as each, arith}
use Rattle.dc_conf.specs.Trees.{shape}
use Rattle.dc_tools.specs.Listing.{owners_of}
use Rattle.dc_tools.proofs.ListLemmas.{owners_turn}
use Rattle.dc_tools.proofs.listing.owners_among.Goals as goal

pub loop-name-preserved : goal.loop-name-preserved
loop-name-preserved g c =
    let layers = each (λ b. (goal.Layer-dyn g (b.vtable, b.value)).state b.value) c.args.store.now.layers.items in
    owners_turn (owners_of layers (shape c.args.plan.now)) c.args.names.now c.loop-name.name-index c.name-item.result c.loop-name.owners c.add_owners_at.new.owners
    (omega arith) c.name-item.is c.loop-name.invariant c.in_ok-add_owners_at.ensures
