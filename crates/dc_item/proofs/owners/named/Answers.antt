use Rattle.std.proofs.Common.{ap, ◌∙◌}
use Rattle.dc_text.specs.Names.{is_name}
use Rattle.dc_item.proofs.ItemLemmas.{set_turn}
use Rattle.dc_item.proofs.owners.named.Goals as goal

pub loop-name-preserved : goal.loop-name-preserved
loop-name-preserved c =
    let p = set_turn is_name c.args.names.now c.as_slice-name-items.result.now c.loop-name.name-index c.name-item.result c.into_text.result c.loop-name.set c.insert.new.self
    c.as_slice-name-items.ensures c.loop-name-test.true c.name-item.is (c.into_text.ensures.value ∙ c.in_ok-copy.ensures) (ap is_name c.into_text.ensures.value ∙ c.into_text.ensures.name)
    c.loop-name.invariant.so_far c.loop-name.invariant.good c.in_ok-insert.ensures.ok in
    record { so_far = p.0; good = p.1 }
