use Rattle.std.proofs.Common.{◌∙◌}
use Rattle.dc_item.proofs.ItemLemmas.{selves-none, selves_turn}
use Rattle.dc_item.proofs.owners.by_name.Goals as goal

pub loop-name-init : goal.loop-name-init
loop-name-init c = selves-none c.new-held.result c.new-held.ensures

pub loop-name-preserved : goal.loop-name-preserved
loop-name-preserved c =
    selves_turn c.args.names.now c.as_slice-name-items.result.now c.loop-name.name-index c.name-item.result c.into_text.result c.in_ok-copy-2.field-0 c.loop-name.held c.insert.new.self
    c.as_slice-name-items.ensures c.loop-name-test.true c.name-item.is (c.into_text.ensures.value ∙ c.in_ok-copy.ensures) c.in_ok-copy-2.ensures
    c.loop-name.invariant c.in_ok-insert.ensures.ok
