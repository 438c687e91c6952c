use Rattle.std.proofs.Common.{sym, ap, ◌∙◌, take}
use Rattle.std.specs.FinMap.{insert}
use Rattle.dc_text.specs.Maps.{set_of}
use Rattle.dc_item.specs.Item.{ItemParts}
use Rattle.dc_item.proofs.ItemLemmas.{set_of-taken}
use Rattle.dc_item.proofs.item_builder.ItemBuilder.put_flags.Goals as goal

pub loop-flag-init : goal.loop-flag-init
loop-flag-init c = ap (λ s. record c.args.self.now { flags = s }) c.requires

pub loop-flag-preserved : goal.loop-flag-preserved
loop-flag-preserved c =
    let all = c.as_slice-all.result.now in
    let i = c.loop-flag.flag-index in
    c.in_ok-put_flag.ensures.ok ∙ ap (λ (p : ItemParts). record p { flags = insert p.flags c.bytes.result.now tt }) c.loop-flag.invariant
    ∙ ap (λ k. record c.args.self.now { flags = insert (set_of (take i all)) k tt }) c.bytes.ensures.value
    ∙ ap (λ s. record c.args.self.now { flags = s }) (sym (set_of-taken all i c.flag-item.result c.loop-flag-test.true c.flag-item.is))
