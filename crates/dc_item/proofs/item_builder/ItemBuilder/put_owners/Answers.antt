use Rattle.std.proofs.Common.{sym, ap, ◌∙◌, take}
use Rattle.std.specs.FinMap.{insert}
use Rattle.dc_text.specs.Maps.{set_of}
use Rattle.dc_item.specs.Item.{ItemParts}
use Rattle.dc_item.proofs.ItemLemmas.{set_of-taken}
use Rattle.dc_item.proofs.item_builder.ItemBuilder.put_owners.Goals as goal

pub loop-owner-init : goal.loop-owner-init
loop-owner-init c = ap (λ s. record c.args.self.now { owners = s }) c.requires

pub loop-owner-preserved : goal.loop-owner-preserved
loop-owner-preserved c =
    let all = c.as_slice-all.result.now in
    let i = c.loop-owner.owner-index in
    c.in_ok-put_owner.ensures.ok ∙ ap (λ (p : ItemParts). record p { owners = insert p.owners c.bytes.result.now tt }) c.loop-owner.invariant
    ∙ ap (λ k. record c.args.self.now { owners = insert (set_of (take i all)) k tt }) c.bytes.ensures.value
    ∙ ap (λ s. record c.args.self.now { owners = s }) (sym (set_of-taken all i c.owner-item.result c.loop-owner-test.true c.owner-item.is))
