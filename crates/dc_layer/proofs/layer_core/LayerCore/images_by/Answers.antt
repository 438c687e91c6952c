use Rattle.std.proofs.Common.{◌≡◌, map as each, sym, ap, ◌∙◌, subst}
use Rattle.std.specs.Prelude.{IfOk}
use Rattle.dc_layer.specs.State.{item_image}
use Rattle.dc_table.proofs.TouchedLemmas.{each_first}
use Rattle.dc_layer.proofs.layer_core.LayerCore.images_by.Goals as goal

pub returns-in_ok-names-in-Tree : goal.returns-in_ok-names-in-Tree
returns-in_ok-names-in-Tree c =
    rw c.in-Tree.is (subst (λ l. IfOk c.item_images.result (λ images. images ≡ l))
    (ap (each (item_image c.args.spec.now c.args.self.now.table.items))
    (ap (each (λ name. name.now)) c.as_slice.ensures.value ∙ c.in_ok-names-in-Tree.ensures.names ∙ sym (each_first c.args.self.now.table.touched c.in_ok-names-in-Tree.ensures.distinct)))
    c.item_images.ensures)
