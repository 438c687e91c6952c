use Rattle.std.proofs.Common.{◌∙◌, ◌≤◌, List, length, reverse, ap, subst, map as each}
use Rattle.std.proofs.lemmas.List.{take_all}
use Rattle.dc_layer.specs.declared.image.Image.{Image}
use Rattle.dc_save.specs.Saving.{all_images}
use Rattle.dc_save.proofs.ImageLemmas.{each-reverse}
use Rattle.dc_save.proofs.saving.prepare.Goals as goal

pub returns : goal.returns
returns c =
    let all : length c.args.images.now ≤ c.loop-layer.layer-index = subst (λ (ls : List (List Image)). length ls ≤ c.loop-layer.layer-index) c.as_slice-layer-items.ensures c.loop-layer-test.false in
    ap (λ l. each (λ s. s.image.now) l) c.reverse.ensures.items
    ∙ each-reverse (λ s. s.image.now) c.loop-layer.savings.items
    ∙ ap (λ l. reverse l) (c.loop-layer.invariant ∙ ap all_images (take_all c.loop-layer.layer-index c.args.images.now all))
