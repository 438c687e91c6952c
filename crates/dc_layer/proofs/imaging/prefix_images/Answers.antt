use Rattle.std.proofs.Common.{◌≡◌, map as each, subst}
use Rattle.std.specs.Prelude.{IfOk}
use Rattle.dc_layer.proofs.PrefixLemmas.{prefixes, prefix_files}
use Rattle.dc_layer.proofs.imaging.prefix_images.Goals as goal

pub returns : goal.returns
returns c =
    subst (λ l. IfOk c.images_of.result (λ images. images ≡ l))
    (prefix_files c.args.spec.now c.args.table.now.items (prefixes (each (λ name. name.now) c.args.names.now)) c.in_ok-texts.texts.entries c.fill.new.texts.entries c.in_ok-texts.ensures c.in_ok-fill.ensures) c.images_of.ensures
