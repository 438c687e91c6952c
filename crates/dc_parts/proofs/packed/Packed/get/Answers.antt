use Rattle.std.proofs.Common.{◌∷◌, ap, ◌∙◌}
use Rattle.std.specs.FinMap as map
use Rattle.dc_parts.specs.Packed.{entries_in, value_at}
use Rattle.dc_parts.proofs.PackedLemmas.{get-place}
use Rattle.dc_parts.proofs.packed.Packed.get.Goals as goal

pub returns : goal.returns
returns c =
    let q = c.new.result.mark ∷ c.new.result.key.now in
    c.place_of.ensures.value ∙ ap (λ bytes. value_at q (entries_in bytes)) c.deref.ensures.value
    ∙ get-place q (entries_in c.self.inside.bytes.items) c.self.invariant.1 ∙ ap (λ m. map.get m q) c.self.view_is
    ∙ ap (map.get c.args.self.now) c.new.ensures
