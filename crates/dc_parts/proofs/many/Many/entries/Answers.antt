use Rattle.std.proofs.Common.{◌≡◌, length, take, sym, ap, ◌∙◌, arith}
use Rattle.std.proofs.Math.Seq.{take-length}
use Rattle.std.specs.FinMap as map
use Rattle.dc_text.specs.Maps.{text_cmp}
use Rattle.dc_parts.proofs.many.Many.entries.Goals as goal

pub returns : goal.returns
returns c =
    let all : c.loop-pair.pair-index ≡ length c.deref-pair-items.result.now = omega arith in
    c.loop-pair.invariant ∙ ap (λ n. take n c.deref-pair-items.result.now) all ∙ take-length c.deref-pair-items.result.now ∙ c.deref-pair-items.ensures.value
    ∙ sym (map.entries-from_sorted text_cmp c.self.inside.pairs.items c.self.invariant) ∙ ap map.entries c.self.view_is
