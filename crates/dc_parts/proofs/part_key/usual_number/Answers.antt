use Rattle.std.proofs.Common.{sym, ap, ◌∙◌}
use Rattle.std.specs.Ordering.{is_eq}
use Rattle.dc_parts.proofs.PackedLemmas.{is_usual, is_unusual}
use Rattle.dc_parts.proofs.part_key.usual_number.Goals as goal

pub returns-then-is_eq : goal.returns-then-is_eq
returns-then-is_eq c =
    is_usual c.args.mark c.number_like-number.result c.args.key.now c.usual_key.result.now c.usual_key.ensures
    (ap is_eq (sym c.compare.ensures) ∙ sym c.is_eq.ensures ∙ c.if-is_eq.true)

pub returns-else-is_eq : goal.returns-else-is_eq
returns-else-is_eq c =
    is_unusual c.args.mark c.number_like-number.result c.args.key.now c.usual_key.result.now c.usual_key.ensures c.number_like-number.ensures
    (ap is_eq (sym c.compare.ensures) ∙ sym c.is_eq.ensures ∙ c.if-is_eq.false)
