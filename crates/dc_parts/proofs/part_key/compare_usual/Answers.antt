use Rattle.std.proofs.Common.{◌∷◌, sym, ◌∙◌}
use Rattle.dc_parts.proofs.NumberLemmas.{order_by_number}
use Rattle.dc_parts.proofs.part_key.compare_usual.Goals as goal

pub returns-in-Some : goal.returns-in-Some
returns-in-Some c =
    order_by_number c.in-Some.number c.args.other (c.args.key.mark ∷ c.args.key.key.now) c.cmp.result c.cmp.ensures (sym c.args.key.numbered ∙ c.in-Some.is) c.requires
