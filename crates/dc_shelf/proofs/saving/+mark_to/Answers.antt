use Rattle.std.proofs.Common.{◌≡◌, ◌-◌, suc, arith}
use Rattle.dc_shelf.proofs.MarkLemmas.{marked_more, same_asked}
use Rattle.dc_shelf.proofs.saving.+mark_to.Goals as goal

pub mark_to-requires : goal.mark_to-requires
mark_to-requires g t c = (omega arith, (omega arith, same_asked (c.args.count - 1) _ _ _ c.mark_last.ensures.marked c.mark_last.ensures.left))

pub returns : goal.returns
returns g t c =
    let one : suc (c.args.count - 1) ≡ c.args.count = omega arith in
    rw (← one) (marked_more (c.args.count - 1) _ _ _ c.mark_last.ensures.marked c.mark_to.ensures)
