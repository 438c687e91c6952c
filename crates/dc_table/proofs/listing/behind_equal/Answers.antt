use Rattle.std.proofs.Common.{◌≡◌, take, sym, ap, ◌∙◌}
use Rattle.std.specs.Int.{to_be_bytes, w64}
use Rattle.dc_text.specs.Maps.{text_cmp}
use Rattle.dc_table.proofs.FrontLemmas.{equal_fronts}
use Rattle.dc_table.proofs.listing.behind_equal.Goals as goal

pub returns-then-as_number-clause-order : goal.returns-then-as_number-clause-order
returns-then-as_number-clause-order c =
    let one = c.args.one.now in
    let other = c.args.other.now in
    let cut = c.in_ok-front.ensures.cases in
    let other_cut = c.in_ok-other_front.ensures.cases in
    let fronts : take 8 one ≡ take 8 other = sym cut.0 ∙ sym c.as_number.ensures.alone ∙ ap (to_be_bytes w64) c.if-as_number.true ∙ c.as_number-2.ensures.alone ∙ other_cut.0 in
    (λ i. text_cmp (cut.1 i) (other_cut.1 i)) ∙ equal_fronts 8 one other fronts
