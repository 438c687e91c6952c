use Rattle.std.proofs.Common.{◌≡◌, IfOk, ap, subst, ◌∙◌}
use Rattle.std.specs.FinMap.{keys}
use Rattle.dc_text.specs.Maps.{set_of}
use Rattle.dc_question.proofs.GroupLemmas.{grouped_is}
use Rattle.dc_question.proofs.grouping.grouped.Goals as goal

pub returns : goal.returns
returns c =
    let is = grouped_is c.args.pairs.now c.as_slice-2.result.now c.in_ok-held.held (c.as_slice-2.ensures ∙ c.in_ok-in_order.ensures.value ∙ ap (λ names. keys (set_of names)) c.in_ok-firsts.ensures)
    c.in_ok-held.ensures in
    subst (λ made. IfOk c.grouped_by.result (λ groups. groups ≡ made)) is c.grouped_by.ensures
