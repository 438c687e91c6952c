use Rattle.std.proofs.Common.{Err, sym, ◌∙◌}
use Rattle.dc_preseed.specs.Selections.{Parts}
use Rattle.dc_preseed.proofs.SelectionLemmas.{few, no_names, nil-by-length}
use Rattle.dc_preseed.proofs.selections.read_parts.Goals as goal

pub returns-then-is_empty : goal.returns-then-is_empty
returns-then-is_empty c =
    let p : Parts = record { owner = c.args.owner.now; question = c.args.question.now; word = c.args.word.now; value = c.args.value.now } in
    few p (sym (nil-by-length c.args.word.now) ∙ sym c.is_empty.ensures ∙ c.if-is_empty.true)

pub returns-in-Err-Bad : goal.returns-in-Err-Bad
returns-in-Err-Bad c =
    let p : Parts = record { owner = c.args.owner.now; question = c.args.question.now; word = c.args.word.now; value = c.args.value.now } in
    no_names p (sym (nil-by-length c.args.word.now) ∙ sym c.is_empty.ensures ∙ c.if-is_empty.false)
    (c.in-Err-Bad.ensures.bad (λ i. Err (c.in-Err-Bad.field-0-is i)))
