use Rattle.std.proofs.Common.{◌≡◌, Ok, drop, sym, ap, subst, ◌∙◌}
use Rattle.dc_preseed.specs.Selections.{Parts, IsSaid, parts_of, first_word, behind_word}
use Rattle.dc_preseed.proofs.selections.read_selection.Goals as goal

pub returns : goal.returns
returns c =
    let rest : c.split_word-2.result.1.now ≡ behind_word (behind_word c.args.line.now) = c.split_word-2.ensures.rest ∙ ap behind_word c.split_word.ensures.rest in
    let value : c.without_first.result.now ≡ (parts_of c.args.line.now).value = c.without_first.ensures ∙ ap (drop 1) (c.split_word-3.ensures.rest ∙ ap behind_word rest) in
    let parts : ◌≡◌ {A = Parts} (record {
      owner = c.split_word.result.0.now;
      question = c.split_word-2.result.0.now;
      word = c.split_word-3.result.0.now;
      value = c.without_first.result.now;
    }) (parts_of c.args.line.now) = λ i. record {
      owner = c.split_word.ensures.word i;
      question = (c.split_word-2.ensures.word ∙ ap first_word c.split_word.ensures.rest) i;
      word = (c.split_word-3.ensures.word ∙ ap first_word rest) i;
      value = value i;
    } in
    (sym c.is_silent.ensures ∙ c.if-is_silent.false, subst (λ p. IsSaid p (Ok c.in_ok-selection.selection)) parts c.in_ok-selection.ensures)
