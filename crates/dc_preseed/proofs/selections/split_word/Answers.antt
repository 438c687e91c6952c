use Rattle.std.proofs.Common.{drop, not, ap, ◌∙◌}
use Rattle.dc_text.specs.Bytes.{is_space, drop_front}
use Rattle.dc_text.proofs.LineLemmas.{to_end}
use Rattle.dc_preseed.proofs.SelectionLemmas.{behind-word}
use Rattle.dc_preseed.proofs.selections.split_word.Goals as goal

pub returns-clause-rest : goal.returns-clause-rest
returns-clause-rest c =
    to_end c.word_end-end.result c.without_gap-begins.result.now ∙ ap (λ n. drop n c.without_gap-begins.result.now) c.word_end-end.ensures.end
    ∙ behind-word is_space c.without_gap-begins.result.now ∙ ap (drop_front (λ x. not (is_space x))) c.without_gap-begins.ensures
