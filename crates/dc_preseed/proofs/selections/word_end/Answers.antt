use Rattle.std.proofs.Common.{length, ap, ◌∙◌}
use Rattle.std.specs.Prelude.{unwrap_or}
use Rattle.dc_text.specs.Bytes.{is_space}
use Rattle.dc_preseed.proofs.SelectionLemmas.{end-of-word}
use Rattle.dc_preseed.proofs.selections.word_end.Goals as goal

pub returns-clause-end : goal.returns-clause-end
returns-clause-end c = c.unwrap_or.ensures ∙ ap (λ o. unwrap_or o (length c.args.bytes.now)) c.first_space.ensures ∙ end-of-word is_space c.args.bytes.now
