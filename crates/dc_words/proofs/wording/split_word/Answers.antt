use Rattle.std.proofs.Common.{sym, ◌∙◌}
use Rattle.dc_words.proofs.WordLemmas.{split_at_space, split_nowhere}
use Rattle.dc_words.proofs.wording.split_word.Goals as goal

pub returns-in-Some-clause-words : goal.returns-in-Some-clause-words
returns-in-Some-clause-words c = split_at_space c.args.line.now c.in-Some.at (sym c.in-Some.is ∙ c.first_space.ensures)

pub returns-in-None-clause-words : goal.returns-in-None-clause-words
returns-in-None-clause-words c = split_nowhere c.args.line.now (sym c.in-None.is ∙ c.first_space.ensures)
