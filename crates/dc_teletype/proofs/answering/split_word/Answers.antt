use Rattle.std.proofs.Common.{sym, ◌∙◌}
use Rattle.dc_teletype.specs.Answers.{parts}
use Rattle.dc_teletype.proofs.WordLemmas.{split_at, split_nowhere}
use Rattle.dc_teletype.proofs.answering.split_word.Goals as goal

pub returns-in-Some-clause-words : goal.returns-in-Some-clause-words
returns-in-Some-clause-words c = split_at parts c.args.answer.now c.in-Some.at (sym c.in-Some.is ∙ c.place_of_parting.ensures)

pub returns-in-None-clause-words : goal.returns-in-None-clause-words
returns-in-None-clause-words c = split_nowhere parts c.args.answer.now (sym c.in-None.is ∙ c.place_of_parting.ensures)
