use Rattle.std.proofs.Common.{sym, ◌∙◌}
use Rattle.std.specs.Prelude.{◌==◌}
use Rattle.dc_text.specs.Ascii.{space}
use Rattle.dc_teletype.proofs.WordLemmas.{split_at, split_nowhere}
use Rattle.dc_teletype.proofs.wrapping.split_word.Goals as goal

pub returns-in-Some-clause-words : goal.returns-in-Some-clause-words
returns-in-Some-clause-words c = split_at (λ byte. byte == space) c.args.line.now c.in-Some.at (sym c.in-Some.is ∙ c.place_of.ensures)

pub returns-in-None-clause-words : goal.returns-in-None-clause-words
returns-in-None-clause-words c = split_nowhere (λ byte. byte == space) c.args.line.now (sym c.in-None.is ∙ c.place_of.ensures)
