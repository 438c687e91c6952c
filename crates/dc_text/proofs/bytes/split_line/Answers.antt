use Rattle.std.proofs.Common.{sym, ◌∙◌}
use Rattle.dc_text.proofs.LineLemmas.{lines_of_at, lines_of_none}
use Rattle.dc_text.proofs.bytes.split_line.Goals as goal

pub returns-in-Some-clause-lines : goal.returns-in-Some-clause-lines
returns-in-Some-clause-lines c = lines_of_at c.args.text.now c.in-Some.at (sym c.in-Some.is ∙ c.place_of.ensures)

pub returns-in-None-clause-lines : goal.returns-in-None-clause-lines
returns-in-None-clause-lines c = lines_of_none c.args.text.now c.requires (sym c.in-None.is ∙ c.place_of.ensures)
