use Rattle.std.proofs.Common.{sym, ◌∙◌}
use Rattle.dc_template.proofs.TestLemmas.{before_place, before_none}
use Rattle.dc_template.proofs.languages.without_encoding.Goals as goal

pub returns-in-Some : goal.returns-in-Some
returns-in-Some c = before_place _ c.args.lang.now c.in-Some.at (sym c.place_of_encoding.ensures ∙ c.in-Some.is)

pub returns-in-None : goal.returns-in-None
returns-in-None c = before_none _ c.args.lang.now (sym c.place_of_encoding.ensures ∙ c.in-None.is)
