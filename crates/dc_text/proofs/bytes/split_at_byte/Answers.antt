use Rattle.dc_text.proofs.LineLemmas.{split_some, split_none}
use Rattle.std.proofs.Common.{sym, ◌∙◌}
use Rattle.dc_text.proofs.bytes.split_at_byte.Goals as goal

pub returns-in-Some : goal.returns-in-Some
returns-in-Some c = split_some c.args.byte c.args.bytes.now c.in-Some.at (sym c.place_of.ensures ∙ c.in-Some.is)

pub returns-in-None : goal.returns-in-None
returns-in-None c = split_none c.args.byte c.args.bytes.now (sym c.place_of.ensures ∙ c.in-None.is)
