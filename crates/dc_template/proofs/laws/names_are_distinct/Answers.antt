use Rattle.dc_template.proofs.NameLemmas.{names_apart}
use Rattle.dc_template.proofs.laws.names_are_distinct.Goals as goal

pub returns : goal.returns
returns c = names_apart
