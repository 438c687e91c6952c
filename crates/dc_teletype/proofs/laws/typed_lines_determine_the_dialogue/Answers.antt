use Rattle.dc_teletype.proofs.OutcomeLemmas.{comes_to}
use Rattle.dc_teletype.proofs.TypedLemmas.{one_rest, used_last}
use Rattle.dc_teletype.proofs.laws.typed_lines_determine_the_dialogue.Goals as goal

pub returns-clause-lines : goal.returns-clause-lines
returns-clause-lines c = comes_to

pub returns-clause-rest : goal.returns-clause-rest
returns-clause-rest c = one_rest

pub returns-clause-end : goal.returns-clause-end
returns-clause-end c = used_last
