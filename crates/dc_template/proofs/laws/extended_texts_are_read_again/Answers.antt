use Rattle.dc_template.proofs.RowLemmas.{extended_again}
use Rattle.dc_template.proofs.laws.extended_texts_are_read_again.Goals as goal

pub returns : goal.returns
returns c = extended_again
