use Rattle.dc_template.proofs.ReadAgain.{read_again}
use Rattle.dc_template.proofs.laws.printed_templates_are_read.Goals as goal

pub returns : goal.returns
returns c = read_again
