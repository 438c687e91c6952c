use Rattle.dc_tools.proofs.ShowLemmas.{hidden}
use Rattle.dc_tools.proofs.laws.lines_hide_passwords.Goals as goal

pub returns : goal.returns
returns c = hidden
