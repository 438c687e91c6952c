use Rattle.dc_run.proofs.RunSaves.{tool_saves}
use Rattle.dc_run.proofs.laws.saves_alone_change_the_disk.Goals as goal

pub returns : goal.returns
returns c = tool_saves
