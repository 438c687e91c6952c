use Rattle.dc_tools.proofs.CopyLemmas.{same_store}
use Rattle.dc_tools.proofs.copying.CopyTask.copy_named.Goals as goal

pub returns-in_err-chosen_at-clause-frame : goal.returns-in_err-chosen_at-clause-frame
returns-in_err-chosen_at-clause-frame g c = same_store _ _

pub returns-in-None-clause-frame : goal.returns-in-None-clause-frame
returns-in-None-clause-frame g c = same_store _ _
