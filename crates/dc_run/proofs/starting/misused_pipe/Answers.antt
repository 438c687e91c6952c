use Rattle.std.proofs.Common.{sym, ◌∙◌}
use Rattle.dc_run.proofs.StartLemmas.{other_misuses}
use Rattle.dc_run.proofs.starting.misused_pipe.Goals as goal

pub returns-in_default : goal.returns-in_default
returns-in_default c = c.first_pipe.ensures ∙ sym (other_misuses c.args.used.now c.args.specs.now c.in_default.not-CopyDb)
