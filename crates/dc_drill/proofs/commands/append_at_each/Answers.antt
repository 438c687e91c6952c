use Rattle.dc_drill.proofs.CommandLemmas.{line_put, nothing_put}
use Rattle.dc_drill.proofs.commands.append_at_each.Goals as goal

pub returns-in_ok-append_about : goal.returns-in_ok-append_about
returns-in_ok-append_about c = line_put c.args.step c.args.number _ _ _ c.if-number-step-eq0.true c.in_ok-append_about.ensures

pub returns-else-number-step-eq0 : goal.returns-else-number-step-eq0
returns-else-number-step-eq0 c = nothing_put c.args.step c.args.number _ _ c.if-number-step-eq0.false
