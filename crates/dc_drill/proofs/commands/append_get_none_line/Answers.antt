use Rattle.dc_drill.specs.Commands.{get_none_line}
use Rattle.dc_drill.proofs.CommandLemmas.{line_put, nothing_put}
use Rattle.dc_drill.proofs.commands.append_get_none_line.Goals as goal

pub returns-in_ok-append : goal.returns-in_ok-append
returns-in_ok-append c = line_put 7 c.args.number get_none_line _ _ c.if-number-eq0.true c.in_ok-append.ensures.ok

pub returns-else-number-eq0 : goal.returns-else-number-eq0
returns-else-number-eq0 c = nothing_put 7 c.args.number get_none_line _ c.if-number-eq0.false
