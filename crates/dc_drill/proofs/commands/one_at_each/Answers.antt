use Rattle.std.proofs.Common.{length, ap, sym}
use Rattle.dc_drill.proofs.CommandLemmas.{there, not_there}
use Rattle.dc_drill.proofs.commands.one_at_each.Goals as goal

pub returns-then-number-step-eq0-clause-count : goal.returns-then-number-step-eq0-clause-count
returns-then-number-step-eq0-clause-count c line = ap length (sym (there c.args.step c.args.number line c.if-number-step-eq0.true))

pub returns-else-number-step-eq0-clause-count : goal.returns-else-number-step-eq0-clause-count
returns-else-number-step-eq0-clause-count c line = ap length (sym (not_there c.args.step c.args.number line c.if-number-step-eq0.false))
