use Rattle.std.proofs.Common.{arith}
use Rattle.dc_drill.proofs.CommandLemmas.{count_turn}
use Rattle.dc_drill.proofs.commands.command_count.Goals as goal

pub loop-before-preserved : goal.loop-before-preserved
loop-before-preserved c =
    (count_turn c.loop-before.before _ _ _ (omega arith) c.loop-before.invariant.0 c.count_at-sum.ensures.count, omega (arith, c.loop-before.invariant.1, c.count_at-sum.ensures.few))
