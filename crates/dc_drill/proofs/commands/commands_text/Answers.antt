use Rattle.std.proofs.Common.{◌+◌, arith}
use Rattle.dc_drill.proofs.CommandLemmas.{text_turn}
use Rattle.dc_drill.proofs.commands.commands_text.Goals as goal

pub loop-before-preserved : goal.loop-before-preserved
loop-before-preserved c = text_turn c.loop-before.before (c.loop-before.before + 1) _ _ (omega arith) c.loop-before.invariant c.in_ok-append_commands.ensures
