use Rattle.std.proofs.Common.{refl}
use Rattle.dc_drill.proofs.CommandLemmas.{lines_counted}
use Rattle.dc_drill.proofs.commands.count_at.Goals as goal

pub returns-clause-count : goal.returns-clause-count
returns-clause-count c = lines_counted c.args.number _ _ _ _ _ c.one_at_each.ensures.count c.one_at_each-2.ensures.count c.one_at_each-3.ensures.count c.one_at_each-4.ensures.count refl
