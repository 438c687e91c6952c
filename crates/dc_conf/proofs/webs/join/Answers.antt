use Rattle.std.proofs.Common.{sym}
use Rattle.dc_conf.proofs.RowLemmas.{join_turn, joined_nothing}
use Rattle.dc_conf.proofs.webs.join.Goals as goal

pub loop-index-init : goal.loop-index-init
loop-index-init c = sym (joined_nothing c.args.row.now)

pub loop-index-preserved : goal.loop-index-preserved
loop-index-preserved c =
    join_turn c.args.row.now c.loop-index.row c.args.other.now c.loop-index.index c.either.result c.loop-index-test.true c.requires c.loop-index.invariant c.either.ensures
