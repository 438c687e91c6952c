use Rattle.dc_conf.proofs.RowLemmas.{widening_turn, widening_ends, widening_here}
use Rattle.dc_conf.proofs.webs.widen.Goals as goal

pub widen_row-requires : goal.widen_row-requires
widen_row-requires c =
    widening_here (λ row. row.items) c.args.place c.args.through.now c.args.rows.now c.loop-index.rows c.loop-index.index _ c.loop-index-test.true c.loop-index.invariant c.requires

pub loop-index-preserved : goal.loop-index-preserved
loop-index-preserved c =
    widening_turn (λ row. row.items) c.args.place c.args.through.now c.args.rows.now c.loop-index.rows c.loop-index.index c.widen_row.new.row _ c.loop-index-test.true
    c.loop-index.invariant c.widen_row.ensures

pub returns : goal.returns
returns c = widening_ends (λ row. row.items) c.args.place c.args.through.now c.args.rows.now c.loop-index.rows c.loop-index.index c.loop-index-test.false c.loop-index.invariant
