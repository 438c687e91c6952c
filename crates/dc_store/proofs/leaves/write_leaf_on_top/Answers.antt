use Rattle.std.proofs.Common.{ap, ◌∙◌, length}
use Rattle.dc_store.proofs.Frames.{same_layers, kept}
use Rattle.dc_store.proofs.LeafLemmas.{held_done, changed_same, change_length}
use Rattle.dc_store.proofs.leaves.write_leaf_on_top.Goals as goal

pub returns-then-is_put_op-clause-others : goal.returns-then-is_put_op-clause-others
returns-then-is_put_op-clause-others g c = same_layers c.args.name.now _

pub returns-in-Ok-true-clause-done : goal.returns-in-Ok-true-clause-done
returns-in-Ok-true-clause-done g c _ =
    let is = c.in-Ok-true.ensures in
    held_done (g.L.Layers.states c.args.layers.now) _ c.args.place c.args.name.now c.args.op.now (is.writable cc) (is.there cc) (is.done cc)

pub returns-in-Ok-true-clause-others : goal.returns-in-Ok-true-clause-others
returns-in-Ok-true-clause-others g c = changed_same c.args.name.now (g.L.Layers.states c.args.layers.now) _ c.args.place c.args.op.now (c.in-Ok-true.ensures.done cc)

pub returns-in-Ok-true-clause-count : goal.returns-in-Ok-true-clause-count
returns-in-Ok-true-clause-count g c = ap length (c.in-Ok-true.ensures.done cc) ∙ change_length (g.L.Layers.states c.args.layers.now) c.args.place _

pub returns-in-Ok-false-clause-others : goal.returns-in-Ok-false-clause-others
returns-in-Ok-false-clause-others g c = kept c.args.name.now _ _ (c.in-Ok-false.ensures.not_taken cc)

pub returns-in-Err-clause-others : goal.returns-in-Err-clause-others
returns-in-Err-clause-others g c = kept c.args.name.now _ _ c.in-Err.ensures.err
