use Rattle.std.proofs.Common.{◌≡◌, true, sym, ap, ◌∙◌, length}
use Rattle.dc_item.specs.After.{after_at}
use Rattle.dc_store.specs.Holders.{item_at}
use Rattle.dc_store.specs.Writes.{is_change, is_open_at}
use Rattle.dc_store.proofs.Frames.{same_layers, kept}
use Rattle.dc_store.proofs.LeafLemmas.{leaf_done, open_taken, changed_same, change_length}
use Rattle.dc_store.proofs.leaves.write_leaf.Goals as goal

pub returns-in_err-does_change-clause-others : goal.returns-in_err-does_change-clause-others
returns-in_err-does_change-clause-others g c = same_layers c.args.name.now _

pub returns-then-not-branch-clause-others : goal.returns-then-not-branch-clause-others
returns-then-not-branch-clause-others g c = same_layers c.args.name.now _

pub returns-in_err-is_open_at-clause-others : goal.returns-in_err-is_open_at-clause-others
returns-in_err-is_open_at-clause-others g c = same_layers c.args.name.now _

pub returns-then-not-branch-2-clause-others : goal.returns-then-not-branch-2-clause-others
returns-then-not-branch-2-clause-others g c = same_layers c.args.name.now _

pub returns-in_err-change_at-clause-others : goal.returns-in_err-change_at-clause-others
returns-in_err-change_at-clause-others g c = kept c.args.name.now _ _ c.in_err-change_at.ensures.err

pub returns-clause-others : goal.returns-clause-others
returns-clause-others g c = changed_same c.args.name.now (g.L.Layers.states c.args.layers.now) _ c.args.place c.args.op.now c.in_ok-change_at.ensures.ok

pub returns-clause-count : goal.returns-clause-count
returns-clause-count g c = ap length c.in_ok-change_at.ensures.ok ∙ change_length (g.L.Layers.states c.args.layers.now) c.args.place _

pub change_at-requires : goal.change_at-requires
change_at-requires g c =
    let ls = g.L.Layers.states c.args.layers.now in
    let changes : is_change (after_at c.args.op.now (item_at ls c.args.place c.args.name.now)) ≡ true =
    ap (λ o. is_change (after_at c.args.op.now o)) (sym (c.item_at-item.ensures ∙ ap (item_at ls c.args.place) c.bytes.ensures.value)) ∙ (sym c.in_ok-does_change.ensures ∙ c.if-not-branch.false) in
    let takes : is_open_at ls c.args.name.now c.args.kind c.args.place ≡ true = sym c.in_ok-is_open_at.ensures ∙ c.if-not-branch-2.false in
    record { within = c.requires; taken = open_taken ls c.args.place c.args.name.now c.args.kind c.args.op.now changes takes }

pub returns-clause-ok : goal.returns-clause-ok
returns-clause-ok g c =
    let ls = g.L.Layers.states c.args.layers.now in
    let changes : is_change (after_at c.args.op.now (item_at ls c.args.place c.args.name.now)) ≡ true =
    ap (λ o. is_change (after_at c.args.op.now o)) (sym (c.item_at-item.ensures ∙ ap (item_at ls c.args.place) c.bytes.ensures.value)) ∙ (sym c.in_ok-does_change.ensures ∙ c.if-not-branch.false) in
    let takes : is_open_at ls c.args.name.now c.args.kind c.args.place ≡ true = sym c.in_ok-is_open_at.ensures ∙ c.if-not-branch-2.false in
    leaf_done ls _ c.args.place c.args.name.now c.args.kind c.args.op.now changes takes c.in_ok-change_at.ensures.ok
