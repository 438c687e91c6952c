use Rattle.std.proofs.Common.{◌≡◌, ◌<◌, ◌-◌, Some, drop, length, ap, sym, subst, ◌∙◌, arith, ◌∷◌, []}
use Rattle.dc_conf.specs.declared.nodes.Form.TheVariants.{Stacks, Backs, Tells}
use Rattle.dc_conf.specs.Configuration.{ArePlans}
use Rattle.dc_conf.specs.Nodes.{form_at}
use Rattle.dc_conf.specs.Trees.{shapes}
use Rattle.dc_conf.proofs.PlanLemmas.{rank, below, below_here, name_there, first_there, second_there}
use Rattle.dc_conf.proofs.resolving.+plan_in.Goals as goal

pub plan_in-requires : goal.plan_in-requires
plan_in-requires t c =
    let more = c.loop-index-test.true in
    let form : form_at c.args.nodes.now c.args.name.now ≡ Some (Stacks c.as_slice-names.result.now) =
    c.form_at.ensures ∙ ap Some c.in-Stacks.is ∙ ap (λ ns. Some (Stacks ns)) (sym c.as_slice-names.ensures) in
    let under = below c.args.nodes.now c.requires.made c.args.name.now (Stacks c.as_slice-names.result.now) c.bytes-name.result.now form
    (name_there c.as_slice-names.result.now _ _ c.bytes-name.result.now (omega arith) (c.bytes-name.ensures ∙ c.index-names-names.is)) in
    (subst (λ m. rank c.args.nodes.now c.bytes-name.result.now < m) c.decreases under.fewer_reached, (under.known, c.requires.made))

pub plan_in-requires-in-Backs : goal.plan_in-requires-in-Backs
plan_in-requires-in-Backs t c =
    let under = below_here c.args.nodes.now c.requires.made c.args.name.now (Backs c.in-Backs.db c.in-Backs.backupdb) c.in-Backs.db c.bytes.result.now
    (c.form_at.ensures ∙ ap Some c.in-Backs.is) (first_there c.in-Backs.db (c.in-Backs.backupdb ∷ [])) c.bytes.ensures in
    (subst (λ m. rank c.args.nodes.now c.bytes.result.now < m) c.decreases under.fewer_reached, (under.known, c.requires.made))

pub plan_in-requires-in-Backs-2 : goal.plan_in-requires-in-Backs-2
plan_in-requires-in-Backs-2 t c =
    let under = below_here c.args.nodes.now c.requires.made c.args.name.now (Backs c.in-Backs.db c.in-Backs.backupdb) c.in-Backs.backupdb c.bytes-in-Backs.result.now
    (c.form_at.ensures ∙ ap Some c.in-Backs.is) (second_there c.in-Backs.db c.in-Backs.backupdb []) c.bytes-in-Backs.ensures in
    (subst (λ m. rank c.args.nodes.now c.bytes-in-Backs.result.now < m) c.decreases under.fewer_reached, (under.known, c.requires.made))

pub plan_in-requires-in-Tells : goal.plan_in-requires-in-Tells
plan_in-requires-in-Tells t c =
    let under = below_here c.args.nodes.now c.requires.made c.args.name.now (Tells c.in-Tells.db) c.in-Tells.db c.bytes-in-Tells.result.now
    (c.form_at.ensures ∙ ap Some c.in-Tells.is) (first_there c.in-Tells.db []) c.bytes-in-Tells.ensures in
    (subst (λ m. rank c.args.nodes.now c.bytes-in-Tells.result.now < m) c.decreases under.fewer_reached, (under.known, c.requires.made))

pub returns-after-loop-index : goal.returns-after-loop-index
returns-after-loop-index t c =
    let reached = c.loop-index-test.false in
    let none : length c.as_slice-names.result.now - c.loop-index.index ≡ 0 = omega arith in (
      c.as_slice-names.result.now,
      c.form_at.ensures ∙ ap Some c.in-Stacks.is ∙ ap (λ ns. Some (Stacks ns)) (sym c.as_slice-names.ensures),
      subst (λ k. ArePlans c.args.nodes.now c.args.specs.now (shapes c.loop-index.plans) (drop k c.as_slice-names.result.now)) none c.loop-index.invariant,
    )
