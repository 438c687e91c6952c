use Rattle.std.proofs.Common.{◌≡◌, true, ap, subst, ◌∙◌}
use Rattle.std.specs.List.{AllByRecursion}
use Rattle.dc_conf.specs.Configuration.{IsPlan}
use Rattle.dc_conf.specs.Nodes.{is_node}
use Rattle.dc_conf.specs.Trees.{shape}
use Rattle.dc_conf.proofs.PlanLemmas.{Planning, planning_starts, planning_turn, planning_ends, nothing_left}
use Rattle.dc_conf.proofs.TestLemmas.{list_apart}
use Rattle.dc_conf.proofs.resolving.plans_of.Goals as goal

pub loop-rest-init : goal.loop-rest-init
loop-rest-init c = record {
  plans = planning_starts c.args.nodes.now c.args.specs.now c.new-plans.result c.args.roots.now c.new-plans.ensures;
  known = c.requires.known;
}

pub plan_in-requires : goal.plan_in-requires
plan_in-requires c =
    let whole = list_apart c.loop-rest.rest.now c.root-item.result c.in-len1-up.len_at_least c.root-item.is in
    record {
      known = ap (is_node c.args.nodes.now) c.bytes.ensures ∙ (subst (AllByRecursion (λ root. is_node c.args.nodes.now root ≡ true)) whole c.loop-rest.invariant.known).0;
      made = c.requires.made;
    }

pub loop-rest-preserved : goal.loop-rest-preserved
loop-rest-preserved c =
    let whole = list_apart c.loop-rest.rest.now c.root-item.result c.in-len1-up.len_at_least c.root-item.is in
    record {
      plans = planning_turn c.args.nodes.now c.args.specs.now c.loop-rest.plans c.push.new.self c.loop-rest.rest.now _ c.args.roots.now c.in_ok-plan_in.field-0 c.root-item.result
          whole c.in_ok-push.ensures.ok (subst (IsPlan c.args.nodes.now c.args.specs.now (shape c.in_ok-plan_in.field-0)) c.bytes.ensures c.in_ok-plan_in.ensures) c.loop-rest.invariant.plans;
      known = (subst (AllByRecursion (λ root. is_node c.args.nodes.now root ≡ true)) whole c.loop-rest.invariant.known).1;
    }

pub returns : goal.returns
returns c =
    planning_ends c.args.nodes.now c.args.specs.now c.loop-rest.plans c.args.roots.now
    (subst (λ rest. Planning c.args.nodes.now c.args.specs.now c.loop-rest.plans rest c.args.roots.now) (nothing_left c.loop-rest.rest.now c.in_default.len_below) c.loop-rest.invariant.plans)
