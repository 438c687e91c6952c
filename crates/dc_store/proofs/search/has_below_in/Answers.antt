use Rattle.std.proofs.Common.{is_some, sym, ap, ◌∙◌}
use Rattle.std.specs.Option.{option_copied}
use Rattle.dc_conf.specs.Trees.{shape}
use Rattle.dc_conf.specs.Plans.{leaves}
use Rattle.dc_store.proofs.BelowLemmas.{below_any}
use Rattle.dc_store.proofs.search.has_below_in.Goals as goal

pub returns-in-Some : goal.returns-in-Some
returns-in-Some g c =
    ap (λ o. is_some (option_copied o)) (sym c.in-Some.is) ∙ (ap is_some c.look_below_in.ensures ∙ below_any (g.L.Layers.states c.args.layers.now) c.args.name.now (leaves (shape c.args.plan.now)))

pub returns-in-None : goal.returns-in-None
returns-in-None g c =
    ap (λ o. is_some (option_copied o)) (sym c.in-None.is) ∙ (ap is_some c.look_below_in.ensures ∙ below_any (g.L.Layers.states c.args.layers.now) c.args.name.now (leaves (shape c.args.plan.now)))
