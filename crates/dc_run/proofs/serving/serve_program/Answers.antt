use Rattle.std.proofs.Common.{refl, ap, ◌∙◌}
use Rattle.std.specs.Option.{option_or}
use Rattle.dc_run.specs.World.{run_state}
use Rattle.dc_run.specs.Roots.{shaped}
use Rattle.dc_run.proofs.RunLemmas.{was_served_for}
use Rattle.dc_run.proofs.serving.serve_program.Goals as goal

pub returns : goal.returns
returns g c = record {
  served = (
    c.serve_for-served.ensures.0,
    λ command. was_served_for c.args.asking.now.owner.now c.args.asking.now.frontend c.args.asking.now.priority command
        (run_state (g.L.Link.link c.args.io.now) (g.C.Link.link c.args.child.now) (g.E.Link.link c.args.err.now) _ _ c.args.ahead.now c.args.last_code)
        (shaped c.args.roots.now) c.args.settings.now _ _ _ c.serve_for-served.result.end c.args.last_code c.serve_for-served.result.last_code _ c.chosen_frontend.result c.first_of.result
        c.chosen_frontend.ensures (c.first_of.ensures ∙ ap (option_or c.args.asking.now.priority) c.chosen.ensures) _ refl c.tool_end.ensures refl c.serve_for-served.ensures.1,
  );
}
