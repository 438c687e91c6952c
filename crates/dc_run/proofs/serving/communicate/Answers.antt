use Rattle.std.proofs.Common.{refl}
use Rattle.dc_run.specs.World.{run_state}
use Rattle.dc_run.specs.Roots.{shaped}
use Rattle.dc_run.proofs.RunLemmas.{was_communicated}
use Rattle.dc_run.proofs.serving.communicate.Goals as goal

pub returns : goal.returns
returns g c = record {
  served = (
    c.serve_for-served.ensures.0,
    λ child. was_communicated
        (run_state (g.L.Link.link c.args.io.now) child (g.E.Link.link c.args.err.now) _ _ c.args.ahead.now c.args.last_code)
        (shaped c.args.roots.now) c.args.settings.now c.args.owner.now _ _ _ c.serve_for-served.result.end c.args.last_code c.serve_for-served.result.last_code _ c.chosen.result c.chosen.ensures _ refl
        c.tool_end.ensures refl refl c.serve_for-served.ensures.1,
  );
}
