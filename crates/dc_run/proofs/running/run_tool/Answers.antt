use Rattle.std.proofs.Common.{refl}
use Rattle.dc_run.specs.Roots.{shaped}
use Rattle.dc_run.specs.World.{World, links_of, world}
use Rattle.dc_run.proofs.RunLemmas.{ended_before, ended_after}
use Rattle.dc_run.proofs.running.run_tool.Goals as goal

pub returns-in-Err : goal.returns-in-Err
returns-in-Err g c =
    let old : World = (world (g.L.Link.link c.args.io.now) (g.C.Link.link c.args.child.now) (g.E.Link.link c.args.err.now) (g.F.Files.files c.args.files.now) (λ b. (goal.Layer-dyn g b).state b.1) c.args.shelf.now) in
    let new : World = (world (g.L.Link.link c.start.new.io) (g.C.Link.link c.args.child.now) (g.E.Link.link c.end_run.new.err) (g.F.Files.files c.start.new.files) (λ b. (goal.Layer-dyn g b).state b.1) c.start.new.shelf) in
    record { ran = (_, ended_before c.args.tool.now c.args.settings.now old new c.end_run.result c.in-Err.end c.in-Err.ensures.starts refl c.end_run.ensures.said c.end_run.ensures.outcome) }

pub returns-in-Ok : goal.returns-in-Ok
returns-in-Ok g c =
    let old : World = (world (g.L.Link.link c.args.io.now) (g.C.Link.link c.args.child.now) (g.E.Link.link c.args.err.now) (g.F.Files.files c.args.files.now) (λ b. (goal.Layer-dyn g b).state b.1) c.args.shelf.now) in
    let new : World = record { stock = _; links = links_of (g.L.Link.link c.finish_used-how.new.io) (g.C.Link.link c.await_program-end.new.child); err = g.E.Link.link c.end_run-in-Ok.new.err } in
    record {
      ran = (
        _,
        ended_after c.args.tool.now c.args.settings.now old new c.end_run-in-Ok.result c.await_program-end.result.0
            _ (shaped c.in-Ok.roots) c.new-ahead.result _ c.use_tool-answer.result c.use_tool-answer.ensures.does.0 c.finish_used-how.result
            c.await_program-end.result.1 c.new-ahead.ensures c.in-Ok.ensures.starts c.use_tool-answer.ensures.does.1
            (rw (← c.keeps_changes.ensures) c.finish_used-how.ensures) c.await_program-end.ensures c.end_run-in-Ok.ensures.said c.end_run-in-Ok.ensures.outcome,
      );
    }
