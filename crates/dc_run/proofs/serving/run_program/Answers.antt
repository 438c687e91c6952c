use Rattle.std.proofs.Common.{refl, sym, subst}
use Rattle.dc_outside.specs.Programs.{Program, IsRunning}
use Rattle.dc_run.specs.World.{links_of}
use Rattle.dc_run.proofs.RunLemmas.{not_started, started_so}
use Rattle.dc_run.proofs.serving.run_program.Goals as goal

pub returns-in-Err-clause-ran : goal.returns-in-Err-clause-ran
returns-in-Err-clause-ran g c =
    not_started c.args.command.now _ (links_of (g.L.Link.link c.args.io.now) (g.C.Link.link c.args.child.now)) (links_of (g.L.Link.link c.args.io.now) (g.C.Link.link c.start.new.self))
    c.args.last_code _ _ c.in-Err.error c.end_unstarted.ensures c.in-Err.ensures refl refl refl refl

pub returns-in-Ok-clause-ran : goal.returns-in-Ok-clause-ran
returns-in-Ok-clause-ran g c = (
  c.serve_program.ensures.served.0,
  started_so c.args.command.now _ (links_of (g.L.Link.link c.args.io.now) (g.C.Link.link c.args.child.now)) (links_of (g.L.Link.link c.serve_program.new.io) (g.C.Link.link c.serve_program.new.child))
      c.args.last_code _ _ (g.C.Link.link c.start.new.self) _ c.in-Ok.ensures (c.serve_program.ensures.served.1 c.args.command.now) refl,
)

pub returns-in-Ok-clause-running : goal.returns-in-Ok-clause-running
returns-in-Ok-clause-running g c started =
    subst (λ (p : Program). IsRunning p.life) (sym (c.serve_program.ensures.served.1 c.args.command.now).served.by.program) (subst IsRunning (sym c.in-Ok.ensures.began.life) tt)
