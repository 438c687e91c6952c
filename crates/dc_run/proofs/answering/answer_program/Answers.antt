use Rattle.std.proofs.Common.{inl, inr, refl, sym, subst}
use Rattle.dc_outside.specs.Programs.{Program, IsRunning}
use Rattle.dc_run.proofs.answering.answer_program.Goals as goal

pub returns-in-Err-clause-answered : goal.returns-in-Err-clause-answered
returns-in-Err-clause-answered g c =
    inl (record { error = c.in-Err.error; ended_is = c.end_unstarted.ensures; starts = c.in-Err.ensures; io = refl; code_is = refl; waits = refl })

pub returns-in-Ok-clause-answered : goal.returns-in-Ok-clause-answered
returns-in-Ok-clause-answered g c = inr (record {
  mid = g.C.Link.link c.start.new.self;
  starts = c.in-Ok.ensures;
  ended = c.serve_requests.result;
  ended_is = c.answer_end.ensures;
  answered = c.serve_requests.ensures;
  code_is = refl;
  waits = refl;
})

pub returns-in-Ok-clause-running : goal.returns-in-Ok-clause-running
returns-in-Ok-clause-running g c started =
    subst (λ (p : Program). IsRunning p.life) (sym c.serve_requests.ensures.serves.program) (subst IsRunning (sym c.in-Ok.ensures.began.life) tt)
