use Rattle.std.proofs.Common.{◌≡◌, ◌-◌}
use Rattle.dc_serve.proofs.Progress.{Progress}
use Rattle.dc_serve.proofs.serving.converse.Given as goal

abbrev pub invariant-loop-taken : goal.invariant-loop-taken
invariant-loop-taken g l = record {
  progress : Progress g.H.LineMachine.steps (g.L.Link.link l.fn.io).talk (g.L.Link.link l.io).talk (g.L.Link.link l.fn.io).input (g.L.Link.link l.io).input (g.H.LineMachine.state l.fn.machine) l.lines l.fn.last_code (g.H.LineMachine.state l.machine) l.last_code l.taken;
  borrows : g.H.LineMachine.borrows l.machine ≡ g.H.LineMachine.borrows l.fn.machine;
  counts : (g.L.Link.link l.io).counts ≡ (g.L.Link.link l.fn.io).counts;
  program : (g.L.Link.link l.io).program ≡ (g.L.Link.link l.fn.io).program;
}

abbrev pub decreases-loop-taken : goal.decreases-loop-taken
decreases-loop-taken g l = 1099511627776 - l.taken
