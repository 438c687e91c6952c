use Rattle.std.proofs.Common.{◌≡◌, ◌++◌, List, length}
use Rattle.dc_words.specs.declared.stream.Line.{Line}
use Rattle.dc_words.specs.Stream.{whole_lines, rest_of}
use Rattle.dc_serve.specs.declared.outcome.Served.TheVariants.{On}
use Rattle.dc_serve.specs.Inside.{HasServed}
use Rattle.dc_serve.proofs.serving.serve_held.Given as goal

abbrev pub invariant-loop-line : goal.invariant-loop-line
invariant-loop-line g l = record {
  gone : (gone : List Line) × (whole_lines l.fn.lines ≡ gone ++ whole_lines l.lines)
      × HasServed g.H.LineMachine.steps g.H.LineMachine.aborts (g.L.Link.link l.fn.io).talk (g.L.Link.link l.io).talk (g.H.LineMachine.state l.fn.machine) gone On l.fn.last_code (g.H.LineMachine.state l.machine) l.last_code;
  borrows : g.H.LineMachine.borrows l.machine ≡ g.H.LineMachine.borrows l.fn.machine;
  counts : (g.L.Link.link l.io).counts ≡ (g.L.Link.link l.fn.io).counts;
  only_said : g.L.Link.link l.io ≡ record (g.L.Link.link l.fn.io) { talk = (g.L.Link.link l.io).talk; counts = (g.L.Link.link l.io).counts };
  rest : rest_of l.lines ≡ rest_of l.fn.lines;
}

abbrev pub decreases-loop-line : goal.decreases-loop-line
decreases-loop-line g l = length l.lines
