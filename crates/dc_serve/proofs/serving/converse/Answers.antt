use Rattle.std.proofs.Common.{◌≡◌, ◌≢◌, ◌≤◌, ℕ, List, take, length, refl, inl, inr, sym, ap, subst, arith, ◌∙◌}
use Rattle.std.proofs.lemmas.Bool.{ne_eqb}
use Rattle.std.proofs.lemmas.List.{length-take-le}
use Rattle.dc_outside.specs.Counts.{Counts, FaultRose, RefusalRose}
use Rattle.dc_outside.specs.State.{LinkState}
use Rattle.dc_outside.specs.declared.link.Piece.TheVariants.{Got}
use Rattle.dc_serve.specs.Calls.{IsSound}
use Rattle.dc_serve.specs.Inside.{ServedCounts}
use Rattle.dc_serve.specs.declared.outcome.Served.TheVariants.{On}
use Rattle.dc_serve.proofs.EndCounts.{ended_counts}
use Rattle.dc_serve.proofs.Progress.{progress_start, run_lost, run_refused, run_unfed, run_ended, run_stopped, run_too_long, goes_on}
use Rattle.dc_serve.proofs.Talks.{prepend-nil}
use Rattle.dc_serve.proofs.serving.converse.Goals as goal

some_came : (count : ℕ) (buf : List ℕ) → count ≢ 0 → count ≤ length buf → length buf ≤ 65536 → IsSound (Got (take count buf))
some_came count buf some within small = let count_is : length (take count buf) ≡ count = length-take-le count buf within in (omega arith, omega arith)

pub loop-taken-init : goal.loop-taken-init
loop-taken-init g c = rw c.new-lines.ensures (record {
  progress = progress_start g.H.LineMachine.steps g.H.LineMachine.aborts (g.L.Link.link c.args.io.now).talk (g.L.Link.link c.args.io.now).input (g.H.LineMachine.state c.args.machine.now) c.args.last_code;
  borrows = refl;
  counts = refl;
  program = refl;
})

pub returns-then-count-eq0-clause-serves : goal.returns-then-count-eq0-clause-serves
returns-then-count-eq0-clause-serves g c =
    let read = rw c.if-count-eq0.true at c.in-Ok.ensures in
    let served = c.serve_rest-served in
    let lines = served.ensures.served in
    let mid : LinkState = g.L.Link.link c.read_some.new.self in
    let new : LinkState = g.L.Link.link served.new.io in
    let counts : mid.counts ≡ (g.L.Link.link c.args.io.now).counts = ap (λ (k : LinkState). k.counts) read.state ∙ c.loop-taken.invariant.counts in
    rw (c.link_end.ensures) (record {
      run = run_ended g.H.LineMachine.aborts c.loop-taken.invariant.progress mid.talk new.talk mid.input new.input served.result (g.H.LineMachine.state served.new.machine) served.new.last_code
          (ap (λ (k : LinkState). k.talk) read.state) read.took (read.end refl) c.loop-taken-test.true lines.served (ap (λ (k : LinkState). k.input) lines.rest);
      counts = ended_counts served.result _ _ (subst (λ (k : Counts). ServedCounts served.result k new.counts) counts lines.counts);
      program = ap (λ (k : LinkState). k.program) lines.rest ∙ ap (λ (k : LinkState). k.program) read.state ∙ c.loop-taken.invariant.program;
    })

pub returns-in-Err-Failed-clause-serves : goal.returns-in-Err-Failed-clause-serves
returns-in-Err-Failed-clause-serves g c =
    let read = rw c.in-Err-Failed.field-0-is at c.in-Err-Failed.ensures in
    let mid : LinkState = g.L.Link.link c.read_some.new.self in
    record {
      run = run_lost g.H.LineMachine.aborts c.loop-taken.invariant.progress mid.talk mid.input
          (ap (λ (k : LinkState). k.talk) read.state) (sym (ap (λ (k : LinkState). k.input) read.state) ∙ prepend-nil mid.input) c.loop-taken-test.true;
      counts = subst (λ (k : Counts). FaultRose k mid.counts) c.loop-taken.invariant.counts read.rose;
      program = ap (λ (k : LinkState). k.program) read.state ∙ c.loop-taken.invariant.program;
    }

pub returns-in-Err-OutOfMemory-clause-serves : goal.returns-in-Err-OutOfMemory-clause-serves
returns-in-Err-OutOfMemory-clause-serves g c =
    let read = rw c.in-Err-OutOfMemory.field-0-is at c.in-Err-OutOfMemory.ensures in
    let mid : LinkState = g.L.Link.link c.read_some.new.self in
    record {
      run = run_refused g.H.LineMachine.aborts c.loop-taken.invariant.progress mid.talk mid.input
          (ap (λ (k : LinkState). k.talk) read.state) (ap (λ (k : LinkState). k.input) read.state);
      counts = inl (subst (λ (k : Counts). RefusalRose k mid.counts) c.loop-taken.invariant.counts read.rose);
      program = ap (λ (k : LinkState). k.program) read.state ∙ c.loop-taken.invariant.program;
    }

pub returns-in-Err-clause-serves : goal.returns-in-Err-clause-serves
returns-in-Err-clause-serves g c =
    let small : length c.read_some.new.buf ≤ 65536 = omega arith in
    let came_some = some_came c.in-Ok.count c.read_some.new.buf c.if-count-eq0.false c.in-Ok.ensures.bound small in
    let mid : LinkState = g.L.Link.link c.read_some.new.self in
    record {
      run = run_unfed g.H.LineMachine.aborts c.loop-taken.invariant.progress mid.talk mid.input (take c.in-Ok.count c.read_some.new.buf) came_some
          (rw (ne_eqb c.in-Ok.count 0 c.if-count-eq0.false) at (ap (λ (k : LinkState). k.talk) c.in-Ok.ensures.state)) (rw (ne_eqb c.in-Ok.count 0 c.if-count-eq0.false) at c.in-Ok.ensures.took);
      counts = inr (ap (λ (k : LinkState). k.counts) c.in-Ok.ensures.state ∙ c.loop-taken.invariant.counts);
      program = ap (λ (k : LinkState). k.program) c.in-Ok.ensures.state ∙ c.loop-taken.invariant.program;
    }

pub loop-taken-preserved : goal.loop-taken-preserved
loop-taken-preserved g c =
    let some = ne_eqb c.in-Ok.count 0 c.if-count-eq0.false in
    let said = rw some at (ap (λ (k : LinkState). k.talk) c.in-Ok.ensures.state) in
    let came = rw some at c.in-Ok.ensures.took in
    let small : length c.read_some.new.buf ≤ 65536 = omega arith in
    let came_some = some_came c.in-Ok.count c.read_some.new.buf c.if-count-eq0.false c.in-Ok.ensures.bound small in
    let count : length (take c.in-Ok.count c.read_some.new.buf) ≡ c.in-Ok.count = length-take-le c.in-Ok.count c.read_some.new.buf c.in-Ok.ensures.bound in
    let lines = c.in-On.ensures.served in
    let mid : LinkState = g.L.Link.link c.read_some.new.self in
    let new : LinkState = g.L.Link.link c.serve_held.new.io in
    record {
      progress = rw (← count)
          (goes_on g.H.LineMachine.aborts c.loop-taken.invariant.progress mid.talk new.talk mid.input new.input
          (take c.in-Ok.count c.read_some.new.buf) c.feed.new.self On (g.H.LineMachine.state c.serve_held.new.machine) c.serve_held.new.last_code
          came_some said came c.in-Ok-feed.ensures.fed lines.served (ap (λ (k : LinkState). k.input) lines.rest)
          c.serve_held.new.lines refl (c.in-On.ensures.none_left refl) c.in-On.ensures.rest);
      borrows = c.in-On.ensures.borrows ∙ c.loop-taken.invariant.borrows;
      counts = lines.counts ∙ ap (λ (k : LinkState). k.counts) c.in-Ok.ensures.state ∙ c.loop-taken.invariant.counts;
      program = ap (λ (k : LinkState). k.program) lines.rest ∙ ap (λ (k : LinkState). k.program) c.in-Ok.ensures.state ∙ c.loop-taken.invariant.program;
    }

pub returns-in_default-clause-serves : goal.returns-in_default-clause-serves
returns-in_default-clause-serves g c =
    let some = ne_eqb c.in-Ok.count 0 c.if-count-eq0.false in
    let said = rw some at (ap (λ (k : LinkState). k.talk) c.in-Ok.ensures.state) in
    let came = rw some at c.in-Ok.ensures.took in
    let small : length c.read_some.new.buf ≤ 65536 = omega arith in
    let came_some = some_came c.in-Ok.count c.read_some.new.buf c.if-count-eq0.false c.in-Ok.ensures.bound small in
    let lines = c.serve_held.ensures.served in
    let mid : LinkState = g.L.Link.link c.read_some.new.self in
    let new : LinkState = g.L.Link.link c.serve_held.new.io in
    let counts : mid.counts ≡ (g.L.Link.link c.args.io.now).counts = ap (λ (k : LinkState). k.counts) c.in-Ok.ensures.state ∙ c.loop-taken.invariant.counts in
    rw (c.link_end-in_default.ensures) (record {
      run = run_stopped g.H.LineMachine.aborts c.loop-taken.invariant.progress mid.talk new.talk mid.input new.input
          (take c.in-Ok.count c.read_some.new.buf) c.feed.new.self c.serve_held.result (g.H.LineMachine.state c.serve_held.new.machine) c.serve_held.new.last_code
          came_some said came c.in-Ok-feed.ensures.fed lines.served (ap (λ (k : LinkState). k.input) lines.rest) c.in_default.not-On;
      counts = ended_counts c.serve_held.result _ _ (subst (λ (k : Counts). ServedCounts c.serve_held.result k new.counts) counts lines.counts);
      program = ap (λ (k : LinkState). k.program) lines.rest ∙ ap (λ (k : LinkState). k.program) c.in-Ok.ensures.state ∙ c.loop-taken.invariant.program;
    })

pub returns-clause-serves : goal.returns-clause-serves
returns-clause-serves g c = record {
  run = run_too_long g.H.LineMachine.aborts c.loop-taken.invariant.progress c.loop-taken-test.false;
  counts = c.loop-taken.invariant.counts;
  program = c.loop-taken.invariant.program;
}
