use Rattle.std.proofs.Common.{◌∙◌, inr, sym}
use Rattle.dc_outside.proofs.LinkLemmas.{only_said_more}
use Rattle.dc_words.specs.Stream.{whole_lines}
use Rattle.dc_serve.proofs.Serve.{broken_off, ended_at, gone_more}
use Rattle.dc_serve.proofs.serving.serve_held.Goals as goal

pub returns-in-Err-clause-served : goal.returns-in-Err-clause-served
returns-in-Err-clause-served g c =
    let gone = c.loop-line.invariant.gone in
    record {
      served = broken_off (whole_lines c.args.lines.now) (whole_lines c.loop-line.lines) gone.2 gone.1;
      counts = inr c.loop-line.invariant.counts;
      rest = c.loop-line.invariant.only_said;
    }

pub returns-in_default-clause-served : goal.returns-in_default-clause-served
returns-in_default-clause-served g c =
    let gone = c.loop-line.invariant.gone in
    let first = rw c.in-Ok-Some.field-0-is at c.in-Ok-Some.ensures.line in
    let here = c.serve_taken.ensures.served in
    record {
      served = ended_at (whole_lines c.args.lines.now) (whole_lines c.loop-line.lines) (whole_lines c.next.new.self) gone.2 here.served gone.1 first c.in_default.not-On;
      counts = rw (sym c.loop-line.invariant.counts) here.counts;
      rest = only_said_more (g.L.Link.link c.args.io.now) (g.L.Link.link c.loop-line.io) (g.L.Link.link c.serve_taken.new.io) c.loop-line.invariant.only_said here.rest;
    }

pub loop-line-preserved : goal.loop-line-preserved
loop-line-preserved g c =
    let gone = c.loop-line.invariant.gone in
    let first = rw c.in-Ok-Some.field-0-is at c.in-Ok-Some.ensures.line in
    record {
      gone = gone_more (whole_lines c.args.lines.now) (whole_lines c.loop-line.lines) (whole_lines c.next.new.self) gone.2 c.in-On.ensures.served.served gone.1 first;
      borrows = c.in-On.ensures.borrows ∙ c.loop-line.invariant.borrows;
      counts = c.in-On.ensures.served.counts ∙ c.loop-line.invariant.counts;
      only_said = only_said_more (g.L.Link.link c.args.io.now) (g.L.Link.link c.loop-line.io) (g.L.Link.link c.serve_taken.new.io) c.loop-line.invariant.only_said c.in-On.ensures.served.rest;
      rest = c.in-Ok-Some.ensures.rest ∙ c.loop-line.invariant.rest;
    }
