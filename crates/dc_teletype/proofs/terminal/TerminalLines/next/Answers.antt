use Rattle.std.proofs.Common.{Err, sym, ap, ◌∙◌}
use Rattle.std.proofs.lemmas.Result.{err_from_is_err_and}
use Rattle.dc_teletype.specs.TerminalLines.{TypeAhead}
use Rattle.dc_teletype.proofs.ReadLemmas.{read_line, read_last, read_refused, read_stopped, read_on, unmoved, goes_on, none_there, still_open, ends_well, smaller}
use Rattle.dc_teletype.proofs.terminal.TerminalLines.next.Goals as goal

pub returns-in_err-line-clause-read : goal.returns-in_err-line-clause-read
returns-in_err-line-clause-read g c =
    let p = err_from_is_err_and c.from_residual.result c.from_residual.ensures.1 in
    read_refused c.loop-line.invariant.progress c.take_first.new.self c.from_residual.result (p.1 ∙ ap Err p.2)

pub returns-in-Some-clause-read : goal.returns-in-Some-clause-read
returns-in-Some-clause-read g c =
    let taken = rw c.in-Some.is at c.in_ok-line.ensures.taken in
    read_line c.loop-line.invariant.progress c.take_first.new.self c.in-Some.line taken c.in_ok-line.ensures.end

pub returns-then-self-clause-read : goal.returns-then-self-clause-read
returns-then-self-clause-read g c =
    let taken = rw c.in-None.is at c.in_ok-line.ensures.taken in
    let progress = goes_on c.loop-line.invariant.progress c.take_first.new.self (unmoved c.loop-line.self c.take_first.new.self taken c.in_ok-line.ensures.end) in
    read_last progress c.take_last.new.self c.take_last.result (none_there c.loop-line.self c.take_first.new.self taken) c.take_last.ensures.line c.take_last.ensures.none (c.take_last.ensures.end ∙ (sym (ap (λ (a : TypeAhead). a.has_ended) c.self.view_is) ∙ c.if-self.true))

pub loop-line-preserved : goal.loop-line-preserved
loop-line-preserved g c =
    let taken = rw c.in-None.is at c.in_ok-line.ensures.taken in
    let progress = goes_on c.loop-line.invariant.progress c.take_first.new.self (unmoved c.loop-line.self c.take_first.new.self taken c.in_ok-line.ensures.end) in
    record {
      progress = read_on progress (still_open c.loop-line.self c.take_first.new.self taken (sym (ap (λ (a : TypeAhead). a.has_ended) c.self.view_is) ∙ c.if-self.false)) c.read.new.self (g.L.Link.link c.read.new.link).talk (g.L.Link.link c.read.new.link).input c.in_ok-read.field-0 c.in_ok-read.ensures.brought;
      end = ends_well c.args.self.now c.take_first.new.self c.read.new.self (g.L.Link.link c.read.new.link).input (sym (ap (λ (a : TypeAhead). a.has_ended) c.self.view_is) ∙ c.if-self.false) c.in_ok-read.ensures.end;
      counts = c.in_ok-read.ensures.counts ∙ c.loop-line.invariant.counts;
      program = c.in_ok-read.ensures.program ∙ c.loop-line.invariant.program;
    }

pub returns-in_err-read-clause-read : goal.returns-in_err-read-clause-read
returns-in_err-read-clause-read g c =
    let taken = rw c.in-None.is at c.in_ok-line.ensures.taken in
    let progress = goes_on c.loop-line.invariant.progress c.take_first.new.self (unmoved c.loop-line.self c.take_first.new.self taken c.in_ok-line.ensures.end) in
    let p = err_from_is_err_and c.from_residual-in_err-read.result c.from_residual-in_err-read.ensures.1 in
    read_stopped progress (still_open c.loop-line.self c.take_first.new.self taken (sym (ap (λ (a : TypeAhead). a.has_ended) c.self.view_is) ∙ c.if-self.false)) c.read.new.self (g.L.Link.link c.read.new.link).talk (g.L.Link.link c.read.new.link).input c.in_err-read.field-0.0 c.in_err-read.ensures.brought
    c.from_residual-in_err-read.result (p.1 ∙ ap Err p.2)

pub loop-line-smaller : goal.loop-line-smaller
loop-line-smaller g c =
    let taken = rw c.in-None.is at c.in_ok-line.ensures.taken in
    smaller c.loop-line.self c.take_first.new.self c.read.new.self (unmoved c.loop-line.self c.take_first.new.self taken c.in_ok-line.ensures.end) (none_there c.loop-line.self c.take_first.new.self taken)
    (sym (ap (λ (a : TypeAhead). a.has_ended) c.self.view_is) ∙ c.if-self.false) c.in_ok-read.ensures.brought.pieces c.in_ok-read.ensures.brought.brings
