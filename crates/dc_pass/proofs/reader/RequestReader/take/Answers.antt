use Rattle.std.proofs.Common.{Err, Some, ap, ◌∙◌}
use Rattle.std.proofs.lemmas.Result.{err_from_is_err_and}
use Rattle.dc_pass.specs.Machine.{lines_begun, is_begun}
use Rattle.dc_pass.specs.declared.begun.Step.{Step}
use Rattle.dc_pass.proofs.TakeLemmas.{takes_err, takes_begun, takes_call, stays_begun}
use Rattle.dc_pass.proofs.reader.RequestReader.take.Goals as goal

pub returns-in_err-begun : goal.returns-in_err-begun
returns-in_err-begun c =
    let p = err_from_is_err_and c.from_residual.result c.from_residual.ensures.1 in
    takes_err c.replace-begun.result c.args.line c.in_err-begun.field-0.0 c.args.self.now (lines_begun c.replace-begun.new.dest) c.from_residual.result (p.1 ∙ ap Err p.2)
    (ap lines_begun c.replace-begun.ensures.value ∙ c.self.view_is) (ap is_begun c.replace-begun.ensures.value ∙ c.self.invariant) c.in_err-begun.ensures (ap lines_begun c.replace-begun.ensures.after)

pub invariant_of-self-in-Begins : goal.invariant_of-self-in-Begins
invariant_of-self-in-Begins c =
    stays_begun c.replace-begun.result c.in-Begins.begun c.args.line (ap is_begun c.replace-begun.ensures.value ∙ c.self.invariant) (c.in_ok-begun.ensures ∙ ap (λ (s : Step). Some s) c.in-Begins.is)

pub returns-in-Begins : goal.returns-in-Begins
returns-in-Begins c =
    takes_begun c.replace-begun.result c.in-Begins.begun c.args.line c.args.self.now
    (ap lines_begun c.replace-begun.ensures.value ∙ c.self.view_is) (ap is_begun c.replace-begun.ensures.value ∙ c.self.invariant) (c.in_ok-begun.ensures ∙ ap (λ (s : Step). Some s) c.in-Begins.is)

pub returns-in-Completes : goal.returns-in-Completes
returns-in-Completes c = (
  takes_call c.replace-begun.result c.in-Completes.call c.args.line c.args.self.now
      (ap lines_begun c.replace-begun.ensures.value ∙ c.self.view_is) (ap is_begun c.replace-begun.ensures.value ∙ c.self.invariant) (c.in_ok-begun.ensures ∙ ap (λ (s : Step). Some s) c.in-Completes.is),
  ap lines_begun c.replace-begun.ensures.after,
)
