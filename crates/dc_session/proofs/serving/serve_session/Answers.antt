use Rattle.std.proofs.Common.{◌∙◌}
use Rattle.dc_session.specs.Machine.{TakesLine, Aborts}
use Rattle.dc_session.proofs.ServeLemmas.{served_from}
use Rattle.dc_session.proofs.serving.serve_session.Goals as goal

pub returns : goal.returns
returns g c = record {
  served = served_from TakesLine Aborts _ _ _ _ _ c.serve_link-served.result.end c.finish_served.result.end _ _ _ c.serve_link-served.ensures.serves c.finish_served.ensures.code c.finish_served.ensures.rest c.finish_served.ensures.finishes;
  borrows = c.finish_served.ensures.borrows ∙ c.serve_link-served.ensures.borrows;
}
