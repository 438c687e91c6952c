use Rattle.std.proofs.Common.{◌∙◌}
use Rattle.dc_preseed.proofs.SelectLemmas.{served_so}
use Rattle.dc_preseed.proofs.taking.serve_selections.Goals as goal

pub returns : goal.returns
returns g c = record {
  selected = served_so _ _ _ _ _ c.serve_link-end.result.end c.finish-end.result _ _ c.serve_link-end.ensures.serves c.finish-end.ensures.finishes;
  borrows = c.finish-end.ensures.borrows ∙ c.serve_link-end.ensures.borrows;
}
