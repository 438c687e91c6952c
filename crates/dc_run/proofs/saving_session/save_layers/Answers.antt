use Rattle.dc_run.proofs.RoundLemmas.{kept_marked}
use Rattle.dc_run.proofs.saving_session.save_layers.Goals as goal

pub returns : goal.returns
returns g c = record {
  is = record { saves = c.save_all.ensures.saves; counts = c.save_all.ensures.counts };
  layers = kept_marked _ _ c.save_all.result c.save_all.ensures.marked;
}
