use Rattle.dc_run.proofs.SavingLemmas.{same_session}
use Rattle.dc_run.proofs.saving_session.save_session.Goals as goal

pub returns-clause-saves : goal.returns-clause-saves
returns-clause-saves g c = record {
  is = c.save_desk.ensures.is;
  new_is = same_session _ _ _ _ _ _ _ _ _ _ _ _ _ c.save_desk.ensures.layers c.save_desk.ensures.told c.save_desk.ensures.context c.save_desk.ensures.owner;
}
