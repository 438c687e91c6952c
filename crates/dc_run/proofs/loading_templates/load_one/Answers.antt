use Rattle.dc_run.proofs.LoadLemmas.{gone_through}
use Rattle.dc_run.proofs.loading_templates.load_one.Goals as goal

pub returns-clause-loads : goal.returns-clause-loads
returns-clause-loads g c terminal untold policy asking =
    gone_through _ _ _ c.in-Ok-load_file.ended (c.in-Ok-load_file.ensures.loads terminal untold policy asking) _ _ _ _ _ _ (c.take_told-told.ensures.left terminal untold policy asking)
    (c.take_told-told.ensures.told terminal untold policy asking) (let h = c.is_unreadable.ensures in let i = c.if-is_unreadable.false in cc) c.is_refused.ensures c.tell_file.ensures c.tell_text.ensures
