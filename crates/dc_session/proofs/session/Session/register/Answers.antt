use Rattle.dc_session.proofs.CommandLemmas.{register_does_by}
use Rattle.dc_session.proofs.session.Session.register.Goals as goal

pub returns-clause-does : goal.returns-clause-does
returns-clause-does g c =
    register_does_by _ _ _ c.register-done.ensures.frame.context _ _ _ c.bytes.ensures c.register-done.ensures.frame.others c.register-done.result c.register-done.ensures.does c.confirm.result c.confirm.ensures
