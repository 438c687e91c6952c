use Rattle.dc_session.proofs.CommandLemmas.{unreadable_loads, missing_loads, faulty_loads, templates_load}
use Rattle.dc_session.proofs.session.Session.take_found.Goals as goal

pub returns-in-Unreadable-clause-comes : goal.returns-in-Unreadable-clause-comes
returns-in-Unreadable-clause-comes g c = rw c.in-Unreadable.is (unreadable_loads _ c.args.owner.now c.says.result c.says.ensures)

pub returns-in-Missing-clause-comes : goal.returns-in-Missing-clause-comes
returns-in-Missing-clause-comes g c = rw c.in-Missing.is (missing_loads _ c.args.owner.now c.says-in-Missing.result c.says-in-Missing.ensures)

pub returns-in-Faulty-clause-comes : goal.returns-in-Faulty-clause-comes
returns-in-Faulty-clause-comes g c = rw c.in-Faulty.is (faulty_loads _ c.args.owner.now _ c.faulty.result c.faulty.ensures)

pub returns-in-Templates-clause-comes : goal.returns-in-Templates-clause-comes
returns-in-Templates-clause-comes g c =
    rw c.in-Templates.is
    (templates_load _ _ _ _ c.load_templates-done.ensures.frame.context _ c.load_templates-done.ensures.frame.others c.load_templates-done.result c.load_templates-done.ensures.does c.confirm.result c.confirm.ensures)
