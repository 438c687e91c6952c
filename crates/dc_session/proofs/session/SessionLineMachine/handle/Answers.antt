use Rattle.dc_session.specs.contracts.session.SessionLineMachine.TheImpl.{ghosts}
use Rattle.dc_session.proofs.BreakLemmas.{unsent_breaks}
use Rattle.dc_session.proofs.session.SessionLineMachine.handle.Goals as goal

pub returns-in-Err-clause-err : goal.returns-in-Err-clause-err
returns-in-Err-clause-err g c =
    let session = ghosts g.row.F g.row.T g.row.E g.F.Files g.F.Files-dict g.T.Link g.T.Link-dict g.E.Link g.E.Link-dict g.dyn-1 in
    unsent_breaks (session.state c.args.self.now) (session.state c.step.new.self) c.args.line.now c.in_ok-stepped.stepped c.in_ok-stepped.ensures.ok
