use Rattle.std.proofs.Common.{◌≡◌}
use Rattle.dc_session.specs.contracts.session.SessionLineMachine.TheImpl.{ghosts}
use Rattle.dc_session.proofs.AskingLemmas.{IsMarked}
use Rattle.dc_session.proofs.session.Session.finish.Given as goal

abbrev pub invariant-loop-name : goal.invariant-loop-name
invariant-loop-name g l =
    let session = ghosts g.row.F g.row.T g.row.E g.F.Files g.F.Files-dict g.T.Link g.T.Link-dict g.E.Link g.E.Link-dict g.dyn-1 in
    IsMarked (session.state l.fn.self) l.name-items l.name-index (session.state l.self) × (session.borrows l.self ≡ session.borrows l.fn.self)
