use Rattle.std.proofs.Common.{◌≡◌, true, false}
use Rattle.dc_session.specs.SessionState.{session_of}
use Rattle.dc_session.proofs.BreakLemmas.{unsent_breaks}
use Rattle.dc_run.specs.Inside.{is_saving}
use Rattle.dc_run.proofs.SavingLemmas.{handled_alone, handled_saving, failed_saving}
use Rattle.dc_run.proofs.saving_session.SavingSessionLineMachine.handle.Goals as goal

pub returns-in-Err-sent_in-clause-err : goal.returns-in-Err-sent_in-clause-err
returns-in-Err-sent_in-clause-err g c =
    let old = session_of (λ b. (goal.Layer-dyn g (b.vtable, b.value)).state b.value) g.F.Files.files g.T.Link.link g.E.Link.link c.args.self.now.session in
    let mid = session_of (λ b. (goal.Layer-dyn g (b.vtable, b.value)).state b.value) g.F.Files.files g.T.Link.link g.E.Link.link c.step.new.self in
    unsent_breaks old mid c.args.line.now c.in-Ok.stepped c.in-Ok.ensures.ok

pub returns-then-not-asks-clause-ok : goal.returns-then-not-asks-clause-ok
returns-then-not-asks-clause-ok g c =
    let old = session_of (λ b. (goal.Layer-dyn g (b.vtable, b.value)).state b.value) g.F.Files.files g.T.Link.link g.E.Link.link c.args.self.now.session in
    let mid = session_of (λ b. (goal.Layer-dyn g (b.vtable, b.value)).state b.value) g.F.Files.files g.T.Link.link g.E.Link.link c.step.new.self in
    let other : is_saving c.in-Ok.stepped ≡ false = let is = c.is_saving-asks.ensures in let none = c.if-not-asks.true in cc in
    handled_alone old mid c.args.line.now c.in-Ok.stepped c.in-Ok-sent_in.did c.in-Ok.ensures.ok other (rw c.escape-escape.ensures at c.in-Ok-sent_in.ensures)

pub returns-in-Ok-save_session-clause-ok : goal.returns-in-Ok-save_session-clause-ok
returns-in-Ok-save_session-clause-ok g c =
    let old = session_of (λ b. (goal.Layer-dyn g (b.vtable, b.value)).state b.value) g.F.Files.files g.T.Link.link g.E.Link.link c.args.self.now.session in
    let mid = session_of (λ b. (goal.Layer-dyn g (b.vtable, b.value)).state b.value) g.F.Files.files g.T.Link.link g.E.Link.link c.step.new.self in
    let new = session_of (λ b. (goal.Layer-dyn g (b.vtable, b.value)).state b.value) g.F.Files.files g.T.Link.link g.E.Link.link c.save_session.new.session in
    let asks : is_saving c.in-Ok.stepped ≡ true = let is = c.is_saving-asks.ensures in let some = c.if-not-asks.false in cc in
    handled_saving old mid new c.args.line.now c.in-Ok.stepped c.in-Ok.ensures.ok asks c.in-Ok-sent_in.did (rw c.escape-escape.ensures at c.in-Ok-sent_in.ensures) c.in-Ok-save_session.ensures.saves

pub returns-in-Err-save_session-clause-err : goal.returns-in-Err-save_session-clause-err
returns-in-Err-save_session-clause-err g c =
    let old = session_of (λ b. (goal.Layer-dyn g (b.vtable, b.value)).state b.value) g.F.Files.files g.T.Link.link g.E.Link.link c.args.self.now.session in
    let mid = session_of (λ b. (goal.Layer-dyn g (b.vtable, b.value)).state b.value) g.F.Files.files g.T.Link.link g.E.Link.link c.step.new.self in
    let new = session_of (λ b. (goal.Layer-dyn g (b.vtable, b.value)).state b.value) g.F.Files.files g.T.Link.link g.E.Link.link c.save_session.new.session in
    let asks : is_saving c.in-Ok.stepped ≡ true = let is = c.is_saving-asks.ensures in let some = c.if-not-asks.false in cc in
    failed_saving old mid new c.args.line.now c.in-Ok.stepped c.in-Ok.ensures.ok asks c.in-Err-save_session.error c.in-Err-save_session.ensures.saves
