use Rattle.dc_answer.proofs.HeedLemmas.{held_comes}
use Rattle.dc_answer.proofs.answerer.hold.Goals as goal

pub returns-in-Ok : goal.returns-in-Ok
returns-in-Ok g c =
    let held = c.in-Ok.ensures in
    held_comes c.args.backup c.args.title.now c.args.shown.now _ _ c.in-Ok.asked c.reply.result
    (record { held = held.held; ends = held.end; counts = held.counts; program = held.program }) c.reply.ensures
