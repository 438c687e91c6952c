use Rattle.std.proofs.Common.{Ok, Err, map as each, refl}
use Rattle.dc_run.specs.World.{Ground, ground_of}
use Rattle.dc_run.proofs.RoundLemmas.{sends_of, was_saved, was_unmade, was_unsent}
use Rattle.dc_run.proofs.finishing.commit.Goals as goal

pub returns-in-Err : goal.returns-in-Err
returns-in-Err g c = was_unmade c.args.ended _ _ refl

pub returns-in-Ok-send_piped : goal.returns-in-Ok-send_piped
returns-in-Ok-send_piped g c =
    let left : Ground = ground_of (g.F.Files.files c.args.files.now) (g.L.Link.link c.args.io.now) (each (λ b. (goal.Layer-dyn g (b.vtable, b.value)).state b.value) c.args.layers.now) in
    let new : Ground = ground_of (g.F.Files.files c.save_asked.new.files) (g.L.Link.link c.send_piped.new.io) (each (λ b. (goal.Layer-dyn g (b.vtable, b.value)).state b.value) c.save_asked.new.layers) in
    was_saved c.args.ended left new c.end_at_save.result c.save_asked.result c.end_at_save.ensures
    (sends_of c.args.ended left new c.in-Ok.asked.text c.outgoing.result (Ok tt) c.send_piped.result c.outgoing.ensures c.in-Ok.ensures.text c.in-Ok-send_piped.is c.send_piped.ensures)
    c.save_asked.ensures.saves c.save_asked.ensures.counts c.save_asked.ensures.marked

pub returns-in-Err-send_piped : goal.returns-in-Err-send_piped
returns-in-Err-send_piped g c =
    let left : Ground = ground_of (g.F.Files.files c.args.files.now) (g.L.Link.link c.args.io.now) (each (λ b. (goal.Layer-dyn g (b.vtable, b.value)).state b.value) c.args.layers.now) in
    let new : Ground = ground_of (g.F.Files.files c.args.files.now) (g.L.Link.link c.send_piped.new.io) (each (λ b. (goal.Layer-dyn g (b.vtable, b.value)).state b.value) c.args.layers.now) in
    was_unsent c.args.ended left new c.end_unsent.result c.in-Err-send_piped.error c.end_unsent.ensures
    (sends_of c.args.ended left new c.in-Ok.asked.text c.outgoing.result (Err c.in-Err-send_piped.error) c.send_piped.result c.outgoing.ensures c.in-Ok.ensures.text c.in-Err-send_piped.is c.send_piped.ensures)
    refl refl
