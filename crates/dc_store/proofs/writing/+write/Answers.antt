use Rattle.dc_store.proofs.Frames.{same_layers, same_layers_then}
use Rattle.dc_store.proofs.writing.+write.Goals as goal

pub write_first_in-returns-then-holds_in-clause-others : goal.write_first_in-returns-then-holds_in-clause-others
write_first_in-returns-then-holds_in-clause-others g t c = same_layers c.args.name.now _

pub write_first_in-returns-in-End-clause-others : goal.write_first_in-returns-in-End-clause-others
write_first_in-returns-in-End-clause-others g t c = same_layers c.args.name.now _

pub write_held_in-returns-in-End-clause-others : goal.write_held_in-returns-in-End-clause-others
write_held_in-returns-in-End-clause-others g t c = same_layers c.args.name.now _

pub write_in-returns-in-Ok-write_in-clause-others : goal.write_in-returns-in-Ok-write_in-clause-others
write_in-returns-in-Ok-write_in-clause-others g t c = same_layers_then c.args.name.now _ _ _ c.in_ok-write_in-in-Backup.ensures.others c.in-Ok-write_in.ensures.others

pub write_above_in-returns-in_err-effect-clause-others : goal.write_above_in-returns-in_err-effect-clause-others
write_above_in-returns-in_err-effect-clause-others g t c = same_layers c.args.name.now _

pub write_above_in-returns-in-Same-clause-others : goal.write_above_in-returns-in-Same-clause-others
write_above_in-returns-in-Same-clause-others g t c = same_layers c.args.name.now _

pub write_above_in-returns-in_err-at-clause-others : goal.write_above_in-returns-in_err-at-clause-others
write_above_in-returns-in_err-at-clause-others g t c = same_layers c.args.name.now _

pub write_above_in-returns-in-Same-2-clause-others : goal.write_above_in-returns-in-Same-2-clause-others
write_above_in-returns-in-Same-2-clause-others g t c = same_layers c.args.name.now _

pub write_above_in-returns-in-Gone-2-clause-others : goal.write_above_in-returns-in-Gone-2-clause-others
write_above_in-returns-in-Gone-2-clause-others g t c = same_layers c.args.name.now _

pub write_in-returns-in-Backup-clause-others : goal.write_in-returns-in-Backup-clause-others
write_in-returns-in-Backup-clause-others g t c = same_layers_then c.args.name.now _ _ _ c.in_ok-write_in-in-Backup.ensures.others c.write_in-in-Some.ensures.others
