use Rattle.std.proofs.Common.{◌∙◌, refl}
use Rattle.dc_run.proofs.RootLemmas.{no_copy_by, roots_of_other, two_popped}
use Rattle.dc_run.proofs.starting.roots_of.Goals as goal

pub returns-in-Some-Some : goal.returns-in-Some-Some
returns-in-Some-Some c = record {
  conf = refl;
  plans = two_popped c.args.plans _ _ c.in-Some-Some.config c.in-Some-Some.templates (c.requires.count ∙ roots_of_other c.args.used.now c.args.conf c.in_default.not-CopyDb) c.in-Some-Some.ensures c.in-Some-Some.ensures';
  copy = no_copy_by c.args.used.now c.args.by_name c.args.by_owner c.in_default.not-CopyDb;
}
