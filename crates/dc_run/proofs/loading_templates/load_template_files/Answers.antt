use Rattle.std.proofs.Common.{refl, rules}
use Rattle.dc_run.proofs.LoadLemmas.{loaded_over}
use Rattle.dc_run.proofs.loading_templates.load_template_files.Goals as goal

pub returns : goal.returns
returns g c terminal untold policy asking =
    loaded_over _ _ _ _ c.args.paths.now _ _ c.args.last_code c.load_files-loaded.result _ _ _ (search rules) (search rules) (c.load_files-loaded.ensures.loads terminal untold policy asking) (search rules) (search rules) refl refl (search rules)
