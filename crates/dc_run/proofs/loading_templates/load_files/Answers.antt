use Rattle.std.proofs.Common.{◌∙◌, refl, false}
use Rattle.std.specs.Prelude.{◌||◌}
use Rattle.dc_run.specs.declared.outcome.ToolEnd.TheVariants as tool
use Rattle.dc_run.proofs.LoadLemmas.{none_loaded, one_ended, one_more, no_more, one_joined}
use Rattle.dc_run.proofs.loading_templates.load_files.Goals as goal

pub returns-in-Err-clause-loads : goal.returns-in-Err-clause-loads
returns-in-Err-clause-loads g c terminal untold policy asking =
    no_more _ c.args.paths.now _ _ c.in-Err.ended c.loop-rest.refused _
    (c.loop-rest.invariant.on terminal untold policy asking (record { ended = c.in-Err.ended; refused = false }) _ _
    (one_ended _ c.loop-rest.rest.now c.path-item.result _ _ _ _ c.in-len1-up.len_at_least c.path-item.is (c.in-Err.ensures.loads terminal untold policy asking)))

pub loop-rest-preserved : goal.loop-rest-preserved
loop-rest-preserved g c = record {
  on = λ terminal untold policy asking later err left loads.
      one_joined _ c.args.paths.now _ err later.ended c.loop-rest.refused c.in-Ok.is_refused later.refused c.either-refused.result left c.either-refused.ensures
      (c.loop-rest.invariant.on terminal untold policy asking (record { ended = later.ended; refused = c.in-Ok.is_refused || later.refused }) err left
      (one_more _ c.loop-rest.rest.now c.path-item.result _ _ _ c.in-Ok.is_refused _ _ _ later c.in-len1-up.len_at_least c.path-item.is refl (c.in-Ok.ensures.loads terminal untold policy asking) loads));
  kept = c.load_one.ensures.kept ∙ c.loop-rest.invariant.kept;
}

pub returns-clause-loads : goal.returns-clause-loads
returns-clause-loads g c terminal untold policy asking =
    no_more _ c.args.paths.now _ _ tool.Done c.loop-rest.refused _
    (c.loop-rest.invariant.on terminal untold policy asking (record { ended = tool.Done; refused = false }) _ _ (none_loaded _ c.loop-rest.rest.now _ c.in_default.len_below))
