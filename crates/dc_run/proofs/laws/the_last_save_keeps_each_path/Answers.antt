use Rattle.std.proofs.Common.{[], ◌∷◌}
use Rattle.dc_run.proofs.CrashLemmas.{kept_by_one}
use Rattle.dc_run.proofs.Kills.{over_then}
use Rattle.dc_run.proofs.laws.the_last_save_keeps_each_path.Goals as goal

pub returns : goal.returns
returns c over save before since after are done at apart durable =
    let now = over_then over (save ∷ []) before after since are done durable at in
    kept_by_one save since after now.are apart now.durable
