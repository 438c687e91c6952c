use Rattle.dc_store.proofs.Changes.{map_changed, map_kept}
use Rattle.dc_store.proofs.boxes.try_change_in.Goals as goal

pub returns-in-Ok-true-clause-done : goal.returns-in-Ok-true-clause-done
returns-in-Ok-true-clause-done g c _ =
    map_changed _ c.args.layers.now c.args.place c.index-layers-place.result c.try_change.new.layer _ c.requires.within (c.in-Ok-true.ensures.done cc)

pub returns-in-Ok-false-clause-not_taken : goal.returns-in-Ok-false-clause-not_taken
returns-in-Ok-false-clause-not_taken g c _ =
    map_kept _ c.args.layers.now c.args.place c.index-layers-place.result c.try_change.new.layer c.requires.within (c.in-Ok-false.ensures.not_taken cc)

pub returns-in-Err-clause-err : goal.returns-in-Err-clause-err
returns-in-Err-clause-err g c = map_kept _ c.args.layers.now c.args.place c.index-layers-place.result c.try_change.new.layer c.requires.within c.in-Err.ensures.err
