use Rattle.dc_store.proofs.Changes.{map_changed, map_kept}
use Rattle.dc_store.proofs.boxes.land_in.Goals as goal

pub returns-in-Ok-clause-ok : goal.returns-in-Ok-clause-ok
returns-in-Ok-clause-ok g c = map_changed _ c.args.layers.now c.args.place c.index-layers-place.result c.put.new.layer _ c.requires.within c.in-Ok.ensures.ok

pub returns-in-Err-clause-err : goal.returns-in-Err-clause-err
returns-in-Err-clause-err g c = map_kept _ c.args.layers.now c.args.place c.index-layers-place.result c.put.new.layer c.requires.within c.in-Err.ensures.err
