use Rattle.dc_shelf.proofs.LoadLemmas.{got_at}
use Rattle.dc_shelf.proofs.MarkLemmas.{is_marked_at}
use Rattle.dc_shelf.proofs.saving.mark_at.Goals as goal

pub mark_one-requires : goal.mark_one-requires
mark_one-requires g c = c.requires.asked _ (got_at _ c.args.layers.now c.args.place c.index-layers-place.result c.requires.within)

pub returns : goal.returns
returns g c = is_marked_at _ c.args.layers.now c.args.place c.index-layers-place.result c.mark_one.new.layer c.requires.within c.mark_one.ensures
