use Rattle.dc_shelf.specs.Shelves.{sources_of}
use Rattle.dc_shelf.proofs.LoadLemmas.{got_at, is_loaded_at}
use Rattle.dc_shelf.proofs.loading.load_at.Goals as goal

pub load_one-requires : goal.load_one-requires
load_one-requires g c = c.requires.set _ (got_at _ c.args.layers.now c.args.place c.index-layers-place.result c.requires.within)

pub returns : goal.returns
returns g c =
    is_loaded_at _ c.args.layers.now c.args.place c.index-layers-place.result c.load_one.new.layer c.requires.within c.args.spec.now
    (sources_of (g.F.Files.files c.args.files.now) (g.L.Link.link c.args.link.now)) (sources_of (g.F.Files.files c.load_one.new.files) (g.L.Link.link c.load_one.new.link))
    c.load_one.result c.load_one.ensures
