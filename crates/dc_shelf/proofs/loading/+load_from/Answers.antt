use Rattle.std.proofs.Common.{◌<◌, length, arith, add-one, ◌∙◌}
use Rattle.dc_shelf.specs.Shelves.{sources_of}
use Rattle.dc_shelf.proofs.LoadLemmas.{set_at, loads_on, loads_end, take_less}
use Rattle.dc_shelf.proofs.loading.+load_from.Goals as goal

pub load_at-requires-clause-set : goal.load_at-requires-clause-set
load_at-requires-clause-set g t c =
    let within : c.args.place < length c.args.specs.now = omega arith in
    set_at c.args.specs.now _ c.args.place c.index-specs-place.result within c.index-specs-place.is c.requires.set

pub returns-in-Ok-clause-loads : goal.returns-in-Ok-clause-loads
returns-in-Ok-clause-loads g t c =
    let within : c.args.place < length c.args.specs.now = omega arith in
    loads_on c.args.specs.now _ _ c.args.place c.index-specs-place.result
    (sources_of (g.F.Files.files c.args.files.now) (g.L.Link.link c.args.link.now)) (sources_of (g.F.Files.files c.load_at.new.files) (g.L.Link.link c.load_at.new.link))
    within c.index-specs-place.is _ (sources_of (g.F.Files.files c.load_from.new.files) (g.L.Link.link c.load_from.new.link)) c.in-Ok.field-0 c.load_from.result
    c.in-Ok.ensures c.load_from.ensures.loads c.load_from.ensures.kept

pub returns-in-Ok-clause-kept : goal.returns-in-Ok-clause-kept
returns-in-Ok-clause-kept g t c = take_less c.args.place _ _ (rw (← add-one) c.load_from.ensures.kept) ∙ c.in-Ok.ensures.kept

pub returns-in-Err-clause-loads : goal.returns-in-Err-clause-loads
returns-in-Err-clause-loads g t c =
    let within : c.args.place < length c.args.specs.now = omega arith in
    loads_end c.args.specs.now _ _ c.args.place c.index-specs-place.result
    (sources_of (g.F.Files.files c.args.files.now) (g.L.Link.link c.args.link.now)) (sources_of (g.F.Files.files c.load_at.new.files) (g.L.Link.link c.load_at.new.link))
    within c.index-specs-place.is c.in-Err.error c.in-Err.ensures
