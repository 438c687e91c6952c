use Rattle.dc_shelf.proofs.ShelfLemmas.{refused_if}
use Rattle.dc_shelf.proofs.shelf.+set_up_from.Goals as goal

pub returns-in-Ok-clause-refused : goal.returns-in-Ok-clause-refused
returns-in-Ok-clause-refused g t c = refused_if c.args.place c.args.specs.now c.spec-item.result c.in-len1-up.len_at_least c.spec-item.is c.in-Ok.ensures.built c.set_up_from.result c.set_up_from.ensures.refused
