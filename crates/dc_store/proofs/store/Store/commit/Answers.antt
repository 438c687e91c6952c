use Rattle.std.proofs.Common.{sym, subst}
use Rattle.dc_store.specs.Batches.{AllDistinct, names_of}
use Rattle.dc_store.proofs.RowLemmas.{same_store_refl}
use Rattle.dc_store.proofs.store.Store.commit.Goals as goal

pub do_all-requires-clause-distinct : goal.do_all-requires-clause-distinct
do_all-requires-clause-distinct g c = subst AllDistinct (sym c.take_all.ensures.taken) c.requires.distinct

pub returns-in_err-targets-clause-frame : goal.returns-in_err-targets-clause-frame
returns-in_err-targets-clause-frame g c = same_store_refl (names_of c.args.batch.now) _

pub returns-in_default-clause-frame : goal.returns-in_default-clause-frame
returns-in_default-clause-frame g c = same_store_refl (names_of c.args.batch.now) _
