use Rattle.dc_store.proofs.RowLemmas.{same_store_refl}
use Rattle.dc_tools.proofs.copying.copy_items.Goals as goal

pub returns-in_err-listed-clause-frame : goal.returns-in_err-listed-clause-frame
returns-in_err-listed-clause-frame g c = same_store_refl _ _
