use Rattle.std.proofs.Common.{ℕ, List, subst}
use Rattle.dc_item.specs.Records.{Reads}
use Rattle.dc_item.specs.Table.{table_of}
use Rattle.dc_save.proofs.LoadedLemmas.{empty_still, untouched_still, loaded_then}
use Rattle.dc_save.proofs.loading.take_found.Goals as goal

pub take_records-requires-clause-empty : goal.take_records-requires-clause-empty
take_records-requires-clause-empty g c = empty_still c.args.spec.now _ _ c.args.found c.keep_found.ensures c.requires.empty

pub take_records-requires-clause-untouched : goal.take_records-requires-clause-untouched
take_records-requires-clause-untouched g c = untouched_still c.args.spec.now _ _ c.args.found c.keep_found.ensures c.requires.untouched

pub returns : goal.returns
returns g c = (
  c.in-Ok.records,
  subst (λ (text : List ℕ). Reads text c.in-Ok.records) c.bytes_in.ensures c.in-Ok.ensures,
  loaded_then c.args.spec.now _ _ c.args.found c.keep_found.ensures _ (table_of c.in-Ok.records) c.take_records.ensures,
)
