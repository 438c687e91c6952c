use Rattle.std.proofs.Common.{sym}
use Rattle.dc_item.proofs.ItemLemmas.{keys-none, keys-one}
use Rattle.dc_item.proofs.owners.in_order.Goals as goal

pub returns-in-empty-clause-value : goal.returns-in-empty-clause-value
returns-in-empty-clause-value c = keys-none c.args.names (rw (sym c.as_slice.ensures) c.in-empty.len_below)

pub returns-in-len1-clause-value : goal.returns-in-len1-clause-value
returns-in-len1-clause-value c = keys-one c.args.names (rw (sym c.as_slice.ensures) c.in-len1.len_at_least) (rw (sym c.as_slice.ensures) c.in-len1.len_below)
