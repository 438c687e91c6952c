use Rattle.dc_store.proofs.LawLemmas.{holder_topmost, topmost_holder, holder_none}
use Rattle.dc_store.proofs.laws.holders_are_topmost.Goals as goal

pub returns : goal.returns
returns c = record { found = holder_topmost; topmost = topmost_holder; none = holder_none }
