use Rattle.std.proofs.Common.{rules}
use Rattle.dc_parts.proofs.PlaceLemmas.{from_sorted_none}
use Rattle.dc_parts.proofs.many.Many.take.Goals as goal

pub returns-clause-left : goal.returns-clause-left
returns-clause-left c = from_sorted_none c.replace.new.dest.items (search rules)
