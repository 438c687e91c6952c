use Rattle.std.proofs.Common.{rules}
use Rattle.dc_parts.proofs.PackedLemmas.{only_like}
use Rattle.dc_parts.proofs.part_key.number_like.Goals as goal

pub returns-then-mark-eq2 : goal.returns-then-mark-eq2
returns-then-mark-eq2 c = only_like c.args.mark c.args.count 7 (search rules)

pub returns-else-mark-eq2 : goal.returns-else-mark-eq2
returns-else-mark-eq2 c = only_like c.args.mark c.args.count 5 (search rules)

pub returns-in-5 : goal.returns-in-5
returns-in-5 c = only_like c.args.mark c.args.count 6 (search rules)

pub returns-in-7 : goal.returns-in-7
returns-in-7 c = only_like c.args.mark c.args.count 1 (search rules)

pub returns-in-8 : goal.returns-in-8
returns-in-8 c = only_like c.args.mark c.args.count 4 (search rules)

pub returns-in-11 : goal.returns-in-11
returns-in-11 c = only_like c.args.mark c.args.count 2 (search rules)

pub returns-in-20 : goal.returns-in-20
returns-in-20 c = only_like c.args.mark c.args.count 3 (search rules)

pub returns-in_default : goal.returns-in_default
returns-in_default c = only_like c.args.mark c.args.count 0 (search rules)
