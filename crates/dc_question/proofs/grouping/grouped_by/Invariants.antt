use Rattle.std.proofs.Common.{◌≡◌, map as each, take}
use Rattle.dc_question.specs.Losses.{held_at}
use Rattle.dc_question.proofs.grouping.grouped_by.Given as goal

abbrev pub invariant-loop-first : goal.invariant-loop-first
invariant-loop-first l = l.groups ≡ each (λ t. (t, held_at l.held t)) (take l.first-index l.firsts)
