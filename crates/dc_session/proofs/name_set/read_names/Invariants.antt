use Rattle.std.proofs.Common.{◌≡◌, map as each, take}
use Rattle.dc_session.proofs.name_set.read_names.Given as goal

abbrev pub invariant-loop-mark : goal.invariant-loop-mark
invariant-loop-mark l = l.names ≡ each (λ k. k.items) (take l.mark-index l.marks)
