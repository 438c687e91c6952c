use Rattle.std.proofs.Common.{◌≡◌, take}
use Rattle.dc_text.proofs.lists.List.copy.Given as goal

abbrev pub invariant-loop-value : goal.invariant-loop-value
invariant-loop-value g l = l.copy ≡ take l.value-index l.value-items
