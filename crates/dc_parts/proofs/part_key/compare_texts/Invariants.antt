use Rattle.std.proofs.Common.{◌≡◌, length}
use Rattle.dc_text.specs.Maps.{text_cmp}
use Rattle.dc_parts.proofs.part_key.compare_texts.Given as goal

abbrev pub invariant-loop-behind : goal.invariant-loop-behind
invariant-loop-behind l = text_cmp l.rest l.other_rest ≡ text_cmp l.fn.text l.fn.other

abbrev pub decreases-loop-behind : goal.decreases-loop-behind
decreases-loop-behind l = length l.rest
