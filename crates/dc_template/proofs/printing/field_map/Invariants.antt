use Rattle.std.proofs.Common.{◌≡◌, take}
use Rattle.dc_template.proofs.printing.field_map.Given as goal

abbrev pub invariant-loop-key : goal.invariant-loop-key
invariant-loop-key l = l.entries ≡ take l.key-index l.fields
