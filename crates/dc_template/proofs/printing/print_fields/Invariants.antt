use Rattle.std.proofs.Common.{◌≡◌, ◌++◌, drop}
use Rattle.std.specs.List.{flat_map}
use Rattle.dc_text.specs.Lines.{text_of}
use Rattle.dc_template.specs.Printed.{field_lines}
use Rattle.dc_template.proofs.printing.print_fields.Given as goal

abbrev pub invariant-loop-key : goal.invariant-loop-key
invariant-loop-key l = l.out ++ text_of (flat_map (field_lines l.fields) (drop l.key-index l.listed)) ≡ l.initial.out ++ text_of (flat_map (field_lines l.fields) l.listed)
