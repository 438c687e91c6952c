use Rattle.std.proofs.Common.{◌≡◌, ◌++◌, drop, map as each}
use Rattle.dc_text.specs.Lines.{text_of}
use Rattle.dc_item.specs.Printed.{shown_field}
use Rattle.dc_item.specs.Sections.{under, fields_mark}
use Rattle.dc_item.proofs.printing.print_fields.Given as goal

abbrev pub invariant-loop-key : goal.invariant-loop-key
invariant-loop-key l =
    l.text ++ text_of (each shown_field (under fields_mark (each (λ e. (e.0.now, e.1.now)) (drop l.key-index l.entries))))
    ≡ l.initial.text ++ text_of (each shown_field (under fields_mark (each (λ e. (e.0.now, e.1.now)) l.entries)))
