use Rattle.std.proofs.Common.{◌++◌, map as each, ap, ◌∙◌}
use Rattle.dc_text.specs.Lines.{text_of}
use Rattle.dc_item.specs.Printed.{shown_field, list_lines, variable_lines, owners_head, flags_head}
use Rattle.dc_item.specs.Sections.{under, keys_under, fields_mark, owners_mark, flags_mark, variables_mark}
use Rattle.dc_item.proofs.RecordPrinted.{record_printed}
use Rattle.dc_item.proofs.printing.print_record.Goals as goal

pub returns-clause-printed : goal.returns-clause-printed
returns-clause-printed c =
    let fields = ap (λ es. under fields_mark (each (λ e. (e.0.now, e.1.now)) es)) c.deref.ensures.value ∙ c.in_ok-entries.ensures.fields in
    let owners = ap (λ es. keys_under owners_mark (each (λ e. (e.0.now, e.1.now)) es)) c.deref-2.ensures.value ∙ c.in_ok-entries.ensures.owners in
    let flags = ap (λ es. keys_under flags_mark (each (λ e. (e.0.now, e.1.now)) es)) c.deref-3.ensures.value ∙ c.in_ok-entries.ensures.flags in
    let variables = ap (λ es. under variables_mark (each (λ e. (e.0.now, e.1.now)) es)) c.deref-4.ensures.value ∙ c.in_ok-entries.ensures.variables in
    record_printed c.args.name.now c.args.item.now c.args.text.now c.append.new.self c.append-2.new.self c.push.new.self
    c.print_fields.new.text c.print_list.new.text c.print_list-2.new.text c.print_variables.new.text c.push-2.new.self
    c.in_ok-append.ensures.ok c.in_ok-append-2.ensures.ok c.in_ok-push.ensures.ok
    (c.in_ok-print_fields.ensures ∙ ap (λ es. c.push.new.self ++ text_of (each shown_field es)) fields)
    (c.in_ok-print_list.ensures ∙ ap (λ ks. c.print_fields.new.text ++ text_of (list_lines owners_head ks)) owners)
    (c.in_ok-print_list-2.ensures ∙ ap (λ ks. c.print_list.new.text ++ text_of (list_lines flags_head ks)) flags)
    (c.in_ok-print_variables.ensures ∙ ap (λ es. c.print_list-2.new.text ++ text_of (variable_lines es)) variables)
    c.in_ok-push-2.ensures.ok
