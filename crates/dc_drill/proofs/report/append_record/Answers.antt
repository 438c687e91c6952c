use Rattle.std.proofs.Common.{◌≡◌, ◌++◌, [], subst}
use Rattle.std.specs.Prelude.{OnOk}
use Rattle.std.specs.Option.{option_map_or}
use Rattle.dc_text.specs.Lines.{text_of}
use Rattle.dc_item.specs.Printed.{record_lines}
use Rattle.dc_drill.proofs.report.append_record.Goals as goal

pub returns-in-Some : goal.returns-in-Some
returns-in-Some g c =
    subst (λ found. OnOk c.print_record.result (c.print_record.new.text ≡ c.args.text.now ++ text_of (option_map_or (λ item. record_lines (c.args.name.now, item)) found [])))
    c.in-Some.ensures
    (subst (λ name. OnOk c.print_record.result (c.print_record.new.text ≡ c.args.text.now ++ text_of (record_lines (name, c.in-Some.item.now)))) c.bytes.ensures.value c.print_record.ensures.printed)
