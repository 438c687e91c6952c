use Rattle.std.proofs.Common.{ap, ◌∙◌}
use Rattle.dc_layer.proofs.PrefixLemmas.{found_text, no_text}
use Rattle.dc_layer.proofs.imaging.add_record.Goals as goal

pub returns-in_ok-print_record : goal.returns-in_ok-print_record
returns-in_ok-print_record c =
    let lent = c.get_mut.follows.holds c.print_record.new.text in
    found_text (c.args.name.now, c.args.item.now) c.prefix.result.now c.in-Some.text.now c.print_record.new.text c.prefix.ensures c.in_ok-print_record.ensures.printed
    c.args.texts.now.entries (c.get_mut.follows.lender c.print_record.new.text).entries c.get_mut.ensures.unique c.in-Some.ensures.value lent.0

pub returns-in_default : goal.returns-in_default
returns-in_default c =
    ap (λ texts. texts.entries) c.get_mut.follows.holds-at-none
    ∙ no_text (c.args.name.now, c.args.item.now) c.prefix.result.now c.prefix.ensures c.args.texts.now.entries c.in_default.ensures.value
