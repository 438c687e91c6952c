use Rattle.std.proofs.Common.{sym, ap, ◌∙◌, subst}
use Rattle.std.specs.List.{AllByRecursion}
use Rattle.dc_item.specs.Printed.{canon}
use Rattle.dc_item.specs.Table.{IsEntry, ReadsAs}
use Rattle.dc_item.proofs.PrintedText.{read_again, text_of_table}
use Rattle.dc_item.proofs.printing.print_records.Goals as goal

pub returns-clause-read_again : goal.returns-clause-read_again
returns-clause-read_again c = λ apart.
    subst (λ text. ReadsAs text c.args.list.now) (sym (c.in_ok-text.ensures.printed ∙ ap canon c.as_slice.ensures))
    (read_again c.args.list.now (subst (AllByRecursion IsEntry) c.as_slice.ensures c.in_ok-text.ensures.entries) apart)

pub returns-clause-table : goal.returns-clause-table
returns-clause-table c = λ in_order. c.in_ok-text.ensures.printed ∙ ap canon c.as_slice.ensures ∙ text_of_table c.args.list.now in_order
