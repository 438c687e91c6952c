use Rattle.std.proofs.Common.{◌≡◌, ◌≤◌, List, length, take, sym, ap, ◌∙◌, subst}
use Rattle.std.specs.List.{AllByRecursion}
use Rattle.std.proofs.lemmas.List.{take_all}
use Rattle.dc_template.specs.Stanzas.{Stanza, IsTemplate}
use Rattle.dc_template.specs.Printed.{canon}
use Rattle.dc_template.specs.Reading.{Reads}
use Rattle.dc_template.proofs.ReadAgain.{read_again}
use Rattle.dc_template.proofs.printing.print_templates.Goals as goal

pub returns-clause-again : goal.returns-clause-again
returns-clause-again c = λ apart.
    let end : length c.args.list.now ≤ c.loop-template.template-index = subst (λ (ts : List Stanza). length ts ≤ c.loop-template.template-index) c.as_slice-template-items.ensures c.loop-template-test.false in
    let all : take c.loop-template.template-index c.args.list.now ≡ c.args.list.now = take_all c.loop-template.template-index c.args.list.now end in
    subst (λ text. Reads text c.args.list.now) (sym (c.loop-template.invariant.printed ∙ ap canon all))
    (read_again c.args.list.now (subst (AllByRecursion IsTemplate) all c.loop-template.invariant.sound) apart)
