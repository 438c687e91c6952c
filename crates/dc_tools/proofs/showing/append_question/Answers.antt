use Rattle.std.proofs.Common.{◌≡◌, ◌++◌, map as each, subst}
use Rattle.std.specs.Prelude.{OnOk}
use Rattle.std.specs.Option.{option_copied}
use Rattle.dc_tools.proofs.ShowLemmas.{show_some}
use Rattle.dc_tools.proofs.showing.append_question.Goals as goal

pub returns-in-Some : goal.returns-in-Some
returns-in-Some g c =
    let layers = each (λ b. (goal.Layer-dyn g (b.vtable, b.value)).state b.value) c.args.questions.now.store.now.layers.items in
    subst (λ wanted. OnOk c.append_line.result (c.append_line.new.text ≡ c.args.text.now ++ wanted))
    (show_some layers c.args.questions.now.context c.language.result.now c.args.name.now c.in-Some.item.now (option_copied c.template-template.result) c.language.ensures c.in-Some.ensures
    c.template-template.ensures)
    c.append_line.ensures
