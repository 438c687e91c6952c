use Rattle.std.proofs.Common.{◌≡◌, ◌++◌, sym, subst}
use Rattle.std.specs.Prelude.{OnOk}
use Rattle.dc_text.proofs.SettledLemmas.{shown-none}
use Rattle.dc_item.proofs.printing.push_value.Goals as goal

pub returns-in-None : goal.returns-in-None
returns-in-None c = subst (λ value. OnOk c.append.result (c.append.new.self ≡ c.args.text.now ++ value)) (sym (shown-none c.args.value.now c.in-None.ensures)) c.append.ensures.ok
