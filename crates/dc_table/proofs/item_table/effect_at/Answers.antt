use Rattle.std.proofs.Common.{◌≡◌, IfOk, Some, None, subst}
use Rattle.dc_item.specs.After.{after_at, effect_of}
use Rattle.dc_table.proofs.TableLemmas.{value_at}
use Rattle.dc_table.proofs.item_table.effect_at.Goals as goal

pub returns-in-Some : goal.returns-in-Some
returns-in-Some c =
    subst (λ o. IfOk c.effect.result (λ effect. effect ≡ effect_of (after_at c.args.op.now o)))
    (value_at c.args.items.now.entries c.args.place (Some (c.in-Some.field-0-0.now, c.in-Some.item.now)) c.in-Some.ensures.entry) c.effect.ensures

pub returns-in-None : goal.returns-in-None
returns-in-None c =
    subst (λ o. IfOk c.effect-in-None.result (λ effect. effect ≡ effect_of (after_at c.args.op.now o)))
    (value_at c.args.items.now.entries c.args.place None c.in-None.ensures.entry) c.effect-in-None.ensures
