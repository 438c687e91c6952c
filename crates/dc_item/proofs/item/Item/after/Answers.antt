use Rattle.std.proofs.Common.{sym, ap, ◌∙◌}
use Rattle.dc_item.specs.declared.op.After.TheVariants.{Changed}
use Rattle.dc_item.proofs.EffectLemmas.{changes}
use Rattle.dc_item.proofs.item.Item.after.Goals as goal

pub returns-in_ok-asked-in-Changed : goal.returns-in_ok-asked-in-Changed
returns-in_ok-asked-in-Changed c =
    ap Changed c.in_ok-asked-in-Changed.ensures ∙ sym (changes c.args.op.now c.args.self.now (sym c.in_ok-effect.ensures ∙ c.in-Changed.is))
