use Rattle.std.proofs.Common.{refl, inl}
use Rattle.dc_run.specs.Roots.{shaped}
use Rattle.dc_run.proofs.RunLemmas.{drilled_for}
use Rattle.dc_run.proofs.drilling.text_drilled.Goals as goal

pub returns-in_default : goal.returns-in_default
returns-in_default g c = λ files terminal err. inl (record { loaded = _; loads = inl refl; left_is = refl })

pub returns : goal.returns
returns g c = drilled_for c.args.count _ _ (shaped c.args.roots.now) c.args.settings.now c.in-Ok.owner c.chosen.result c.drill.result c.in-Ok.ensures.value c.chosen.ensures c.drill.ensures
