use Rattle.std.proofs.Common.{◌<◌, List, [], ◌∷◌, ◌≡◌, length, refl, sym, ap, ◌∙◌, arith}
use Rattle.dc_text.specs.Faults.{run}
use Rattle.dc_template.specs.Machine.{step}
use Rattle.dc_template.specs.declared.forms.Line.{Line}
use Rattle.dc_template.proofs.checking.check.Goals as goal

none_left : (lines : List Line) → length lines < 1 → lines ≡ []
none_left [] h = refl
none_left (l ∷ lines) h = absurd (omega arith)

pub returns : goal.returns
returns c = (c.loop-rest.seen, sym c.loop-rest.invariant ∙ ap (λ ls. run step ls c.loop-rest.seen) (none_left c.loop-rest.rest.now c.in_default.len_below))
