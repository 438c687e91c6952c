use Rattle.std.proofs.Common.{◌<◌, List, [], ◌∷◌, ◌≡◌, length, refl, sym, ap, ◌∙◌, arith}
use Rattle.dc_text.specs.Faults.{run}
use Rattle.dc_batch.specs.Machine.{step}
use Rattle.dc_batch.specs.declared.forms.Line.{Line}
use Rattle.dc_batch.proofs.reading.take_lines.Goals as goal

none_left : (lines : List Line) → length lines < 1 → lines ≡ []
none_left [] h = refl
none_left (l ∷ lines) h = absurd (omega arith)

pub returns : goal.returns
returns c = sym c.loop-rest.invariant ∙ ap (λ ls. run step ls c.loop-rest.reader) (none_left c.loop-rest.rest.now c.in_default.len_below)
