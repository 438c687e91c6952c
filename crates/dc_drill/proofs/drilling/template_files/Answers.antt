use Rattle.std.proofs.Common.{[], ◌∷◌, ◌∙◌, ap}
use Rattle.std.specs.Prelude.{None}
use Rattle.dc_outside.specs.Memory.{files_from, files_of, fresh}
use Rattle.dc_drill.proofs.drilling.template_files.Goals as goal

pub returns : goal.returns
returns c =
    ap files_of (c.in_ok-files.ensures
    ∙ (λ i. fresh (files_from ((c.in_ok-path.ensures i, c.in_ok-text.ensures i) ∷ [])) [] None))
