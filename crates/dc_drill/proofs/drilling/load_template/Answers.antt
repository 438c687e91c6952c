use Rattle.std.proofs.Common.{refl, inl}
use Rattle.dc_drill.proofs.DrillLemmas.{path_loads}
use Rattle.dc_drill.proofs.drilling.load_template.Goals as goal

pub returns-in_default-clause-loads : goal.returns-in_default-clause-loads
returns-in_default-clause-loads g c terminal err policy asking = inl refl

pub returns-clause-loads : goal.returns-clause-loads
returns-clause-loads g c terminal err policy asking = path_loads _ _ _ _ (c.load_from.ensures.loads terminal err policy asking) c.in-Ok.ensures
