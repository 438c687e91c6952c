use Rattle.std.specs.Prelude.{None}
use Rattle.dc_session.proofs.CommandLemmas.{none_loads}
use Rattle.dc_session.proofs.LoadLemmas.{taken_loads}
use Rattle.dc_drill.proofs.drilling.load_from.Goals as goal

pub returns-in-Ok-clause-loads : goal.returns-in-Ok-clause-loads
returns-in-Ok-clause-loads g c terminal err policy asking = taken_loads _ _ _ _ _ _ c.in-Ok.ensures.ok (c.take_templates.ensures.takes _ terminal err policy asking)

pub returns-in-Err-clause-loads : goal.returns-in-Err-clause-loads
returns-in-Err-clause-loads g c terminal err policy asking = none_loads _ _ _ None c.in-Err.field-0 c.in-Err.ensures.err
