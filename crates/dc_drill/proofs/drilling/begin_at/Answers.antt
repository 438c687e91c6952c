use Rattle.std.proofs.Common.{refl, inl}
use Rattle.dc_session.specs.Asking.{nothing_asked}
use Rattle.dc_session.specs.SessionState.{no_terminal, nowhere}
use Rattle.dc_drill.proofs.drilling.begin_at.Goals as goal

pub returns-in_default-clause-begins : goal.returns-in_default-clause-begins
returns-in_default-clause-begins g c = inl refl

pub returns-in_default-load_template-clause-begins : goal.returns-in_default-load_template-clause-begins
returns-in_default-load_template-clause-begins g c = c.in_default-load_template.ensures.loads no_terminal nowhere _ nothing_asked

pub returns-clause-begins : goal.returns-clause-begins
returns-clause-begins g c = (c.in-Ok.ensures, (c.in-Ok-load_template.field-0, c.in-Ok-load_template.ensures.loads no_terminal nowhere _ nothing_asked))
