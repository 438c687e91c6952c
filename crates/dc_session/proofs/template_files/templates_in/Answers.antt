use Rattle.dc_template.proofs.NameLemmas.{names_apart}
use Rattle.dc_session.proofs.template_files.templates_in.Goals as goal

pub returns-in-Ok-clause-distinct : goal.returns-in-Ok-clause-distinct
returns-in-Ok-clause-distinct c = names_apart _ _ c.in-Ok.ensures
