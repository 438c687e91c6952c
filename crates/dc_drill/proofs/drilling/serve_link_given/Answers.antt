use Rattle.dc_conf.specs.Trees.{shape}
use Rattle.dc_drill.proofs.DrillLemmas.{begun_count, breaks_off, mapped_over, serves_over, serves_to}
use Rattle.dc_drill.proofs.drilling.serve_link_given.Goals as goal

pub returns-in_default : goal.returns-in_default
returns-in_default g c = breaks_off _ _ _ _ _ _ c.in_default.ensures

pub serve_layers-served-requires-clause-config : goal.serve_layers-served-requires-clause-config
serve_layers-served-requires-clause-config g c =
    mapped_over (λ b. (goal.Layer-dyn g (b.vtable, b.value)).state b.value) _ _ (shape c.args.config.now) (begun_count _ _ _ _ c.in-Ok.ensures) c.requires.config

pub serve_layers-served-requires-clause-templates : goal.serve_layers-served-requires-clause-templates
serve_layers-served-requires-clause-templates g c =
    mapped_over (λ b. (goal.Layer-dyn g (b.vtable, b.value)).state b.value) _ _ (shape c.args.templates.now) (begun_count _ _ _ _ c.in-Ok.ensures) c.requires.templates

pub returns : goal.returns
returns g c = serves_to _ _ _ _ _ (serves_over _ _ _ _ c.args.setup.now.frontend c.args.setup.now.threshold _ c.in-Ok.policy _ _ _ _ _ _ _ _ c.in-Ok.ensures c.new.ensures c.serve_layers-served.ensures)
