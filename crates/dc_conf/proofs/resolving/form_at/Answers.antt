use Rattle.std.proofs.Common.{ap, sym}
use Rattle.std.specs.Option.{option_map}
use Rattle.dc_conf.specs.declared.nodes.Node.{Node}
use Rattle.dc_conf.proofs.PlanLemmas.{is_found}
use Rattle.dc_conf.proofs.resolving.form_at.Goals as goal

pub unreachable-requires : goal.unreachable-requires
unreachable-requires c = is_found c.args.nodes.now c.args.name.now c.requires (sym c.in-None.ensures)

pub returns : goal.returns
returns c = ap (option_map (λ (node : Node). node.form)) (sym c.in-Some.ensures)
