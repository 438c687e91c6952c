use Rattle.std.proofs.Common.{◌∙◌, ap}
use Rattle.dc_conf.specs.Nodes.{is_node}
use Rattle.dc_conf.proofs.PlaceLemmas.{has_placed}
use Rattle.dc_conf.proofs.webs.Web.has.Goals as goal

pub returns : goal.returns
returns c =
    c.contains.ensures ∙ has_placed c.self.inside.places c.self.inside.nodes c.args.name.now c.self.invariant.known
    ∙ ap (λ nodes. is_node nodes c.args.name.now) c.self.view_is
