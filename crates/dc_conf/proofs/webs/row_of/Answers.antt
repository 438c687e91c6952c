use Rattle.std.proofs.Common.{◌∙◌}
use Rattle.dc_conf.proofs.PlaceLemmas.{row_marked}
use Rattle.dc_conf.proofs.webs.row_of.Goals as goal

pub returns : goal.returns
returns c =
    c.mark_row.ensures ∙ row_marked c.args.nodes.now c.requires.apart c.args.node.now c.in_ok-row.row.items c.args.places.now c.requires.places c.in_ok-row.ensures
