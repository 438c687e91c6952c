use Rattle.std.proofs.Common.{◌∙◌, ap, length}
use Rattle.std.specs.List.{position_or_len}
use Rattle.std.specs.Str.{bytes_eq}
use Rattle.dc_conf.specs.Nodes.{names_of}
use Rattle.dc_conf.proofs.PlaceLemmas.{position_at, position_past}
use Rattle.dc_conf.proofs.webs.Web.place.Goals as goal

pub returns-in-Some : goal.returns-in-Some
returns-in-Some c =
    position_at c.self.inside.places c.self.inside.nodes c.args.name.now c.in-Some.place.now c.self.invariant.known c.in-Some.ensures
    ∙ ap (λ nodes. position_or_len (bytes_eq c.args.name.now) (names_of nodes)) c.self.view_is

pub returns-in-None : goal.returns-in-None
returns-in-None c =
    ap length c.as_slice.ensures
    ∙ position_past c.self.inside.places c.self.inside.nodes c.args.name.now c.self.invariant.known c.in-None.ensures
    ∙ ap (λ nodes. position_or_len (bytes_eq c.args.name.now) (names_of nodes)) c.self.view_is
