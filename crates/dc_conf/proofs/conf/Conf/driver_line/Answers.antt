use Rattle.std.proofs.Common.{◌≡◌, ◌∙◌, true, ap, subst}
use Rattle.std.specs.Prelude.{is_some}
use Rattle.dc_conf.specs.Configuration.{Configuration, is_sound}
use Rattle.dc_conf.specs.Nodes.{driver_line_of}
use Rattle.dc_conf.proofs.ResolvedLemmas.{line_there}
use Rattle.dc_conf.proofs.conf.Conf.driver_line.Goals as goal

pub returns-clause-known : goal.returns-clause-known
returns-clause-known c =
    let sound : is_sound c.args.self.now ≡ true = subst (λ (conf : Configuration). is_sound conf ≡ true) c.self.view_is c.self.invariant in
    ap is_some (c.driver_line.ensures ∙ (λ i. driver_line_of (ap (λ (conf : Configuration). conf.nodes) c.self.view_is i) (c.bytes.ensures i)))
    ∙ line_there c.args.self.now c.args.name.now sound
