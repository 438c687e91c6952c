use Rattle.std.proofs.Common.{sym, ap, ◌∙◌}
use Rattle.std.specs.FinMap.{get, insert}
use Rattle.std.specs.Option.{option_map_or}
use Rattle.dc_question.proofs.kinds_left.KindsLeft.get.Goals as goal

pub returns-in-Some : goal.returns-in-Some
returns-in-Some c =
    c.known.ensures
    ∙ ap (λ kinds. get kinds c.args.template.now)
    (ap (λ name. option_map_or (λ n. insert c.self.inside.others n.now c.self.inside.kind) name c.self.inside.others) (sym c.in-Some.is) ∙ c.self.view_is)
