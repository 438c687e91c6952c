use Rattle.std.proofs.Common.{ap, ◌∙◌}
use Rattle.std.specs.FinMap as map
use Rattle.dc_host.proofs.KnownLemmas.{unknown_without}
use Rattle.dc_host.proofs.guard.Guard.forget.Goals as goal

pub returns-clause-gone : goal.returns-clause-gone
returns-clause-gone g c = ap (λ known. map.contains_key known c.args.path.now) (c.remove.ensures ∙ ap (map.remove c.args.self.now.known) c.bytes.ensures)
    ∙ unknown_without c.args.self.now.known c.args.path.now
