use Rattle.std.proofs.Common.{ℕ, List, sym, ap, ◌∙◌}
use Rattle.std.specs.Prelude.{◌==◌}
use Rattle.std.specs.List.{list_any}
use Rattle.dc_pass.proofs.WayLemmas.{way_there}
use Rattle.dc_pass.proofs.replies.add_way.Goals as goal

pub returns-then-has_way : goal.returns-then-has_way
returns-then-has_way c = λ passes.
    way_there passes c.args.ways.now c.args.at
    (ap (λ (ws : List ℕ). list_any (λ (other : ℕ). other == c.args.at) ws) (sym c.as_slice.ensures) ∙ sym c.has_way.ensures ∙ c.if-has_way.true)
