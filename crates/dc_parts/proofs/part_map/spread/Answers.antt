use Rattle.std.proofs.Common.{List, ℕ, Bor, map, ap, ◌∙◌}
use Rattle.dc_parts.proofs.ManyLemmas.{in_order, made_again}
use Rattle.dc_parts.proofs.part_map.spread.Goals as goal

pub from_sorted-requires : goal.from_sorted-requires
from_sorted-requires c =
    let shown : Bor (List ℕ) × Bor (List ℕ) → List ℕ × List ℕ = λ e. (e.0.now, e.1.now) in
    in_order _ c.args.few.now (ap (map shown) c.deref.ensures.value ∙ c.in_ok-entries.ensures)

pub returns : goal.returns
returns c =
    let shown : Bor (List ℕ) × Bor (List ℕ) → List ℕ × List ℕ = λ e. (e.0.now, e.1.now) in
    c.in_ok-many.ensures ∙ made_again _ c.args.few.now (ap (map shown) c.deref.ensures.value ∙ c.in_ok-entries.ensures)
