-- Telling changes nothing that is written.
use Rattle.std.proofs.Common.{◌≡◌, ℕ, List, Option, Some, None, refl}
use Rattle.std.specs.Prelude.{option_map}
use Rattle.dc_conf.specs.Trees.{Tree, Debug}
use Rattle.dc_item.specs.declared.op.Op.{Op}
use Rattle.dc_template.specs.declared.kinds.Kind.{Kind}
use Rattle.dc_store.specs.Plans.{StoreState, then_told, told_line, write}

layers_stay : (line : List ℕ) (o : Option StoreState) → option_map (λ s. s.layers) (option_map (then_told line) o) ≡ option_map (λ s. s.layers) o
layers_stay line None = refl
layers_stay line (Some s) = refl

pub told_alike : (store : StoreState) (plan : Tree) (n : List ℕ) (k : Option Kind) (op : Op) → option_map (λ s. s.layers) (write store (Debug plan) n k op) ≡ option_map (λ s. s.layers) (write store plan n k op)
told_alike store plan n k op = layers_stay (told_line op n) (write store plan n k op)
