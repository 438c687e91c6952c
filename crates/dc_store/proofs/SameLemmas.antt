-- Layers that are the same but for one item take the same.
use Rattle.std.proofs.Common.{◌≡◌, ℕ, false, not, ◌&&◌, List, Option, ap, ◌∙◌}
use Rattle.std.specs.Option.{option_map_or}
use Rattle.dc_template.specs.declared.kinds.Kind.{Kind}
use Rattle.dc_layer.specs.Folders.{has_place_for}
use Rattle.dc_layer.specs.Rules.{accepts, rules_of}
use Rattle.dc_layer.specs.State.{LayerState, is_writable, admits}
use Rattle.dc_store.specs.StoreLaws.{IsSameBut}

pub writable_same : (n : List ℕ) (l m : LayerState) → IsSameBut n l m → is_writable m ≡ is_writable l
writable_same n l m s = ap (λ spec. option_map_or (λ spec. not spec.readonly) spec false && not m.left_out) s.spec ∙ ap (λ b. option_map_or (λ spec. not spec.readonly) l.spec false && not b) s.left_out

pub admits_same : (name n : List ℕ) (l m : LayerState) (k : Option Kind) → IsSameBut name l m → admits m n k ≡ admits l n k
admits_same name n l m k s = λ i. option_map_or (λ spec. has_place_for (s.sort i) spec.extension n && accepts (rules_of spec) n k) (s.spec i) false
