-- Counting the boxes of a shelf that is filled one by one.
use Rattle.std.proofs.Common.{◌≡◌, ◌+◌, ◌≤◌, ℕ, List, length, map as each, sym, ap, subst, arith}
use Rattle.dc_conf.specs.declared.spec.LayerSort.{LayerSort}
use Rattle.dc_layer.specs.State.{LayerState}
use Rattle.dc_shelf.specs.Shelves.{AreBlank}

-- one more than at least so many
pub grows : {n before now : ℕ} → n ≤ before → now ≡ before + 1 → n + 1 ≤ now
grows few is = omega (arith, few, is)

-- blank boxes that stay
pub kept_blank : {A : Type 0} (f : A → LayerState) (sort : LayerSort) (now before : List A) → now ≡ before → AreBlank sort (each f before) → AreBlank sort (each f now)
kept_blank f sort now before same blank = subst (λ (l : List _). AreBlank sort (each f l)) (sym same) blank

-- one box at least that stays
pub kept_one : {A : Type 0} (now before old : List A) → now ≡ before → length before ≡ length old + 1 → 1 ≤ length now
kept_one now before old same count = let long : length now ≡ length before = ap length same in omega (arith, long, count)
