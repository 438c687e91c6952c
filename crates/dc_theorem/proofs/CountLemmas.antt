-- Between two moments at which the same failures are counted none is counted.
use Rattle.std.proofs.Common.{◌≡◌, ℕ, ap, arith}
use Rattle.std.specs.Prelude.{◌+◌, ◌-◌, ◌^◌, ◌<◌, ◌≤◌, min}
use Rattle.dc_outside.specs.Counts.{Counts, FaultRose}

no_step : (n top before now : ℕ) → n < top → n ≤ before → now ≤ n → min (before + 1) top ≤ now → ⊥
no_step n top before now room low high rose = omega arith

pub no_rise : (n : ℕ) (before now : Counts) → n < 2 ^ 64 - 1 → n ≤ before.faults → now.faults ≤ n → FaultRose before now → ⊥
no_rise n before now room low high rose = no_step n (2 ^ 64 - 1) before.faults now.faults room low high rose.faults.rose

pub still : (before now : Counts) → now ≡ before → before.faults ≤ now.faults
still before now same = let e : now.faults ≡ before.faults = ap (λ (c : Counts). c.faults) same in omega arith
