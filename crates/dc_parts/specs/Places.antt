-- Places in a list of entries whose keys rise.
use Rattle.std.specs.Prelude.{◌≡◌, ℕ, ◌<◌, ◌≤◌, List, length}
use Rattle.std.specs.List.{HoldsAt}
use Rattle.std.specs.List.Sorted.{IsPartitionPoint}
use Rattle.std.specs.declared.cmp.Ordering.TheVariants.{Less, Greater}
use Rattle.dc_text.specs.Maps.{text_cmp}

-- the entry at place i has the key q
abbrev pub IsAt : {X : Type 0} → List ℕ → List (List ℕ × X) → ℕ → Type 0
IsAt q es i = record {
  in_range : i < length es;
  has_key : HoldsAt (λ e. e.0 ≡ q) es i;
}

-- the keys before place i are lower than q, and those from it on are higher
abbrev pub IsGapFor : {X : Type 0} → List ℕ → List (List ℕ × X) → ℕ → Type 0
IsGapFor q es i = record {
  in_range : i ≤ length es;
  parted : IsPartitionPoint (λ e. text_cmp e.0 q ≡ Less) (λ e. text_cmp e.0 q ≡ Greater) es i;
}
