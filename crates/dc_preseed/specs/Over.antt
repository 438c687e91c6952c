-- In at most one way does a plan speak of so many layers.
use Rattle.std.specs.Prelude.{ℕ}
use mathlib.Core.HLevel.{×_prop, Unit-prop}
use Rattle.dc_conf.specs.Trees.{Tree, Trees, Leaf, Stack, Backup, Debug, End, More}
use Rattle.dc_conf.specs.Plans.{Everywhere, AllEverywhere}

-- what has one proof at most of a place has one proof at most of each place of a plan
mutual
  pub everywhere_prop : (P : ℕ → Type 0) → ((place : ℕ) → IsProp (P place)) → (plan : Tree) → IsProp (Everywhere P plan)
  everywhere_prop P each (Leaf place) = each place
  everywhere_prop P each (Stack plans) = all_everywhere_prop P each plans
  everywhere_prop P each (Backup first second) = ×_prop (everywhere_prop P each first) (everywhere_prop P each second)
  everywhere_prop P each (Debug plan) = everywhere_prop P each plan

  all_everywhere_prop : (P : ℕ → Type 0) → ((place : ℕ) → IsProp (P place)) → (plans : Trees) → IsProp (AllEverywhere P plans)
  all_everywhere_prop P each End = Unit-prop
  all_everywhere_prop P each (More plan plans) = ×_prop (everywhere_prop P each plan) (all_everywhere_prop P each plans)
