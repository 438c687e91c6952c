-- How a database is used: a tree over the places of the databases that hold items themselves. A plan is such a tree in boxes; where the
-- boxes stand in memory is left out, so that plans of two runs can be the same.
use Rattle.std.specs.Prelude.{ℕ}
use Rattle.dc_conf.specs.declared.plans.Plan.{Plan}
use Rattle.dc_conf.specs.declared.plans.Plan.TheVariants as plan
use Rattle.dc_conf.specs.declared.plans.PlanList.{PlanList}
use Rattle.dc_conf.specs.declared.plans.PlanList.TheVariants as list

mutual
  pub data Tree : Type 0 where
    Leaf : (place : ℕ) → Tree
    Stack : (trees : Trees) → Tree
    Backup : (first second : Tree) → Tree
    Debug : (tree : Tree) → Tree

  pub data Trees : Type 0 where
    End : Trees
    More : (tree : Tree) → (trees : Trees) → Trees

abbrev mutual
  pub shape : Plan → Tree
  shape (plan.Leaf place) = Leaf place
  shape (plan.Stack plans) = Stack (shapes plans)
  shape (plan.Backup' p first q second) = Backup (shape first) (shape second)
  shape (plan.Debug' p inner) = Debug (shape inner)

  pub shapes : PlanList → Trees
  shapes list.End = End
  shapes (list.More' p first q rest) = More (shape first) (shapes rest)
