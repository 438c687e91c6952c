-- A code for plans, by which models tell them apart: the plan as a list of steps that build it.
use Rattle.std.proofs.Common.{◌≡◌, ℕ, zero, suc, List, [], ◌∷◌, ◌++◌, refl, ap, ◌∙◌}
use Rattle.std.specs.Coded.{Coded, code_by, coded×, coded_ℕ, coded_list}
use Rattle.dc_conf.specs.Trees.{Tree, Trees, Leaf, Stack, Backup, Debug, End, More}

-- the steps that build a plan: put a database; make a stack, a backup, a plan that tells; begin a list of plans, put a plan before one
abbrev mutual
  steps : Tree → List (ℕ × ℕ)
  steps (Leaf place) = (0, place) ∷ []
  steps (Stack plans) = steps_of plans ++ (1, 0) ∷ []
  steps (Backup first second) = steps first ++ (steps second ++ (2, 0) ∷ [])
  steps (Debug plan) = steps plan ++ (3, 0) ∷ []

  steps_of : Trees → List (ℕ × ℕ)
  steps_of End = (4, 0) ∷ []
  steps_of (More plan plans) = steps plan ++ (steps_of plans ++ (5, 0) ∷ [])

-- one step, by the plans and lists that are built
abbrev built : ℕ → ℕ → List Tree × List Trees → List Tree × List Trees
built zero place (plans, lists) = (Leaf place ∷ plans, lists)
built (suc zero) place (plans, list ∷ lists) = (Stack list ∷ plans, lists)
built (suc (suc zero)) place (second ∷ first ∷ plans, lists) = (Backup first second ∷ plans, lists)
built (suc (suc (suc zero))) place (plan ∷ plans, lists) = (Debug plan ∷ plans, lists)
built (suc (suc (suc (suc zero)))) place (plans, lists) = (plans, End ∷ lists)
built (suc (suc (suc (suc (suc zero))))) place (plan ∷ plans, list ∷ lists) = (plans, More plan list ∷ lists)
built _ place made = made

abbrev all_built : List (ℕ × ℕ) → List Tree × List Trees → List Tree × List Trees
all_built [] made = made
all_built (step ∷ steps) made = all_built steps (built step.0 step.1 made)

-- the plan that was built last
abbrev last_built : List Tree → Tree
last_built [] = Leaf 0
last_built (plan ∷ plans) = plan

abbrev plan_of : List (ℕ × ℕ) → Tree
plan_of steps = last_built (all_built steps ([], [])).0

built_then : (xs ys : List (ℕ × ℕ)) (made : List Tree × List Trees) → all_built (xs ++ ys) made ≡ all_built ys (all_built xs made)
built_then [] ys made = refl
built_then (x ∷ xs) ys made = built_then xs ys (built x.0 x.1 made)

mutual
  rebuilt : (plan : Tree) (plans : List Tree) (lists : List Trees) → all_built (steps plan) (plans, lists) ≡ (plan ∷ plans, lists)
  rebuilt (Leaf place) plans lists = refl
  rebuilt (Stack list) plans lists = built_then (steps_of list) ((1, 0) ∷ []) (plans, lists) ∙ ap (built 1 0) (list_rebuilt list plans lists)
  rebuilt (Backup first second) plans lists =
      built_then (steps first) (steps second ++ (2, 0) ∷ []) (plans, lists)
      ∙ (ap (all_built (steps second ++ (2, 0) ∷ [])) (rebuilt first plans lists)
      ∙ (built_then (steps second) ((2, 0) ∷ []) (first ∷ plans, lists) ∙ ap (built 2 0) (rebuilt second (first ∷ plans) lists)))
  rebuilt (Debug plan) plans lists = built_then (steps plan) ((3, 0) ∷ []) (plans, lists) ∙ ap (built 3 0) (rebuilt plan plans lists)

  list_rebuilt : (list : Trees) (plans : List Tree) (lists : List Trees) → all_built (steps_of list) (plans, lists) ≡ (plans, list ∷ lists)
  list_rebuilt End plans lists = refl
  list_rebuilt (More plan list) plans lists =
      built_then (steps plan) (steps_of list ++ (5, 0) ∷ []) (plans, lists)
      ∙ (ap (all_built (steps_of list ++ (5, 0) ∷ [])) (rebuilt plan plans lists)
      ∙ (built_then (steps_of list) ((5, 0) ∷ []) (plan ∷ plans, lists) ∙ ap (built 5 0) (list_rebuilt list (plan ∷ plans) lists)))

pub plan_back : (plan : Tree) → plan_of (steps plan) ≡ plan
plan_back plan = ap (λ made. last_built made.0) (rebuilt plan [] [])

abbrev pub tree_code : Coded Tree
tree_code = code_by (List (ℕ × ℕ)) (coded_list (coded× coded_ℕ coded_ℕ)) steps plan_of plan_back
