-- What plans speak of: the places of the databases that hold items themselves.
use Rattle.std.specs.Prelude.{ℕ, ◌<◌, Bool, true, not, ◌&&◌, List, [], ◌∷◌, ◌++◌, nat_eq, ⊤}
use Rattle.std.specs.List.{list_all, list_any}
use Rattle.dc_conf.specs.Trees.{Tree, Trees, Leaf, Stack, Backup, Debug, End, More}

-- The places that are asked for an item, from the top: a backup's second plan isn't asked.
abbrev mutual
  pub leaves : Tree → List ℕ
  leaves (Leaf place) = place ∷ []
  leaves (Stack plans) = leaves_of plans
  leaves (Backup first second) = leaves first
  leaves (Debug plan) = leaves plan

  pub leaves_of : Trees → List ℕ
  leaves_of End = []
  leaves_of (More plan plans) = leaves plan ++ leaves_of plans

-- All places that a plan speaks of: those of the second plans of its backups too.
abbrev mutual
  pub all_places : Tree → List ℕ
  all_places (Leaf place) = place ∷ []
  all_places (Stack plans) = all_places_of plans
  all_places (Backup first second) = all_places first ++ all_places second
  all_places (Debug plan) = all_places plan

  pub all_places_of : Trees → List ℕ
  all_places_of End = []
  all_places_of (More plan plans) = all_places plan ++ all_places_of plans

-- The places under the second plans of backups.
abbrev mutual
  pub seconds : Tree → List ℕ
  seconds (Leaf place) = []
  seconds (Stack plans) = seconds_of plans
  seconds (Backup first second) = seconds first ++ all_places second
  seconds (Debug plan) = seconds plan

  pub seconds_of : Trees → List ℕ
  seconds_of End = []
  seconds_of (More plan plans) = seconds plan ++ seconds_of plans

-- something holds of each place that a plan speaks of
abbrev mutual
  pub Everywhere : (ℕ → Type 0) → Tree → Type 0
  Everywhere P (Leaf place) = P place
  Everywhere P (Stack plans) = AllEverywhere P plans
  Everywhere P (Backup first second) = Everywhere P first × Everywhere P second
  Everywhere P (Debug plan) = Everywhere P plan

  pub AllEverywhere : (ℕ → Type 0) → Trees → Type 0
  AllEverywhere P End = ⊤
  AllEverywhere P (More plan plans) = Everywhere P plan × AllEverywhere P plans

-- the plan speaks of so many databases
abbrev pub IsOver : Tree → ℕ → Type 0
IsOver plan count = Everywhere (λ place. place < count) plan

-- each plan does
abbrev pub AreOver : Trees → ℕ → Type 0
AreOver plans count = AllEverywhere (λ place. place < count) plans

-- no place is one of the others
abbrev pub are_apart_from : List ℕ → List ℕ → Bool
are_apart_from places others = list_all (λ place. not (list_any (nat_eq place) others)) places

-- two plans share no database
abbrev pub are_disjoint : Tree → Tree → Bool
are_disjoint plan other = are_apart_from (all_places plan) (all_places other)

-- each place stands once
abbrev pub stand_once : List ℕ → Bool
stand_once [] = true
stand_once (place ∷ places) = not (list_any (nat_eq place) places) && stand_once places
