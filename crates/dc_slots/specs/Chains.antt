-- Numbers of which each names the next. No public clause cites this module.
use Rattle.std.specs.Prelude.{◌≡◌, ℕ, zero, suc, Bool, Option, Some, None, List, [], ◌∷◌, nat_eq}
use Rattle.std.specs.List.{list_any}

-- whether the number is one of them
abbrev pub has : ℕ → List ℕ → Bool
has n ns = list_any (nat_eq n) ns

-- the numbers from this one on, so many at most
abbrev pub walk : (ℕ → Option ℕ) → ℕ → Option ℕ → List ℕ
walk next zero from = []
walk next (suc more) None = []
walk next (suc more) (Some n) = n ∷ walk next more (next n)

-- from this number on, each of these names the next, and the last names none
abbrev pub IsWalk : (ℕ → Option ℕ) → Option ℕ → List ℕ → Type 0
IsWalk next from [] = from ≡ None
IsWalk next from (n ∷ ns) = (from ≡ Some n) × IsWalk next (next n) ns

-- the last of the numbers is this one, if there is one
abbrev pub EndsAt : List ℕ → Option ℕ → Type 0
EndsAt [] last = last ≡ None
EndsAt (n ∷ []) last = last ≡ Some n
EndsAt (n ∷ m ∷ ns) last = EndsAt (m ∷ ns) last
