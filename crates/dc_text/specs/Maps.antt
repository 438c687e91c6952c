-- Finite maps from texts, and sets of texts.
use Rattle.std.specs.Prelude.{◌≢◌, ℕ, List, [], ◌∷◌}
use Rattle.std.specs.List.{AllByRecursion}
use Rattle.std.specs.declared.cmp.Ordering.{Ordering}
use Rattle.std.specs.Ordering.{nat_cmp}
use Rattle.std.specs.Cmp.Lexicographic.{slice_cmp}
use Rattle.std.specs.FinMap as map

-- the order of texts, byte by byte
abbrev pub text_cmp : List ℕ → List ℕ → Ordering
text_cmp = slice_cmp nat_cmp

-- a finite map from texts
abbrev pub Texts : Type 0 → Type 0
Texts X = map.FinMap text_cmp X

-- a set of texts: a map that has nothing more at each
abbrev pub TextSet : Type 0
TextSet = Texts (Unit {0})

-- the set of the texts of a list
abbrev pub set_of : List (List ℕ) → TextSet
set_of [] = map.empty
set_of (text ∷ texts) = map.insert (set_of texts) text tt

-- no two of the texts are the same
abbrev pub AreDistinct : List (List ℕ) → Type 0
AreDistinct [] = Unit {0}
AreDistinct (text ∷ texts) = AllByRecursion (λ other. other ≢ text) texts × AreDistinct texts
