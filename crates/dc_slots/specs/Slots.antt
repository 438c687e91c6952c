-- A slot table: values by their names, which names were touched, and which names each owner has.
use Rattle.std.specs.Prelude.{◌≡◌, ℕ, Bool, false, not, Option, Some, None, List, [], ◌∷◌, ◌++◌, refl, unwrap_or, if◌then◌else◌}
use Rattle.std.specs.List.{list_any, filter}
use Rattle.std.specs.Str.{bytes_eq}
use Rattle.std.specs.FinMap as map
use Rattle.std.specs.Coded.{Coded, code_by, coded×, coded_list, coded_ℕ}
use Rattle.dc_text.specs.Maps.{Texts}

pub record Slots (T : Type 0) : Type 0 where
  pub values : Texts T
  pub touched : List (List ℕ)
  pub owned : Texts (List (List ℕ))

-- a slot table as data
abbrev pub slots_code : {T : Type 0} → Coded T → Coded (Slots T)
slots_code {T} code =
    code_by
    (Texts T × (List (List ℕ) × Texts (List (List ℕ))))
    (coded× (map.code (coded_list coded_ℕ) code) (coded× (coded_list (coded_list coded_ℕ)) (map.code (coded_list coded_ℕ) (coded_list (coded_list coded_ℕ)))))
    (λ s. (s.values, (s.touched, s.owned)))
    (λ p. record { values = p.0; touched = p.1.0; owned = p.1.1 })
    (λ _. refl)

module _ {X : Type 0} (same : X → X → Bool) where
  -- the list with this one, last, unless it is there
  abbrev pub put_last : List X → X → List X
  put_last xs x = if list_any (same x) xs then xs else xs ++ x ∷ []

  -- the list without this one
  abbrev pub without : List X → X → List X
  without xs x = filter (λ y. not (same x y)) xs

-- a list that has something
abbrev pub if_any : {X : Type 0} → List X → Option (List X)
if_any [] = None
if_any (x ∷ xs) = Some (x ∷ xs)

-- the map in which the text has this, or nothing
abbrev pub with_at : {X : Type 0} → Texts X → List ℕ → Option X → Texts X
with_at m text None = map.remove m text
with_at m text (Some x) = map.insert m text x

-- the list that the owner has
abbrev pub list_of : {X : Type 0} → Texts (List X) → List ℕ → List X
list_of m owner = unwrap_or (map.get m owner) []

-- with the name touched, last, unless it is
abbrev pub with_touched : {T : Type 0} → Slots T → List ℕ → Slots T
with_touched s name = record s { touched = put_last bytes_eq s.touched name }

-- with the name in the owner's list, last, unless it is there
abbrev pub with_owner : {T : Type 0} → Slots T → List ℕ → List ℕ → Slots T
with_owner s name owner = record s { owned = map.insert s.owned owner (put_last bytes_eq (list_of s.owned owner) name) }

-- without the name in the owner's list
abbrev pub without_owner : {T : Type 0} → Slots T → List ℕ → List ℕ → Slots T
without_owner s name owner = record s { owned = with_at s.owned owner (if_any (without bytes_eq (list_of s.owned owner) name)) }

-- the name has no value, isn't touched and stands in no owner's list
pub record IsUnused {T : Type 0} (s : Slots T) (name : List ℕ) : Type 0 where
  pub value : map.get s.values name ≡ None
  pub touched : list_any (bytes_eq name) s.touched ≡ false
  pub owned : (owner : List ℕ) → list_any (bytes_eq name) (list_of s.owned owner) ≡ false
