-- How a slot table is kept: the number of each name's slot, the slots, and the numbers that each owner has. No public clause cites this module.
use Rattle.std.specs.Prelude.{◌≡◌, ◌⊎◌, ℕ, ◌+◌, Bool, true, false, Option, Some, None, List, [], ◌∷◌, map as each}
use Rattle.std.specs.FinMap as map
use Rattle.dc_text.specs.Maps.{Texts}
use Rattle.dc_slots.specs.Chains.{has}
use Rattle.dc_slots.specs.Slots.{Slots, with_at, list_of, if_any}
use Rattle.dc_slots.specs.Numbered.{Numbered, IsKept, name_at, value_at, owners_at, with_kept, is_used}

abbrev pub values_of : {T : Type 0} → (ℕ → Option T) → List (List ℕ × ℕ) → Texts T
values_of value [] = map.empty
values_of value (e ∷ es) = with_at (values_of value es) e.0 (value e.1)

abbrev pub lists_of : (ℕ → List ℕ) → List (List ℕ × List ℕ) → Texts (List (List ℕ))
lists_of name [] = map.empty
lists_of name (e ∷ es) = map.insert (lists_of name es) e.0 (each name e.1)

-- the table that has these parts
abbrev pub table_of : {T : Type 0} → Texts ℕ → Numbered T → Texts (List ℕ) → Slots T
table_of places slots lists = record {
  values = values_of (value_at slots) (map.entries places);
  touched = each (name_at slots) slots.touched;
  owned = lists_of (name_at slots) (map.entries lists);
}

-- one where it holds, and nothing elsewhere
abbrev pub one_if : Bool → ℕ
one_if true = 1
one_if false = 0

-- how many of the lists have the number
abbrev pub count_in : ℕ → List (List ℕ × List ℕ) → ℕ
count_in n [] = 0
count_in n (e ∷ es) = one_if (has n e.1) + count_in n es

module _ {T : Type 0} where
  -- each name has its own slot, and all numbers are those of slots
  pub record AreTied (places : Texts ℕ) (slots : Numbered T) (lists : Texts (List ℕ)) : Type 0 where
    pub named : (name : List ℕ) (n : ℕ) → map.get places name ≡ Some n → IsKept slots n × (name_at slots n ≡ name)
    pub placed : (n : ℕ) → IsKept slots n → map.get places (name_at slots n) ≡ Some n
    pub touched : (n : ℕ) → has n slots.touched ≡ true → IsKept slots n
    pub listed : (owner : List ℕ) (n : ℕ) → has n (list_of lists owner) ≡ true → IsKept slots n
    pub full : (owner : List ℕ) → map.get lists owner ≡ if_any (list_of lists owner)
    pub counted : (n : ℕ) → IsKept slots n → owners_at slots n ≡ count_in n (map.entries lists)

  -- so they are tied, and each slot is used
  pub record AreSound (places : Texts ℕ) (slots : Numbered T) (lists : Texts (List ℕ)) : Type 0 where
    pub tied : AreTied places slots lists
    pub used : (n : ℕ) → IsKept slots n → is_used slots n ≡ true

  -- the slot with the number is the name's, and it is new where the name had none
  abbrev pub IsPlaced : Texts ℕ → Texts ℕ → Numbered T → Numbered T → List ℕ → ℕ → Type 0
  IsPlaced places later slots after name n =
      ((map.get places name ≡ Some n) × (later ≡ places) × (after ≡ slots))
      ⊎ ((map.get places name ≡ None) × (map.get slots.kept n ≡ None) × (later ≡ map.insert places name n) × (after ≡ with_kept slots n (record { name = name; value = None; owners = 0 })))

  -- the slot is gone where it isn't used
  abbrev pub IsReleased : Texts ℕ → Texts ℕ → Numbered T → Numbered T → ℕ → Type 0
  IsReleased places later slots after n =
      ((is_used slots n ≡ true) × (later ≡ places) × (after ≡ slots))
      ⊎ ((is_used slots n ≡ false) × (later ≡ map.remove places (name_at slots n)) × (after ≡ record slots { kept = map.remove slots.kept n }))
