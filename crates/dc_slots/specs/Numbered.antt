-- Slots by their numbers. No public clause cites this module.
use Rattle.std.specs.Prelude.{◌≡◌, ℕ, Bool, true, not, ◌||◌, ◌==◌, Option, Some, None, is_some, List, [], refl}
use Rattle.std.specs.FinMap as map
use Rattle.std.specs.Ordering.{nat_cmp}
use Rattle.std.specs.Coded.{Coded, code_by, coded×, coded_list, coded_option, coded_ℕ}
use Rattle.dc_slots.specs.Chains.{has}

-- what a slot is for: its name, its value or none, and how many owners have it
pub record Kept (T : Type 0) : Type 0 where
  pub name : List ℕ
  pub value : Option T
  pub owners : ℕ

-- slots by their numbers, and the numbers of those that are touched
pub record Numbered (T : Type 0) : Type 0 where
  pub kept : map.FinMap nat_cmp (Kept T)
  pub touched : List ℕ

abbrev pub kept_code : {T : Type 0} → Coded T → Coded (Kept T)
kept_code {T} code =
    code_by (List ℕ × (Option T × ℕ)) (coded× (coded_list coded_ℕ) (coded× (coded_option code) coded_ℕ)) (λ k. (k.name, (k.value, k.owners))) (λ p. record { name = p.0; value = p.1.0; owners = p.1.1 }) (λ _. refl)

abbrev pub numbered_code : {T : Type 0} → Coded T → Coded (Numbered T)
numbered_code {T} code =
    code_by (map.FinMap nat_cmp (Kept T) × List ℕ) (coded× (map.code coded_ℕ (kept_code code)) (coded_list coded_ℕ)) (λ s. (s.kept, s.touched)) (λ p. record { kept = p.0; touched = p.1 }) (λ _. refl)

module _ {T : Type 0} where
  -- the number is a slot's
  abbrev pub IsKept : Numbered T → ℕ → Type 0
  IsKept s n = is_some (map.get s.kept n) ≡ true

  abbrev pub name_in : Option (Kept T) → List ℕ
  name_in None = []
  name_in (Some k) = k.name

  abbrev pub value_in : Option (Kept T) → Option T
  value_in None = None
  value_in (Some k) = k.value

  abbrev pub owners_in : Option (Kept T) → ℕ
  owners_in None = 0
  owners_in (Some k) = k.owners

  -- the name, the value and the count of owners of the slot with the number
  abbrev pub name_at : Numbered T → ℕ → List ℕ
  name_at s n = name_in (map.get s.kept n)

  abbrev pub value_at : Numbered T → ℕ → Option T
  value_at s n = value_in (map.get s.kept n)

  abbrev pub owners_at : Numbered T → ℕ → ℕ
  owners_at s n = owners_in (map.get s.kept n)

  -- with this slot at the number
  abbrev pub with_kept : Numbered T → ℕ → Kept T → Numbered T
  with_kept s n k = record s { kept = map.insert s.kept n k }

  -- with this value, or with this count of owners, in the slot with the number
  abbrev pub with_value : Numbered T → ℕ → Option T → Numbered T
  with_value s n value = with_kept s n (record { name = name_at s n; value = value; owners = owners_at s n })

  abbrev pub with_owners : Numbered T → ℕ → ℕ → Numbered T
  with_owners s n owners = with_kept s n (record { name = name_at s n; value = value_at s n; owners = owners })

  -- the slot has a value, is touched, or some owner has it
  abbrev pub is_used : Numbered T → ℕ → Bool
  is_used s n = is_some (value_at s n) || (has n s.touched || not (owners_at s n == 0))
