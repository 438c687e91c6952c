-- How touched slots are linked in the vector of slots. No public clause cites this module.
use Rattle.std.specs.Prelude.{◌≡◌, ◌≢◌, ℕ, suc, true, false, Option, Some, None, is_some, List, [], ◌∷◌, length, nat_eq, slice_index_or, slice_set, map as each}
use Rattle.std.specs.List.{IsDistinct}
use Rattle.std.specs.FinMap as map
use Rattle.std.specs.Ordering.{nat_cmp}
use Rattle.dc_slots.specs.Chains.{has, walk, IsWalk, EndsAt}
use Rattle.dc_slots.specs.Numbered.{Kept}
use Rattle.dc_slots.specs.declared.slot_vector.Slot.{Slot}

-- the last of the touched slots, where the first is taken away and this one is the next
abbrev pub last_behind : Option ℕ → Option ℕ → Option ℕ
last_behind None last = None
last_behind (Some n) last = last

-- the first of the touched slots, where this one is put behind the others
abbrev pub first_before : Option ℕ → ℕ → Option ℕ
first_before None n = Some n
first_before (Some first) n = Some first

module _ {T : Type 0} where
  abbrev pub slot_at : List (Option (Slot T)) → ℕ → Option (Slot T)
  slot_at slots n = slice_index_or slots n None

  abbrev pub next_of : Option (Slot T) → Option ℕ
  next_of None = None
  next_of (Some s) = s.next_touched

  -- the number of the next touched slot
  abbrev pub next_in : List (Option (Slot T)) → ℕ → Option ℕ
  next_in slots n = next_of (slot_at slots n)

  abbrev pub kept_of : Slot T → Kept T
  kept_of s = record { name = s.name; value = s.value; owners = s.owners }

  abbrev pub with_number : map.FinMap nat_cmp (Kept T) → ℕ → Option (Slot T) → map.FinMap nat_cmp (Kept T)
  with_number m n None = m
  with_number m n (Some s) = map.insert m n (kept_of s)

  -- the slots by their numbers, the first of which is this one
  abbrev pub kept_from : ℕ → List (Option (Slot T)) → map.FinMap nat_cmp (Kept T)
  kept_from n [] = map.empty
  kept_from n (s ∷ slots) = with_number (kept_from (suc n) slots) n s

  abbrev pub touched_from : List (Option (Slot T)) → Option ℕ → List ℕ
  touched_from slots from = walk (next_in slots) (length slots) from

  -- the touched slots, from the first to the last
  pub record IsThreaded (slots : List (Option (Slot T))) (first last : Option ℕ) : Type 0 where
    pub touched : List ℕ
    pub walks : IsWalk (next_in slots) first touched
    pub ends : EndsAt touched last
    pub kept : (n : ℕ) → has n touched ≡ true → is_some (slot_at slots n) ≡ true
    pub others : (n : ℕ) → has n touched ≡ false → next_in slots n ≡ None
    pub distinct : IsDistinct nat_eq touched

  abbrev pub with_next : Option (Slot T) → Option ℕ → Option (Slot T)
  with_next None next = None
  with_next (Some s) next = Some (record s { next_touched = next })

  -- the slots where the last of the touched ones names this one
  abbrev pub linked : List (Option (Slot T)) → Option ℕ → ℕ → List (Option (Slot T))
  linked slots None n = slots
  linked slots (Some last) n = slice_set slots last (with_next (slot_at slots last) (Some n))

  -- the slot is at the number, and each other number has what it had
  pub record IsChangedAt (slots later : List (Option (Slot T))) (n : ℕ) (s : Option (Slot T)) : Type 0 where
    pub here : slot_at later n ≡ s
    pub others : (m : ℕ) → m ≢ n → slot_at later m ≡ slot_at slots m

  abbrev pub name_of : Option (Slot T) → List ℕ
  name_of None = []
  name_of (Some s) = s.name

  -- the names of the touched slots from this one on
  abbrev pub names_from : List (Option (Slot T)) → Option ℕ → List (List ℕ)
  names_from slots from = each (λ n. name_of (slot_at slots n)) (touched_from slots from)

  -- from this number on the touched slots are walked to their end
  pub record IsWalked (slots : List (Option (Slot T))) (from : Option ℕ) : Type 0 where
    pub numbers : List ℕ
    pub walks : IsWalk (next_in slots) from numbers
    pub kept : (n : ℕ) → has n numbers ≡ true → is_some (slot_at slots n) ≡ true
    pub distinct : IsDistinct nat_eq numbers
