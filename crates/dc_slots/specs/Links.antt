-- How the lists of owners are linked. No public clause cites this module.
use Rattle.std.specs.Prelude.{◌≡◌, ◌≢◌, ℕ, true, false, Option, Some, None, is_some, List, [], ◌∷◌, ◌++◌, length, nat_eq, slice_index_or, slice_set, map as each, MatchOption}
use Rattle.std.specs.List.{IsDistinct}
use Rattle.std.specs.FinMap as map
use Rattle.dc_text.specs.Maps.{Texts}
use Rattle.dc_slots.specs.Chains.{has, walk, IsWalk, EndsAt}
use Rattle.dc_slots.specs.declared.owner_lists.Link.{Link}
use Rattle.dc_slots.specs.declared.owner_lists.OwnerList.{OwnerList}
use Rattle.dc_slots.specs.declared.owner_lists.Place.{Place}

abbrev pub link_at : List (Option Link) → ℕ → Option Link
link_at links n = slice_index_or links n None

abbrev pub next_of : Option Link → Option ℕ
next_of None = None
next_of (Some link) = link.next

abbrev pub slot_of : Option Link → ℕ
slot_of None = 0
slot_of (Some link) = link.slot

-- the number of the next link
abbrev pub next_in : List (Option Link) → ℕ → Option ℕ
next_in links n = next_of (link_at links n)

-- the number of the slot that the link holds
abbrev pub slot_in : List (Option Link) → ℕ → ℕ
slot_in links n = slot_of (link_at links n)

abbrev pub links_from : List (Option Link) → Option ℕ → List ℕ
links_from links from = walk (next_in links) (length links) from

-- the slots of the links from this one on
abbrev pub slots_from : List (Option Link) → Option ℕ → List ℕ
slots_from links from = each (slot_in links) (links_from links from)

-- the slots of each owner
abbrev pub slots_by_owner : List (Option Link) → List (List ℕ × OwnerList) → Texts (List ℕ)
slots_by_owner links [] = map.empty
slots_by_owner links (e ∷ es) = map.insert (slots_by_owner links es) e.0 (slots_from links (Some e.1.first))

-- these are the links of the list, from the first to the last
abbrev pub IsLinkedAs : List (Option Link) → Option OwnerList → List ℕ → Type 0
IsLinkedAs links None ns = ns ≡ []
IsLinkedAs links (Some l) ns = IsWalk (next_in links) (Some l.first) ns × EndsAt ns (Some l.last)

-- the list that has one link more, or has it alone
abbrev pub list_with : Option OwnerList → ℕ → OwnerList
list_with None n = record { first = n; last = n }
list_with (Some l) n = record l { last = n }

-- the list from the one link to the other, if there are such
abbrev pub list_between : Option ℕ → Option ℕ → Option OwnerList
list_between (Some first) (Some last) = Some (record { first = first; last = last })
list_between (Some first) None = None
list_between None last = None

abbrev pub with_next : Option Link → Option ℕ → Option Link
with_next None next = None
with_next (Some link) next = Some (record link { next = next })

-- the links where this one, if there is one, names the next
abbrev pub linked : List (Option Link) → Option ℕ → Option ℕ → List (Option Link)
linked links None next = links
linked links (Some n) next = slice_set links n (with_next (link_at links n) next)

-- the slot has got a link, which the last link of the owner's list names
pub record IsJoined (links later : List (Option Link)) (lists after : Texts OwnerList) (owner : List ℕ) (slot : ℕ) : Type 0 where
  pub number : ℕ
  pub vacant : link_at links number ≡ None
  pub here : link_at later number ≡ Some (record { slot = slot; next = None })
  pub named : (l : OwnerList) → map.get lists owner ≡ Some l → link_at later l.last ≡ with_next (link_at links l.last) (Some number)
  pub others : (n : ℕ) → n ≢ number → ((l : OwnerList) → map.get lists owner ≡ Some l → n ≢ l.last) → link_at later n ≡ link_at links n
  pub list : after ≡ map.insert lists owner (list_with (map.get lists owner) number)

-- among these links the slot's is this one, and before it stands that one, if there is one
pub record IsPlace (links : List (Option Link)) (ns : List ℕ) (slot : ℕ) (before : Option ℕ) (number : ℕ) : Type 0 where
  pub front : List ℕ
  pub back : List ℕ
  pub split : ns ≡ front ++ number ∷ back
  pub ends : EndsAt front before
  pub found : slot_in links number ≡ slot
  pub first : has slot (each (slot_in links) front) ≡ false

-- where the slot's link stands among the links from this one on, if it is there
abbrev pub IsFound : List (Option Link) → Option ℕ → ℕ → Option Place → Type 0
IsFound links from slot None = has slot (slots_from links from) ≡ false
IsFound links from slot (Some p) = IsPlace links (links_from links from) slot p.before p.number

-- the link is gone, and the one before it, if there is one, names what it named
pub record IsUnlinked (links later : List (Option Link)) (before : Option ℕ) (number : ℕ) : Type 0 where
  pub gone : link_at later number ≡ None
  pub named : MatchOption before (Unit {0}) (λ b. link_at later b ≡ with_next (link_at links b) (next_in links number))
  pub others : (n : ℕ) → n ≢ number → MatchOption before (Unit {0}) (λ b. n ≢ b) → link_at later n ≡ link_at links n

-- the first and the last link of the list, where this one is gone
abbrev pub first_after : Option ℕ → Option ℕ → ℕ → Option ℕ
first_after None next first = next
first_after (Some before) next first = Some first

abbrev pub last_after : Option ℕ → Option ℕ → ℕ → Option ℕ
last_after before None last = before
last_after before (Some next) last = Some last

-- each link stands in one owner's list
pub record AreLinked (links : List (Option Link)) (lists : Texts OwnerList) : Type 0 where
  pub chain : List ℕ → List ℕ
  pub linked : (owner : List ℕ) → IsLinkedAs links (map.get lists owner) (chain owner)
  pub kept : (owner : List ℕ) (n : ℕ) → has n (chain owner) ≡ true → is_some (link_at links n) ≡ true
  pub whole : (n : ℕ) → is_some (link_at links n) ≡ true → (owner : List ℕ) × (has n (chain owner) ≡ true)
  pub apart : (owner other : List ℕ) (n : ℕ) → has n (chain owner) ≡ true → has n (chain other) ≡ true → owner ≡ other
  pub distinct : (owner : List ℕ) → IsDistinct nat_eq (chain owner)
  pub slots : (owner : List ℕ) → IsDistinct nat_eq (each (slot_in links) (chain owner))

-- from this number on the links of a list are walked to their end
pub record AreWalked (links : List (Option Link)) (from : Option ℕ) : Type 0 where
  pub numbers : List ℕ
  pub walks : IsWalk (next_in links) from numbers
  pub kept : (n : ℕ) → has n numbers ≡ true → is_some (link_at links n) ≡ true
  pub distinct : IsDistinct nat_eq numbers
