-- How the names that were touched are kept: as the places of their entries, or themselves. No public clause cites this module.
use Rattle.std.specs.Prelude.{ℕ, ◌-◌, Bool, true, List, [], length, take, nat_eq, nat_lt, slice_index_or, map as each}
use Rattle.std.specs.List.{list_all, list_any, IsDistinct}
use Rattle.std.specs.Str.{bytes_eq}
use Rattle.dc_text.specs.Bytes.{is_nil}
use Rattle.dc_table.specs.Places.{put}
use Rattle.dc_table.specs.Tracked.{touch}
use Rattle.dc_table.specs.declared.touched.Touched.{Touched}
use Rattle.dc_table.specs.declared.touched.Touched.TheVariants as touched

pub data Marks : Type 0 where
  AtPlaces : List ℕ → Marks
  AsNames : List (List ℕ) → Marks

abbrev pub marks_of : Touched → Marks
marks_of (touched.Places places) = AtPlaces places
marks_of (touched.Names names) = AsNames names.keys

-- the name at the place
abbrev pub name_at : List (List ℕ) → ℕ → List ℕ
name_at keys place = slice_index_or keys place []

-- the names that were touched, where these are the keys in their places
abbrev pub touched_in : List (List ℕ) → Marks → List (List ℕ)
touched_in keys (AtPlaces places) = each (name_at keys) places
touched_in keys (AsNames names) = names

-- each place is below the bound
abbrev pub are_within : ℕ → Marks → Bool
are_within bound (AtPlaces places) = list_all (λ place. nat_lt place bound) places
are_within bound (AsNames names) = true

abbrev pub has_none : Marks → Bool
has_none (AtPlaces places) = is_nil places
has_none (AsNames names) = is_nil names

-- none of them comes twice
abbrev pub AreApart : Marks → Type 0
AreApart (AtPlaces places) = IsDistinct nat_eq places
AreApart (AsNames names) = IsDistinct bytes_eq names

-- whether the name is touched already, which has this place
abbrev pub has_mark : Marks → ℕ → List ℕ → Bool
has_mark (AtPlaces places) place name = list_any (nat_eq place) places
has_mark (AsNames names) place name = list_any (bytes_eq name) names

-- with the name touched, which has this place
abbrev pub with_mark : Marks → ℕ → List ℕ → Marks
with_mark (AtPlaces places) place name = AtPlaces (put places place)
with_mark (AsNames names) place name = AsNames (touch names name)

-- without the last
abbrev pub without_last : Marks → Marks
without_last (AtPlaces places) = AtPlaces (take (length places - 1) places)
without_last (AsNames names) = AsNames (take (length names - 1) names)
