-- How the records of a text are kept: their names and items, and beside them the numbers of their Name lines. No public clause
-- cites this module.
use Rattle.std.specs.Prelude.{◌≡◌, ℕ, true, List, [], ◌∷◌, length, map as each}
use Rattle.std.specs.List.{list_all}
use Rattle.dc_text.specs.Names.{is_name}
use Rattle.dc_item.specs.Item.{ItemParts}
use Rattle.dc_item.specs.declared.entry.Entry.{Entry}

-- the records of these names and items, each with the number of its line
abbrev pub with_lines : List (List ℕ × ItemParts) → List ℕ → List Entry
with_lines [] lines = []
with_lines (kept ∷ items) [] = []
with_lines (kept ∷ items) (line ∷ lines) = record { name = kept.0; item = kept.1; line = line } ∷ with_lines items lines

abbrev pub names_in : List (List ℕ × ItemParts) → List (List ℕ)
names_in items = each (λ kept. kept.0) items

-- each has a line, and its name is a name
pub record AreKept (items : List (List ℕ × ItemParts)) (lines : List ℕ) : Type 0 where
  pub as_many : length lines ≡ length items
  pub named : list_all is_name (names_in items) ≡ true
