-- A table: a finite map from names to items.
use Rattle.std.specs.Prelude.{ℕ, ◌≡◌, true, Some, List, map as each}
use Rattle.std.specs.FinMap as map
use Rattle.dc_text.specs.Maps.{Texts}
use Rattle.dc_text.specs.Names.{is_name}
use Rattle.dc_item.specs.Item.{ItemParts, IsItem}
use Rattle.dc_item.specs.Records.{Reads}
use Rattle.dc_item.specs.declared.entry.Entry.{Entry}

-- a record's name and item, wherever its lines stand
abbrev pub contents : Entry → List ℕ × ItemParts
contents entry = (entry.name, entry.item)

-- the table of the records
abbrev pub table_of : List Entry → Texts ItemParts
table_of entries = map.from_entries (each contents entries)

-- the names of the records
abbrev pub names_of : List Entry → List (List ℕ)
names_of entries = each (λ entry. entry.name) entries

-- what every record keeps: its name is a name, and its item is an item
pub record IsEntry (entry : Entry) : Type 0 where
  pub name : is_name entry.name ≡ true
  pub item : IsItem entry.item

-- what every table keeps
abbrev pub IsTable : Texts ItemParts → Type 0
IsTable table = (name : List ℕ) (item : ItemParts) → map.get table name ≡ Some item → (is_name name ≡ true) × IsItem item

-- the records stand in byte order of their names, which are distinct
abbrev pub IsInOrder : List Entry → Type 0
IsInOrder entries = each contents entries ≡ map.entries (table_of entries)

-- a reading of the text has the table's names and items, in byte order of the names
abbrev pub ReadsTable : List ℕ → Texts ItemParts → Type 0
ReadsTable text table = (read : List Entry) × Reads text read × (each contents read ≡ map.entries table)

-- a reading of the text has these names and items, in this order
abbrev pub ReadsAs : List ℕ → List Entry → Type 0
ReadsAs text entries = (read : List Entry) × Reads text read × (each contents read ≡ each contents entries)
