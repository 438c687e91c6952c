-- A database text is a list of records, parted by blank lines.
use Rattle.std.specs.Prelude.{◌≡◌, ◌≢◌, ℕ, ◌-◌, ◌<◌, ◌≤◌, Bool, true, false, List, [], ◌∷◌, ◌++◌, length, take, map, Option, Some, None, Result, Ok, Err}
use Rattle.std.specs.List.{before_first, after_last, filter_map, flat_map, AllByRecursion, enumerate_from}
use Rattle.std.specs.FinMap.{from_entries}
use Rattle.dc_text.specs.Faults.{AllStand}
use Rattle.dc_text.specs.Lines.{lines_of}
use Rattle.dc_text.specs.Maps.{set_of}
use Rattle.dc_item.specs.Grammar.{line_said, RecordLine, Blank, Name, Owners, Flags, Variables, Variable, Field, Nothing}
use Rattle.dc_item.specs.Item.{ItemParts}
use Rattle.dc_item.specs.declared.records.RecordError.{RecordError}
use Rattle.dc_item.specs.declared.records.RecordError.TheVariants.{Bad, OutOfMemory}
use Rattle.dc_item.specs.declared.entry.Entry.{Entry}

-- ---- the records of a text

abbrev pub is_blank : RecordLine → Bool
is_blank Blank = true
is_blank _ = false

-- the lines before the first blank one
abbrev pub until_blank : List RecordLine → List RecordLine
until_blank lines = before_first is_blank lines

abbrev pub field_in : RecordLine → Option (List ℕ × List ℕ)
field_in (Field key value) = Some (key, value)
field_in _ = None

abbrev pub variable_in : RecordLine → Option (List ℕ × List ℕ)
variable_in (Variable key value) = Some (key, value)
variable_in _ = None

abbrev pub owners_in : RecordLine → List (List ℕ)
owners_in (Owners names) = names
owners_in _ = []

abbrev pub flags_in : RecordLine → List (List ℕ)
flags_in (Flags names) = names
flags_in _ = []

-- the item that the lines after a Name line make
abbrev pub item_of : List RecordLine → ItemParts
item_of lines = record {
  fields = from_entries (filter_map field_in lines);
  flags = set_of (flat_map flags_in lines);
  variables = from_entries (filter_map variable_in lines);
  owners = set_of (flat_map owners_in lines);
}

-- what the lines say, without their numbers
abbrev pub lines_said : List (ℕ × RecordLine) → List RecordLine
lines_said lines = map (λ line. line.1) lines

-- a Name line begins a record, which goes up to the next blank line
abbrev pub record_at : ℕ → RecordLine → List RecordLine → List Entry
record_at number (Name name) after = record { name = name; item = item_of (until_blank after); line = number } ∷ []
record_at number _ after = []

-- the records of numbered lines
abbrev pub records_of : List (ℕ × RecordLine) → List Entry
records_of [] = []
records_of (line ∷ lines) = record_at line.0 line.1 (lines_said lines) ++ records_of lines

-- ---- which line stands after which lines

-- the lines of the record that a next line would belong to: those since the last blank line
abbrev pub since_blank : List RecordLine → List RecordLine
since_blank lines = after_last is_blank lines

-- what a line spells of its record
pub data Slot : Type 0 where
  OfName : Slot
  OfOwners : Slot
  OfFlags : Slot
  OfVariables : Slot
  OfVariable : List ℕ → Slot
  OfField : List ℕ → Slot
  OfNothing : Slot

abbrev pub slot_of : RecordLine → Slot
slot_of Blank = OfNothing
slot_of (Name name) = OfName
slot_of (Owners names) = OfOwners
slot_of (Flags names) = OfFlags
slot_of Variables = OfVariables
slot_of (Variable key value) = OfVariable key
slot_of (Field key value) = OfField key
slot_of Nothing = OfNothing

-- no line of the record spells this yet
abbrev pub IsNew : List RecordLine → Slot → Type 0
IsNew group slot = AllByRecursion (λ line. slot_of line ≢ slot) group

abbrev pub IsOfVariables : RecordLine → Type 0
IsOfVariables Variables = Unit {0}
IsOfVariables (Variable key value) = Unit {0}
IsOfVariables _ = ⊥

-- the last line is the Variables line or a variable's
abbrev pub EndsInVariables : List RecordLine → Type 0
EndsInVariables [] = ⊥
EndsInVariables (line ∷ []) = IsOfVariables line
EndsInVariables (line ∷ next ∷ lines) = EndsInVariables (next ∷ lines)

abbrev pub name_in : RecordLine → Option (List ℕ)
name_in (Name name) = Some name
name_in _ = None

-- no earlier record has the name
abbrev pub IsNewName : List RecordLine → List ℕ → Type 0
IsNewName before name = AllByRecursion (λ other. other ≢ name) (filter_map name_in before)

-- a line that belongs to a record, and spells what no line of it spells yet
abbrev pub Adds : List RecordLine → Slot → Type 0
Adds before slot = (since_blank before ≢ []) × IsNew (since_blank before) slot

-- a line stands after those before it
abbrev pub Stands : List RecordLine → RecordLine → Type 0
Stands before Blank = Unit {0}
Stands before (Name name) = (since_blank before ≡ []) × IsNewName before name
Stands before (Variable key value) = EndsInVariables (since_blank before) × IsNew (since_blank before) (OfVariable key)
Stands before (Field key value) = Adds before (OfField key)
Stands before (Owners names) = Adds before OfOwners
Stands before (Flags names) = Adds before OfFlags
Stands before Variables = Adds before OfVariables
Stands before Nothing = ⊥

-- ---- the reading of a text

-- what the lines say, numbered from 1
abbrev pub numbered : List (List ℕ) → List (ℕ × RecordLine)
numbered lines = enumerate_from 1 (map line_said lines)

-- a line has a reading where it stands
abbrev pub LineStands : List (ℕ × RecordLine) → ℕ × RecordLine → List (ℕ × RecordLine) → Type 0
LineStands before line after = Stands (lines_said before) line.1

-- each line has a reading where it stands, and these are the records
pub record ReadsLines (lines : List (List ℕ)) (records : List Entry) : Type 0 where
  pub stand : AllStand LineStands (numbered lines)
  pub are : records ≡ records_of (numbered lines)

abbrev pub HasReading : List (List ℕ) → Type 0
HasReading lines = (records : List Entry) × ReadsLines lines records

-- the text has this reading
abbrev pub Reads : List ℕ → List Entry → Type 0
Reads text records = ReadsLines (lines_of text) records

-- The first k - 1 lines have a reading, and the first k lines have none.
pub record IsBadAt (lines : List (List ℕ)) (k : ℕ) : Type 0 where
  pub least : 0 < k
  pub within : k ≤ length lines
  pub read : HasReading (take (k - 1) lines)
  pub refused : ¬ HasReading (take k lines)

-- line k is the text's first bad line
abbrev pub IsBad : List ℕ → ℕ → Type 0
IsBad text k = IsBadAt (lines_of text) k

-- What is answered of a text: its reading, or its first bad line. Memory may run out.
abbrev pub IsAnswer : List ℕ → Result (List Entry) RecordError → Type 0
IsAnswer text (Ok records) = Reads text records
IsAnswer text (Err (Bad k)) = IsBad text k
IsAnswer text (Err OutOfMemory) = Unit {0}
