-- What the reader of records does with one line after another, as functions. The proofs alone speak of it: which lines stand
-- is said by `Stands` of Records.
use Rattle.std.specs.Prelude.{◌≡◌, ℕ, Bool, ◌||◌, List, [], ◌∷◌, ◌++◌, Option, Some, None, is_some, MatchOption, if◌then◌else◌, Result, Ok, Err, false, true}
use Rattle.std.specs.Option.{option_map_or}
use Rattle.std.specs.FinMap as map
use Rattle.dc_text.specs.Faults.{run}
use Rattle.dc_text.specs.Maps.{set_of}
use Rattle.dc_item.specs.Item.{no_parts}
use Rattle.dc_item.specs.Records.{numbered}
use Rattle.dc_item.specs.Table.{names_of}
use Rattle.dc_item.specs.Grammar.{RecordLine, Blank, Name, Owners, Flags, Variables, Variable, Field, Nothing}
use Rattle.dc_item.specs.declared.entry.Entry.{Entry}
use Rattle.dc_item.specs.declared.records.RecordError.{RecordError}
use Rattle.dc_item.specs.declared.records.RecordError.TheVariants.{Bad, OutOfMemory}
use Rattle.dc_item.specs.declared.reader.Open.{Open}
use Rattle.dc_item.specs.declared.reader.Reader.{Reader}

-- a record of which the Name line was read
abbrev pub begun : List ℕ → ℕ → Open
begun name line = record { name = name; item = no_parts; line = line; has_owners = false; has_flags = false; has_variables = false; in_variables = false }

abbrev pub entry_of : Open → Entry
entry_of o = record { name = o.name; item = o.item; line = o.line }

-- the record with what a further line says
abbrev pub added : Open → RecordLine → Option Open
added o (Field key value) = if map.contains_key o.item.fields key then None
    else Some (record o { item = record o.item { fields = map.insert o.item.fields key value }; in_variables = false })
added o (Owners names) = if o.has_owners then None
    else Some (record o { item = record o.item { owners = set_of names }; has_owners = true; in_variables = false })
added o (Flags names) = if o.has_flags then None
    else Some (record o { item = record o.item { flags = set_of names }; has_flags = true; in_variables = false })
added o Variables = if o.has_variables then None else Some (record o { has_variables = true; in_variables = true })
added o (Variable key value) = if o.in_variables then (if map.contains_key o.item.variables key then None
    else Some (record o { item = record o.item { variables = map.insert o.item.variables key value } })) else None
added o _ = None

-- a record has no owners before the line of its owners, and no flag before that of its flags
abbrev pub IsOpen : Open → Type 0
IsOpen o = (o.has_owners ≡ false → o.item.owners ≡ map.empty) × (o.has_flags ≡ false → o.item.flags ≡ map.empty)

-- one of the records has the name
abbrev pub has_name : List Entry → List ℕ → Bool
has_name entries name = map.contains_key (set_of (names_of entries)) name

-- so it is with the record that is open, if one is, and none before it has its name
abbrev pub IsReading : Reader → Type 0
IsReading r = MatchOption r.current (Unit {0}) (λ o. IsOpen o × (has_name r.done o.name ≡ false))

abbrev pub closed : Reader → Reader
closed r = option_map_or (λ o. record r { done = r.done ++ entry_of o ∷ []; current = None }) r.current r

-- with the record that is open
abbrev pub with_current : Reader → (Open → Option Open) → Option Reader
with_current r f = option_map_or (λ o. option_map_or (λ p. Some (record r { current = Some p })) (f o) None) r.current None

-- after a line that goes on with that record
abbrev pub continued : Reader → RecordLine → Option Reader
continued r line = with_current r (λ o. added o line)

-- the reader after the line of this number
abbrev pub step : Reader → ℕ → RecordLine → Option Reader
step r number Blank = Some (closed r)
step r number (Name name) = if is_some r.current || has_name r.done name then None else Some (record r { current = Some (begun name number) })
step r number Nothing = None
step r number line = continued r line

-- the reader before the first line
abbrev pub at_start : Reader
at_start = record { done = []; current = None }

-- the line that isn't taken is the fault
abbrev pub taken_or : ℕ × RecordLine → Option Reader → Result Reader ((ℕ × RecordLine) × Unit {0})
taken_or line None = Err (line, tt)
taken_or line (Some r) = Ok r

abbrev pub line_step : Reader → ℕ × RecordLine → List (ℕ × RecordLine) → Result Reader ((ℕ × RecordLine) × Unit {0})
line_step r line after = taken_or line (step r line.0 line.1)

-- what the reader makes of the lines, or the first line that it refuses
abbrev pub read_all : List (List ℕ) → Result Reader ((ℕ × RecordLine) × Unit {0})
read_all lines = run line_step (numbered lines) at_start

-- An error of the reader names the line, unless memory ran out.
abbrev pub Fails : RecordError → Result Reader ((ℕ × RecordLine) × Unit {0}) → Type 0
Fails (Bad k) read = (line : RecordLine) × (read ≡ Err ((k, line), tt))
Fails OutOfMemory read = Unit {0}
