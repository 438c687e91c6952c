-- What the reader does, as functions: with one line after another, with the faults of stanzas, and with names. Only functions
-- that are not public, and the proofs, speak of them.
use Rattle.std.specs.Prelude.{◌≡◌, ◌≢◌, ◌≤◌, ℕ, suc, ◌+◌, ⊤, Bool, true, false, ◌||◌, ◌&&◌, map as each, slice_get, Vec, nat_le, set, List, [], ◌∷◌, ◌++◌, Option, Some, None, Result, Ok, Err, if◌then◌else◌}
use Rattle.std.specs.List.{AllByRecursion}
use Rattle.std.specs.Option.{option_map_or, unwrap_or}
use Rattle.std.specs.Str.{bytes_eq}
use Rattle.std.specs.FinMap as map
use Rattle.dc_text.specs.Bytes.{is_blank}
use Rattle.dc_text.specs.Lines.{lines_of}
use Rattle.dc_text.specs.Maps.{Texts}
use Rattle.dc_conf.specs.declared.faults.Fault.{Fault}
use Rattle.dc_conf.specs.declared.faults.ConfKind.TheVariants.{NoColon, Twice}
use Rattle.dc_conf.specs.declared.faults.ConfError.{ConfError}
use Rattle.dc_conf.specs.declared.faults.ConfError.TheVariants.{Refused, OutOfMemory}
use Rattle.dc_conf.specs.declared.fields.Field.{Field}
use Rattle.dc_conf.specs.declared.reading.Gathered.{Gathered}
use Rattle.dc_conf.specs.declared.spec.LayerSort.{LayerSort}
use Rattle.dc_conf.specs.Stanzas.{Line, Stanza, numbered, is_comment, has_colon, field_in}
use Rattle.dc_conf.specs.Values.{is_mode}
use Rattle.dc_conf.specs.declared.nodes.Node.{Node}
use Rattle.dc_conf.specs.Configuration.{mode_field}
use Rattle.dc_conf.specs.Nodes.{named_in, is_among, is_node, names_of, names_it, leads_to}
use Rattle.dc_conf.specs.Reaching.{by_way}
use Rattle.dc_conf.specs.ConfFaults.{fault, is_made, sort_in, second_pass, third_pass, fourth_pass}

-- ---- the least fault

-- the fault on the lesser line, at one line the first
abbrev pub earlier_of : Option Fault → Option Fault → Option Fault
earlier_of None other = other
earlier_of (Some first) None = Some first
earlier_of (Some first) (Some second) = if nat_le first.line second.line then Some first else Some second

abbrev pub least_of : List Fault → Option Fault
least_of [] = None
least_of (first ∷ faults) = earlier_of (Some first) (least_of faults)

-- the first, if it is there, and else the other
abbrev pub or_else : Option Fault → Option Fault → Option Fault
or_else None other = other
or_else (Some first) other = Some first

-- the fault that decides
abbrev pub decided : List (List Fault) → Option Fault
decided [] = None
decided (pass ∷ passes) = or_else (least_of pass) (decided passes)

-- the passes over stanzas
abbrev pub later_passes : List Stanza → List (List Fault)
later_passes stanzas = second_pass stanzas ∷ third_pass stanzas ∷ fourth_pass stanzas ∷ []

-- ---- the lines

-- a stanza, if it has a field
abbrev pub kept : Stanza → List Stanza
kept [] = []
kept (field ∷ fields) = (field ∷ fields) ∷ []

abbrev pub at_start : Gathered
at_start = record { done = []; open_stanza = []; keys = map.empty }

-- the stanzas, where no line comes
abbrev pub finished : Gathered → List Stanza
finished gathered = gathered.done ++ kept gathered.open_stanza

abbrev pub ended : Gathered → Gathered
ended gathered = record { done = finished gathered; open_stanza = []; keys = map.empty }

abbrev pub with_field : Gathered → Field → Result Gathered Fault
with_field gathered field =
    if map.contains_key gathered.keys field.key then Err (fault field.line Twice)
    else Ok (record gathered { open_stanza = gathered.open_stanza ++ field ∷ []; keys = map.insert gathered.keys field.key tt })

abbrev pub step : Gathered → Line → Result Gathered Fault
step gathered line =
    if is_comment line.text then Ok gathered
    else if is_blank line.text then Ok (ended gathered)
    else if has_colon line.text then with_field gathered (field_in line)
    else Err (fault line.number NoColon)

abbrev pub goes_on : {S T : Type 0} → Result S Fault → (S → Result T Fault) → Result T Fault
goes_on (Ok s) f = f s
goes_on (Err fault) f = Err fault

abbrev pub run : List Line → Gathered → Result Gathered Fault
run [] gathered = Ok gathered
run (line ∷ lines) gathered = goes_on (step gathered line) (run lines)

abbrev pub stanzas_read : List ℕ → Result (List Stanza) Fault
stanzas_read text = goes_on (run (numbered 1 (lines_of text)) at_start) (λ gathered. Ok (finished gathered))

-- An error of the reader is this fault, unless memory ran out.
abbrev pub IsRefusal : {T : Type 0} → Result T Fault → ConfError → Type 0
IsRefusal found (Refused line kind) = found ≡ Err (fault line kind)
IsRefusal found OutOfMemory = ⊤

-- ---- the order of lines

-- the stanza has a field, and its fields stand on lines from the first to the second
pub record IsBetween (low high : ℕ) (stanza : Stanza) : Type 0 where
  pub some : stanza ≢ []
  pub within : AllByRecursion (λ field. (low ≤ field.line) × (field.line ≤ high)) stanza

-- each stanza stands after the one before it
abbrev pub Rise : ℕ → List Stanza → Type 0
Rise low [] = ⊤
Rise low (stanza ∷ stanzas) = (high : ℕ) × (low ≤ high) × IsBetween low high stanza × Rise high stanzas

-- ---- what the values of stanzas without faults are

-- the mode that a database of this sort takes, if it is there, is one
abbrev pub TakesMode : LayerSort → Stanza → Type 0
TakesMode sort stanza = option_map_or (λ field. is_mode field.value) (mode_field sort stanza) true ≡ true

-- so it is in a database that isn't made of others
abbrev pub HasMode : Stanza → Type 0
HasMode stanza = is_made stanza ≡ false → TakesMode (sort_in stanza) stanza

-- and in each of the databases
abbrev pub AreModes : List Stanza → Type 0
AreModes [] = ⊤
AreModes (head ∷ databases) = AllByRecursion HasMode databases

-- ---- names that no database has

-- the place of the first of these names that no database has, where their places begin at this one
abbrev pub unknown_from : List (List ℕ) → ℕ → List (List ℕ) → Option ℕ
unknown_from databases place [] = None
unknown_from databases place (root ∷ roots) = if is_among databases root then unknown_from databases (place + 1) roots else Some place

-- ---- which databases lead to which, in rows of flags

-- the flags of rows
abbrev pub flags_of : {A B : Type 0} → Vec (Vec Bool A) B → List (List Bool)
flags_of rows = each (λ row. row.items) rows.items

-- the one is the other, or reaches it by way of these
abbrev pub leads_by : List Node → List (List ℕ) → List ℕ → List ℕ → Bool
leads_by nodes way one other = bytes_eq one other || by_way (names_it nodes) way one other

-- for each database a row with a flag for each: it is the one, or reaches it by way of these
abbrev pub rows_over : List Node → List (List ℕ) → List (List Bool)
rows_over nodes way = each (λ one. each (leads_by nodes way one) (names_of nodes)) (names_of nodes)

-- the row of a database, where none stands between
abbrev pub direct_row : Node → List Node → List Bool
direct_row node nodes = each (λ other. bytes_eq node.name other.name || is_among (named_in node.form) other.name) nodes

-- the flags of the row of a name, none where no database has it
abbrev pub led_row : List Node → List ℕ → List Bool
led_row nodes name = if is_node nodes name then each (leads_to nodes name) (names_of nodes) else []

-- a row with the flags of another
abbrev pub joined : List Bool → List Bool → List Bool
joined (flag ∷ row) (more ∷ other) = (flag || more) ∷ joined row other
joined row _ = row

-- a row with a flag at the place with those of the row there
abbrev pub widened : ℕ → List Bool → List Bool → List Bool
widened place through row = if unwrap_or (slice_get row place) false then joined row through else row

-- the places of the names of databases, of which the first has this place
abbrev pub places_from : ℕ → List Node → Texts ℕ
places_from place [] = map.empty
places_from place (node ∷ nodes) = map.insert (places_from (suc place) nodes) node.name place

-- a row with a flag at the place of the name, if it has one
abbrev pub marked : Texts ℕ → List Bool → List ℕ → List Bool
marked places row name = option_map_or (λ place. set row place true) (map.get places name) row

-- and with one at that of each of the names
abbrev pub all_marked : Texts ℕ → List Bool → List (List ℕ) → List Bool
all_marked places row [] = row
all_marked places row (name ∷ names) = all_marked places (marked places row name) names

-- both have a flag in one place
abbrev pub share_flag : List Bool → List Bool → Bool
share_flag (one ∷ row) (two ∷ other) = (one && two) || share_flag row other
share_flag _ _ = false

-- The places and the rows are those of the databases.
pub record IsWeb {A B : Type 0} (nodes : List Node) (places : Texts ℕ) (rows : Vec (Vec Bool A) B) : Type 0 where
  pub known : places ≡ places_from 0 nodes
  pub led : flags_of rows ≡ rows_over nodes (names_of nodes)
