-- The faults of a configuration. They come in four passes: the first pass with a fault decides, and in it the least line. At
-- one line the first kind decides, in the order in which a pass lists them.
use Rattle.std.specs.Prelude.{◌≡◌, ◌<◌, ◌≤◌, ℕ, Bool, true, false, not, ◌||◌, ◌&&◌, nat_le, List, [], ◌∷◌, ◌++◌, Option, Some, None, is_some, map as each, length, codes, ◌==◌, if◌then◌else◌}
use Rattle.std.specs.Option.{option_map_or}
use Rattle.std.specs.List.{list_any, filter, flat_map, AllByRecursion}
use Rattle.std.specs.Str.{bytes_eq}
use Rattle.dc_conf.specs.declared.drivers.Driver.{Driver}
use Rattle.dc_conf.specs.declared.drivers.Driver.TheVariants.{File, DirTree, PackageDir, Pipe, Stack, Backup, Debug}
use Rattle.dc_conf.specs.declared.faults.ConfKind.{ConfKind}
use Rattle.dc_conf.specs.declared.faults.ConfKind.TheVariants.{NoColon, Twice, TooMany, NoConfig, NoTemplates, NoName, NoDriver, UnknownDriver, MissingField, BadValue, SamePlace, UnknownDatabase, Cycle, SharedDatabase}
use Rattle.dc_conf.specs.declared.faults.Fault.{Fault}
use Rattle.dc_conf.specs.declared.fields.Field.{Field}
use Rattle.dc_conf.specs.declared.nodes.Form.{Form}
use Rattle.dc_conf.specs.declared.nodes.Form.TheVariants.{Holds, Stacks, Backs, Tells}
use Rattle.dc_conf.specs.declared.nodes.Node.{Node}
use Rattle.dc_conf.specs.declared.spec.LayerSort.{LayerSort}
use Rattle.dc_conf.specs.declared.spec.LayerSort.TheVariants as sort
use Rattle.dc_conf.specs.Nodes.{is_node, leads_to, names_meet, two_meet}
use Rattle.dc_conf.specs.Stanzas.{Line, Stanza, stanzas, has_colon, field_in, fields_of, field_at, first_line}
use Rattle.dc_conf.specs.Values.{FieldRule, rules_of, driver_of, names_in, without_last_slash}

abbrev pub fault : ℕ → ConfKind → Fault
fault line kind = record { line = line; kind = kind }

-- a fault where this is so, as a list of none or one
abbrev pub fault_if : Bool → ℕ → ConfKind → List Fault
fault_if is line kind = if is then fault line kind ∷ [] else []

-- the faults of each element in turn, by those before it
abbrev pub along : {X : Type 0} → (List X → X → List Fault) → List X → List X → List Fault
along faults before [] = []
along faults before (x ∷ xs) = faults before x ++ along faults (before ++ x ∷ []) xs

-- ---- the first pass: lines

-- a line without a colon, and a field that is repeated in its stanza
abbrev pub line_faults : List Line → Line → List Fault
line_faults before line =
    if has_colon line.text
    then fault_if (list_any (λ field. bytes_eq field.key (field_in line).key) (fields_of before)) line.number Twice
    else fault line.number NoColon ∷ []

abbrev pub first_pass : List (List Line) → List Fault
first_pass all = flat_map (along line_faults []) all

-- ---- the second pass: stanzas

abbrev pub is_there : List ℕ → Stanza → Bool
is_there key stanza = option_map_or (λ field. true) (field_at key stanza) false

-- a fault on the first line of the stanza where it has no such field
abbrev pub missing : List ℕ → Stanza → ConfKind → List Fault
missing key stanza kind = fault_if (not (is_there key stanza)) (first_line stanza) kind

-- a fault on the line of the field, where it is there and this is so of it
abbrev pub at_field : List ℕ → Stanza → (Field → Bool) → ConfKind → List Fault
at_field key stanza is kind = option_map_or (λ field. fault_if (is field) field.line kind) (field_at key stanza) []

-- the driver of a database, if it has one
abbrev pub driver_in : Stanza → Option Driver
driver_in stanza = option_map_or (λ field. driver_of field.value) (field_at (codes "driver") stanza) None

-- the rules for the fields of a database
abbrev pub rules_in : Stanza → List FieldRule
rules_in stanza = rules_of (driver_in stanza)

-- a field that the driver needs is missing
abbrev pub lacks_field : List FieldRule → Stanza → Bool
lacks_field rules stanza = list_any (λ rule. rule.needed && not (is_there rule.key stanza)) rules

-- a rule for the field doesn't take its value
abbrev pub is_bad : List FieldRule → Field → Bool
is_bad rules field = list_any (λ rule. bytes_eq rule.key field.key && not (rule.takes field.value)) rules

abbrev pub bad_values : Stanza → List Fault
bad_values stanza = flat_map (λ field. fault_if (is_bad (rules_in stanza) field) field.line BadValue) stanza

-- no driver has the word
abbrev pub unknown_driver : Stanza → List Fault
unknown_driver stanza = at_field (codes "driver") stanza (λ field. option_map_or (λ driver. false) (driver_of field.value) true) UnknownDriver

-- the database has this name
abbrev pub has_name : List ℕ → Stanza → Bool
has_name name stanza = option_map_or (λ field. bytes_eq field.value name) (field_at (codes "name") stanza) false

-- one of these databases has this name
abbrev pub is_named : List Stanza → List ℕ → Bool
is_named databases name = list_any (has_name name) databases

-- an earlier database has the name
abbrev pub repeated_name : List Stanza → Stanza → List Fault
repeated_name before stanza = at_field (codes "name") stanza (λ field. is_named before field.value) Twice

-- the field that says where a database is kept, if its driver keeps one
abbrev pub place_by : Option Driver → Stanza → Option Field
place_by (Some File) stanza = field_at (codes "filename") stanza
place_by (Some DirTree) stanza = field_at (codes "directory") stanza
place_by (Some PackageDir) stanza = field_at (codes "directory") stanza
place_by _ stanza = None

abbrev pub place_in : Stanza → Option Field
place_in stanza = place_by (driver_in stanza) stanza

-- how a database that holds items itself is kept, by its driver
abbrev pub sort_by : Option Driver → LayerSort
sort_by (Some DirTree) = sort.Tree
sort_by (Some PackageDir) = sort.Pack
sort_by (Some Pipe) = sort.Pipe
sort_by _ = sort.File

abbrev pub sort_in : Stanza → LayerSort
sort_in stanza = sort_by (driver_in stanza)

-- the path that a value says for a database of this sort: that of a folder is without one slash at the end
abbrev pub place_at : LayerSort → List ℕ → List ℕ
place_at sort.File value = value
place_at sort.Tree value = without_last_slash value
place_at sort.Pack value = without_last_slash value
place_at sort.Pipe value = value

-- the paths at which a database of this sort is kept
abbrev pub paths_at : LayerSort → List ℕ → List (List ℕ)
paths_at sort.File place = place ∷ (place ++ codes "-new") ∷ (place ++ codes "-old") ∷ []
paths_at sort.Tree place = place ∷ []
paths_at sort.Pack place = place ∷ []
paths_at sort.Pipe place = []

-- the path at which a database is kept, empty where it isn't kept in a place
abbrev pub place_of : Stanza → List ℕ
place_of stanza = option_map_or (λ field. place_at (sort_in stanza) field.value) (place_in stanza) []

-- its paths, none where it isn't kept in a place
abbrev pub paths_in : Stanza → List (List ℕ)
paths_in stanza = if is_some (place_in stanza) then paths_at (sort_in stanza) (place_of stanza) else []

-- the second text begins with the first
abbrev pub is_front : List ℕ → List ℕ → Bool
is_front [] text = true
is_front (byte ∷ bytes) [] = false
is_front (byte ∷ bytes) (first ∷ rest) = byte == first && is_front bytes rest

-- one path is the other, or lies below it
abbrev pub meet : List ℕ → List ℕ → Bool
meet path other = bytes_eq path other || (is_front (path ++ 47 ∷ []) other || is_front (other ++ 47 ∷ []) path)

-- some path of the one database meets some path of the other
abbrev pub share_place : Stanza → Stanza → Bool
share_place one other = list_any (λ path. list_any (meet path) (paths_in other)) (paths_in one)

-- the database is kept where an earlier one is
abbrev pub same_place : List Stanza → Stanza → List Fault
same_place before stanza =
    option_map_or (λ field. fault_if (list_any (λ earlier. share_place earlier stanza) before) field.line SamePlace) (place_in stanza) []

-- both drivers are the same, and keep items themselves
abbrev pub keep_alike : Option Driver → Option Driver → Bool
keep_alike (Some File) (Some File) = true
keep_alike (Some DirTree) (Some DirTree) = true
keep_alike (Some PackageDir) (Some PackageDir) = true
keep_alike (Some Pipe) (Some Pipe) = true
keep_alike _ _ = false

-- of these databases those that keep items as this one does
abbrev pub kept_alike : List Stanza → Stanza → List Stanza
kept_alike databases stanza = filter (λ other. keep_alike (driver_in other) (driver_in stanza)) databases

-- how many databases of a driver there may be: one pipe, since there is one input and one output
abbrev pub most_alike : Option Driver → ℕ
most_alike (Some Pipe) = 1
most_alike _ = 16

-- 256 databases stand before this one, or as many as there may be of those that keep items as it does
abbrev pub is_too_many : List Stanza → Stanza → Bool
is_too_many before stanza = nat_le 256 (length before) || nat_le (most_alike (driver_in stanza)) (length (kept_alike before stanza))

-- the faults of a database by itself, and whether it is one too many
abbrev pub lone_faults : Bool → Stanza → List Fault
lone_faults many stanza =
    fault_if many (first_line stanza) TooMany
    ++ missing (codes "name") stanza NoName
    ++ missing (codes "driver") stanza NoDriver
    ++ fault_if (lacks_field (rules_in stanza) stanza) (first_line stanza) MissingField
    ++ unknown_driver stanza
    ++ bad_values stanza

-- the faults of a database, by the databases before it
abbrev pub database_faults : List Stanza → Stanza → List Fault
database_faults before stanza = lone_faults (is_too_many before stanza) stanza ++ repeated_name before stanza ++ same_place before stanza

-- the faults of the first stanza
abbrev pub head_faults : Stanza → List Fault
head_faults stanza = missing (codes "config") stanza NoConfig ++ missing (codes "templates") stanza NoTemplates

abbrev pub second_pass : List Stanza → List Fault
second_pass [] = head_faults []
second_pass (head ∷ databases) = head_faults head ++ along database_faults [] databases

-- ---- the third pass: names of databases

-- the value of a field, empty where it isn't there
abbrev pub value_at : List ℕ → Stanza → List ℕ
value_at key stanza = option_map_or (λ field. field.value) (field_at key stanza) []

-- the driver makes a database of others
abbrev pub is_made_by : Option Driver → Bool
is_made_by (Some Stack) = true
is_made_by (Some Backup) = true
is_made_by (Some Debug) = true
is_made_by _ = false

-- the database is made of others
abbrev pub is_made : Stanza → Bool
is_made stanza = is_made_by (driver_in stanza)

-- how a database is made, by its driver
abbrev pub form_by : Option Driver → Stanza → Form
form_by (Some Stack) stanza = Stacks (names_in (value_at (codes "stack") stanza))
form_by (Some Backup) stanza = Backs (value_at (codes "db") stanza) (value_at (codes "backupdb") stanza)
form_by (Some Debug) stanza = Tells (value_at (codes "db") stanza)
form_by _ stanza = Holds

-- the line of a field, 0 where it isn't there
abbrev pub line_at : List ℕ → Stanza → ℕ
line_at key stanza = option_map_or (λ field. field.line) (field_at key stanza) 0

-- a database: its name, how it is made, and the line that names its driver
abbrev pub node_of : Stanza → Node
node_of stanza = record { name = value_at (codes "name") stanza; form = form_by (driver_in stanza) stanza; line = line_at (codes "driver") stanza }

abbrev pub nodes_of : List Stanza → List Node
nodes_of databases = each node_of databases

-- the field names no database
abbrev pub unknown_database : List ℕ → Stanza → List Node → List Fault
unknown_database key head nodes = at_field key head (λ field. not (is_node nodes field.value)) UnknownDatabase

-- a line in the stanza of the database of this name gives others: one of them is that of no database, or leads back to this one
abbrev pub naming_faults : List Node → List ℕ → List (List ℕ) → ℕ → List Fault
naming_faults nodes name others line =
    fault_if (list_any (λ other. not (is_node nodes other)) others) line UnknownDatabase
    ++ fault_if (list_any (λ other. leads_to nodes other name) others) line Cycle

-- the faults of a field that names one database
abbrev pub one_faults : List Node → List ℕ → Stanza → List Fault
one_faults nodes key stanza =
    option_map_or (λ field. naming_faults nodes (value_at (codes "name") stanza) (field.value ∷ []) field.line) (field_at key stanza) []

-- the faults of what a stack names
abbrev pub stack_faults : List Node → Stanza → List Fault
stack_faults nodes stanza =
    option_map_or (λ field. naming_faults nodes (value_at (codes "name") stanza) (names_in field.value) field.line
    ++ fault_if (two_meet nodes (names_in field.value)) field.line SharedDatabase) (field_at (codes "stack") stanza) []

-- the faults of what a backup names: it is written a second time, so not to what it meets
abbrev pub backup_faults : List Node → Stanza → List Fault
backup_faults nodes stanza =
    one_faults nodes (codes "db") stanza ++ one_faults nodes (codes "backupdb") stanza
    ++ at_field (codes "backupdb") stanza (λ field. names_meet nodes (value_at (codes "db") stanza) field.value) SharedDatabase

-- the faults of what a database names, by its driver
abbrev pub made_faults : List Node → Option Driver → Stanza → List Fault
made_faults nodes (Some Stack) stanza = stack_faults nodes stanza
made_faults nodes (Some Backup) stanza = backup_faults nodes stanza
made_faults nodes (Some Debug) stanza = one_faults nodes (codes "db") stanza
made_faults nodes _ stanza = []

-- the faults of what the first stanza names, and of what each database does
abbrev pub all_named_faults : List Node → Stanza → List Stanza → List Fault
all_named_faults nodes head databases =
    unknown_database (codes "config") head nodes ++ unknown_database (codes "templates") head nodes
    ++ flat_map (λ stanza. made_faults nodes (driver_in stanza) stanza) databases

abbrev pub third_pass : List Stanza → List Fault
third_pass [] = []
third_pass (head ∷ databases) = all_named_faults (nodes_of databases) head databases

-- ---- the fourth pass: no database is shared

-- the databases of questions and of templates meet
abbrev pub shared_database : List Node → Stanza → List Fault
shared_database nodes head =
    at_field (codes "templates") head (λ field. names_meet nodes (value_at (codes "config") head) field.value) SharedDatabase

abbrev pub fourth_pass : List Stanza → List Fault
fourth_pass [] = []
fourth_pass (head ∷ databases) = shared_database (nodes_of databases) head

-- ---- which fault decides

-- the faults of a text, pass by pass
abbrev pub passes : List ℕ → List (List Fault)
passes text =
    first_pass (stanzas text) ∷ second_pass (each fields_of (stanzas text)) ∷ third_pass (each fields_of (stanzas text))
    ∷ fourth_pass (each fields_of (stanzas text)) ∷ []

-- the first of the faults on the least line
pub record IsLeast (faults : List Fault) (first : Fault) : Type 0 where
  pub before : List Fault
  pub after : List Fault
  pub whole : faults ≡ before ++ first ∷ after
  pub later : AllByRecursion (λ other. first.line < other.line) before
  pub least : AllByRecursion (λ other. first.line ≤ other.line) after

-- the first pass with a fault decides
pub record Decides (all : List (List Fault)) (first : Fault) : Type 0 where
  pub clean : List (List Fault)
  pub pass : List Fault
  pub rest : List (List Fault)
  pub whole : all ≡ clean ++ pass ∷ rest
  pub none : AllByRecursion (λ faults. faults ≡ []) clean
  pub first_is : IsLeast pass first
