-- What a configuration is, and which databases its names reach.
use Rattle.std.specs.Prelude.{◌≡◌, ℕ, Bool, true, false, not, ◌&&◌, List, [], ◌∷◌, ◌++◌, Option, Some, None, map as each, length, codes, ◌==◌, Result, Ok, Err, ⊤}
use Rattle.std.specs.Option.{option_map, option_map_or}
use Rattle.std.specs.List.{list_all, list_any, filter, position_or_len, AllByRecursion}
use Rattle.std.specs.Str.{bytes_eq}
use Rattle.dc_conf.specs.declared.faults.ConfError.{ConfError}
use Rattle.dc_conf.specs.declared.faults.ConfError.TheVariants as error
use Rattle.dc_conf.specs.declared.fields.Field.{Field}
use Rattle.dc_conf.specs.declared.nodes.Form.{Form}
use Rattle.dc_conf.specs.declared.nodes.Form.TheVariants.{Holds, Stacks, Backs, Tells}
use Rattle.dc_conf.specs.declared.nodes.Node.{Node}
use Rattle.dc_conf.specs.declared.plans.Plan.{Plan}
use Rattle.dc_conf.specs.declared.plans.ResolveError.{ResolveError}
use Rattle.dc_conf.specs.declared.plans.ResolveError.TheVariants as resolve
use Rattle.dc_conf.specs.declared.plans.Resolved.{Resolved}
use Rattle.dc_conf.specs.declared.spec.LayerSort.{LayerSort}
use Rattle.dc_conf.specs.declared.spec.LayerSort.TheVariants.{File, Tree, Pipe}
use Rattle.dc_conf.specs.declared.spec.LayerSpec.{LayerSpec}
use Rattle.dc_text.specs.Bytes.{is_nil}
use Rattle.dc_conf.specs.Nodes.{named_in, repeats, is_node, names_of, leads_to, reaches, names_meet, two_meet, form_at}
pub use Rattle.dc_conf.specs.Nodes.{is_among}
use Rattle.dc_conf.specs.Plans.{all_places, are_disjoint, stand_once}
use Rattle.dc_conf.specs.Trees as tree
use Rattle.dc_conf.specs.Trees.{shape}
use Rattle.dc_conf.specs.Stanzas.{Stanza, stanzas, fields_of, field_at}
use Rattle.dc_conf.specs.Values.{octal, is_true, is_extension}
use Rattle.dc_conf.specs.ConfFaults.{fault, passes, Decides, value_at, is_made, nodes_of, sort_in, place_of, meet}
pub use Rattle.dc_conf.specs.ConfFaults.{paths_at}

-- a configuration: the names of the databases of questions and of templates, the words for the frontend and the priority, the
-- names of all databases in the order of the file, those that hold items themselves, and how each database is made
pub record Configuration : Type 0 where
  pub config : List ℕ
  pub templates : List ℕ
  pub frontend : Option (List ℕ)
  pub priority : Option (List ℕ)
  pub databases : List (List ℕ)
  pub specs : List LayerSpec
  pub nodes : List Node

abbrev pub text_at : List ℕ → Stanza → Option (List ℕ)
text_at key stanza = option_map (λ field. field.value) (field_at key stanza)

-- whether a field says `true`, and this where it isn't there
abbrev pub truth_at : List ℕ → Stanza → Bool → Bool
truth_at key stanza default = option_map_or (λ field. is_true field.value) (field_at key stanza) default

-- what the names of the files of a database of this sort end with: in a folder with `.dat`, unless its stanza says otherwise
abbrev pub extension_by : LayerSort → Stanza → List ℕ
extension_by File stanza = []
extension_by Pipe stanza = []
extension_by _ stanza = option_map_or (λ field. field.value) (field_at (codes "extension") stanza) (codes ".dat")

-- the field that says the permission bits of such a database: of a tree and of a pipe none does
abbrev pub mode_field : LayerSort → Stanza → Option Field
mode_field Tree stanza = None
mode_field Pipe stanza = None
mode_field _ stanza = field_at (codes "mode") stanza

-- the permission bits, 600 where no field says them
abbrev pub mode_by : LayerSort → Stanza → ℕ
mode_by sort stanza = option_map_or (λ field. octal field.value) (mode_field sort stanza) 384

-- whether its old texts are kept, which only those of a file are
abbrev pub backup_by : LayerSort → Stanza → Bool
backup_by File stanza = truth_at (codes "backup") stanza true
backup_by _ stanza = false

-- whether the field names the descriptor that a pipe is read from or written to, or isn't there
abbrev pub is_connected : List ℕ → List ℕ → Stanza → Bool
is_connected key descriptor stanza = option_map_or (λ field. bytes_eq field.value descriptor) (field_at key stanza) true

-- whether it is read from standard input, which only a pipe is
abbrev pub infd_by : LayerSort → Stanza → Bool
infd_by Pipe stanza = is_connected (codes "infd") (codes "0") stanza
infd_by _ stanza = false

-- whether it is written to standard output, which only a pipe is
abbrev pub outfd_by : LayerSort → Stanza → Bool
outfd_by Pipe stanza = is_connected (codes "outfd") (codes "1") stanza
outfd_by _ stanza = false

-- the database that a stanza without faults is, where it isn't made of others
abbrev pub spec_of : Stanza → LayerSpec
spec_of stanza = record {
  name = value_at (codes "name") stanza;
  sort = sort_in stanza;
  place = place_of stanza;
  extension = extension_by (sort_in stanza) stanza;
  mode = mode_by (sort_in stanza) stanza;
  backup = backup_by (sort_in stanza) stanza;
  infd = infd_by (sort_in stanza) stanza;
  outfd = outfd_by (sort_in stanza) stanza;
  readonly = truth_at (codes "readonly") stanza false;
  required = truth_at (codes "required") stanza true;
  accept_name = text_at (codes "accept-name") stanza;
  reject_name = text_at (codes "reject-name") stanza;
  accept_type = text_at (codes "accept-type") stanza;
  reject_type = text_at (codes "reject-type") stanza;
}

-- the configuration of stanzas without faults
abbrev pub configuration : List Stanza → Configuration
configuration [] = record { config = []; templates = []; frontend = None; priority = None; databases = []; specs = []; nodes = [] }
configuration (head ∷ databases) = record {
  config = value_at (codes "config") head;
  templates = value_at (codes "templates") head;
  frontend = text_at (codes "frontend") head;
  priority = text_at (codes "priority") head;
  databases = each (value_at (codes "name")) databases;
  specs = each spec_of (filter (λ stanza. not (is_made stanza)) databases);
  nodes = nodes_of databases;
}

-- what reading a text answers: its configuration where no pass has a fault, and else the fault that decides
abbrev pub IsAnswer : List ℕ → Result Configuration ConfError → Type 0
IsAnswer text (Ok conf) = AllByRecursion (λ faults. faults ≡ []) (passes text) × (conf ≡ configuration (each fields_of (stanzas text)))
IsAnswer text (Err (error.Refused line kind)) = Decides (passes text) (fault line kind)
IsAnswer text (Err error.OutOfMemory) = ⊤

-- ---- where the databases are kept

-- some path of the one meets some path of the other
abbrev pub places_meet : LayerSpec → LayerSpec → Bool
places_meet one other = list_any (λ path. list_any (meet path) (paths_at other.sort other.place)) (paths_at one.sort one.place)

-- the places of no two of the databases meet
abbrev pub are_apart : List LayerSpec → Bool
are_apart [] = true
are_apart (spec ∷ specs) = not (list_any (places_meet spec) specs) && are_apart specs

-- ---- the databases that names reach

-- the databases that hold items themselves and that one of the names is or reaches, each once, in the order of the file
abbrev pub reached : Configuration → List (List ℕ) → List LayerSpec
reached conf roots = filter (λ spec. list_any (λ root. leads_to conf.nodes root spec.name) roots) conf.specs

-- the place of the database with the name
abbrev pub place_in : List LayerSpec → List ℕ → ℕ
place_in specs name = position_or_len (λ spec. bytes_eq spec.name name) specs

-- the first root that none of these databases has as its name
pub record IsFirstUnknown (databases : List (List ℕ)) (roots : List (List ℕ)) (place : ℕ) : Type 0 where
  pub before : List (List ℕ)
  pub root : List ℕ
  pub after : List (List ℕ)
  pub whole : roots ≡ before ++ root ∷ after
  pub place_is : place ≡ length before
  pub known : AllByRecursion (λ name. is_among databases name ≡ true) before
  pub unknown : is_among databases root ≡ false

-- The plan of a name over these databases, by how each is made. One that holds items itself has its place among them, and one that is
-- made of others has their plans.
abbrev mutual
  pub IsPlan : List Node → List LayerSpec → tree.Tree → List ℕ → Type 0
  IsPlan nodes specs (tree.Leaf place) name = (form_at nodes name ≡ Some Holds) × (place ≡ place_in specs name)
  IsPlan nodes specs (tree.Stack trees) name = (names : List (List ℕ)) × (form_at nodes name ≡ Some (Stacks names)) × ArePlans nodes specs trees names
  IsPlan nodes specs (tree.Backup first second) name =
      (db : List ℕ) × (backupdb : List ℕ) × (form_at nodes name ≡ Some (Backs db backupdb))
      × IsPlan nodes specs first db × IsPlan nodes specs second backupdb
  IsPlan nodes specs (tree.Debug inner) name = (db : List ℕ) × (form_at nodes name ≡ Some (Tells db)) × IsPlan nodes specs inner db

  pub ArePlans : List Node → List LayerSpec → tree.Trees → List (List ℕ) → Type 0
  ArePlans nodes specs tree.End names = names ≡ []
  ArePlans nodes specs (tree.More first rest) [] = ⊥
  ArePlans nodes specs (tree.More first rest) (name ∷ names) = IsPlan nodes specs first name × ArePlans nodes specs rest names

-- each root has its plan
abbrev pub HavePlans : List Node → List LayerSpec → List Plan → List (List ℕ) → Type 0
HavePlans nodes specs [] roots = roots ≡ []
HavePlans nodes specs (plan ∷ plans) [] = ⊥
HavePlans nodes specs (plan ∷ plans) (root ∷ roots) = IsPlan nodes specs (shape plan) root × HavePlans nodes specs plans roots

-- what resolving the roots answers: the databases that they reach and the plan of each, where each names a database, and
-- else the first that names none
abbrev pub IsResolved : Configuration → List (List ℕ) → Result Resolved ResolveError → Type 0
IsResolved conf roots (Ok resolved) =
    AllByRecursion (λ name. is_among conf.databases name ≡ true) roots
    × (resolved.specs ≡ reached conf roots)
    × HavePlans conf.nodes resolved.specs resolved.plans roots
IsResolved conf roots (Err (resolve.Unknown root)) = IsFirstUnknown conf.databases roots root
IsResolved conf roots (Err resolve.OutOfMemory) = ⊤

-- ---- what they are like

-- the names of no two of the databases are the same
abbrev pub have_names_apart : List LayerSpec → Bool
have_names_apart specs = not (repeats (each (λ spec. spec.name) specs))

-- one of the databases that hold items themselves has this name
abbrev pub is_spec_of : List LayerSpec → List ℕ → Bool
is_spec_of specs name = list_any (λ spec. bytes_eq spec.name name) specs

-- the names of the files of a database of this sort may end with this: with an extension in a folder, and else with nothing
abbrev pub takes_extension : LayerSort → List ℕ → Bool
takes_extension File extension = is_nil extension
takes_extension Pipe extension = is_nil extension
takes_extension _ extension = is_extension extension

-- its files may have these permission bits: those of a tree have 600 alone, which a pipe has too
abbrev pub takes_mode : LayerSort → ℕ → Bool
takes_mode Tree mode = mode == 384
takes_mode Pipe mode = mode == 384
takes_mode _ mode = true

-- the extension and the permission bits of a database are such as its sort takes
abbrev pub fits_sort : LayerSpec → Bool
fits_sort spec = takes_extension spec.sort spec.extension && takes_mode spec.sort spec.mode

-- what a database names is there, doesn't lead back to it, and doesn't meet
abbrev pub is_well_made : List Node → Node → Bool
is_well_made nodes node =
    list_all (is_node nodes) (named_in node.form)
    && (not (reaches nodes node.name node.name) && not (two_meet nodes (named_in node.form)))

-- a database that holds items itself is one of these
abbrev pub is_held : List LayerSpec → List ℕ → Form → Bool
is_held specs name Holds = is_spec_of specs name
is_held specs name _ = true

-- What each configuration keeps: places and names are apart, each database fits its sort, has a name of its own, which is listed, and is made
-- well, and those of questions and of templates don't meet.
abbrev pub is_sound : Configuration → Bool
is_sound conf =
    are_apart conf.specs && (have_names_apart conf.specs && (list_all fits_sort conf.specs
    && (not (repeats (names_of conf.nodes)) && (list_all (is_node conf.nodes) conf.databases && (list_all (is_well_made conf.nodes) conf.nodes
    && (list_all (λ node. is_held conf.specs node.name node.form) conf.nodes
    && (list_all (is_among conf.databases) (names_of conf.nodes) && (list_all (λ spec. is_among conf.databases spec.name) conf.specs
    && not (names_meet conf.nodes conf.config conf.templates)))))))))

-- each place stands once in the plan
abbrev pub IsOnce : Plan → Type 0
IsOnce plan = stand_once (all_places (shape plan)) ≡ true

-- the plans of these two share no database
abbrev pub AreDisjoint : List Plan → Type 0
AreDisjoint (one ∷ other ∷ []) = are_disjoint (shape one) (shape other) ≡ true
AreDisjoint _ = ⊥
