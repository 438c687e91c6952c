-- The words behind `show` and `copydb`, which name databases (debconf-show(1), debconf-copydb(1)).
use Rattle.std.specs.Prelude.{◌≡◌, ◌≢◌, ◌⊎◌, ◌+◌, ◌==◌, ℕ, Bool, true, not, ◌&&◌, ◌||◌, List, [], ◌∷◌, ◌++◌, Option, None, Some, option_map, map as each, codes, is_some, if◌then◌else◌}
use Rattle.std.specs.List.{list_all, list_any, filter, filter_map}
use Rattle.std.specs.Str.{bytes_eq}
use Rattle.dc_text.specs.Ascii.{colon}
use Rattle.dc_text.specs.Bytes.{lower}
use Rattle.dc_text.specs.Names.{is_name}
use Rattle.dc_cli.specs.declared.tool.ConfigLine.{ConfigLine}
use Rattle.dc_cli.specs.declared.tool.CopyWords.{CopyWords}
use Rattle.dc_cli.specs.declared.tool.PlacedWord.{PlacedWord}
use Rattle.dc_cli.specs.declared.tool.Shown.{Shown}
use Rattle.dc_cli.specs.declared.tool.Shown.TheVariants.{Questions, Owners, Databases}

-- what stands behind this front of the bytes, where they have it
abbrev pub behind_front : List ℕ → List ℕ → Option (List ℕ)
behind_front [] bytes = Some bytes
behind_front (byte ∷ front) [] = None
behind_front (byte ∷ front) (other ∷ bytes) = if byte == other then behind_front front bytes else None

-- a word that begins with two dashes is an option, and no other word
abbrev pub is_option : List ℕ → Bool
is_option word = is_some (behind_front (codes "--") word)

-- ---- show

-- [--db=DATABASE], where the first of the words has this place
abbrev pub GivesDatabase : List (List ℕ) → ℕ → Option PlacedWord → Type 0
GivesDatabase [] place database = database ≡ None
GivesDatabase (word ∷ []) place database = (name : List ℕ) × (word ≡ codes "--db=" ++ name) × (database ≡ Some (record { word = name; place = place }))
GivesDatabase (word ∷ other ∷ words) place database = ⊥

abbrev pub is_package : List ℕ → Bool
is_package word = is_name word && not (is_option word)

-- [--db=DATABASE] PACKAGE ...
pub record NamesPackages (words : List (List ℕ)) (database : Option PlacedWord) (packages : List (List ℕ)) : Type 0 where
  pub given : List (List ℕ)
  pub words_are : words ≡ given ++ packages
  pub database_is : GivesDatabase given 1 database
  pub some : packages ≢ []
  pub are_packages : list_all is_package packages ≡ true

-- [--db=DATABASE] --listowners
pub record NamesOwners (words : List (List ℕ)) (database : Option PlacedWord) : Type 0 where
  pub given : List (List ℕ)
  pub database_is : ((words ≡ given ++ codes "--listowners" ∷ []) × GivesDatabase given 1 database)
      ⊎ ((words ≡ codes "--listowners" ∷ given) × GivesDatabase given 2 database)

-- show [--db=DATABASE] PACKAGE ...
-- show [--db=DATABASE] --listowners
-- show --listdbs
abbrev pub NamesShow : List (List ℕ) → Option PlacedWord → Shown → Type 0
NamesShow words database (Questions packages) = NamesPackages words database packages
NamesShow words database Owners = NamesOwners words database
NamesShow words database Databases = (words ≡ codes "--listdbs" ∷ []) × (database ≡ None)

-- ---- copydb

-- words with their places, of which the first has this one
abbrev pub placed_from : ℕ → List (List ℕ) → List PlacedWord
placed_from place [] = []
placed_from place (word ∷ words) = record { word = word; place = place } ∷ placed_from (place + 1) words

-- those that are no options
abbrev pub plain_of : List PlacedWord → List PlacedWord
plain_of placed = filter (λ one. not (is_option one.word)) placed

-- what stands behind the front of a word that has it, at its place
abbrev pub value_behind : List ℕ → PlacedWord → Option PlacedWord
value_behind front placed = option_map (λ value. record placed { word = value }) (behind_front front placed.word)

-- what the options with this front give, in order
abbrev pub values_behind : List ℕ → List PlacedWord → List PlacedWord
values_behind front placed = filter_map (value_behind front) placed

-- an option that may be given once
abbrev pub IsGivenOnce : List PlacedWord → Option PlacedWord → Type 0
IsGivenOnce [] given = given ≡ None
IsGivenOnce (value ∷ []) given = given ≡ Some value
IsGivenOnce (value ∷ other ∷ values) given = ⊥

-- a word that is no option, or one of those of `copydb`
abbrev pub is_copy_word : List ℕ → Bool
is_copy_word word =
    not (is_option word) || (is_some (behind_front (codes "--pattern=") word)
    || (is_some (behind_front (codes "--owner-pattern=") word) || is_some (behind_front (codes "--config=") word)))

-- FIELD:VALUE, parted at the first colon
abbrev pub line_text : ConfigLine → List ℕ
line_text line = line.field ++ colon ∷ line.value

abbrev pub has_colon : List ℕ → Bool
has_colon bytes = list_any (λ byte. byte == colon) bytes

-- the field that names a database, in letters of either case
abbrev pub is_name_field : List ℕ → Bool
is_name_field field = bytes_eq (each lower field) (codes "name")

-- the field of the first names one
abbrev pub begin_with_name : List ConfigLine → Bool
begin_with_name [] = true
begin_with_name (line ∷ lines) = is_name_field line.field

-- SOURCE DEST [--pattern=P] [--owner-pattern=P] [--config=FIELD:VALUE ...], with the options anywhere
pub record NamesCopy (words : List (List ℕ)) (copy : CopyWords) : Type 0 where
  pub known : list_all is_copy_word words ≡ true
  pub databases_are : plain_of (placed_from 1 words) ≡ copy.source ∷ copy.dest ∷ []
  pub by_name_is : IsGivenOnce (values_behind (codes "--pattern=") (placed_from 1 words)) copy.by_name
  pub by_owner_is : IsGivenOnce (values_behind (codes "--owner-pattern=") (placed_from 1 words)) copy.by_owner
  pub config_is : each (λ placed. placed.word) (values_behind (codes "--config=") (placed_from 1 words)) ≡ each line_text copy.config
  pub parted : list_all (λ line. not (has_colon line.field)) copy.config ≡ true
  pub named_first : begin_with_name copy.config ≡ true
