-- The reading of the words behind `show`, `copydb` and `set-selections`, a word at a time. No public clause cites this module.
use Rattle.std.specs.Prelude.{◌≡◌, ◌+◌, ◌++◌, length, ◌==◌, ℕ, Bool, true, false, not, ◌&&◌, ◌||◌, List, [], ◌∷◌, drop, Option, None, Some, option_and_then, codes, is_some, if◌then◌else◌}
use Rattle.std.specs.List.{list_all, before_first, after_first}
use Rattle.std.specs.Str.{bytes_eq}
use Rattle.dc_text.specs.Ascii.{colon}
use Rattle.dc_cli.specs.DatabaseWords.{is_name_field, behind_front, is_option, is_package, placed_from, plain_of, values_behind, is_copy_word, has_colon}
use Rattle.dc_cli.specs.SelectionWords.{selection_option}
use Rattle.dc_cli.specs.declared.selection_words.SelectionOption.{SelectionOption}
use Rattle.dc_cli.specs.declared.selection_words.SelectionOption.TheVariants.{Verbose, Check, Unseen}
use Rattle.dc_cli.specs.declared.selection_words.SelectionSeen.{SelectionSeen}
use Rattle.dc_cli.specs.declared.tool.ConfigLine.{ConfigLine}
use Rattle.dc_cli.specs.declared.tool.PlacedWord.{PlacedWord}
use Rattle.dc_cli.specs.declared.tool.Shown.{Shown}
use Rattle.dc_cli.specs.declared.tool.Shown.TheVariants.{Questions, Owners as ForOwners, Databases as ForDatabases}
use Rattle.dc_cli.specs.declared.copy_words.CopySeen.{CopySeen}
use Rattle.dc_cli.specs.declared.show_words.ShowSeen.{ShowSeen}
use Rattle.dc_cli.specs.declared.show_words.Asked.{Asked}
use Rattle.dc_cli.specs.declared.show_words.Asked.TheVariants.{Nothing, Packages, Owners, Databases}

-- what is seen after these words, unless one of them isn't taken there
abbrev pub after : {S : Type 0} → (S → List ℕ → Option S) → Option S → List (List ℕ) → Option S
after next seen [] = seen
after next seen (word ∷ words) = after next (option_and_then (λ s. next s word) seen) words

-- the word at this place isn't taken behind those before it
pub record IsStopped {S : Type 0} (next : S → List ℕ → Option S) (first : S) (words : List (List ℕ)) (place : ℕ) : Type 0 where
  pub done : List (List ℕ)
  pub word : List ℕ
  pub behind : List (List ℕ)
  pub seen : S
  pub words_are : words ≡ done ++ word ∷ behind
  pub place_is : place ≡ 1 + length done
  pub seen_is : after next (Some first) done ≡ Some seen
  pub not_taken : next seen word ≡ None

-- ---- show

abbrev pub nothing_shown : ShowSeen
nothing_shown = record { database = false; asked = Nothing }

-- one more word: `--db=DATABASE`
abbrev pub with_database : Bool → Asked → Option ShowSeen
with_database database Nothing = if database then None else Some (record { database = true; asked = Nothing })
with_database database Owners = if database then None else Some (record { database = true; asked = Owners })
with_database database Packages = None
with_database database Databases = None

-- `--listowners`
abbrev pub with_owners : Bool → Asked → Option ShowSeen
with_owners database Nothing = Some (record { database = database; asked = Owners })
with_owners database asked = None

-- `--listdbs`
abbrev pub with_databases : Bool → Asked → Option ShowSeen
with_databases database Nothing = if database then None else Some (record { database = database; asked = Databases })
with_databases database asked = None

-- a package
abbrev pub with_package : Bool → Asked → Option ShowSeen
with_package database Nothing = Some (record { database = database; asked = Packages })
with_package database Packages = Some (record { database = database; asked = Packages })
with_package database Owners = None
with_package database Databases = None

-- one more word, by what it is
abbrev pub show_step : Bool → Asked → Option (List ℕ) → Bool → Bool → Bool → Option ShowSeen
show_step database asked given owners databases named =
    if is_some given then with_database database asked
    else (if owners then with_owners database asked
    else (if databases then with_databases database asked else (if named then with_package database asked else None)))

abbrev pub show_next : ShowSeen → List ℕ → Option ShowSeen
show_next seen word =
    show_step seen.database seen.asked (behind_front (codes "--db=") word)
    (bytes_eq word (codes "--listowners")) (bytes_eq word (codes "--listdbs")) (is_package word)

-- whether something is asked for
abbrev pub is_asked : Asked → Bool
is_asked Nothing = false
is_asked asked = true

abbrev pub is_show : ShowSeen → Bool
is_show seen = is_asked seen.asked

-- what is shown
abbrev pub shown_of : List (List ℕ) → Bool → Asked → Shown
shown_of words database Owners = ForOwners
shown_of words database Databases = ForDatabases
shown_of words database asked = Questions (if database then drop 1 words else words)

-- ---- copydb

abbrev pub nothing_copied : CopySeen
nothing_copied = record { source = false; dest = false; by_name = false; by_owner = false; config = false }

-- one more word: one that is no option
abbrev pub database_seen : CopySeen → Option CopySeen
database_seen seen = if seen.source then (if seen.dest then None else Some (record seen { dest = true })) else Some (record seen { source = true })

-- the field before the first colon is `Name`
abbrev pub is_named : List ℕ → Bool
is_named text = is_name_field (before_first (λ byte. byte == colon) text)

-- the line of a configuration
abbrev pub line_seen : CopySeen → List ℕ → Option CopySeen
line_seen seen text = if has_colon text && (seen.config || is_named text) then Some (record seen { config = true }) else None

abbrev pub maybe_line_seen : CopySeen → Option (List ℕ) → Option CopySeen
maybe_line_seen seen None = None
maybe_line_seen seen (Some text) = line_seen seen text

-- one more word, by whether it is an option, and by what it gives to each of those that are known
abbrev pub copy_step : CopySeen → Bool → Option (List ℕ) → Option (List ℕ) → Option (List ℕ) → Option CopySeen
copy_step seen option by_name by_owner config =
    if option then (if is_some by_name then (if seen.by_name then None else Some (record seen { by_name = true }))
    else (if is_some by_owner then (if seen.by_owner then None else Some (record seen { by_owner = true })) else maybe_line_seen seen config))
    else database_seen seen

abbrev pub copy_next : CopySeen → List ℕ → Option CopySeen
copy_next seen word =
    copy_step seen (is_option word) (behind_front (codes "--pattern=") word) (behind_front (codes "--owner-pattern=") word)
    (behind_front (codes "--config=") word)

-- both databases are named
abbrev pub is_copy : CopySeen → Bool
is_copy seen = seen.source && seen.dest

-- these are the databases that are missing
abbrev pub are_missing : Bool → Bool → List PlacedWord → Bool
are_missing source dest [] = source && dest
are_missing source dest (one ∷ placed) = if source then (if dest then false else are_missing source true placed) else are_missing true dest placed

-- an option is given once at most
abbrev pub is_once : Bool → List PlacedWord → Bool
is_once given [] = true
is_once given (one ∷ placed) = not given && is_once true placed

-- lines of a configuration, of which the first is named
abbrev pub are_lines : Bool → List PlacedWord → Bool
are_lines begun [] = true
are_lines begun (one ∷ placed) = (has_colon one.word && (begun || is_named one.word)) && are_lines true placed

-- words that are known, by those that are no options and by what they give, end what was seen
abbrev pub fit_seen : CopySeen → Bool → List PlacedWord → List PlacedWord → List PlacedWord → List PlacedWord → Bool
fit_seen seen known plain by_name by_owner config =
    known && (are_missing seen.source seen.dest plain && (is_once seen.by_name by_name && (is_once seen.by_owner by_owner && are_lines seen.config config)))

-- these words, of which the first has this place, end what was seen
abbrev pub fits : CopySeen → ℕ → List (List ℕ) → Bool
fits seen place words =
    fit_seen seen (list_all is_copy_word words) (plain_of (placed_from place words)) (values_behind (codes "--pattern=") (placed_from place words))
    (values_behind (codes "--owner-pattern=") (placed_from place words)) (values_behind (codes "--config=") (placed_from place words))

-- the line that a text is, parted at its first colon
abbrev pub line_of : List ℕ → ConfigLine
line_of text = record { field = before_first (λ byte. byte == colon) text; value = after_first (λ byte. byte == colon) text }

-- ---- set-selections

abbrev pub nothing_selected : SelectionSeen
nothing_selected = record { verbose = false; check = false; unseen = false }

-- one more option
abbrev pub selection_with : SelectionSeen → SelectionOption → Option SelectionSeen
selection_with seen Verbose = if seen.verbose then None else Some (record seen { verbose = true })
selection_with seen Check = if seen.check then None else Some (record seen { check = true })
selection_with seen Unseen = if seen.unseen then None else Some (record seen { unseen = true })

-- one more word
abbrev pub selection_next : SelectionSeen → List ℕ → Option SelectionSeen
selection_next seen word = option_and_then (selection_with seen) (selection_option word)

-- whatever was seen ends the words
abbrev pub is_selections : SelectionSeen → Bool
is_selections seen = true
