-- The words behind `set-selections` and `drill` (debconf-set-selections(1)).
use Rattle.std.specs.Prelude.{◌≡◌, ◌||◌, ◌==◌, nat_le, ℕ, Bool, true, false, List, [], ◌∷◌, Option, Some, None, map as each, codes, if◌then◌else◌}
use Rattle.std.specs.List.{filter}
use Rattle.std.specs.Str.{bytes_eq}
use Rattle.dc_proto.specs.Numbers.{number_of}
use Rattle.dc_cli.specs.declared.selection_words.SelectionOption.{SelectionOption}
use Rattle.dc_cli.specs.declared.selection_words.SelectionOption.TheVariants.{Verbose, Check, Unseen}

-- the option that a word spells
abbrev pub selection_option : List ℕ → Option SelectionOption
selection_option word =
    if bytes_eq word (codes "-v") || bytes_eq word (codes "--verbose") then Some Verbose
    else (if bytes_eq word (codes "-c") || bytes_eq word (codes "--checkonly") then Some Check
    else (if bytes_eq word (codes "-u") || bytes_eq word (codes "--unseen") then Some Unseen else None))

abbrev pub is_verbose : SelectionOption → Bool
is_verbose Verbose = true
is_verbose option = false

abbrev pub is_check : SelectionOption → Bool
is_check Check = true
is_check option = false

abbrev pub is_unseen : SelectionOption → Bool
is_unseen Unseen = true
is_unseen option = false

-- whether an option is given, by the times that it is
abbrev pub IsGiven : List SelectionOption → Bool → Type 0
IsGiven [] given = given ≡ false
IsGiven (option ∷ []) given = given ≡ true
IsGiven (option ∷ other ∷ options) given = ⊥

-- [-v | --verbose] [-c | --checkonly] [-u | --unseen], in any order
pub record NamesSelections (words : List (List ℕ)) (verbose check unseen : Bool) : Type 0 where
  pub options : List SelectionOption
  pub words_are : each selection_option words ≡ each Some options
  pub verbose_is : IsGiven (filter is_verbose options) verbose
  pub check_is : IsGiven (filter is_check options) check
  pub unseen_is : IsGiven (filter is_unseen options) unseen

-- a numeral that begins with a zero
abbrev pub begins_with_zero : List ℕ → Bool
begins_with_zero [] = false
begins_with_zero (byte ∷ bytes) = byte == 48

-- a number, where it is 4,000 at most
abbrev pub drill_bounded : Option ℕ → Option ℕ
drill_bounded None = None
drill_bounded (Some count) = if nat_le count 4000 then Some count else None

-- the number that a word spells, from 1 to 4,000 and without a zero in front
abbrev pub drill_count : List ℕ → Option ℕ
drill_count word = if begins_with_zero word then None else drill_bounded (number_of word)

-- N
abbrev pub NamesDrill : List (List ℕ) → ℕ → Type 0
NamesDrill [] count = ⊥
NamesDrill (word ∷ []) count = drill_count word ≡ Some count
NamesDrill (word ∷ other ∷ words) count = ⊥
