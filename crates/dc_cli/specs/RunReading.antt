-- The reading of the words behind `run`, an option at a time.
use Rattle.std.specs.Prelude.{◌≡◌, ◌⊎◌, ◌≤◌, ◌+◌, ℕ, Bool, true, false, List, [], ◌∷◌, ◌++◌, length, take, Option, Some, None, is_some, if◌then◌else◌}
use Rattle.std.specs.Option.{option_copied}
use Rattle.dc_text.specs.Names.{is_name}
use Rattle.dc_proto.specs.Priorities.{priority_of}
use Rattle.dc_frontend.specs.Frontends.{frontend_of}
use Rattle.dc_cli.specs.Tools.{Given, words_of, option_of, value_of, all_words, is_same, values_of, Says, IsCommand}
use Rattle.dc_cli.specs.declared.run_options.RunOption.{RunOption}
use Rattle.dc_cli.specs.declared.run_options.RunOption.TheVariants.{Owner, Frontend as ForFrontend, Priority as ForPriority}
use Rattle.dc_cli.specs.declared.run_options.RunOptions.{RunOptions}
use Rattle.dc_cli.specs.declared.run_options.FirstOption.{FirstOption}

-- whether an option takes a value
abbrev pub is_value : RunOption → List ℕ → Bool
is_value Owner value = is_name value
is_value ForFrontend value = is_some (frontend_of value)
is_value ForPriority value = is_some (priority_of value)

-- the bytes, where they are a name
abbrev pub name_of : List ℕ → Option (List ℕ)
name_of bytes = if is_name bytes then Some bytes else None

-- ---- what options say that were read

abbrev pub is_given : RunOptions → RunOption → Bool
is_given options Owner = is_some (option_copied options.owner)
is_given options ForFrontend = is_some options.frontend
is_given options ForPriority = is_some options.priority

pub record SayNothing (options : RunOptions) : Type 0 where
  pub no_owner : option_copied options.owner ≡ None
  pub no_frontend : options.frontend ≡ None
  pub no_priority : options.priority ≡ None

-- what was said, and what one more option says
pub record SayMore (options : RunOptions) (option : RunOption) (value : List ℕ) (more : RunOptions) : Type 0 where
  pub owner_is : option_copied more.owner ≡ (if is_same Owner option then name_of value else option_copied options.owner)
  pub frontend_is : more.frontend ≡ (if is_same ForFrontend option then frontend_of value else options.frontend)
  pub priority_is : more.priority ≡ (if is_same ForPriority option then priority_of value else options.priority)

-- what these options say that are given
pub record Say (given : List Given) (options : RunOptions) : Type 0 where
  pub owner_is : Says name_of (values_of Owner given) (option_copied options.owner)
  pub frontend_is : Says frontend_of (values_of ForFrontend given) options.frontend
  pub priority_is : Says priority_of (values_of ForPriority given) options.priority

-- ---- the words behind them

-- no value, or one that the option takes
abbrev pub are_values : RunOption → List (List ℕ) → Bool
are_values option [] = true
are_values option (value ∷ []) = is_value option value
are_values option (value ∷ other ∷ values) = false

-- each option is given once at most, with a value that it takes
abbrev pub AreGiven : List Given → Type 0
AreGiven given = (option : RunOption) → are_values option (values_of option given) ≡ true

-- behind options that are given, the words are those of more options and of a command
pub record AreBehind (given : List Given) (words : List (List ℕ)) : Type 0 where
  pub more : List Given
  pub command : List (List ℕ)
  pub words_are : words ≡ all_words more ++ command
  pub are_given : AreGiven (given ++ more)
  pub command_is : IsCommand command

-- behind these options a word and those after it are refused at this place
pub record AreRefusedBehind (given : List Given) (word : List ℕ) (rest : List (List ℕ)) (place : ℕ) : Type 0 where
  pub refused : ¬ AreBehind given (word ∷ rest)
  pub within : place ≤ length (word ∷ rest)
  pub begins : (more : List (List ℕ)) × AreBehind given (take place (word ∷ rest) ++ more)
  pub ends : (place ≡ length (word ∷ rest)) ⊎ ((more : List (List ℕ)) → ¬ AreBehind given (take (place + 1) (word ∷ rest) ++ more))

-- the words begin with those of this option, which isn't given yet, and the rest stands behind them
pub record IsFirst (options : RunOptions) (word : List ℕ) (words : List (List ℕ)) (first : FirstOption) : Type 0 where
  pub one : Given
  pub option_is : first.option ≡ option_of one
  pub value_is : first.value.now ≡ value_of one
  pub words_are : word ∷ words ≡ words_of one ++ first.rest.now
  pub taken : is_value first.option first.value.now ≡ true
  pub unread : is_given options first.option ≡ false
