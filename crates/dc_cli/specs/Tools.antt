-- The words that the program takes, and the tool that they name.
use Rattle.std.specs.Prelude.{◌≡◌, ◌≢◌, ◌⊎◌, ◌≤◌, ◌+◌, ◌==◌, ℕ, Bool, true, false, List, [], ◌∷◌, ◌++◌, length, take, Option, None, IsSome, Result, Ok, Err, codes, if◌then◌else◌}
use Rattle.dc_text.specs.Ascii.{dash}
use Rattle.dc_text.specs.Names.{is_name}
use Rattle.dc_proto.specs.Priorities.{priority_of}
use Rattle.dc_proto.specs.declared.priority.Priority.{Priority}
use Rattle.dc_frontend.specs.Frontends.{frontend_of}
use Rattle.dc_frontend.specs.declared.frontend.Frontend.{Frontend}
use Rattle.dc_cli.specs.DatabaseWords.{NamesShow, NamesCopy}
use Rattle.dc_cli.specs.SelectionWords.{NamesSelections, NamesDrill}
use Rattle.dc_cli.specs.declared.run_options.RunOption.{RunOption}
use Rattle.dc_cli.specs.declared.run_options.RunOption.TheVariants.{Owner, Frontend as ForFrontend, Priority as ForPriority}
use Rattle.dc_cli.specs.declared.tool.Tool.{Tool}
use Rattle.dc_cli.specs.declared.tool.Tool.TheVariants.{Communicate, LoadTemplate, Run, Show, CopyDb, SetSelections, GetSelections, Drill, Answer}
use Rattle.dc_cli.specs.declared.tool.ToolError.{ToolError}
use Rattle.dc_cli.specs.declared.tool.ToolError.TheVariants.{Refused, OutOfMemory}

-- [OWNER]: a name, or `unknown` where none is given
abbrev pub NamesOwner : List (List ℕ) → List ℕ → Type 0
NamesOwner [] owner = owner ≡ codes "unknown"
NamesOwner (word ∷ []) owner = (owner ≡ word) × (is_name word ≡ true)
NamesOwner (word ∷ other ∷ words) owner = ⊥

-- OWNER FILE ...: a name, and a path at least
abbrev pub NamesFiles : List (List ℕ) → List ℕ → List (List ℕ) → Type 0
NamesFiles [] owner paths = ⊥
NamesFiles (word ∷ words) owner paths = (owner ≡ word) × (is_name word ≡ true) × (paths ≡ words) × (words ≢ [])

-- ---- run

-- the word before an option's value: `-o OWNER`
abbrev pub short_word : RunOption → List ℕ
short_word Owner = codes "-o"
short_word ForFrontend = codes "-f"
short_word ForPriority = codes "-p"

-- what stands before an option's value in one word: `--owner=OWNER`
abbrev pub long_word : RunOption → List ℕ
long_word Owner = codes "--owner="
long_word ForFrontend = codes "--frontend="
long_word ForPriority = codes "--priority="

-- an option that is given, with its value, in either spelling
pub data Given : Type 0 where
  Short : RunOption → List ℕ → Given
  Long : RunOption → List ℕ → Given

abbrev pub words_of : Given → List (List ℕ)
words_of (Short option value) = short_word option ∷ value ∷ []
words_of (Long option value) = (long_word option ++ value) ∷ []

-- the words of options, one after another
abbrev pub all_words : List Given → List (List ℕ)
all_words [] = []
all_words (one ∷ given) = words_of one ++ all_words given

abbrev pub is_same : RunOption → RunOption → Bool
is_same Owner Owner = true
is_same ForFrontend ForFrontend = true
is_same ForPriority ForPriority = true
is_same option other = false

abbrev pub option_of : Given → RunOption
option_of (Short option value) = option
option_of (Long option value) = option

abbrev pub value_of : Given → List ℕ
value_of (Short option value) = value
value_of (Long option value) = value

-- the values that are given to an option, in order
abbrev pub values_of : RunOption → List Given → List (List ℕ)
values_of option [] = []
values_of option (one ∷ given) = if is_same option (option_of one) then value_of one ∷ values_of option given else values_of option given

-- what an option says, by the values that are given to it: nothing, or what the only one is read as
abbrev pub Says : {A : Type 0} → (List ℕ → Option A) → List (List ℕ) → Option A → Type 0
Says read [] said = said ≡ None
Says read (value ∷ []) said = (said ≡ read value) × IsSome said
Says read (value ∷ other ∷ values) said = ⊥

abbrev pub begins_with_dash : List ℕ → Bool
begins_with_dash [] = false
begins_with_dash (byte ∷ bytes) = byte == dash

-- COMMAND [ARGUMENT ...]: a word that doesn't begin with a dash, and any others
abbrev pub IsCommand : List (List ℕ) → Type 0
IsCommand [] = ⊥
IsCommand (word ∷ words) = begins_with_dash word ≡ false

-- [-o OWNER | --owner=OWNER] [-f NAME | --frontend=NAME] [-p PRIORITY | --priority=PRIORITY] COMMAND [ARGUMENT ...]: the words are those of
-- options, in any order, and of a command
pub record NamesRun (words : List (List ℕ)) (owner : List ℕ) (frontend : Option Frontend) (priority : Option Priority) (command : List (List ℕ)) : Type 0 where
  pub given : List Given
  pub words_are : words ≡ all_words given ++ command
  pub owner_is : NamesOwner (values_of Owner given) owner
  pub frontend_is : Says frontend_of (values_of ForFrontend given) frontend
  pub priority_is : Says priority_of (values_of ForPriority given) priority
  pub command_is : IsCommand command

-- ---- all tools

-- the words behind the tool's own name it with what they say
abbrev pub NamesTool : List ℕ → List (List ℕ) → Tool → Type 0
NamesTool word words (Communicate owner) = (word ≡ codes "communicate") × NamesOwner words owner
NamesTool word words (LoadTemplate owner paths) = (word ≡ codes "loadtemplate") × NamesFiles words owner paths
NamesTool word words (Run owner frontend priority command) = (word ≡ codes "run") × NamesRun words owner frontend priority command
NamesTool word words (Show database shown) = (word ≡ codes "show") × NamesShow words database shown
NamesTool word words (CopyDb copy) = (word ≡ codes "copydb") × NamesCopy words copy
NamesTool word words (SetSelections verbose check unseen) = (word ≡ codes "set-selections") × NamesSelections words verbose check unseen
NamesTool word words GetSelections = (word ≡ codes "get-selections") × (words ≡ [])
NamesTool word words (Drill count) = (word ≡ codes "drill") × NamesDrill words count
NamesTool word words (Answer command) = (word ≡ codes "answer") × (command ≡ words) × IsCommand words

-- communicate [OWNER]
-- loadtemplate OWNER FILE ...
-- run [-o OWNER] [-f NAME] [-p PRIORITY] COMMAND [ARGUMENT ...]
-- show ..
-- copydb SOURCE DEST ..
-- set-selections [-v] [-c] [-u]
-- get-selections
-- drill N
-- answer COMMAND [ARGUMENT ...]
abbrev pub Names : List (List ℕ) → Tool → Type 0
Names [] tool = ⊥
Names (word ∷ words) tool = NamesTool word words tool

-- the words name a tool
abbrev pub IsToolWords : List (List ℕ) → Type 0
IsToolWords words = (tool : Tool) × Names words tool

-- some list of words that names a tool begins with these
abbrev pub BeginsToolWords : List (List ℕ) → Type 0
BeginsToolWords words = (more : List (List ℕ)) × IsToolWords (words ++ more)

-- The words are refused at this place, from 0: those before it begin a list that names a tool, and none begins with this
-- word too, or it is missing.
pub record AreRefusedAt (words : List (List ℕ)) (place : ℕ) : Type 0 where
  pub refused : ¬ IsToolWords words
  pub within : place ≤ length words
  pub begins : BeginsToolWords (take place words)
  pub ends : (place ≡ length words) ⊎ (¬ BeginsToolWords (take (place + 1) words))

-- what is answered of some words: the tool that they name, or the place at which they are refused; memory may run out where they name one
abbrev pub IsToolAnswer : List (List ℕ) → Result Tool ToolError → Type 0
IsToolAnswer words (Ok tool) = Names words tool
IsToolAnswer words (Err (Refused word)) = AreRefusedAt words word
IsToolAnswer words (Err OutOfMemory) = IsToolWords words

-- the owner for whom the tool works; one that works for no owner has the one that is taken where none is given
abbrev pub owner_of : Tool → List ℕ
owner_of (Communicate owner) = owner
owner_of (LoadTemplate owner paths) = owner
owner_of (Run owner frontend priority command) = owner
owner_of (Show database shown) = codes "unknown"
owner_of (CopyDb copy) = codes "unknown"
owner_of (SetSelections verbose check unseen) = codes "unknown"
owner_of GetSelections = codes "unknown"
owner_of (Drill count) = codes "drill"
owner_of (Answer command) = codes "unknown"
