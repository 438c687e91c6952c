-- The command lines of the confmodule protocol, version 2 (debconf-devel(7)).
use Rattle.std.specs.Prelude.{ℕ, Bool, false, ◌==◌, nat_le, List, [], ◌∷◌, map, Option, Some, None, if◌then◌else◌, codes}
use Rattle.std.specs.List.{join_by}
use Rattle.std.specs.Str.{bytes_eq}
use Rattle.dc_text.specs.Ascii.{space, hash}
use Rattle.dc_text.specs.Bytes.{lower}
use Rattle.dc_words.specs.Escaped.{escaped_words_of}
use Rattle.dc_text.specs.Names.{is_name, is_flag_name, is_variable_key}
use Rattle.dc_words.specs.Words.{plain_words_of}
use Rattle.dc_proto.specs.declared.command.Command.{Command}
use Rattle.dc_proto.specs.declared.command.Command.TheVariants.{Version, Capb, SetTitle, Title, Input, BeginBlock, EndBlock, Go, Clear, Stop, Get, Set, Reset, Subst, Fget, Fset, Metaget, Register, Unregister, Purge, ProgressStart, ProgressSet, ProgressStep, ProgressInfo, ProgressStop, LoadTemplateFile, XSave}
use Rattle.dc_proto.specs.declared.command.Heard.{Heard}
use Rattle.dc_proto.specs.declared.command.Heard.TheVariants.{Nothing, Known, Refused}
use Rattle.dc_proto.specs.declared.priority.Priority.{Priority}
use Rattle.dc_proto.specs.Priorities.{priority_of}
use Rattle.dc_proto.specs.Numbers.{number_of}
use Rattle.dc_proto.specs.Replies.{unsupported_command, wrong_number, bad_name, bad_priority, bad_number}

-- ---- the words of a line

-- the words of a line, in escape mode or in plain mode
abbrev pub words_of : Bool → List ℕ → List (List ℕ)
words_of escape line = if escape then escaped_words_of line else plain_words_of line

-- the words that are left make a value: joined by one space
abbrev pub joined_value : List (List ℕ) → List ℕ
joined_value words = join_by (λ word. word) (space ∷ []) words

-- ---- the arguments of each command; where there are others, their number is wrong

-- VERSION [version]
abbrev pub version : List (List ℕ) → Heard
version [] = Known (Version None)
version (number ∷ []) = Known (Version (Some number))
version arguments = Refused wrong_number

-- CAPB capabilities
abbrev pub capb : List (List ℕ) → Heard
capb words = Known (Capb words)

-- SETTITLE question
abbrev pub set_title : List (List ℕ) → Heard
set_title (question ∷ []) = Known (SetTitle question)
set_title arguments = Refused wrong_number

-- TITLE value
abbrev pub title : List (List ℕ) → Heard
title value = Known (Title (joined_value value))

-- what a priority's word says of a question
abbrev pub input_at : Option Priority → List ℕ → Heard
input_at (Some priority) question = Known (Input priority question)
input_at None question = Refused bad_priority

-- INPUT priority question
abbrev pub input : List (List ℕ) → Heard
input (priority ∷ question ∷ []) = input_at (priority_of priority) question
input arguments = Refused wrong_number

-- BEGINBLOCK, ENDBLOCK, GO, CLEAR, STOP, PURGE, PROGRESS STOP, X_SAVE: a command without arguments
abbrev pub alone : Command → List (List ℕ) → Heard
alone command [] = Known command
alone command arguments = Refused wrong_number

-- GET question
abbrev pub get : List (List ℕ) → Heard
get (question ∷ []) = Known (Get question)
get arguments = Refused wrong_number

-- SET question value
abbrev pub set : List (List ℕ) → Heard
set (question ∷ value) = Known (Set question (joined_value value))
set arguments = Refused wrong_number

-- RESET question
abbrev pub reset : List (List ℕ) → Heard
reset (question ∷ []) = Known (Reset question)
reset arguments = Refused wrong_number

-- SUBST question key value
abbrev pub subst : List (List ℕ) → Heard
subst (question ∷ key ∷ value) = if is_variable_key key then Known (Subst question key (joined_value value)) else Refused bad_name
subst arguments = Refused wrong_number

-- FGET question flag
abbrev pub fget : List (List ℕ) → Heard
fget (question ∷ flag ∷ []) = if is_flag_name flag then Known (Fget question flag) else Refused bad_name
fget arguments = Refused wrong_number

-- FSET question flag value
abbrev pub fset : List (List ℕ) → Heard
fset (question ∷ flag ∷ value ∷ []) = if is_flag_name flag then Known (Fset question flag value) else Refused bad_name
fset arguments = Refused wrong_number

-- METAGET question field
abbrev pub metaget : List (List ℕ) → Heard
metaget (question ∷ field ∷ []) = Known (Metaget question field)
metaget arguments = Refused wrong_number

-- REGISTER template question
abbrev pub register : List (List ℕ) → Heard
register (template ∷ question ∷ []) = if is_name question then Known (Register template question) else Refused bad_name
register arguments = Refused wrong_number

-- UNREGISTER question
abbrev pub unregister : List (List ℕ) → Heard
unregister (question ∷ []) = Known (Unregister question)
unregister arguments = Refused wrong_number

-- X_LOADTEMPLATEFILE path [owner]
abbrev pub load_template_file : List (List ℕ) → Heard
load_template_file (path ∷ []) = Known (LoadTemplateFile path None)
load_template_file (path ∷ owner ∷ []) = if is_name owner then Known (LoadTemplateFile path (Some owner)) else Refused bad_name
load_template_file arguments = Refused wrong_number

-- ---- rows of words, and the second words of PROGRESS

-- a command's word, in lower case, and what its arguments say
pub record Row : Type 0 where
  pub word : List ℕ
  pub read : List (List ℕ) → Heard

-- what the arguments of a word say, by the first row of the word
abbrev pub read_by : List Row → List ℕ → List (List ℕ) → Heard
read_by [] word arguments = Refused unsupported_command
read_by (row ∷ rows) word arguments = if bytes_eq word row.word then row.read arguments else read_by rows word arguments

-- what two numbers say of a progress bar: the first is at most the second
abbrev pub start_between : Option ℕ → Option ℕ → List ℕ → Heard
start_between (Some min) (Some max) question = if nat_le min max then Known (ProgressStart min max question) else Refused bad_number
start_between min max question = Refused bad_number

-- PROGRESS START min max question
abbrev pub progress_start : List (List ℕ) → Heard
progress_start (min ∷ max ∷ question ∷ []) = start_between (number_of min) (number_of max) question
progress_start arguments = Refused wrong_number

-- a command of one number
abbrev pub numbered : (ℕ → Command) → Option ℕ → Heard
numbered command (Some number) = Known (command number)
numbered command None = Refused bad_number

-- PROGRESS SET number
abbrev pub progress_set : List (List ℕ) → Heard
progress_set (number ∷ []) = numbered ProgressSet (number_of number)
progress_set arguments = Refused wrong_number

-- PROGRESS STEP number
abbrev pub progress_step : List (List ℕ) → Heard
progress_step (number ∷ []) = numbered ProgressStep (number_of number)
progress_step arguments = Refused wrong_number

-- PROGRESS INFO question
abbrev pub progress_info : List (List ℕ) → Heard
progress_info (question ∷ []) = Known (ProgressInfo question)
progress_info arguments = Refused wrong_number

abbrev pub progress_commands : List Row
progress_commands =
    record { word = codes "start"; read = progress_start }
    ∷ record { word = codes "set"; read = progress_set }
    ∷ record { word = codes "step"; read = progress_step }
    ∷ record { word = codes "info"; read = progress_info }
    ∷ record { word = codes "stop"; read = alone ProgressStop }
    ∷ []

-- PROGRESS word arguments: the word, without regard to case, names what is done to the bar
abbrev pub progress : List (List ℕ) → Heard
progress [] = Refused wrong_number
progress (word ∷ arguments) = read_by progress_commands (map lower word) arguments

-- ---- the table of commands

abbrev pub commands : List Row
commands =
    record { word = codes "version"; read = version }
    ∷ record { word = codes "capb"; read = capb }
    ∷ record { word = codes "settitle"; read = set_title }
    ∷ record { word = codes "title"; read = title }
    ∷ record { word = codes "input"; read = input }
    ∷ record { word = codes "beginblock"; read = alone BeginBlock }
    ∷ record { word = codes "endblock"; read = alone EndBlock }
    ∷ record { word = codes "go"; read = alone Go }
    ∷ record { word = codes "clear"; read = alone Clear }
    ∷ record { word = codes "stop"; read = alone Stop }
    ∷ record { word = codes "get"; read = get }
    ∷ record { word = codes "set"; read = set }
    ∷ record { word = codes "reset"; read = reset }
    ∷ record { word = codes "subst"; read = subst }
    ∷ record { word = codes "fget"; read = fget }
    ∷ record { word = codes "fset"; read = fset }
    ∷ record { word = codes "metaget"; read = metaget }
    ∷ record { word = codes "register"; read = register }
    ∷ record { word = codes "unregister"; read = unregister }
    ∷ record { word = codes "purge"; read = alone Purge }
    ∷ record { word = codes "progress"; read = progress }
    ∷ record { word = codes "x_loadtemplatefile"; read = load_template_file }
    ∷ record { word = codes "x_save"; read = alone XSave }
    ∷ []

-- what words say: the first, without regard to case, names a command. No words say nothing
abbrev pub heard_words : List (List ℕ) → Heard
heard_words [] = Nothing
heard_words (word ∷ arguments) = read_by commands (map lower word) arguments

-- begins with `#`
abbrev pub is_comment : List ℕ → Bool
is_comment [] = false
is_comment (byte ∷ bytes) = byte == hash

-- what a line says
abbrev pub heard : Bool → List ℕ → Heard
heard escape line = if is_comment line then Nothing else heard_words (words_of escape line)
