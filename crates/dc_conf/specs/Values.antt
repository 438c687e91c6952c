-- The values that fields of a configuration take (debconf.conf(5)), and the fields that each driver has.
use Rattle.std.specs.Prelude.{ℕ, ◌+◌, ◌-◌, ◌*◌, Bool, true, false, not, ◌&&◌, ◌||◌, nat_le, List, [], ◌∷◌, ◌++◌, Option, map as each, length, codes, ◌==◌, if◌then◌else◌}
use Rattle.std.specs.Char.{is_ascii_alphanumeric}
use Rattle.std.specs.Io.BufRead.{strip_last}
use Rattle.std.specs.List.{list_all, list_any, find, slice_split}
use Rattle.std.specs.Option.{option_map_or}
use Rattle.std.specs.Str.{bytes_eq, is_utf8}
use Rattle.dc_text.specs.Bytes.{lower, is_nil, is_space}
use Rattle.dc_words.specs.Words.{plain_words_of}
use Rattle.dc_conf.specs.declared.drivers.Driver.{Driver}
use Rattle.dc_conf.specs.declared.drivers.Driver.TheVariants.{File, DirTree, PackageDir, Pipe, Stack, Backup, Debug}

-- `true`, read without regard to case
abbrev pub is_true : List ℕ → Bool
is_true value = bytes_eq (each lower value) (codes "true")

-- `true` or `false`, read without regard to case
abbrev pub is_boolean : List ℕ → Bool
is_boolean value = is_true value || bytes_eq (each lower value) (codes "false")

abbrev pub is_octal_digit : ℕ → Bool
is_octal_digit byte = nat_le 48 byte && nat_le byte 55

-- permission bits: three or four octal digits
abbrev pub is_mode : List ℕ → Bool
is_mode value = (length value == 3 || length value == 4) && list_all is_octal_digit value

-- the number that octal digits spell, behind those that spell a first number
abbrev pub octal_from : ℕ → List ℕ → ℕ
octal_from first [] = first
octal_from first (byte ∷ bytes) = octal_from (first * 8 + (byte - 48)) bytes

abbrev pub octal : List ℕ → ℕ
octal digits = octal_from 0 digits

-- not empty, `.` or `..`
abbrev pub is_path_part : List ℕ → Bool
is_path_part part = not (is_nil part || (bytes_eq part (46 ∷ []) || bytes_eq part (46 ∷ 46 ∷ [])))

-- without one slash at the front, if it is there
abbrev pub without_slash : List ℕ → List ℕ
without_slash [] = []
without_slash (byte ∷ bytes) = if byte == 47 then bytes else byte ∷ bytes

-- A path: 1 to 3,000 bytes of UTF-8 without 0. It may begin with a slash, and its parts between slashes are never empty, `.`
-- or `..`.
abbrev pub is_path : List ℕ → Bool
is_path value =
    nat_le 1 (length value) && (nat_le (length value) 3000 && (is_utf8 value && (not (list_any (λ byte. byte == 0) value)
    && list_all is_path_part (slice_split (λ byte. byte == 47) (without_slash value)))))

-- without one slash at the end, if it is there
abbrev pub without_last_slash : List ℕ → List ℕ
without_last_slash value = strip_last 47 value

-- the path of a folder, which may end with a slash
abbrev pub is_directory : List ℕ → Bool
is_directory value = is_path (without_last_slash value)

-- what the names of files end with: `.` and 1 to 16 letters or digits
abbrev pub is_extension : List ℕ → Bool
is_extension [] = false
is_extension (byte ∷ bytes) =
    byte == 46 && (nat_le 1 (length bytes) && (nat_le (length bytes) 16 && list_all is_ascii_alphanumeric bytes))

-- a letter, a digit, `-`, `_` or `.`
abbrev pub is_database_byte : ℕ → Bool
is_database_byte byte = is_ascii_alphanumeric byte || (byte == 45 || (byte == 95 || byte == 46))

-- the name of a database: 1 to 64 letters, digits, `-`, `_` and `.`
abbrev pub is_database_name : List ℕ → Bool
is_database_name value = nat_le 1 (length value) && (nat_le (length value) 64 && list_all is_database_byte value)

-- the one format that there is
abbrev pub is_format : List ℕ → Bool
is_format value = bytes_eq value (codes "822")

-- a comma as a space
abbrev pub spaced : ℕ → ℕ
spaced byte = if byte == 44 then 32 else byte

-- an end of a pipe: the number of the descriptor that is used, or none
abbrev pub is_pipe_end : List ℕ → List ℕ → Bool
is_pipe_end descriptor value = bytes_eq value descriptor || bytes_eq value (codes "none")

-- the names of a list, which commas and whitespace part
abbrev pub names_in : List ℕ → List (List ℕ)
names_in value = plain_words_of (each spaced value)

-- a list of at least one name: some byte parts none
abbrev pub has_names : List ℕ → Bool
has_names value = list_any (λ byte. not (is_space (spaced byte))) value

-- ---- the fields of each driver

-- a field: its key, whether it must be there, and the values that it takes
pub record FieldRule : Type 0 where
  pub key : List ℕ
  pub needed : Bool
  pub takes : List ℕ → Bool

abbrev pub needed : List ℕ → (List ℕ → Bool) → FieldRule
needed key takes = record { key = key; needed = true; takes = takes }

abbrev pub optional : List ℕ → (List ℕ → Bool) → FieldRule
optional key takes = record { key = key; needed = false; takes = takes }

-- the fields that each database may have, whatever its driver
abbrev pub database_rules : List FieldRule
database_rules = optional (codes "name") is_database_name ∷ optional (codes "format") is_format ∷ []

-- the fields that are patterns of each database that holds items itself
abbrev pub pattern_rules : List FieldRule
pattern_rules =
    optional (codes "accept-name") is_utf8 ∷ optional (codes "reject-name") is_utf8
    ∷ optional (codes "accept-type") is_utf8 ∷ optional (codes "reject-type") is_utf8 ∷ []

-- all fields that such a database may have
abbrev pub layer_rules : List FieldRule
layer_rules = optional (codes "required") is_boolean ∷ optional (codes "readonly") is_boolean ∷ pattern_rules

-- a field that a database may not have
abbrev pub refused : List ℕ → FieldRule
refused key = optional key (λ value. false)

-- the fields of a database that holds items itself, which one that doesn't may not have, so that no write goes where such a field
-- would forbid it
abbrev pub no_layer_rules : List FieldRule
no_layer_rules = each (λ rule. refused rule.key) layer_rules

-- the fields of each database in a folder
abbrev pub folder_rules : List FieldRule
folder_rules = needed (codes "directory") is_directory ∷ optional (codes "extension") is_extension ∷ []

-- a field that names a database: another pass sees whether it is there
abbrev pub name_of : List ℕ → FieldRule
name_of key = needed key (λ value. true)

abbrev pub driver_rules : Driver → List FieldRule
driver_rules File = needed (codes "filename") is_path ∷ optional (codes "mode") is_mode ∷ optional (codes "backup") is_boolean ∷ layer_rules
driver_rules DirTree = folder_rules ++ layer_rules
driver_rules PackageDir = folder_rules ++ optional (codes "mode") is_mode ∷ layer_rules
driver_rules Pipe = optional (codes "infd") (is_pipe_end (codes "0")) ∷ optional (codes "outfd") (is_pipe_end (codes "1")) ∷ layer_rules
driver_rules Stack = needed (codes "stack") has_names ∷ no_layer_rules
driver_rules Backup = name_of (codes "db") ∷ name_of (codes "backupdb") ∷ no_layer_rules
driver_rules Debug = name_of (codes "db") ∷ no_layer_rules

-- the fields that a database may have, by its driver, if it has one
abbrev pub rules_of : Option Driver → List FieldRule
rules_of driver = database_rules ++ option_map_or driver_rules driver []

-- the word of each driver, in lower case
abbrev pub driver_word : Driver → List ℕ
driver_word File = codes "file"
driver_word DirTree = codes "dirtree"
driver_word PackageDir = codes "packagedir"
driver_word Pipe = codes "pipe"
driver_word Stack = codes "stack"
driver_word Backup = codes "backup"
driver_word Debug = codes "debug"

abbrev pub all_drivers : List Driver
all_drivers = File ∷ DirTree ∷ PackageDir ∷ Pipe ∷ Stack ∷ Backup ∷ Debug ∷ []

-- the driver that has this word, read without regard to case
abbrev pub driver_of : List ℕ → Option Driver
driver_of word = find (λ driver. bytes_eq (driver_word driver) (each lower word)) all_drivers
