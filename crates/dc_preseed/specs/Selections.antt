-- What a line of selections says (debconf-set-selections(1)): an owner, a question and a type, parted by whitespace, and behind the
-- type a value. With the word `seen` for a type, the value is that of the flag.
use Rattle.std.specs.Prelude.{◌≡◌, ℕ, Bool, true, false, not, ◌&&◌, ◌||◌, List, [], ◌∷◌, ◌++◌, drop, Option, Some, None, Result, Ok, Err, is_some, is_none, codes, if◌then◌else◌}
use Rattle.std.specs.List.{find, before_first}
use Rattle.std.specs.Option.{option_map}
use Rattle.std.specs.Str.{bytes_eq}
use Rattle.dc_text.specs.Bytes.{is_space, is_blank, drop_front, trimmed, is_nil}
use Rattle.dc_text.specs.Faults.{AllStand, IsFirstFault}
use Rattle.dc_text.specs.Names.{is_name}
use Rattle.dc_words.specs.Words.{IsPlainWord, IsWordEnd}
use Rattle.dc_template.specs.Kinds.{kind_of}
use Rattle.dc_preseed.specs.Joining.{is_comment}
use Rattle.dc_preseed.specs.declared.faults.SelectionError.{SelectionError}
use Rattle.dc_preseed.specs.declared.faults.SelectionError.TheVariants.{Bad, OutOfMemory}
use Rattle.dc_preseed.specs.declared.faults.SelectionFault.{SelectionFault}
use Rattle.dc_preseed.specs.declared.faults.SelectionFault.TheVariants.{TooFew, BadName, BadType, BadFlagValue}
use Rattle.dc_preseed.specs.declared.selections.Selection.{Selection}
use Rattle.dc_preseed.specs.declared.selections.Selection.TheVariants.{Value, Seen}

-- ---- the parts of a line

-- the first word of the bytes, empty where they have none
abbrev pub first_word : List ℕ → List ℕ
first_word bytes = before_first is_space (drop_front is_space bytes)

-- what stands behind it
abbrev pub behind_word : List ℕ → List ℕ
behind_word bytes = drop_front (λ byte. not (is_space byte)) (drop_front is_space bytes)

-- the owner, the question, the word for the type, and the value: what stands behind that word and one byte of whitespace
pub record Parts : Type 0 where
  pub owner : List ℕ
  pub question : List ℕ
  pub word : List ℕ
  pub value : List ℕ

abbrev pub parts_of : List ℕ → Parts
parts_of line = record {
  owner = first_word line;
  question = first_word (behind_word line);
  word = first_word (behind_word (behind_word line));
  value = drop 1 (behind_word (behind_word (behind_word line)));
}

-- The word comes first in the bytes, behind whitespace, and the rest stands behind it.
pub record ComesFirst (bytes word rest : List ℕ) : Type 0 where
  pub gap : List ℕ
  pub whole : bytes ≡ gap ++ word ++ rest
  pub blank : is_blank gap ≡ true
  pub solid : IsPlainWord word
  pub end : IsWordEnd rest

-- the parts are the first three words of the line, each behind the one before it, and the value
pub record AreParts (line : List ℕ) (parts : Parts) : Type 0 where
  pub behind_owner : List ℕ
  pub behind_question : List ℕ
  pub rest : List ℕ
  pub owner : ComesFirst line parts.owner behind_owner
  pub question : ComesFirst behind_owner parts.question behind_question
  pub word : ComesFirst behind_question parts.word rest
  pub value : parts.value ≡ drop 1 rest

-- a line that says nothing: without words, or a comment
abbrev pub is_silent : List ℕ → Bool
is_silent line = is_blank line || is_comment line

-- ---- faults

abbrev pub is_seen : List ℕ → Bool
is_seen word = bytes_eq word (codes "seen")

-- the value of a flag, without whitespace at both ends
abbrev pub flag_value : List ℕ → Option Bool
flag_value value =
    if bytes_eq (trimmed value) (codes "true") then Some true
    else if bytes_eq (trimmed value) (codes "false") then Some false
    else None

-- whether a line has a fault, the others aside
abbrev pub has_fault : Parts → SelectionFault → Bool
has_fault parts TooFew = is_nil parts.word
has_fault parts BadName = not (is_name parts.owner && is_name parts.question)
has_fault parts BadType = not (is_seen parts.word || is_some (kind_of parts.word))
has_fault parts BadFlagValue = is_seen parts.word && is_none (flag_value parts.value)

-- the faults in the order in which they decide
abbrev pub all_faults : List SelectionFault
all_faults = TooFew ∷ BadName ∷ BadType ∷ BadFlagValue ∷ []

-- a fault of a line, between those before it and those after it: it stands where the line is free of it
abbrev pub IsFreeOf : Parts → List SelectionFault → SelectionFault → List SelectionFault → Type 0
IsFreeOf parts before fault after = has_fault parts fault ≡ false

abbrev pub Has : Parts → List SelectionFault → SelectionFault → List SelectionFault → SelectionFault → Type 0
Has parts before fault after kind = (has_fault parts fault ≡ true) × (kind ≡ fault)

-- the line is free of all faults
abbrev pub IsSound : Parts → Type 0
IsSound parts = AllStand (IsFreeOf parts) all_faults

-- this is the first of its faults
abbrev pub IsFirst : Parts → SelectionFault → Type 0
IsFirst parts fault = IsFirstFault (IsFreeOf parts) (Has parts) all_faults fault fault

-- ---- what is answered

-- the value of a question, or of its flag `seen`
abbrev pub selection_of : Parts → Option Selection
selection_of parts =
    if is_seen parts.word then option_map (λ seen. Seen parts.question seen) (flag_value parts.value)
    else option_map (λ kind. Value parts.owner parts.question kind parts.value) (kind_of parts.word)

-- What is answered of parts: what they say, or their first fault. Memory may run out.
abbrev pub IsSaid : Parts → Result Selection SelectionError → Type 0
IsSaid parts (Ok selection) = IsSound parts × (selection_of parts ≡ Some selection)
IsSaid parts (Err (Bad fault)) = IsFirst parts fault
IsSaid parts (Err OutOfMemory) = Unit {0}

-- What is answered of a line: nothing where it says nothing, and else what its parts say, or their first fault.
abbrev pub IsAnswer : List ℕ → Result (Option Selection) SelectionError → Type 0
IsAnswer line (Ok None) = is_silent line ≡ true
IsAnswer line (Ok (Some selection)) = (is_silent line ≡ false) × IsSaid (parts_of line) (Ok selection)
IsAnswer line (Err error) = (is_silent line ≡ false) × IsSaid (parts_of line) (Err error)

-- ---- the same, worked out

abbrev pub said_or : Option SelectionFault → Option Selection → Result (Option Selection) SelectionError
said_or (Some fault) selection = Err (Bad fault)
said_or None selection = Ok selection

abbrev pub said : Parts → Result (Option Selection) SelectionError
said parts = said_or (find (has_fault parts) all_faults) (selection_of parts)

abbrev pub answer : List ℕ → Result (Option Selection) SelectionError
answer line = if is_silent line then Ok None else said (parts_of line)
