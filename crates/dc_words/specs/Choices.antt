-- The choices of a select question, as one text.
use Rattle.std.specs.Prelude.{◌≡◌, ◌≢◌, ℕ, Bool, true, false, not, ◌&&◌, ◌||◌, ◌==◌, List, [], ◌∷◌, Option, Some, None, is_none, option_to_list, codes, if◌then◌else◌}
use Rattle.std.specs.List.{list_all, flat_map, slice_split, join_by, AllByRecursion}
use Rattle.dc_text.specs.Ascii.{newline, space, comma, backslash}
use Rattle.dc_text.specs.Bytes.{is_space, is_nil}
use Rattle.dc_words.specs.Words.{some_word}

-- whitespace, a newline among it
abbrev pub is_gap : ℕ → Bool
is_gap byte = is_space byte || byte == newline

-- a comma or a space comes first
abbrev pub spells_next : List ℕ → Bool
spells_next [] = false
spells_next (next ∷ bytes) = next == comma || next == space

-- whitespace comes first
abbrev pub gap_next : List ℕ → Bool
gap_next [] = false
gap_next (next ∷ bytes) = is_gap next

-- What a text of choices says, from left to right: a byte of a choice, or what parts two choices (`None`). A backslash
-- before a comma or a space spells that byte. A comma before whitespace parts two choices, with all the whitespace
-- after it. Where `skips` is true whitespace is passed over.
abbrev pub symbols : Bool → List ℕ → List (Option ℕ)
symbols skips [] = []
symbols skips (byte ∷ []) = if skips && is_gap byte then [] else Some byte ∷ []
symbols skips (byte ∷ next ∷ bytes) =
    if skips && is_gap byte then symbols true (next ∷ bytes)
    else if byte == backslash && spells_next (next ∷ bytes) then Some next ∷ symbols false bytes
    else if byte == comma && gap_next (next ∷ bytes) then None ∷ symbols true (next ∷ bytes)
    else Some byte ∷ symbols false (next ∷ bytes)

-- the bytes between what parts two choices, without empty pieces
abbrev pub pieces : List (Option ℕ) → List (List ℕ)
pieces said = flat_map (λ part. some_word (flat_map option_to_list part)) (slice_split is_none said)

-- the choices of a text, before which whitespace is passed over
abbrev pub choices_of : List ℕ → List (List ℕ)
choices_of text = pieces (symbols true text)

-- A choice as it is written: a comma has a backslash before it, and so has a space that is its first or last byte or
-- follows a backslash (`edge`: what comes is the first byte, or follows a backslash).
abbrev pub choice_text : Bool → List ℕ → List ℕ
choice_text edge [] = []
choice_text edge (byte ∷ bytes) =
    if byte == comma || (byte == space && (edge || is_nil bytes)) then backslash ∷ byte ∷ choice_text false bytes
    else byte ∷ choice_text (byte == backslash) bytes

-- the choices as one text, parted by a comma and a space
abbrev pub joined : List (List ℕ) → List ℕ
joined choices = join_by (choice_text true) (codes ", ") choices

-- ends with a backslash
abbrev pub ends_open : List ℕ → Bool
ends_open [] = false
ends_open (byte ∷ []) = byte == backslash
ends_open (byte ∷ next ∷ bytes) = ends_open (next ∷ bytes)

-- a choice that can be written: it isn't empty, has no whitespace but spaces, and doesn't end with a backslash
pub record IsChoice (choice : List ℕ) : Type 0 where
  pub some : choice ≢ []
  pub spaced : list_all (λ byte. not (is_gap byte) || byte == space) choice ≡ true
  pub closed : ends_open choice ≡ false

-- choices that are joined and split are the same choices
abbrev pub AreSplitAgain : List (List ℕ) → Type 0
AreSplitAgain choices = AllByRecursion IsChoice choices → choices_of (joined choices) ≡ choices
