-- Texts packed into bytes: each is its length, and then its bytes. A usual key is its number.
use Rattle.std.specs.Prelude.{◌≡◌, ℕ, zero, suc, ◌+◌, ◌/◌, ◌%◌, ◌≤◌, ◌==◌, List, [], ◌∷◌, ◌++◌, length, take, drop, replicate, slice_index_or, codes, Option, Some, None, if◌then◌else◌}
use Rattle.std.specs.Ordering.{is_eq}
use Rattle.std.specs.FinMap.Entries.{by_order}
use Rattle.dc_text.specs.Maps.{text_cmp}

-- a length is packed as a byte of 255 for each whole 255 in it, and then a byte for what is left
unfoldable pub packed_length : ℕ → List ℕ
packed_length n = replicate (n / 255) 255 ++ (n % 255) ∷ []

-- a text is packed as its length and then its bytes
unfoldable pub packed_text : List ℕ → List ℕ
packed_text text = packed_length (length text) ++ text

-- the keys that most items have, with their marks in front: they are packed as their numbers in this list
abbrev pub usual_keys : List (List ℕ)
usual_keys =
    []
    ∷ (0 ∷ codes "default")
    ∷ (0 ∷ codes "description")
    ∷ (0 ∷ codes "extended_description")
    ∷ (0 ∷ codes "template")
    ∷ (0 ∷ codes "type")
    ∷ (0 ∷ codes "value")
    ∷ (2 ∷ codes "seen")
    ∷ []

-- the key of a number, which is the empty one where the list ends before it
abbrev pub usual_key : ℕ → List ℕ
usual_key number = slice_index_or usual_keys number []

-- the number of a key in a list whose first key has the number n
abbrev pub number_from : ℕ → List ℕ → List (List ℕ) → Option ℕ
number_from n key [] = None
number_from n key (other ∷ keys) = if is_eq (text_cmp key other) then Some n else number_from (suc n) key keys

-- the number of a key, if it is a usual one
abbrev pub number_of : List ℕ → Option ℕ
number_of key = number_from 0 key usual_keys

-- a usual key is packed as a byte of 0, which begins no other, and its number
abbrev pub packed_as : Option ℕ → List ℕ → List ℕ
packed_as None key = packed_text key
packed_as (Some number) key = 0 ∷ number ∷ []

abbrev pub packed_key : List ℕ → List ℕ
packed_key key = packed_as (number_of key) key

-- entries are packed one behind the other, each as its key and then its value
abbrev pub packed : List (List ℕ × List ℕ) → List ℕ
packed [] = []
packed (entry ∷ entries) = packed_key entry.0 ++ (packed_text entry.1 ++ packed entries)

-- the length that stands at the front of the bytes
unfoldable pub length_at : List ℕ → ℕ
length_at [] = 0
length_at (byte ∷ bytes) = if byte == 255 then 255 + length_at bytes else byte

-- what stands behind that length
unfoldable pub behind_length : List ℕ → List ℕ
behind_length [] = []
behind_length (byte ∷ bytes) = if byte == 255 then behind_length bytes else bytes

-- the text at the front of the bytes
unfoldable pub text_at : List ℕ → List ℕ
text_at bytes = take (length_at bytes) (behind_length bytes)

-- what stands behind that text
unfoldable pub behind_text : List ℕ → List ℕ
behind_text bytes = drop (length_at bytes) (behind_length bytes)

-- a text stands at the front of the bytes, with nothing of it missing
unfoldable pub HasText : List ℕ → Type 0
HasText bytes = length_at bytes ≤ length (behind_length bytes)

-- the key at the front of the bytes
abbrev pub key_at : List ℕ → List ℕ
key_at [] = text_at []
key_at (byte ∷ []) = text_at (byte ∷ [])
key_at (zero ∷ number ∷ bytes) = usual_key number
key_at (suc byte ∷ more ∷ bytes) = text_at (suc byte ∷ more ∷ bytes)

-- what stands behind that key
abbrev pub behind_key : List ℕ → List ℕ
behind_key [] = behind_text []
behind_key (byte ∷ []) = behind_text (byte ∷ [])
behind_key (zero ∷ number ∷ bytes) = bytes
behind_key (suc byte ∷ more ∷ bytes) = behind_text (suc byte ∷ more ∷ bytes)

-- the entries that stand in the bytes, but no more than so many
abbrev pub entries_up_to : ℕ → List ℕ → List (List ℕ × List ℕ)
entries_up_to zero bytes = []
entries_up_to (suc count) [] = []
entries_up_to (suc count) (byte ∷ bytes) =
    (key_at (byte ∷ bytes), text_at (behind_key (byte ∷ bytes))) ∷ entries_up_to count (behind_text (behind_key (byte ∷ bytes)))

-- all entries that stand in the bytes: there are no more of them than bytes
abbrev pub entries_in : List ℕ → List (List ℕ × List ℕ)
entries_in bytes = entries_up_to (length bytes) bytes

-- the bytes are entries, packed, and nothing else
abbrev pub IsPacked : List ℕ → Type 0
IsPacked bytes = packed (entries_in bytes) ≡ bytes

-- so many bytes of the packed entries are whole entries
abbrev pub IsPlace : ℕ → List (List ℕ × List ℕ) → Type 0
IsPlace at entries = (front : List (List ℕ × List ℕ)) × (rest : List (List ℕ × List ℕ)) × (entries ≡ front ++ rest) × (at ≡ length (packed front))

-- the bytes begin with those of the first list
abbrev pub IsBegunBy : List ℕ → List ℕ → Type 0
IsBegunBy front bytes = take (length front) bytes ≡ front

-- the entries before the place of a key, among entries in order
abbrev pub before : List ℕ → List (List ℕ × List ℕ) → List (List ℕ × List ℕ)
before key [] = []
before key (entry ∷ entries) = by_order (text_cmp key entry.0) [] [] (entry ∷ before key entries)

-- those from that place on
abbrev pub from : List ℕ → List (List ℕ × List ℕ) → List (List ℕ × List ℕ)
from key [] = []
from key (entry ∷ entries) = by_order (text_cmp key entry.0) (entry ∷ entries) (entry ∷ entries) (from key entries)

-- those behind the key, whether it is there or not
abbrev pub behind : List ℕ → List (List ℕ × List ℕ) → List (List ℕ × List ℕ)
behind key [] = []
behind key (entry ∷ entries) = by_order (text_cmp key entry.0) (entry ∷ entries) entries (behind key entries)

-- the value of the key, if the entry at its place has it
abbrev pub value_at : List ℕ → List (List ℕ × List ℕ) → Option (List ℕ)
value_at key [] = None
value_at key (entry ∷ entries) = by_order (text_cmp key entry.0) None (Some entry.1) (value_at key entries)

-- no entry has the key or a higher one
abbrev pub IsBehind : List ℕ → List (List ℕ × List ℕ) → Type 0
IsBehind key entries = (before key entries ≡ entries) × (behind key entries ≡ []) × (value_at key entries ≡ None)
