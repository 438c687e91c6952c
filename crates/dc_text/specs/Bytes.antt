-- Words on bytes that every format of debconf uses.
use Rattle.std.specs.Prelude.{ℕ, ◌+◌, ◌-◌, Bool, true, false, ◌||◌, ◌&&◌, ◌==◌, nat_le, List, [], ◌∷◌, if◌then◌else◌}
use Rattle.std.specs.List.{list_all}
use Rattle.dc_text.specs.Ascii.{space, tab}

-- space, tab, line tabulation, form feed, carriage return
abbrev pub is_space : ℕ → Bool
is_space byte = byte == space || (byte == tab || (nat_le 11 byte && nat_le byte 13))

-- empty, or whitespace alone
abbrev pub is_blank : List ℕ → Bool
is_blank bytes = list_all is_space bytes

-- begins with a space or a tab
abbrev pub is_indented : List ℕ → Bool
is_indented [] = false
is_indented (byte ∷ bytes) = byte == space || byte == tab

-- without one space at the front, if it is there
abbrev pub without_space : List ℕ → List ℕ
without_space [] = []
without_space (byte ∷ bytes) = if byte == space then bytes else byte ∷ bytes

-- without the elements that pass at the front
abbrev pub drop_front : {X : Type 0} → (X → Bool) → List X → List X
drop_front p [] = []
drop_front p (x ∷ xs) = if p x then drop_front p xs else x ∷ xs

-- without the elements that pass at the end
abbrev pub drop_back : {X : Type 0} → (X → Bool) → List X → List X
drop_back p [] = []
drop_back p (x ∷ xs) = if list_all p (x ∷ xs) then [] else x ∷ drop_back p xs

-- without whitespace at both ends
abbrev pub trimmed : List ℕ → List ℕ
trimmed bytes = drop_back is_space (drop_front is_space bytes)

-- an upper-case letter in lower case, and any other byte as it is
abbrev pub lower : ℕ → ℕ
lower byte = if nat_le 65 byte && nat_le byte 90 then byte + 32 else byte

-- a lower-case letter in upper case, and any other byte as it is
abbrev pub upper : ℕ → ℕ
upper byte = if nat_le 97 byte && nat_le byte 122 then byte - 32 else byte

-- the first letter in upper case
abbrev pub capital : List ℕ → List ℕ
capital [] = []
capital (byte ∷ bytes) = upper byte ∷ bytes

-- whether a list has no element
abbrev pub is_nil : {X : Type 0} → List X → Bool
is_nil [] = true
is_nil (x ∷ xs) = false
