-- The words of a command line.
use Rattle.std.specs.Prelude.{◌≡◌, ◌≢◌, ℕ, true, not, List, [], ◌∷◌, ◌++◌, ◌↔◌, ⊤}
use Rattle.std.specs.List.{list_all, slice_split, flat_map}
use Rattle.dc_text.specs.Bytes.{is_space, is_blank}

-- what follows a word: nothing, or whitespace
abbrev pub IsWordEnd : List ℕ → Type 0
IsWordEnd [] = ⊤
IsWordEnd (byte ∷ bytes) = is_space byte ≡ true

-- a word as it is spelled in plain mode: bytes other than whitespace, at least one
pub record IsPlainWord (word : List ℕ) : Type 0 where
  pub some : word ≢ []
  pub solid : list_all (λ byte. not (is_space byte)) word ≡ true

-- The line is gaps and words in turn. A gap is whitespace, and a gap between two words isn't empty.
abbrev pub PlainWords : List ℕ → List (List ℕ) → Type 0
PlainWords line [] = is_blank line ≡ true
PlainWords line (word ∷ words) = (gap : List ℕ) × (rest : List ℕ) × (line ≡ gap ++ word ++ rest) × (is_blank gap ≡ true) × IsPlainWord word × IsWordEnd rest × PlainWords rest words

-- a word that isn't empty, as a list of one
abbrev pub some_word : List ℕ → List (List ℕ)
some_word [] = []
some_word (byte ∷ bytes) = (byte ∷ bytes) ∷ []

-- the words of a line: what stands between whitespace and isn't empty
abbrev pub plain_words_of : List ℕ → List (List ℕ)
plain_words_of line = flat_map some_word (slice_split is_space line)

-- a line has these words and no others
abbrev pub IsPlainWordsOf : List (List ℕ) → List ℕ → Type 0
IsPlainWordsOf words line = PlainWords line words ↔ (words ≡ plain_words_of line)
