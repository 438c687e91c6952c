-- The parts of a line are its words.
use Rattle.std.proofs.Common.{◌≡◌, ℕ, Bool, true, false, cond, not, List, [], ◌∷◌, ◌++◌, drop, refl, sym, ap, subst, ◌∙◌, append_assoc, inl, inr}
use Rattle.std.specs.List.{list_all, before_first}
use Rattle.std.proofs.lemmas.Bool.{cases_Bool}
use Rattle.dc_text.proofs.FirstLemmas.{before_first-cons}
use Rattle.dc_text.specs.Bytes.{is_space, drop_front, is_nil}
use Rattle.dc_words.specs.Words.{IsPlainWord, IsWordEnd}
use Rattle.dc_preseed.specs.Selections.{Parts, parts_of, first_word, behind_word, ComesFirst, AreParts}

abbrev is_solid : ℕ → Bool
is_solid byte = not (is_space byte)

-- the elements that pass at the front
abbrev front : (ℕ → Bool) → List ℕ → List ℕ
front p [] = []
front p (x ∷ xs) = cond (p x) (x ∷ front p xs) []

front-drop : (p : ℕ → Bool) (xs : List ℕ) → xs ≡ front p xs ++ drop_front p xs
front-drop p [] = refl
front-drop p (x ∷ xs) = elim (cases_Bool (p x)) [
  | inl passes ↦ rw passes (ap (λ (l : List ℕ). x ∷ l) (front-drop p xs))
  | inr fails ↦ rw fails refl
]

all-front : (p : ℕ → Bool) (xs : List ℕ) → list_all p (front p xs) ≡ true
all-front p [] = refl
all-front p (x ∷ xs) = elim (cases_Bool (p x)) [
  | inl passes ↦ rw passes (rw passes (all-front p xs))
  | inr fails ↦ rw fails refl
]

word-front : (xs : List ℕ) → before_first is_space xs ≡ front is_solid xs
word-front [] = refl
word-front (x ∷ xs) = before_first-cons is_space x xs ∙ elim (cases_Bool (is_space x)) [
  | inl space ↦ rw space refl
  | inr solid ↦ rw solid (ap (λ (l : List ℕ). x ∷ l) (word-front xs))
]

end-behind : (xs : List ℕ) → IsWordEnd (drop_front is_solid xs)
end-behind [] = tt
end-behind (x ∷ xs) = elim (cases_Bool (is_space x)) [
  | inl space ↦ rw space space
  | inr solid ↦ rw solid (end-behind xs)
]

-- ---- a word that comes first

gap-drop : (gap xs : List ℕ) → list_all is_space gap ≡ true → drop_front is_space (gap ++ xs) ≡ drop_front is_space xs
gap-drop [] xs blank = refl
gap-drop (x ∷ gap) xs blank = elim (cases_Bool (is_space x)) [
  | inl space ↦ rw space (gap-drop gap xs (rw space at blank))
  | inr solid ↦ absurd (let off : false ≡ true = rw solid at blank in cc)
]

word-stays : (word rest : List ℕ) → IsPlainWord word → drop_front is_space (word ++ rest) ≡ word ++ rest
word-stays [] rest plain = absurd (plain.some refl)
word-stays (x ∷ word) rest plain = elim (cases_Bool (is_space x)) [
  | inl space ↦ absurd (let off : false ≡ true = rw space at plain.solid in cc)
  | inr solid ↦ rw solid refl
]

front-word : (word rest : List ℕ) → list_all is_solid word ≡ true → IsWordEnd rest → front is_solid (word ++ rest) ≡ word
front-word [] [] solid end = refl
front-word [] (y ∷ rest) solid end = rw end refl
front-word (x ∷ word) rest solid end = elim (cases_Bool (is_space x)) [
  | inl space ↦ absurd (let off : false ≡ true = rw space at solid in cc)
  | inr other ↦ rw other (ap (λ (l : List ℕ). x ∷ l) (front-word word rest (rw other at solid) end))
]

drop-word : (word rest : List ℕ) → list_all is_solid word ≡ true → IsWordEnd rest → drop_front is_solid (word ++ rest) ≡ rest
drop-word [] [] solid end = refl
drop-word [] (y ∷ rest) solid end = rw end refl
drop-word (x ∷ word) rest solid end = elim (cases_Bool (is_space x)) [
  | inl space ↦ absurd (let off : false ≡ true = rw space at solid in cc)
  | inr other ↦ rw other (drop-word word rest (rw other at solid) end)
]

bytes-of : (bytes word rest : List ℕ) → ComesFirst bytes word rest → drop_front is_space bytes ≡ word ++ rest
bytes-of bytes word rest first =
    ap (drop_front is_space) (first.whole ∙ append_assoc first.gap word rest) ∙ gap-drop first.gap (word ++ rest) first.blank ∙ word-stays word rest first.solid

first-is : (bytes word rest : List ℕ) → ComesFirst bytes word rest → first_word bytes ≡ word
first-is bytes word rest first =
    ap (before_first is_space) (bytes-of bytes word rest first) ∙ word-front (word ++ rest) ∙ front-word word rest first.solid.solid first.end

rest-is : (bytes word rest : List ℕ) → ComesFirst bytes word rest → behind_word bytes ≡ rest
rest-is bytes word rest first = ap (drop_front is_solid) (bytes-of bytes word rest first) ∙ drop-word word rest first.solid.solid first.end

not_nil : (xs : List ℕ) → is_nil xs ≡ false → xs ≡ [] → ⊥
not_nil xs some none = let off : true ≡ false = subst (λ l. is_nil l ≡ false) none some in cc

comes_first : (bytes : List ℕ) → is_nil (first_word bytes) ≡ false → ComesFirst bytes (first_word bytes) (behind_word bytes)
comes_first bytes some =
    let solid : List ℕ = drop_front is_space bytes in
    record {
      gap = front is_space bytes;
      whole = front-drop is_space bytes
          ∙ ap (λ (l : List ℕ). front is_space bytes ++ l) (front-drop is_solid solid ∙ ap (λ (l : List ℕ). l ++ drop_front is_solid solid) (sym (word-front solid)))
          ∙ sym (append_assoc (front is_space bytes) (first_word bytes) (behind_word bytes));
      blank = all-front is_space bytes;
      solid = record {
        some = not_nil (first_word bytes) some;
        solid = ap (list_all is_solid) (word-front solid) ∙ all-front is_solid solid;
      };
      end = end-behind solid;
    }

-- behind no word stands nothing
nothing-behind : (bytes : List ℕ) → is_nil (first_word bytes) ≡ true → behind_word bytes ≡ []
nothing-behind [] none = refl
nothing-behind (x ∷ bytes) none = elim (cases_Bool (is_space x)) [
  | inl space ↦ rw space (nothing-behind bytes (rw space at none))
  | inr solid ↦ absurd (
      let word : is_nil (before_first is_space (x ∷ bytes)) ≡ true = rw solid at none in
      let off : false ≡ true = rw (before_first-cons is_space x bytes, solid) at word in
      cc
      )
]

-- ---- the parts

pub parts_one : (line : List ℕ) (parts : Parts) → AreParts line parts → parts_of line ≡ parts
parts_one line parts are =
    let behind : behind_word line ≡ are.behind_owner = rest-is line parts.owner are.behind_owner are.owner in
    let further : behind_word (behind_word line) ≡ are.behind_question =
    ap behind_word behind ∙ rest-is are.behind_owner parts.question are.behind_question are.question in
    let rest : behind_word (behind_word (behind_word line)) ≡ are.rest = ap behind_word further ∙ rest-is are.behind_question parts.word are.rest are.word in
    λ i. record {
      owner = first-is line parts.owner are.behind_owner are.owner i;
      question = (ap first_word behind ∙ first-is are.behind_owner parts.question are.behind_question are.question) i;
      word = (ap first_word further ∙ first-is are.behind_question parts.word are.rest are.word) i;
      value = (ap (drop 1) rest ∙ sym are.value) i;
    }

-- where a later word stands, an earlier one does
earlier : (bytes : List ℕ) → is_nil (first_word (behind_word bytes)) ≡ false → is_nil (first_word bytes) ≡ false
earlier bytes later = elim (cases_Bool (is_nil (first_word bytes))) [
  | inl none ↦ absurd (let off : true ≡ false = subst (λ l. is_nil (first_word l) ≡ false) (nothing-behind bytes none) later in cc)
  | inr some ↦ some
]

pub parts_some : (line : List ℕ) → is_nil (parts_of line).word ≡ false → AreParts line (parts_of line)
parts_some line word =
    let question : is_nil (first_word (behind_word line)) ≡ false = earlier (behind_word line) word in
    record {
      behind_owner = behind_word line;
      behind_question = behind_word (behind_word line);
      rest = behind_word (behind_word (behind_word line));
      owner = comes_first line (earlier line question);
      question = comes_first (behind_word line) question;
      word = comes_first (behind_word (behind_word line)) word;
      value = refl;
    }
