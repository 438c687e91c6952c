-- Keys in a language.
use Rattle.std.proofs.Common.{◌≡◌, ℕ, zero, suc, ◌≤◌, take, append_assoc, Bool, true, false, cond, not, ◌&&◌, List, [], ◌∷◌, ◌++◌, length, map, refl, sym, ap, ◌∙◌, arith, length-append}
use Rattle.std.specs.Prelude.{◌||◌, ◌==◌, nat_le, nat_lt, codes}
use Rattle.std.specs.List.{list_any, list_all, filter, flat_map, before_first, position_or_len}
use Rattle.std.specs.Str.{bytes_eq}
use Rattle.std.specs.Cmp.Lexicographic.{same_text}
use Rattle.std.proofs.lemmas.List.{append-nil}
use Rattle.std.proofs.lemmas.List.Elements.{filter-append}
use Rattle.std.proofs.lemmas.Bool.Decides.{nat_tests}
use Rattle.dc_text.specs.Bytes.{lower, is_nil}
use Rattle.dc_text.specs.Names.{is_field_key, is_key_byte, begins_with_letter, is_reserved, is_word, has_length}
use Rattle.dc_template.specs.Forms.{template_word, is_line_key, is_extended, is_description, headed}
use Rattle.dc_template.specs.declared.forms.Form.TheVariants.{Unkeyed}
use Rattle.dc_template.specs.Languages.{is_language, is_language_byte, is_short, localised_keys, with_shorter}
use Rattle.dc_template.proofs.TestLemmas.{both, both_hold, bytes_eq-other, list_any-append, list_all-append, list_all-each, or-true}

lower_key_byte : (b : ℕ) → is_key_byte b ≡ true → lower b ≡ b
lower_key_byte b e = grind (arith, nat_tests)

-- the bytes of keys are in lower case
pub lower_key : (k : List ℕ) → list_all is_key_byte k ≡ true → map lower k ≡ k
lower_key [] e = refl
lower_key (b ∷ k) e = let f : (is_key_byte b ≡ true) × (list_all is_key_byte k ≡ true) = both _ _ e in λ i. lower_key_byte b f.0 i ∷ lower_key k f.1 i

-- the parts of a key's test
pub record IsKey (k : List ℕ) : Type 0 where
  pub letter : begins_with_letter k ≡ true
  pub sized : nat_le (length k) 64 ≡ true
  pub bytes : list_all is_key_byte k ≡ true
  pub free : not (is_reserved k) ≡ true

pub key_is : (k : List ℕ) → is_field_key k ≡ true → IsKey k
key_is k e =
    let a : (begins_with_letter k ≡ true) × ((is_word 64 is_key_byte k && not (is_reserved k)) ≡ true) = both _ _ e in
    let b : (is_word 64 is_key_byte k ≡ true) × (not (is_reserved k) ≡ true) = both _ _ a.1 in
    let c : (has_length 64 k ≡ true) × (list_all is_key_byte k ≡ true) = both _ _ b.0 in
    let d : (nat_le 1 (length k) ≡ true) × (nat_le (length k) 64 ≡ true) = both _ _ c.0 in
    record { letter = a.0; sized = d.1; bytes = c.1; free = b.1 }

-- a word with a dash is none that heads a line of its own
pub dash_free : (k s : List ℕ) → is_reserved (k ++ 45 ∷ s) ≡ false
dash_free k s =
    let dash : ℕ → Bool = λ b. b == 45 in
    let has : list_any dash (k ++ 45 ∷ s) ≡ true = list_any-append dash k (45 ∷ s) ∙ or-true (list_any dash k) in
    (λ i. bytes_eq-other dash (k ++ 45 ∷ s) (codes "name") has refl i || (bytes_eq-other dash (k ++ 45 ∷ s) (codes "owners") has refl i
    || (bytes_eq-other dash (k ++ 45 ∷ s) (codes "flags") has refl i || bytes_eq-other dash (k ++ 45 ∷ s) (codes "variables") has refl i)))

letter_first : (k s : List ℕ) → begins_with_letter k ≡ true → begins_with_letter (k ++ s) ≡ true
letter_first [] s e = absurd (cc)
letter_first (b ∷ k) s e = e

pub key_bytes : (k s : List ℕ) → list_all is_key_byte k ≡ true → list_all is_key_byte s ≡ true → list_all is_key_byte (k ++ 45 ∷ s) ≡ true
key_bytes k s e f = list_all-append is_key_byte k (45 ∷ s) ∙ both_hold _ _ e f

some_bytes : (k : List ℕ) (s : List ℕ) → nat_le 1 (length (k ++ 45 ∷ s)) ≡ true
some_bytes k s = let some : 1 ≤ length (k ++ 45 ∷ s) = omega (arith, length-append k (45 ∷ s)) in grind (arith, nat_tests)

key_by : (a b c d e : Bool) → a ≡ true → b ≡ true → c ≡ true → d ≡ false → (a && (((b && e) && c) && not d)) ≡ e
key_by a b c d e p q r s = (λ i. p i && (((q i && e) && r i) && not (s i))) ∙ elim e as (λ t. ((t && true) && true) ≡ t) [ true ↦ refl | false ↦ refl ]

-- a key with a dash and more bytes is a key where it is short
pub longer_key : (k s : List ℕ) → is_field_key k ≡ true → list_all is_key_byte s ≡ true → is_field_key (k ++ 45 ∷ s) ≡ is_short (k ++ 45 ∷ s)
longer_key k s e f =
    let is : IsKey k = key_is k e in
    key_by (begins_with_letter (k ++ 45 ∷ s)) (nat_le 1 (length (k ++ 45 ∷ s))) (list_all is_key_byte (k ++ 45 ∷ s)) (is_reserved (k ++ 45 ∷ s)) (is_short (k ++ 45 ∷ s))
    (letter_first k (45 ∷ s) is.letter) (some_bytes k s) (key_bytes k s is.bytes f) (dash_free k s)

language_byte : (b : ℕ) → is_language_byte b ≡ true → is_key_byte b ≡ true
language_byte b e = grind (arith, nat_tests)

-- what a language adds to a key
pub language_bytes : (language encoding : List ℕ) → list_all is_language_byte language ≡ true → list_all is_key_byte encoding ≡ true → list_all is_key_byte (language ++ encoding) ≡ true
language_bytes language encoding e f = list_all-append is_key_byte language encoding ∙ both_hold _ _ (list_all-each is_language_byte is_key_byte language_byte language e) f

-- ---- the keys in a language and in the shorter one

list_all-take : (p : ℕ → Bool) (n : ℕ) (xs : List ℕ) → list_all p xs ≡ true → list_all p (take n xs) ≡ true
list_all-take p zero xs e = refl
list_all-take p (suc n) [] e = refl
list_all-take p (suc n) (x ∷ xs) e = let f : (p x ≡ true) × (list_all p xs ≡ true) = both _ _ e in both_hold _ _ f.0 (list_all-take p n xs f.1)

pub shorter_bytes : (language shorter : List ℕ) → shorter ≡ before_first (λ b. b == 95) language → list_all is_language_byte language ≡ true → list_all is_language_byte shorter ≡ true
shorter_bytes language shorter is e = ap (list_all is_language_byte) is ∙ list_all-take is_language_byte (position_or_len (λ b. b == 95) language) language e

abbrev has_shorter : List ℕ → Bool
has_shorter language = list_any (λ b. b == 95) language

pub languages_two : (keys : List (List ℕ)) (key language shorter : List ℕ) → has_shorter language ≡ true → shorter ≡ before_first (λ b. b == 95) language
    → (keys ++ filter is_short (localised_keys key language)) ++ filter is_short (localised_keys key shorter) ≡ keys ++ filter is_short (flat_map (localised_keys key) (with_shorter language))
languages_two keys key language shorter has is =
    append_assoc keys (filter is_short (localised_keys key language)) (filter is_short (localised_keys key shorter))
    ∙ ap (λ (ks : List (List ℕ)). keys ++ ks) (sym (filter-append is_short (localised_keys key language) (localised_keys key shorter))
    ∙ ap (λ s. filter is_short (flat_map (localised_keys key) (language ∷ s ∷ []))) is
    ∙ ap (λ t. filter is_short (flat_map (localised_keys key) (cond t (language ∷ before_first (λ b. b == 95) language ∷ []) (language ∷ [])))) (sym has))

pub languages_one : (keys : List (List ℕ)) (key language : List ℕ) → has_shorter language ≡ false
    → keys ++ filter is_short (localised_keys key language) ≡ keys ++ filter is_short (flat_map (localised_keys key) (with_shorter language))
languages_one keys key language none = ap (λ t. keys ++ filter is_short (flat_map (localised_keys key) (cond t (language ∷ before_first (λ b. b == 95) language ∷ []) (language ∷ [])))) (sym none)

pub only_language_bytes : (language : List ℕ) → is_language language ≡ true → list_all is_language_byte language ≡ true
only_language_bytes language e = (both (not (is_nil language || (bytes_eq language (codes "c") || bytes_eq language (codes "posix")))) (list_all is_language_byte language) e).1

-- the bytes of a key in a language are a key where they are few enough
pub encoded_key : (bytes k language encoding : List ℕ) → bytes ≡ k ++ 45 ∷ language ++ encoding → is_field_key k ≡ true → list_all is_language_byte language ≡ true → list_all is_key_byte encoding ≡ true
    → is_field_key bytes ≡ is_short bytes
encoded_key bytes k language encoding is e f g =
    let whole : bytes ≡ k ++ 45 ∷ (language ++ encoding) = is ∙ append_assoc k (45 ∷ language) encoding in
    ap is_field_key whole ∙ longer_key k (language ++ encoding) e (language_bytes language encoding f g) ∙ ap is_short (sym whole)

pub plain_key : (bytes k language : List ℕ) → bytes ≡ k ++ 45 ∷ language ++ [] → bytes ≡ k ++ 45 ∷ language
plain_key bytes k language is = is ∙ append-nil (k ++ 45 ∷ language)

-- two keys that are added, one after another
pub added_two : (a b : List ℕ) (keys new last : List (List ℕ)) → new ≡ keys ++ filter is_short (a ∷ []) → last ≡ new ++ filter is_short (b ∷ []) → last ≡ keys ++ filter is_short (a ∷ b ∷ [])
added_two a b keys new last e f =
    f ∙ ap (λ ks. ks ++ filter is_short (b ∷ [])) e ∙ append_assoc keys (filter is_short (a ∷ [])) (filter is_short (b ∷ []))
    ∙ ap (λ (ks : List (List ℕ)). keys ++ ks) (sym (filter-append is_short (a ∷ []) (b ∷ [])))

-- ---- keys of lines

choose_last : {X : Type 0} (a b : Bool) (x y z : X) → a ≡ false → b ≡ false → cond a x (cond b y z) ≡ z
choose_last true b x y z p q = absurd (cc)
choose_last false true x y z p q = absurd (cc)
choose_last false false x y z p q = refl

-- a word that is no key at all
pub unkeyed : (word value : List ℕ) → is_field_key word ≡ false → Unkeyed ≡ headed word value
unkeyed word value e = sym (choose_last (bytes_eq word template_word) (is_line_key word) _ _ _
    (elim (bytes_eq word template_word) as (λ t. bytes_eq word template_word ≡ t → t ≡ false) [
      | true ↦ λ same. (let is : word ≡ template_word = same_text word template_word (sym same) in let off : false ≡ true = sym e ∙ ap is_field_key is in absurd (cc))
      | false ↦ λ _. refl
    ] refl)
    (ap (λ t. t && not (is_extended word || (is_description word && nat_lt 55 (length word)))) e))
