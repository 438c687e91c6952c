-- The pieces between commas.
use Rattle.std.proofs.Common.{cond, ◌≡◌, ℕ, ◌-◌, ◌<◌, ◌≤◌, Bool, true, false, List, [], ◌∷◌, ◌++◌, length, take, drop, refl, sym, ap, ◌∙◌, arith}
use Rattle.std.proofs.Math.Nat.{le_refl}
use Rattle.std.specs.Prelude.{not, ◌&&◌, ◌||◌, ◌==◌, nat_le}
use Rattle.std.specs.List.{list_all, list_any, position_or_len, before_first, after_first, flat_map, slice_split}
use Rattle.std.proofs.lemmas.List.{drop_all}
use Rattle.std.proofs.lemmas.Bool.{ltb-true, ltb-false}
use Rattle.std.proofs.lemmas.List.Splits.{slice_split_first, slice_split_none}
use Rattle.std.proofs.lemmas.List.Sums.{prefix_len_passes}
use Rattle.std.proofs.lemmas.Bool.Decides.{nat_tests}
use Rattle.dc_text.specs.Ascii.{slash}
use Rattle.dc_text.specs.Bytes.{is_space, drop_front, drop_back, trimmed}
use Rattle.dc_text.specs.Names.{is_word, has_length, is_visible, is_name_byte, is_name_part, is_name}
use Rattle.dc_text.specs.Lines.{unless_empty}
use Rattle.dc_text.proofs.LineLemmas.{to_end, list_any-position}
use Rattle.dc_item.specs.Grammar.{pieces}

abbrev is_comma : ℕ → Bool
is_comma byte = byte == 44

-- the pieces from the first comma on
pub pieces-first : (rest piece after : List ℕ) → (list_any is_comma rest ≡ true) × (piece ≡ before_first is_comma rest) × (after ≡ after_first is_comma rest) → pieces rest ≡ unless_empty (trimmed piece) ++ pieces after
pieces-first rest piece after e =
    ap (flat_map (λ p. unless_empty (trimmed p))) (slice_split_first is_comma rest 0 (ltb-true _ _ (sym (list_any-position is_comma rest) ∙ e.0)))
    ∙ (λ i. unless_empty (trimmed (sym e.1 i)) ++ pieces (sym e.2 i))

not_true : (b : Bool) → not b ≡ true → b ≡ false
not_true true e = absurd (cc)
not_true false e = refl

-- the one piece with no comma
pub pieces-last : (rest : List ℕ) → list_any is_comma rest ≡ false → pieces rest ≡ unless_empty (trimmed rest) ++ pieces (take (length rest - length rest) (drop (length rest) rest))
pieces-last rest e =
    let f : length rest ≤ position_or_len is_comma rest = ltb-false _ _ (sym (list_any-position is_comma rest) ∙ e) in
    rw (to_end (length rest) rest, drop_all (length rest) rest (le_refl _))
    (ap (flat_map (λ p. unless_empty (trimmed p))) (slice_split_none is_comma rest (λ k d l. not_true _ (prefix_len_passes (λ x. not (is_comma x)) rest k d (omega arith)))))

both : (a b : Bool) → (a && b) ≡ true → (a ≡ true) × (b ≡ true)
both true b e = (refl, e)
both false b e = absurd (cc)

pub list_all-unless_empty : (p : List ℕ → Bool) (piece : List ℕ) (rest : List (List ℕ)) → p piece ≡ false → 0 < length piece → list_all p (unless_empty piece ++ rest) ≡ false
list_all-unless_empty p [] rest e h = absurd (omega arith)
list_all-unless_empty p (b ∷ piece) rest e h = rw e refl

pub list_all-later : (p : List ℕ → Bool) (front back : List (List ℕ)) → list_all p back ≡ false → list_all p (front ++ back) ≡ false
list_all-later p [] back e = e
list_all-later p (f ∷ front) back e = ap (λ b. p f && b) (list_all-later p front back e) ∙ and-false (p f) where
  and-false : (a : Bool) → (a && false) ≡ false
  and-false true = refl
  and-false false = refl

-- ---- a text that is one piece

no_comma : (byte : ℕ) → is_space byte ≡ true → is_comma byte ≡ false
no_comma byte e = grind (arith, nat_tests)

spaces_alone : (bytes : List ℕ) → list_all is_space bytes ≡ true → list_any is_comma bytes ≡ false
spaces_alone [] e = refl
spaces_alone (byte ∷ bytes) e =
    let parts = both (is_space byte) (list_all is_space bytes) e in
    ap (λ b. b || list_any is_comma bytes) (no_comma byte parts.0) ∙ spaces_alone bytes parts.1

behind_spaces : (bytes : List ℕ) → list_any is_comma (drop_front is_space bytes) ≡ false → list_any is_comma bytes ≡ false
behind_spaces [] e = refl
behind_spaces (byte ∷ bytes) e = by (is_space byte) refl e (behind_spaces bytes) where
  by : (b : Bool) → is_space byte ≡ b → list_any is_comma (cond b (drop_front is_space bytes) (byte ∷ bytes)) ≡ false
      → (list_any is_comma (drop_front is_space bytes) ≡ false → list_any is_comma bytes ≡ false) → (is_comma byte || list_any is_comma bytes) ≡ false
  by true s f later = ap (λ b. b || list_any is_comma bytes) (no_comma byte s) ∙ later f
  by false s f later = f

neither : (a b : Bool) → (a || b) ≡ false → (a ≡ false) × (b ≡ false)
neither true b e = absurd (cc)
neither false b e = (refl, e)

before_spaces : (bytes : List ℕ) → list_any is_comma (drop_back is_space bytes) ≡ false → list_any is_comma bytes ≡ false
before_spaces [] e = refl
before_spaces (byte ∷ bytes) e = by (list_all is_space (byte ∷ bytes)) refl e (before_spaces bytes) where
  by : (b : Bool) → list_all is_space (byte ∷ bytes) ≡ b → list_any is_comma (cond b [] (byte ∷ drop_back is_space bytes)) ≡ false
      → (list_any is_comma (drop_back is_space bytes) ≡ false → list_any is_comma bytes ≡ false) → (is_comma byte || list_any is_comma bytes) ≡ false
  by true s f later = spaces_alone (byte ∷ bytes) s
  by false s f later =
      let parts = neither (is_comma byte) (list_any is_comma (drop_back is_space bytes)) f in
      ap (λ b. b || list_any is_comma bytes) parts.0 ∙ later parts.1

in_word : (bytes : List ℕ) → list_all is_name_byte bytes ≡ true → list_any is_comma bytes ≡ false
in_word [] e = refl
in_word (byte ∷ bytes) e =
    let parts = both (is_name_byte byte) (list_all is_name_byte bytes) e in
    ap (λ b. b || list_any is_comma bytes) (not_true (is_comma byte) (both (is_visible byte) (not (is_comma byte)) parts.0).1) ∙ in_word bytes parts.1

one_alone : (piece : List ℕ) → nat_le 1 (length piece) ≡ true → unless_empty piece ++ [] ≡ piece ∷ []
one_alone [] e = absurd (cc)
one_alone (byte ∷ piece) e = refl

-- a word between spaces is the one piece
pub pieces-one : (text : List ℕ) → is_word 255 is_name_byte (trimmed text) ≡ true → pieces text ≡ trimmed text ∷ []
pieces-one text e =
    let parts = both (has_length 255 (trimmed text)) (list_all is_name_byte (trimmed text)) e in
    let none = behind_spaces text (before_spaces (drop_front is_space text) (in_word (trimmed text) parts.1)) in
    let f : length text ≤ position_or_len is_comma text = ltb-false _ _ (sym (list_any-position is_comma text) ∙ none) in
    ap (flat_map (λ p. unless_empty (trimmed p))) (slice_split_none is_comma text (λ k d l. not_true _ (prefix_len_passes (λ x. not (is_comma x)) text k d (omega arith))))
    ∙ one_alone (trimmed text) (both (nat_le 1 (length (trimmed text))) (nat_le (length (trimmed text)) 255) parts.0).0

pub pieces-name : (text : List ℕ) → is_name (trimmed text) ≡ true → pieces text ≡ trimmed text ∷ []
pieces-name text e = pieces-one text (both (is_word 255 is_name_byte (trimmed text)) (list_all is_name_part (slice_split (λ byte. byte == slash) (trimmed text))) e).0

pub all-one : (p : List ℕ → Bool) (ps : List (List ℕ)) (piece : List ℕ) → ps ≡ piece ∷ [] → p piece ≡ true → list_all p ps ≡ true
all-one p ps piece is e = ap (list_all p) is ∙ ap (λ b. b && true) e
