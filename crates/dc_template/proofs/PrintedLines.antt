-- What the printed lines say.
use Rattle.std.proofs.Common.{◌≡◌, ℕ, ◌+◌, ◌-◌, ◌≤◌, Bool, true, false, cond, not, ◌&&◌, List, [], ◌∷◌, ◌++◌, length, map as each, drop, refl, sym, ap, ◌∙◌, subst, arith, append_assoc, length-append}
use Rattle.std.specs.Prelude.{◌||◌, ◌==◌, codes}
use Rattle.std.specs.List.{list_any, list_all, before_first, after_first, position_or_len, prefix_len, slice_split, onto_first as onto_part, AllByRecursion}
use Rattle.std.specs.Str.{bytes_eq}
use Rattle.std.proofs.lemmas.List.{take_at, drop_at}
use Rattle.std.proofs.lemmas.Bool.Decides.{nat_tests}
use Rattle.dc_text.specs.Bytes.{is_space, is_blank, is_indented, trimmed, lower, upper, capital}
use Rattle.dc_text.specs.Names.{is_name, is_word, is_name_byte, is_name_part, has_length, is_field_key, is_key_byte, is_lower_letter}
use Rattle.dc_text.specs.Lines.{has_newline}
use Rattle.dc_template.specs.Forms.{row_of, template_word, is_line_key, headed, form_of, is_comment, lines_from, forms}
use Rattle.dc_template.specs.Stanzas.{IsLine, lines_between_newlines, row_line}
use Rattle.dc_template.specs.Printed.{field_line}
use Rattle.dc_template.proofs.TestLemmas.{both, neither, or-true, list_any-append}
use Rattle.dc_template.proofs.KeyLemmas.{IsKey, key_is, lower_key}
use Rattle.dc_template.specs.declared.forms.Form.{Form}
use Rattle.dc_template.specs.declared.forms.Form.TheVariants.{Blank, Indented, Unnamed, Heads, Sets}

-- ---- lines of a file

pub forms-from : (n : ℕ) (lines : List (List ℕ)) → AllByRecursion (λ l. is_comment l ≡ false) lines → forms (lines_from n lines) ≡ each form_of lines
forms-from n [] h = refl
forms-from n (l ∷ lines) h =
    ap (λ t. forms (cond t [] (record { number = n; form = form_of l } ∷ []) ++ lines_from (n + 1) lines)) h.0 ∙ ap (λ (fs : List Form). form_of l ∷ fs) (forms-from (n + 1) lines h.1)

-- ---- a line that is headed by a key

colon_place : (front after : List ℕ) → list_any (λ b. b == 58) front ≡ false → position_or_len (λ b. b == 58) (front ++ 58 ∷ after) ≡ length front
colon_place [] after h = refl
colon_place (b ∷ front) after h =
    let p : ((b == 58) ≡ false) × (list_any (λ b. b == 58) front ≡ false) = neither _ _ h in
    ap (λ t. cond (not t) (1 + prefix_len (λ c. not (c == 58)) (front ++ 58 ∷ after)) 0) p.0 ∙ ap (λ n. 1 + n) (colon_place front after p.1) ∙ (omega arith)

before_colon : (front after : List ℕ) → list_any (λ b. b == 58) front ≡ false → before_first (λ b. b == 58) (front ++ 58 ∷ after) ≡ front
before_colon front after h = take_at front (58 ∷ after) (position_or_len (λ b. b == 58) (front ++ 58 ∷ after)) (sym (colon_place front after h))

after_colon : (front after : List ℕ) → list_any (λ b. b == 58) front ≡ false → after_first (λ b. b == 58) (front ++ 58 ∷ after) ≡ after
after_colon front after h =
    ap (drop (position_or_len (λ b. b == 58) (front ++ 58 ∷ after) + 1)) (sym (append_assoc front (58 ∷ []) after))
    ∙ drop_at (front ++ 58 ∷ []) after (position_or_len (λ b. b == 58) (front ++ 58 ∷ after) + 1) (omega (arith, colon_place front after h, length-append front (58 ∷ [])))

-- a key's first byte in upper case
record IsCapital (b c : ℕ) : Type 0 where
  space : is_space c ≡ false
  colon : (c == 58) ≡ false
  newline : (c == 10) ≡ false
  hash : (c == 35) ≡ false
  lowers : lower c ≡ b

lower_letter : (b : ℕ) → is_lower_letter b ≡ true → (97 ≤ b) × (b ≤ 122)
lower_letter b e = (grind (arith, nat_tests), grind (arith, nat_tests))

upper_is : (b : ℕ) → 97 ≤ b → b ≤ 122 → upper b ≡ b - 32
upper_is b h k = grind (arith, nat_tests)

capital_byte : (c : ℕ) → 65 ≤ c → c ≤ 90 → (is_space c ≡ false) × ((c == 58) ≡ false) × ((c == 10) ≡ false) × ((c == 35) ≡ false) × (lower c ≡ c + 32)
capital_byte c h k = (grind (arith, nat_tests), grind (arith, nat_tests), grind (arith, nat_tests), grind (arith, nat_tests), grind (arith, nat_tests))

capital_of : (b : ℕ) → is_lower_letter b ≡ true → IsCapital b (upper b)
capital_of b e =
    let r : (97 ≤ b) × (b ≤ 122) = lower_letter b e in
    let c = capital_byte (b - 32) (omega (arith, r.0, r.1)) (omega (arith, r.0, r.1)) in
    subst (IsCapital b) (sym (upper_is b r.0 r.1)) (record { space = c.0; colon = c.1; newline = c.2; hash = c.3; lowers = c.4 ∙ omega (arith, r.0) })

key_byte : (b : ℕ) → is_key_byte b ≡ true → ((b == 58) ≡ false) × ((b == 10) ≡ false)
key_byte b e = (grind (arith, nat_tests), grind (arith, nat_tests))

no_colon : (k : List ℕ) → list_all is_key_byte k ≡ true → list_any (λ b. b == 58) k ≡ false
no_colon [] e = refl
no_colon (b ∷ k) e = let f : (is_key_byte b ≡ true) × (list_all is_key_byte k ≡ true) = both _ _ e in ap (λ t. t || list_any (λ c. c == 58) k) (key_byte b f.0).0 ∙ no_colon k f.1

no_newline : (k : List ℕ) → list_all is_key_byte k ≡ true → has_newline k ≡ false
no_newline [] e = refl
no_newline (b ∷ k) e = let f : (is_key_byte b ≡ true) × (list_all is_key_byte k ≡ true) = both _ _ e in ap (λ t. t || has_newline k) (key_byte b f.0).1 ∙ no_newline k f.1

is_gap_space : (c : ℕ) → is_space c ≡ false → (c == 32 || c == 9) ≡ false
is_gap_space c e = grind (arith, nat_tests)

choose_headed : {X : Type 0} (s a i l : Bool) (w x y z : X) → s ≡ false → i ≡ false → l ≡ true → cond (s && a) w (cond i x (cond l y z)) ≡ y
choose_headed true a i l w x y z p q r = absurd (cc)
choose_headed false a true l w x y z p q r = absurd (cc)
choose_headed false a false true w x y z p q r = refl
choose_headed false a false false w x y z p q r = absurd (cc)

-- a key, a colon and a text
pub keyed_line : (key tail : List ℕ) → is_field_key key ≡ true → form_of (capital key ++ 58 ∷ tail) ≡ headed key (trimmed tail)
keyed_line [] tail e = absurd (cc)
keyed_line (b ∷ ks) tail e =
    let is : IsKey (b ∷ ks) = key_is (b ∷ ks) e in
    let cap : IsCapital b (upper b) = capital_of b is.letter in
    let more : list_all is_key_byte ks ≡ true = (both (is_key_byte b) (list_all is_key_byte ks) is.bytes).1 in
    let free : list_any (λ c. c == 58) (upper b ∷ ks) ≡ false = ap (λ t. t || list_any (λ c. c == 58) ks) cap.colon ∙ no_colon ks more in
    choose_headed (is_space (upper b)) _ (upper b == 32 || upper b == 9) _ _ _ _ _ cap.space (is_gap_space (upper b) cap.space)
    (list_any-append (λ c. c == 58) (upper b ∷ ks) (58 ∷ tail) ∙ or-true (list_any (λ c. c == 58) (upper b ∷ ks)))
    ∙ (λ i. headed (each lower (before_colon (upper b ∷ ks) tail free i)) (trimmed (after_colon (upper b ∷ ks) tail free i)))
    ∙ (λ i. headed (cap.lowers i ∷ lower_key ks more i) (trimmed tail))

pub keyed_comment : (key tail : List ℕ) → is_field_key key ≡ true → is_comment (capital key ++ 58 ∷ tail) ≡ false
keyed_comment [] tail e = absurd (cc)
keyed_comment (b ∷ ks) tail e = (capital_of b (key_is (b ∷ ks) e).letter).hash

pub keyed_newline : (key tail : List ℕ) → is_field_key key ≡ true → has_newline tail ≡ false → has_newline (capital key ++ 58 ∷ tail) ≡ false
keyed_newline [] tail e h = absurd (cc)
keyed_newline (b ∷ ks) tail e h =
    let is : IsKey (b ∷ ks) = key_is (b ∷ ks) e in
    list_any-append (λ c. c == 10) (upper b ∷ ks) (58 ∷ tail)
    ∙ (λ i. ((capital_of b is.letter).newline i || no_newline ks (both (is_key_byte b) (list_all is_key_byte ks) is.bytes).1 i) || h i)

-- ---- the line of a field

choose_sets : {X : Type 0} (a b : Bool) (x y z : X) → a ≡ false → b ≡ true → cond a x (cond b y z) ≡ y
choose_sets true b x y z p q = absurd (cc)
choose_sets false true x y z p q = refl
choose_sets false false x y z p q = absurd (cc)

headed_sets : (key value : List ℕ) → bytes_eq key template_word ≡ false → is_line_key key ≡ true → headed key value ≡ Sets key value
headed_sets key value other is = choose_sets (bytes_eq key template_word) (is_line_key key) _ _ _ other is

pub field_said : (key value : List ℕ) → is_field_key key ≡ true → bytes_eq key template_word ≡ false → is_line_key key ≡ true → IsLine value → form_of (field_line key value) ≡ Sets key value
field_said key [] k other is line = keyed_line key [] k ∙ headed_sets key [] other is
field_said key (b ∷ value) k other is line = keyed_line key (32 ∷ b ∷ value) k ∙ ap (headed key) line.trim ∙ headed_sets key (b ∷ value) other is

pub field_comment : (key value : List ℕ) → is_field_key key ≡ true → is_comment (field_line key value) ≡ false
field_comment key [] k = keyed_comment key [] k
field_comment key (b ∷ value) k = keyed_comment key (32 ∷ b ∷ value) k

pub field_newline : (key value : List ℕ) → is_field_key key ≡ true → IsLine value → has_newline (field_line key value) ≡ false
field_newline key [] k line = keyed_newline key [] k refl
field_newline key (b ∷ value) k line = keyed_newline key (32 ∷ b ∷ value) k line.one

-- ---- the Template line

name_byte : (b : ℕ) → is_name_byte b ≡ true → (is_space b ≡ false) × ((b == 10) ≡ false)
name_byte b e = (grind (arith, nat_tests), grind (arith, nat_tests))

solid_trimmed : (bytes : List ℕ) → list_all is_name_byte bytes ≡ true → trimmed bytes ≡ bytes
solid_trimmed [] e = refl
solid_trimmed (b ∷ bytes) e =
    let f : (is_name_byte b ≡ true) × (list_all is_name_byte bytes ≡ true) = both _ _ e in
    ap (λ t. Rattle.dc_text.specs.Bytes.drop_back is_space (cond t (Rattle.dc_text.specs.Bytes.drop_front is_space bytes) (b ∷ bytes))) (name_byte b f.0).0 ∙ back (b ∷ bytes) e where
      back : (xs : List ℕ) → list_all is_name_byte xs ≡ true → Rattle.dc_text.specs.Bytes.drop_back is_space xs ≡ xs
      back [] h = refl
      back (x ∷ xs) h = let g : (is_name_byte x ≡ true) × (list_all is_name_byte xs ≡ true) = both _ _ h in
          ap (λ t. cond (t && list_all is_space xs) [] (x ∷ Rattle.dc_text.specs.Bytes.drop_back is_space xs)) (name_byte x g.0).0 ∙ ap (λ (ys : List ℕ). x ∷ ys) (back xs g.1)

name_newline : (bytes : List ℕ) → list_all is_name_byte bytes ≡ true → has_newline bytes ≡ false
name_newline [] e = refl
name_newline (b ∷ bytes) e = let f : (is_name_byte b ≡ true) × (list_all is_name_byte bytes ≡ true) = both _ _ e in ap (λ t. t || has_newline bytes) (name_byte b f.0).1 ∙ name_newline bytes f.1

name_bytes : (name : List ℕ) → is_name name ≡ true → list_all is_name_byte name ≡ true
name_bytes name e = (both (has_length 255 name) (list_all is_name_byte name) (both (is_word 255 is_name_byte name) (list_all is_name_part (slice_split (λ b. b == 47) name)) e).0).1

pub template_said : (name : List ℕ) → is_name name ≡ true → form_of (codes "Template: " ++ name) ≡ Heads name
template_said name e =
    keyed_line template_word (32 ∷ name) refl ∙ ap (headed template_word) (solid_trimmed name (name_bytes name e)) ∙ ap (λ t. cond t (Heads name) Unnamed) e

pub template_newline : (name : List ℕ) → is_name name ≡ true → has_newline (codes "Template: " ++ name) ≡ false
template_newline name e = name_newline name (name_bytes name e)

-- ---- the lines of an extended description

pub row_said : (line : List ℕ) → is_blank (row_line line) ≡ false → form_of (row_line line) ≡ Indented (row_of (row_line line))
row_said [] h = refl
row_said (b ∷ line) h = ap (λ t. cond t Blank (Indented (row_of (32 ∷ b ∷ line)))) h

pub row_comment : (line : List ℕ) → is_comment (row_line line) ≡ false
row_comment [] = refl
row_comment (b ∷ line) = refl

pub row_newline : (line : List ℕ) → has_newline line ≡ false → has_newline (row_line line) ≡ false
row_newline [] h = refl
row_newline (b ∷ line) h = h

onto_free : (b : ℕ) (lines : List (List ℕ)) → (b == 10) ≡ false → AllByRecursion (λ l. has_newline l ≡ false) lines → AllByRecursion (λ l. has_newline l ≡ false) (onto_part b lines)
onto_free b [] e h = (ap (λ t. t || false) e, tt)
onto_free b (line ∷ lines) e h = (ap (λ t. t || has_newline line) e ∙ h.0, h.1)

pub lines_between_newlines_free : (text : List ℕ) → AllByRecursion (λ l. has_newline l ≡ false) (lines_between_newlines text)
lines_between_newlines_free [] = (refl, tt)
lines_between_newlines_free (b ∷ text) = elim (b == 10) as (λ t. (b == 10) ≡ t → AllByRecursion (λ l. has_newline l ≡ false) (cond t ([] ∷ lines_between_newlines text) (onto_part b (lines_between_newlines text)))) [
  | true ↦ λ e. (refl, lines_between_newlines_free text)
  | false ↦ λ e. onto_free b (lines_between_newlines text) e (lines_between_newlines_free text)
] refl
