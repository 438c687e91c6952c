-- The bytes of a printed line, and what they say.
use Rattle.std.proofs.Common.{◌≡◌, ℕ, ◌+◌, ◌-◌, ◌≤◌, Bool, true, false, cond, List, [], ◌∷◌, ◌++◌, length, map, drop, refl, sym, ap, ◌∙◌, subst, arith, append_assoc, length-append}
use Rattle.std.specs.Prelude.{◌==◌, ◌&&◌, ◌||◌, not, nat_le, ◌≢◌, codes}
use Rattle.std.proofs.lemmas.Bool.Decides.{nat_tests}
use Rattle.std.specs.List.{flat_map, AllByRecursion, slice_split, list_any, list_all, before_first, after_first, prefix_len, position_or_len}
use Rattle.std.proofs.lemmas.List.{append-nil, take_at, drop_at}
use Rattle.std.proofs.lemmas.List.Splits.{slice_split_at, slice_split_none}
use Rattle.std.proofs.lemmas.List.Elements.{All-from_recursion}
use Rattle.std.specs.Str.{bytes_eq}
use Rattle.dc_text.specs.Bytes.{is_space, drop_front, drop_back, trimmed, lower, upper, without_space}
use Rattle.dc_text.specs.Lines.{unless_empty}
use Rattle.dc_text.specs.Names.{is_name, is_name_byte, is_visible, is_lower_letter, is_key_byte, is_reserved, is_word, has_length, is_field_key, is_flag_name, is_variable_key, is_variable_byte}
use Rattle.dc_text.specs.Settled.{settled, is_settled, newlines_shown}
use Rattle.dc_text.proofs.LineLemmas.{drop_back-passes}
use Rattle.dc_text.proofs.SettledLemmas.{settled-shown}
use Rattle.dc_item.specs.Grammar.{line_said, headed_line, pieces, indented_line, variable_line, Blank, Name, Owners, Flags, Variable, Field, Nothing}
use Rattle.dc_item.specs.Printed.{owners_head, flags_head, shown_field, shown_variable, joined}

-- ---- tests on bytes

both_true : (a b : Bool) → (a && b) ≡ true → (a ≡ true) × (b ≡ true)
both_true true b e = (refl, e)
both_true false b e = absurd (cc)

and-false : (a : Bool) → (a && false) ≡ false
and-false true = refl
and-false false = refl

visible_space : (b : ℕ) → is_visible b ≡ true → is_space b ≡ false
visible_space b e = grind (arith, nat_tests)

visible_newline : (b : ℕ) → is_visible b ≡ true → (b == 10) ≡ false
visible_newline b e = grind (arith, nat_tests)

each : (q : ℕ → Bool) (P : ℕ → Type 0) → ((b : ℕ) → q b ≡ true → P b) → (bs : List ℕ) → list_all q bs ≡ true → AllByRecursion P bs
each q P h [] e = tt
each q P h (b ∷ bs) e = let f : (q b ≡ true) × (list_all q bs ≡ true) = both_true (q b) (list_all q bs) e in (h b f.0, each q P h bs f.1)

-- ---- trimming

abbrev pub Spaceless : List ℕ → Type 0
Spaceless bs = AllByRecursion (λ b. is_space b ≡ false) bs

drop_front-spaceless : (bs tail : List ℕ) → Spaceless bs → bs ≢ [] → drop_front is_space (bs ++ tail) ≡ bs ++ tail
drop_front-spaceless [] tail h some = absurd (some refl)
drop_front-spaceless (b ∷ bs) tail h some = ap (λ t. cond t (drop_front is_space (bs ++ tail)) (b ∷ (bs ++ tail))) h.0

drop_back-spaceless : (bs : List ℕ) → Spaceless bs → drop_back is_space bs ≡ bs
drop_back-spaceless [] h = refl
drop_back-spaceless (b ∷ bs) h = ap (λ t. cond (t && list_all is_space bs) [] (b ∷ drop_back is_space bs)) h.0 ∙ ap (λ xs. b ∷ xs) (drop_back-spaceless bs h.1)

-- a text with no white space, after a space
pub trimmed-space : (bs : List ℕ) → Spaceless bs → bs ≢ [] → trimmed (32 ∷ bs) ≡ bs
trimmed-space bs h some = ap (drop_back is_space) (ap (drop_front is_space) (sym (append-nil bs)) ∙ drop_front-spaceless bs [] h some ∙ append-nil bs) ∙ drop_back-spaceless bs h

-- between two spaces
pub trimmed-spaces : (bs : List ℕ) → Spaceless bs → bs ≢ [] → trimmed (32 ∷ (bs ++ 32 ∷ [])) ≡ bs
trimmed-spaces bs h some = ap (drop_back is_space) (drop_front-spaceless bs (32 ∷ []) h some) ∙ drop_back-passes is_space bs 32 refl ∙ drop_back-spaceless bs h

-- ---- the first such byte

abbrev pub Free : ℕ → List ℕ → Type 0
Free byte bs = AllByRecursion (λ b. (b == byte) ≡ false) bs

same_byte : (y : ℕ) → (y == y) ≡ true
same_byte y = grind (arith, nat_tests)

place : (xs ys : List ℕ) (y : ℕ) → Free y xs → position_or_len (λ b. b == y) (xs ++ y ∷ ys) ≡ length xs
place [] ys y h = ap (λ t. cond (not t) (1 + prefix_len (λ b. not (b == y)) ys) 0) (same_byte y)
place (x ∷ xs) ys y h = ap (λ t. cond (not t) (1 + prefix_len (λ b. not (b == y)) (xs ++ y ∷ ys)) 0) h.0 ∙ ap (λ n. 1 + n) (place xs ys y h.1) ∙ (omega arith)

pub before_first-at : (xs ys : List ℕ) (y : ℕ) → Free y xs → before_first (λ b. b == y) (xs ++ y ∷ ys) ≡ xs
before_first-at xs ys y h = take_at xs (y ∷ ys) (position_or_len (λ b. b == y) (xs ++ y ∷ ys)) (sym (place xs ys y h))

pub after_first-at : (xs ys : List ℕ) (y : ℕ) → Free y xs → after_first (λ b. b == y) (xs ++ y ∷ ys) ≡ ys
after_first-at xs ys y h =
    ap (drop (position_or_len (λ b. b == y) (xs ++ y ∷ ys) + 1)) (sym (append_assoc xs (y ∷ []) ys))
    ∙ drop_at (xs ++ y ∷ []) ys (position_or_len (λ b. b == y) (xs ++ y ∷ ys) + 1) (omega (arith, place xs ys y h, length-append xs (y ∷ [])))

or-true : (a : Bool) → (a || true) ≡ true
or-true true = refl
or-true false = refl

pub any-at : (xs ys : List ℕ) (y : ℕ) → list_any (λ b. b == y) (xs ++ y ∷ ys) ≡ true
any-at [] ys y = ap (λ t. t || list_any (λ b. b == y) ys) (same_byte y)
any-at (x ∷ xs) ys y = ap (λ t. (x == y) || t) (any-at xs ys y) ∙ or-true (x == y)

-- ---- values

pub shown_no_newline : (v : List ℕ) → Free 10 (newlines_shown v)
shown_no_newline [] = tt
shown_no_newline (b ∷ v) = elim (b == 10) as (λ t. (b == 10) ≡ t → Free 10 (cond t (92 ∷ 110 ∷ newlines_shown v) (b ∷ newlines_shown v))) [
  | true ↦ λ e. (refl, (refl, shown_no_newline v))
  | false ↦ λ e. (e, shown_no_newline v)
] refl

-- ---- what a printed line says

some_of : (n : List ℕ) → nat_le 1 (length n) ≡ true → n ≢ []
some_of [] e = λ _. cc
some_of (b ∷ n) e = λ x. cc

name_byte_space : (b : ℕ) → is_name_byte b ≡ true → is_space b ≡ false
name_byte_space b e = visible_space b (both_true (is_visible b) _ e).0

name_byte_newline : (b : ℕ) → is_name_byte b ≡ true → (b == 10) ≡ false
name_byte_newline b e = visible_newline b (both_true (is_visible b) _ e).0

not_comma : (t : Bool) → not t ≡ true → t ≡ false
not_comma true e = absurd (cc)
not_comma false e = refl

name_byte_comma : (b : ℕ) → is_name_byte b ≡ true → (b == 44) ≡ false
name_byte_comma b e = not_comma (b == 44) (both_true (is_visible b) _ e).1

-- what names and flags have in common
pub record IsWord (n : List ℕ) : Type 0 where
  pub some : n ≢ []
  pub spaceless : Spaceless n
  pub one_line : Free 10 n
  pub no_comma : Free 44 n

-- what a word of such bytes is made of
word_parts : (most : ℕ) (passes : ℕ → Bool) (n : List ℕ) → is_word most passes n ≡ true → (nat_le 1 (length n) ≡ true) × (list_all passes n ≡ true)
word_parts most passes n e =
    let a : (has_length most n ≡ true) × (list_all passes n ≡ true) = both_true (has_length most n) _ e in
    ((both_true (nat_le 1 (length n)) _ a.0).0, a.1)

pub flag_word_is : (n : List ℕ) → is_flag_name n ≡ true → IsWord n
flag_word_is n e =
    let p : (nat_le 1 (length n) ≡ true) × (list_all is_name_byte n ≡ true) = word_parts 255 is_name_byte n e in
    record {
      some = some_of n p.0;
      spaceless = each is_name_byte (λ b. is_space b ≡ false) name_byte_space n p.1;
      one_line = each is_name_byte (λ b. (b == 10) ≡ false) name_byte_newline n p.1;
      no_comma = each is_name_byte (λ b. (b == 44) ≡ false) name_byte_comma n p.1;
    }

pub name_word_is : (n : List ℕ) → is_name n ≡ true → IsWord n
name_word_is n e = flag_word_is n (both_true (is_word 255 is_name_byte n) _ e).0

pub name_said : (n : List ℕ) → is_name n ≡ true → line_said (codes "Name: " ++ n) ≡ Name n
name_said n e =
    let w : IsWord n = name_word_is n e in
    ap (λ t. cond (is_name t) (Name t) Nothing) (trimmed-space n w.spaceless w.some) ∙ ap (λ b. cond b (Name n) Nothing) e

-- ---- a set's line

free_append : (y : ℕ) (xs ys : List ℕ) → Free y xs → Free y ys → Free y (xs ++ ys)
free_append y [] ys a b = b
free_append y (x ∷ xs) ys a b = (a.0, free_append y xs ys a.1 b)

split_joined : (xs : List ℕ) (ks : List (List ℕ)) → Free 44 xs → AllByRecursion IsWord ks → slice_split (λ b. b == 44) (xs ++ flat_map (λ l. 44 ∷ 32 ∷ l) ks) ≡ xs ∷ map (λ l. 32 ∷ l) ks
split_joined xs [] free h = ap (slice_split (λ b. b == 44)) (append-nil xs) ∙ slice_split_none (λ b. b == 44) xs (All-from_recursion (λ b. (b == 44) ≡ false) xs free)
split_joined xs (l ∷ ks) free h =
    slice_split_at (λ b. b == 44) xs 44 ((32 ∷ l) ++ flat_map (λ l. 44 ∷ 32 ∷ l) ks) (All-from_recursion (λ b. (b == 44) ≡ false) xs free) refl
    ∙ ap (λ ps. xs ∷ ps) (split_joined (32 ∷ l) ks (refl, h.0.no_comma) h.1)

kept_some : (n : List ℕ) → n ≢ [] → unless_empty n ≡ n ∷ []
kept_some [] h = absurd (h refl)
kept_some (b ∷ n) h = refl

kept_each : (ks : List (List ℕ)) → AllByRecursion IsWord ks → flat_map (λ piece. unless_empty (trimmed piece)) (map (λ l. 32 ∷ l) ks) ≡ ks
kept_each [] h = refl
kept_each (k ∷ ks) h = (λ i. (ap unless_empty (trimmed-space k h.0.spaceless h.0.some) ∙ kept_some k h.0.some) i ++ kept_each ks h.1 i)

pub pieces-joined : (k : List ℕ) (ks : List (List ℕ)) → AllByRecursion IsWord (k ∷ ks) → pieces (32 ∷ joined (k ∷ ks)) ≡ k ∷ ks
pieces-joined k ks h = ap (flat_map (λ piece. unless_empty (trimmed piece))) (split_joined (32 ∷ k) ks (refl, h.0.no_comma) h.1) ∙ kept_each (k ∷ ks) h

all_true : (q : List ℕ → Bool) (ks : List (List ℕ)) → AllByRecursion (λ n. q n ≡ true) ks → list_all q ks ≡ true
all_true q [] h = refl
all_true q (k ∷ ks) h = ap (λ t. t && list_all q ks) h.0 ∙ all_true q ks h.1

all_words : (q : List ℕ → Bool) → ((n : List ℕ) → q n ≡ true → IsWord n) → (ks : List (List ℕ)) → AllByRecursion (λ n. q n ≡ true) ks → AllByRecursion IsWord ks
all_words q is [] h = tt
all_words q is (k ∷ ks) h = (is k h.0, all_words q is ks h.1)

pub owners_said : (k : List ℕ) (ks : List (List ℕ)) → AllByRecursion (λ n. is_name n ≡ true) (k ∷ ks) → line_said (owners_head ++ joined (k ∷ ks)) ≡ Owners (k ∷ ks)
owners_said k ks h =
    ap (λ ps. cond (list_all is_name ps) (Owners ps) Nothing) (pieces-joined k ks (all_words is_name name_word_is (k ∷ ks) h)) ∙ ap (λ b. cond b (Owners (k ∷ ks)) Nothing) (all_true is_name (k ∷ ks) h)

pub flags_said : (k : List ℕ) (ks : List (List ℕ)) → AllByRecursion (λ n. is_flag_name n ≡ true) (k ∷ ks) → line_said (flags_head ++ joined (k ∷ ks)) ≡ Flags (k ∷ ks)
flags_said k ks h =
    ap (λ ps. cond (list_all is_flag_name ps) (Flags ps) Nothing) (pieces-joined k ks (all_words is_flag_name flag_word_is (k ∷ ks) h)) ∙ ap (λ b. cond b (Flags (k ∷ ks)) Nothing) (all_true is_flag_name (k ∷ ks) h)

joined_one_line : (ks : List (List ℕ)) → AllByRecursion IsWord ks → Free 10 (flat_map (λ l. 44 ∷ 32 ∷ l) ks)
joined_one_line [] h = tt
joined_one_line (k ∷ ks) h = (refl, (refl, free_append 10 k (flat_map (λ l. 44 ∷ 32 ∷ l) ks) h.0.one_line (joined_one_line ks h.1)))

pub list_one_line : (head : List ℕ) (k : List ℕ) (ks : List (List ℕ)) → Free 10 head → AllByRecursion IsWord (k ∷ ks) → Free 10 (head ++ joined (k ∷ ks))
list_one_line head k ks f h = free_append 10 head (joined (k ∷ ks)) f (free_append 10 k (flat_map (λ l. 44 ∷ 32 ∷ l) ks) h.0.one_line (joined_one_line ks h.1))

pub owners_words : (ks : List (List ℕ)) → AllByRecursion (λ n. is_name n ≡ true) ks → AllByRecursion IsWord ks
owners_words = all_words is_name name_word_is

pub flags_words : (ks : List (List ℕ)) → AllByRecursion (λ n. is_flag_name n ≡ true) ks → AllByRecursion IsWord ks
flags_words = all_words is_flag_name flag_word_is

-- ---- a field's line

or_front : (a b x : Bool) → (a || (b || x)) ≡ false → (a || b) ≡ false
or_front true b x e = absurd (cc)
or_front false true x e = absurd (cc)
or_front false false x e = refl

choose_headed : {X : Type 0} (s a i l : Bool) (w x y z : X) → s ≡ false → i ≡ false → l ≡ true → cond (s && a) w (cond i x (cond l y z)) ≡ y
choose_headed true a i l w x y z p q r = absurd (cc)
choose_headed false a true l w x y z p q r = absurd (cc)
choose_headed false a false true w x y z p q r = refl
choose_headed false a false false w x y z p q r = absurd (cc)

choose_field : {X : Type 0} (a b c d f : Bool) (w x y z u v : X) → not (a || (b || (c || d))) ≡ true → f ≡ true → cond a w (cond b x (cond c y (cond d z (cond f u v)))) ≡ u
choose_field true b c d f w x y z u v p q = absurd (cc)
choose_field false true c d f w x y z u v p q = absurd (cc)
choose_field false false true d f w x y z u v p q = absurd (cc)
choose_field false false false true f w x y z u v p q = absurd (cc)
choose_field false false false false true w x y z u v p q = refl
choose_field false false false false false w x y z u v p q = absurd (cc)

letter_range : (b : ℕ) → is_lower_letter b ≡ true → (97 ≤ b) × (b ≤ 122)
letter_range b e = (grind (arith, nat_tests), grind (arith, nat_tests))

upper_is : (b : ℕ) → 97 ≤ b → b ≤ 122 → upper b ≡ b - 32
upper_is b h k = grind (arith, nat_tests)

capital_byte : (c : ℕ) → 65 ≤ c → c ≤ 90 → (is_space c ≡ false) × ((c == 58) ≡ false) × ((c == 10) ≡ false) × (lower c ≡ c + 32)
capital_byte c h k = (grind (arith, nat_tests), grind (arith, nat_tests), grind (arith, nat_tests), grind (arith, nat_tests))

key_colon : (b : ℕ) → is_key_byte b ≡ true → (b == 58) ≡ false
key_colon b e = grind (arith, nat_tests)

key_newline : (b : ℕ) → is_key_byte b ≡ true → (b == 10) ≡ false
key_newline b e = grind (arith, nat_tests)

key_lower : (b : ℕ) → is_key_byte b ≡ true → lower b ≡ b
key_lower b e = grind (arith, nat_tests)

-- a key of a field, its first byte apart
pub record IsKey (b : ℕ) (ks : List ℕ) : Type 0 where
  pub letter : is_lower_letter b ≡ true
  pub bytes : list_all is_key_byte (b ∷ ks) ≡ true
  pub free : not (is_reserved (b ∷ ks)) ≡ true

key_is : (b : ℕ) (ks : List ℕ) → is_field_key (b ∷ ks) ≡ true → IsKey b ks
key_is b ks e =
    let a : (is_lower_letter b ≡ true) × ((is_word 64 is_key_byte (b ∷ ks) && not (is_reserved (b ∷ ks))) ≡ true) = both_true (is_lower_letter b) _ e in
    let c : (is_word 64 is_key_byte (b ∷ ks) ≡ true) × (not (is_reserved (b ∷ ks)) ≡ true) = both_true (is_word 64 is_key_byte (b ∷ ks)) _ a.1 in
    record { letter = a.0; bytes = (word_parts 64 is_key_byte (b ∷ ks) c.0).1; free = c.1 }

headed_field : (b : ℕ) (ks rest : List ℕ) → is_field_key (b ∷ ks) ≡ true → headed_line (b ∷ ks) rest ≡ Field (b ∷ ks) (settled (without_space rest))
headed_field b ks rest e =
    let k : List ℕ = b ∷ ks in
    choose_field (bytes_eq k (codes "name")) (bytes_eq k (codes "owners")) (bytes_eq k (codes "flags")) (bytes_eq k (codes "variables")) (is_field_key k) _ _ _ _ _ _ (key_is b ks e).free e

-- the first letter in upper case, and what follows
pub record IsCapital (b c : ℕ) : Type 0 where
  pub space : is_space c ≡ false
  pub colon : (c == 58) ≡ false
  pub newline : (c == 10) ≡ false
  pub lowers : lower c ≡ b

capital_of : (b : ℕ) → is_lower_letter b ≡ true → IsCapital b (upper b)
capital_of b e =
    let r : (97 ≤ b) × (b ≤ 122) = letter_range b e in
    let u : upper b ≡ b - 32 = upper_is b r.0 r.1 in
    let c : (is_space (b - 32) ≡ false) × (((b - 32) == 58) ≡ false) × (((b - 32) == 10) ≡ false) × (lower (b - 32) ≡ (b - 32) + 32) = capital_byte (b - 32) (omega (arith, r.0, r.1)) (omega (arith, r.0, r.1)) in
    subst (IsCapital b) (sym u) (record { space = c.0; colon = c.1; newline = c.2; lowers = c.3 ∙ omega (arith, r.0) })

-- a key is in lower case
lowered : (ks : List ℕ) → list_all is_key_byte ks ≡ true → map lower ks ≡ ks
lowered [] e = refl
lowered (b ∷ ks) e = let f : (is_key_byte b ≡ true) × (list_all is_key_byte ks ≡ true) = both_true _ _ e in λ i. key_lower b f.0 i ∷ lowered ks f.1 i

lowered_tail : (b : ℕ) (ks : List ℕ) → IsKey b ks → map lower ks ≡ ks
lowered_tail b ks k = lowered ks (both_true (is_key_byte b) _ k.bytes).1

key_free_colon : (b : ℕ) (ks : List ℕ) → IsKey b ks → Free 58 (upper b ∷ ks)
key_free_colon b ks k = ((capital_of b k.letter).colon, (each is_key_byte (λ c. (c == 58) ≡ false) key_colon (b ∷ ks) k.bytes).1)

pub field_one_line : (e : List ℕ × List ℕ) → is_field_key e.0 ≡ true → Free 10 (shown_field e)
field_one_line ([], v) e = absurd (cc)
field_one_line (b ∷ ks, v) e =
    let k : IsKey b ks = key_is b ks e in
    free_append 10 (upper b ∷ ks) (58 ∷ 32 ∷ newlines_shown v)
    ((capital_of b k.letter).newline, (each is_key_byte (λ c. (c == 10) ≡ false) key_newline (b ∷ ks) k.bytes).1)
    (refl, (refl, shown_no_newline v))

-- a line that is headed by a word and a colon
headed_by : (c : ℕ) (xs rest : List ℕ) → is_space c ≡ false → Free 58 (c ∷ xs) → line_said ((c ∷ xs) ++ 58 ∷ rest) ≡ headed_line (map lower (c ∷ xs)) rest
headed_by c xs rest space free =
    choose_headed (is_space c) _ (c == 32 || c == 9) _ _ _ _ _ space (or_front (c == 32) (c == 9) _ space) (any-at (c ∷ xs) rest 58)
    ∙ (λ i. headed_line (map lower (before_first-at (c ∷ xs) rest 58 free i)) (after_first-at (c ∷ xs) rest 58 free i))

pub field_said : (e : List ℕ × List ℕ) → is_field_key e.0 ≡ true → is_settled e.1 ≡ true → line_said (shown_field e) ≡ Field e.0 e.1
field_said ([], v) e h = absurd (cc)
field_said (b ∷ ks, v) e h =
    let k : IsKey b ks = key_is b ks e in
    let cap : IsCapital b (upper b) = capital_of b k.letter in
    headed_by (upper b) ks (32 ∷ newlines_shown v) cap.space (key_free_colon b ks k)
    ∙ (λ i. headed_line (cap.lowers i ∷ lowered_tail b ks k i) (32 ∷ newlines_shown v))
    ∙ headed_field b ks (32 ∷ newlines_shown v) e
    ∙ ap (Field (b ∷ ks)) (settled-shown v h)

-- ---- a variable's line

variable_byte_space : (b : ℕ) → is_variable_byte b ≡ true → is_space b ≡ false
variable_byte_space b e = visible_space b (both_true (is_visible b) _ e).0

variable_byte_newline : (b : ℕ) → is_variable_byte b ≡ true → (b == 10) ≡ false
variable_byte_newline b e = visible_newline b (both_true (is_visible b) _ e).0

not_first : (s t : Bool) → not (s || t) ≡ true → s ≡ false
not_first true t e = absurd (cc)
not_first false t e = refl

variable_byte_equals : (b : ℕ) → is_variable_byte b ≡ true → (b == 61) ≡ false
variable_byte_equals b e = not_first (b == 61) (b == 125) (both_true (is_visible b) _ e).1

pub record IsVariableWord (n : List ℕ) : Type 0 where
  pub some : n ≢ []
  pub spaceless : Spaceless n
  pub one_line : Free 10 n
  pub no_equals : Free 61 n

variable_word_is : (n : List ℕ) → is_variable_key n ≡ true → IsVariableWord n
variable_word_is n e =
    let p : (nat_le 1 (length n) ≡ true) × (list_all is_variable_byte n ≡ true) = word_parts 255 is_variable_byte n e in
    record {
      some = some_of n p.0;
      spaceless = each is_variable_byte (λ b. is_space b ≡ false) variable_byte_space n p.1;
      one_line = each is_variable_byte (λ b. (b == 10) ≡ false) variable_byte_newline n p.1;
      no_equals = each is_variable_byte (λ b. (b == 61) ≡ false) variable_byte_equals n p.1;
    }

pub variable_one_line : (e : List ℕ × List ℕ) → is_variable_key e.0 ≡ true → Free 10 (shown_variable e)
variable_one_line (k, v) e = (refl, free_append 10 k (32 ∷ 61 ∷ 32 ∷ newlines_shown v) (variable_word_is k e).one_line (refl, (refl, (refl, shown_no_newline v))))

not_all_space : (k tail : List ℕ) → Spaceless k → k ≢ [] → list_all is_space (k ++ tail) ≡ false
not_all_space [] tail h some = absurd (some refl)
not_all_space (b ∷ k) tail h some = ap (λ t. t && list_all is_space (k ++ tail)) h.0

pub variable_said : (e : List ℕ × List ℕ) → is_variable_key e.0 ≡ true → is_settled e.1 ≡ true → line_said (shown_variable e) ≡ Variable e.0 e.1
variable_said (k, v) e h =
    let w : IsVariableWord k = variable_word_is k e in
    let rest : List ℕ = 32 ∷ newlines_shown v in
    let before : List ℕ = 32 ∷ (k ++ 32 ∷ []) in
    let line : shown_variable (k, v) ≡ before ++ 61 ∷ rest = ap (λ xs. 32 ∷ xs) (sym (append_assoc k (32 ∷ []) (61 ∷ rest))) in
    let free : Free 61 before = (refl, free_append 61 k (32 ∷ []) w.no_equals (refl, tt)) in
    let blank : list_all is_space (before ++ 61 ∷ rest) ≡ false = ap (list_all is_space) (append_assoc k (32 ∷ []) (61 ∷ rest)) ∙ not_all_space k (32 ∷ 61 ∷ rest) w.spaceless w.some in
    ap line_said line
    ∙ ap (λ t. cond t Blank (indented_line (before ++ 61 ∷ rest))) blank
    ∙ ap (λ t. cond t (variable_line (trimmed (before_first (λ b. b == 61) (before ++ 61 ∷ rest))) (after_first (λ b. b == 61) (before ++ 61 ∷ rest))) Nothing) (any-at before rest 61)
    ∙ (λ i. variable_line (trimmed (before_first-at before rest 61 free i)) (after_first-at before rest 61 free i))
    ∙ ap (λ t. variable_line t rest) (trimmed-spaces k w.spaceless w.some)
    ∙ ap (λ t. cond t (Variable k (settled (newlines_shown v))) Nothing) e
    ∙ ap (Variable k) (settled-shown v h)
