-- What is packed is read again, and the place of a key among entries in order.
use Rattle.std.proofs.Common.{◌≡◌, ℕ, zero, suc, ◌+◌, ◌-◌, ◌*◌, ◌/◌, ◌%◌, ◌<◌, ◌≤◌, Bool, true, false, cond, not, List, [], ◌∷◌, ◌++◌, length, take, drop, get_or, Some, None, Option, Result, Ok, Err, OnErr, refl, sym, ap, subst, ◌∙◌, arith, append_assoc, length-append}
use Rattle.std.specs.Prelude.{if◌then◌else◌, ◌==◌, ◌≢◌, replicate, T, ◌&&◌, is_some, map}
use Rattle.std.proofs.Math.Seq.{take-append_seam, drop-append_seam}
use Rattle.std.proofs.Math.Nat.{div-add-mod}
use Rattle.std.proofs.lemmas.Bool.Decides.{nat_tests}
use Rattle.std.proofs.lemmas.List.{append-nil, map-append, length-take, take-append-drop, take-append-le, take_at}
use Rattle.std.proofs.lemmas.Slice.{drop-append-drop}
use Rattle.std.specs.declared.cmp.Ordering.{Ordering}
use Rattle.std.specs.Ordering.{is_lt, is_eq}
use Rattle.std.specs.Cmp.{tied_itself}
use Rattle.std.specs.Cmp.Lexicographic.{nat_list_cmp_total}
use Rattle.std.specs.FinMap.{FinMap, put, is_sorted, find, get, contains_key, entries, len, from_sorted, get-from_sorted, entries-from_sorted, len-entries}
use Rattle.std.specs.FinMap.Entries.{by_order, below_all}
use Rattle.std.specs.declared.cmp.Ordering.TheVariants.{Less, Equal, Greater}
use Rattle.dc_text.specs.Maps.{text_cmp}
use Rattle.dc_text.proofs.MapLemmas.{exact_texts}
use Rattle.dc_parts.specs.Packed.{packed_length, packed_text, packed_as, packed_key, packed, usual_keys, usual_key, number_from, number_of, length_at, behind_length, text_at, behind_text, key_at, behind_key, HasText, entries_up_to, entries_in, IsPacked, IsBegunBy, before, from, behind, value_at}
use Rattle.dc_parts.proofs.PlaceLemmas.{first, second, less, find_below, without, without_none}

-- ---- a length is read again

not_more : (r : ℕ) → r < 255 → (r == 255) ≡ false
not_more r lt = grind (arith, nat_tests)

run-length_at : (k r : ℕ) (rest : List ℕ) → r < 255 → length_at (replicate k 255 ++ r ∷ rest) ≡ 255 * k + r
unfolding length_at
run-length_at zero r rest lt = ap (λ b. cond b (255 + length_at rest) r) (not_more r lt) ∙ omega arith
run-length_at (suc k) r rest lt = ap (λ n. 255 + n) (run-length_at k r rest lt) ∙ omega arith

run-behind : (k r : ℕ) (rest : List ℕ) → r < 255 → behind_length (replicate k 255 ++ r ∷ rest) ≡ rest
unfolding behind_length
run-behind zero r rest lt = ap (λ b. cond b (behind_length rest) rest) (not_more r lt)
run-behind (suc k) r rest lt = run-behind k r rest lt

-- the bytes of a length, with more behind
run : (n : ℕ) (rest : List ℕ) → packed_length n ++ rest ≡ replicate (n / 255) 255 ++ (n % 255) ∷ rest
unfolding packed_length
run n rest = append_assoc (replicate (n / 255) 255) ((n % 255) ∷ []) rest

pub length_at-packed : (n : ℕ) (rest : List ℕ) → length_at (packed_length n ++ rest) ≡ n
length_at-packed n rest = ap length_at (run n rest) ∙ run-length_at (n / 255) (n % 255) rest (omega arith) ∙ div-add-mod n 255

pub behind_length-packed : (n : ℕ) (rest : List ℕ) → behind_length (packed_length n ++ rest) ≡ rest
behind_length-packed n rest = ap behind_length (run n rest) ∙ run-behind (n / 255) (n % 255) rest (omega arith)

-- ---- a text is read again

with_length : (text rest : List ℕ) → packed_text text ++ rest ≡ packed_length (length text) ++ (text ++ rest)
unfolding packed_text
with_length text rest = append_assoc (packed_length (length text)) text rest

text-length : (text rest : List ℕ) → length_at (packed_text text ++ rest) ≡ length text
text-length text rest = ap length_at (with_length text rest) ∙ length_at-packed (length text) (text ++ rest)

text-behind : (text rest : List ℕ) → behind_length (packed_text text ++ rest) ≡ text ++ rest
text-behind text rest = ap behind_length (with_length text rest) ∙ behind_length-packed (length text) (text ++ rest)

pub text_at-packed : (text rest : List ℕ) → text_at (packed_text text ++ rest) ≡ text
unfolding text_at
text_at-packed text rest = (λ i. take (text-length text rest i) (text-behind text rest i)) ∙ take-append_seam text rest

pub behind_text-packed : (text rest : List ℕ) → behind_text (packed_text text ++ rest) ≡ rest
unfolding behind_text
behind_text-packed text rest = (λ i. drop (text-length text rest i) (text-behind text rest i)) ∙ drop-append_seam text rest

pub HasText-packed : (text rest : List ℕ) → HasText (packed_text text ++ rest)
unfolding HasText
HasText-packed text rest = rw (text-length text rest, text-behind text rest, length-append) (omega arith)

-- ---- what cannot be

no_text : {mark : ℕ} {key : List ℕ} → mark ∷ key ≡ [] → ⊥
no_text e = cc

not_both : false ≡ true → ⊥
not_both e = cc

-- ---- the number of a usual key

some_same : (m n : ℕ) → Some m ≡ Some n → m ≡ n
some_same m n e = cc

equals : (o : Ordering) → is_eq o ≡ true → o ≡ Equal
equals Less e = absurd (cc)
equals Equal e = refl
equals Greater e = absurd (cc)

numbered : (m : ℕ) (q : List ℕ) (ks : List (List ℕ)) (n : ℕ) → number_from m q ks ≡ Some n → (i : ℕ) × (n ≡ m + i) × (get_or ks i [] ≡ q) × (i < length ks)
numbered m q [] n e = absurd (cc)
numbered m q (k ∷ ks) n e =
    elim (is_eq (text_cmp q k)) as (λ b. is_eq (text_cmp q k) ≡ b → cond b (Some m) (number_from (suc m) q ks) ≡ Some n → (i : ℕ) × (n ≡ m + i) × (get_or (k ∷ ks) i [] ≡ q) × (i < suc (length ks))) [
      | true ↦ λ t f. (0, omega (arith, some_same m n f), sym (exact_texts q k (equals (text_cmp q k) t)), omega arith)
      | false ↦ λ t f.
          let later : (i : ℕ) × (n ≡ suc m + i) × (get_or ks i [] ≡ q) × (i < length ks) = numbered (suc m) q ks n f in
          (suc later.0, omega (arith, later.1), later.2, omega (arith, later.3))
    ] refl e

-- the number of a key leads to it
pub usual_of : (q : List ℕ) (n : ℕ) → number_of q ≡ Some n → (usual_key n ≡ q) × (n < 8)
usual_of q n e =
    let found : (i : ℕ) × (n ≡ 0 + i) × (get_or usual_keys i [] ≡ q) × (i < 8) = numbered 0 q usual_keys n e in
    let same : n ≡ found.0 = omega (arith, found.1) in
    (ap usual_key same ∙ found.2, omega (arith, found.1, found.3))

number-usual : (n : ℕ) → n < 8 → number_of (usual_key n) ≡ Some n
number-usual zero lt = refl
number-usual (suc zero) lt = refl
number-usual (suc (suc zero)) lt = refl
number-usual (suc (suc (suc zero))) lt = refl
number-usual (suc (suc (suc (suc zero)))) lt = refl
number-usual (suc (suc (suc (suc (suc zero))))) lt = refl
number-usual (suc (suc (suc (suc (suc (suc zero)))))) lt = refl
number-usual (suc (suc (suc (suc (suc (suc (suc zero))))))) lt = refl
number-usual (suc (suc (suc (suc (suc (suc (suc (suc n)))))))) lt = absurd (omega arith)

-- the number of the usual key of a mark and a length
abbrev pub number_like : ℕ → ℕ → ℕ
number_like mark count =
    if count == 4 then (if mark == 2 then 7 else 5) else
    if count == 5 then 6 else
    if count == 7 then 1 else
    if count == 8 then 4 else
    if count == 11 then 2 else
    if count == 20 then 3 else 0

abbrev like : List ℕ → ℕ
like [] = 0
like (mark ∷ key) = number_like mark (length key)

like-usual : (n : ℕ) → n < 8 → like (usual_key n) ≡ n
like-usual zero lt = refl
like-usual (suc zero) lt = refl
like-usual (suc (suc zero)) lt = refl
like-usual (suc (suc (suc zero))) lt = refl
like-usual (suc (suc (suc (suc zero)))) lt = refl
like-usual (suc (suc (suc (suc (suc zero))))) lt = refl
like-usual (suc (suc (suc (suc (suc (suc zero)))))) lt = refl
like-usual (suc (suc (suc (suc (suc (suc (suc zero))))))) lt = refl
like-usual (suc (suc (suc (suc (suc (suc (suc (suc n)))))))) lt = absurd (omega arith)

-- there is no key at a number past the list
past_keys : (n : ℕ) → 8 ≤ n → usual_key n ≡ []
past_keys zero h = absurd (omega arith)
past_keys (suc zero) h = absurd (omega arith)
past_keys (suc (suc zero)) h = absurd (omega arith)
past_keys (suc (suc (suc zero))) h = absurd (omega arith)
past_keys (suc (suc (suc (suc zero)))) h = absurd (omega arith)
past_keys (suc (suc (suc (suc (suc zero))))) h = absurd (omega arith)
past_keys (suc (suc (suc (suc (suc (suc zero)))))) h = absurd (omega arith)
past_keys (suc (suc (suc (suc (suc (suc (suc zero))))))) h = absurd (omega arith)
past_keys (suc (suc (suc (suc (suc (suc (suc (suc n)))))))) h = refl

-- no other usual key has that mark and that length
pub only_like : (mark count n : ℕ) → n ≡ number_like mark count → (key : List ℕ) (m : ℕ) → length key ≡ count → number_of (mark ∷ key) ≡ Some m → n ≡ m
only_like mark count n is key m long e =
    let found : (usual_key m ≡ mark ∷ key) × (m < 8) = usual_of (mark ∷ key) m e in
    is ∙ ap (number_like mark) (sym long) ∙ ap like (sym found.0) ∙ like-usual m found.1

module _ (mark n : ℕ) (key u : List ℕ) (at : u ≡ usual_key n) where
  -- a key that is the usual one of its mark and length
  pub is_usual : is_eq (text_cmp (mark ∷ key) u) ≡ true → Some n ≡ number_of (mark ∷ key)
  is_usual equal =
      let same : mark ∷ key ≡ usual_key n = exact_texts (mark ∷ key) u (equals _ equal) ∙ at in
      let few : n < 8 = elim (n / 8) as (λ k. n / 8 ≡ k → n < 8) [ zero ↦ λ e. omega (arith, e) | suc k ↦ λ e. absurd (no_text (same ∙ past_keys n (omega (arith, e)))) ] refl in
      sym (number-usual n few) ∙ ap number_of (sym same)

  -- and one that isn't
  pub is_unusual : ((k : List ℕ) (m : ℕ) → length k ≡ length key → number_of (mark ∷ k) ≡ Some m → n ≡ m) → is_eq (text_cmp (mark ∷ key) u) ≡ false → None ≡ number_of (mark ∷ key)
  is_unusual only other =
      elim (number_of (mark ∷ key)) as (λ o. number_of (mark ∷ key) ≡ o → None ≡ o) [
        | None ↦ λ e. refl
        | Some m ↦ λ e.
            let found : (usual_key m ≡ mark ∷ key) × (m < 8) = usual_of (mark ∷ key) m e in
            let same : n ≡ m = only key m refl e in
            let equal : text_cmp (mark ∷ key) u ≡ Equal = ap (text_cmp (mark ∷ key)) (at ∙ ap usual_key same ∙ found.0) ∙ tied_itself nat_list_cmp_total (mark ∷ key) in
            absurd (not_both (sym other ∙ ap is_eq equal))
      ] refl

-- ---- a key is read again

-- the length of a text that isn't empty doesn't begin with 0
text_front : (n : ℕ) (rest : List ℕ) → 0 < n → (b : ℕ) × (more : List ℕ) × (packed_length n ++ rest ≡ b ∷ more) × (0 < b)
text_front n rest some =
    let front : (b : ℕ) × (more : List ℕ) × (replicate (n / 255) 255 ++ (n % 255) ∷ rest ≡ b ∷ more) × (0 < b)
    = elim (n / 255) as (λ k. n / 255 ≡ k → (b : ℕ) × (more : List ℕ) × (replicate k 255 ++ (n % 255) ∷ rest ≡ b ∷ more) × (0 < b)) [
      | zero ↦ λ e. (n % 255, rest, refl, omega (arith, e, some))
      | suc k ↦ λ e. (255, replicate k 255 ++ (n % 255) ∷ rest, refl, omega arith)
    ] refl in
    (front.0, front.1, run n rest ∙ front.2, front.3)

other_front : (b : ℕ) (more : List ℕ) → 0 < b → (key_at (b ∷ more) ≡ text_at (b ∷ more)) × (behind_key (b ∷ more) ≡ behind_text (b ∷ more))
other_front zero more h = absurd (omega arith)
other_front (suc b) [] h = (refl, refl)
other_front (suc b) (c ∷ more) h = (refl, refl)

as_text : (bytes : List ℕ) (b : ℕ) (more : List ℕ) → bytes ≡ b ∷ more → 0 < b → (key_at bytes ≡ text_at bytes) × (behind_key bytes ≡ behind_text bytes)
as_text bytes b more is some =
    (ap key_at is ∙ (other_front b more some).0 ∙ ap text_at (sym is), ap behind_key is ∙ (other_front b more some).1 ∙ ap behind_text (sym is))

unusual_read : (q rest : List ℕ) → number_of q ≡ None → (key_at (packed_text q ++ rest) ≡ q) × (behind_key (packed_text q ++ rest) ≡ rest)
unusual_read [] rest e = absurd (cc)
unusual_read (m ∷ q) rest e =
    let front : (b : ℕ) × (more : List ℕ) × (packed_length (suc (length q)) ++ ((m ∷ q) ++ rest) ≡ b ∷ more) × (0 < b) = text_front (suc (length q)) ((m ∷ q) ++ rest) (omega arith) in
    let plain : (key_at (packed_text (m ∷ q) ++ rest) ≡ text_at (packed_text (m ∷ q) ++ rest)) × (behind_key (packed_text (m ∷ q) ++ rest) ≡ behind_text (packed_text (m ∷ q) ++ rest))
    = as_text (packed_text (m ∷ q) ++ rest) front.0 front.1 (with_length (m ∷ q) rest ∙ front.2) front.3 in
    (plain.0 ∙ text_at-packed (m ∷ q) rest, plain.1 ∙ behind_text-packed (m ∷ q) rest)

usual_has_text : (n : ℕ) (rest : List ℕ) → HasText (0 ∷ n ∷ rest)
unfolding HasText length_at behind_length
usual_has_text n rest = omega arith

length-packed_text : (text : List ℕ) → 1 ≤ length (packed_text text)
unfolding packed_text packed_length
length-packed_text text = omega (arith, length-append (replicate (length text / 255) 255 ++ (length text % 255) ∷ []) text, length-append (replicate (length text / 255) 255) ((length text % 255) ∷ []))

key_read : (q rest : List ℕ) (o : Option ℕ) → number_of q ≡ o
    → (key_at (packed_as o q ++ rest) ≡ q) × (behind_key (packed_as o q ++ rest) ≡ rest) × HasText (packed_as o q ++ rest) × (1 ≤ length (packed_as o q))
key_read q rest None e = ((unusual_read q rest e).0, (unusual_read q rest e).1, HasText-packed q rest, length-packed_text q)
key_read q rest (Some n) e = ((usual_of q n e).0, refl, usual_has_text n rest, omega arith)

pub key_at-packed : (q rest : List ℕ) → key_at (packed_key q ++ rest) ≡ q
key_at-packed q rest = (key_read q rest (number_of q) refl).0

pub behind_key-packed : (q rest : List ℕ) → behind_key (packed_key q ++ rest) ≡ rest
behind_key-packed q rest = (key_read q rest (number_of q) refl).1

HasText-key : (q rest : List ℕ) → HasText (packed_key q ++ rest)
HasText-key q rest = (key_read q rest (number_of q) refl).2

length-packed_key : (q : List ℕ) → 1 ≤ length (packed_key q)
length-packed_key q = (key_read q [] (number_of q) refl).3

first_byte : (a b : ℕ) (xs ys : List ℕ) → a ∷ xs ≡ b ∷ ys → a ≡ b
first_byte a b xs ys e = cc

second_byte : (a b c d : ℕ) (xs ys : List ℕ) → a ∷ b ∷ xs ≡ c ∷ d ∷ ys → b ≡ d
second_byte a b c d xs ys e = cc

-- a byte behind one of 0 is the number of a usual key
key_number : (q rest : List ℕ) (o : Option ℕ) (n : ℕ) (more : List ℕ) → number_of q ≡ o → packed_as o q ++ rest ≡ 0 ∷ n ∷ more → n < 8
key_number [] rest None n more e is = absurd (cc)
key_number (m ∷ q) rest None n more e is =
    let front : (b : ℕ) × (after : List ℕ) × (packed_length (suc (length q)) ++ ((m ∷ q) ++ rest) ≡ b ∷ after) × (0 < b) = text_front (suc (length q)) ((m ∷ q) ++ rest) (omega arith) in
    let none : front.0 ≡ 0 = first_byte front.0 0 front.1 (n ∷ more) (sym (with_length (m ∷ q) rest ∙ front.2) ∙ is) in
    absurd (omega (arith, none, front.3))
key_number q rest (Some k) n more e is = subst (λ j. j < 8) (second_byte 0 k 0 n rest more is) (usual_of q k e).1

-- ---- entries are read again

-- there are no more entries than bytes
length-packed : (es : List (List ℕ × List ℕ)) → length es ≤ length (packed es)
length-packed [] = omega arith
length-packed (e ∷ es) =
    omega (arith, length-packed es, length-packed_key e.0, length-append (packed_key e.0) (packed_text e.1 ++ packed es), length-append (packed_text e.1) (packed es))

one_entry : (count : ℕ) (bytes : List ℕ) → 0 < length bytes → entries_up_to (suc count) bytes ≡ (key_at bytes, text_at (behind_key bytes)) ∷ entries_up_to count (behind_text (behind_key bytes))
one_entry count [] some = absurd (omega arith)
one_entry count (byte ∷ bytes) some = refl

entries_up_to-packed : (count : ℕ) (es : List (List ℕ × List ℕ)) → length es ≤ count → entries_up_to count (packed es) ≡ es
entries_up_to-packed zero [] few = refl
entries_up_to-packed zero (e ∷ es) few = absurd (omega arith)
entries_up_to-packed (suc count) [] few = refl
entries_up_to-packed (suc count) (e ∷ es) few =
    let value : List ℕ = packed_text e.1 ++ packed es in
    let past_key : behind_key (packed_key e.0 ++ value) ≡ value = behind_key-packed e.0 value in
    one_entry count (packed_key e.0 ++ value) (omega (arith, length-packed (e ∷ es)))
    ∙ (λ i. (key_at-packed e.0 value i, text_at (past_key i)) ∷ entries_up_to count (behind_text (past_key i)))
    ∙ (λ i. (e.0, text_at-packed e.1 (packed es) i) ∷ entries_up_to count (behind_text-packed e.1 (packed es) i))
    ∙ ap (λ l. e ∷ l) (entries_up_to-packed count es (omega arith))

-- what is packed anew
pub packed_anew : (es : List (List ℕ × List ℕ)) (bytes : List ℕ) → bytes ≡ packed es → (entries_in bytes ≡ es) × IsPacked bytes
packed_anew es bytes is =
    let read : entries_in bytes ≡ es = ap entries_in is ∙ entries_up_to-packed (length (packed es)) es (length-packed es) in
    (read, ap packed read ∙ sym is)

pub packed-append : (es fs : List (List ℕ × List ℕ)) → packed (es ++ fs) ≡ packed es ++ packed fs
packed-append [] fs = refl
packed-append (e ∷ es) fs =
    ap (λ l. packed_key e.0 ++ (packed_text e.1 ++ l)) (packed-append es fs)
    ∙ ap (λ l. packed_key e.0 ++ l) (sym (append_assoc (packed_text e.1) (packed es) (packed fs)))
    ∙ sym (append_assoc (packed_key e.0) (packed_text e.1 ++ packed es) (packed fs))

-- ---- how a length is read

pub length-behind_length : (bytes : List ℕ) → length (behind_length bytes) ≤ length bytes
unfolding behind_length
length-behind_length [] = omega arith
length-behind_length (b ∷ bytes) =
    let rest : length (behind_length bytes) ≤ length bytes = length-behind_length bytes in
    elim (b == 255) as (λ t. length (cond t (behind_length bytes) bytes) ≤ suc (length bytes)) [ true ↦ omega arith | false ↦ omega arith ]

pub bounded : (bytes : List ℕ) → HasText bytes → length_at bytes ≤ length bytes
unfolding HasText
bounded bytes h = omega (arith, length-behind_length bytes)

pub length_at-more : (bytes : List ℕ) → length_at (255 ∷ bytes) ≡ 255 + length_at bytes
unfolding length_at
length_at-more bytes = refl

pub behind_length-more : (bytes : List ℕ) → behind_length (255 ∷ bytes) ≡ behind_length bytes
unfolding behind_length
behind_length-more bytes = refl

pub length_at-last : (byte : ℕ) (bytes : List ℕ) → (byte == 255) ≡ false → length_at (byte ∷ bytes) ≡ byte
unfolding length_at
length_at-last byte bytes other = ap (λ t. cond t (255 + length_at bytes) byte) other

pub behind_length-last : (byte : ℕ) (bytes : List ℕ) → (byte == 255) ≡ false → behind_length (byte ∷ bytes) ≡ bytes
unfolding behind_length
behind_length-last byte bytes other = ap (λ t. cond t (behind_length bytes) bytes) other

pub length_at-none : length_at [] ≡ 0
unfolding length_at
length_at-none = refl

pub behind_length-none : behind_length [] ≡ []
unfolding behind_length
behind_length-none = refl

other_byte : (byte : ℕ) → byte ≢ 255 → (byte == 255) ≡ false
other_byte byte other = grind (arith, nat_tests)

-- the byte at the front ends the length
pub length_ends : (bytes : List ℕ) (byte : ℕ) (more : List ℕ) → bytes ≡ byte ∷ more → byte ≢ 255 → (length_at bytes ≡ byte) × (behind_length bytes ≡ more)
length_ends bytes byte more is other =
    (ap length_at is ∙ length_at-last byte more (other_byte byte other), ap behind_length is ∙ behind_length-last byte more (other_byte byte other))

-- the byte at the front says that more of the length comes
pub length_goes_on : (bytes : List ℕ) (byte : ℕ) (more : List ℕ) → bytes ≡ byte ∷ more → byte ≡ 255 → (length_at bytes ≡ 255 + length_at more) × (behind_length bytes ≡ behind_length more)
length_goes_on bytes byte more is full =
    let front : bytes ≡ 255 ∷ more = is ∙ ap (λ b. b ∷ more) full in
    (ap length_at front ∙ length_at-more more, ap behind_length front ∙ behind_length-more more)

-- no byte is left
pub no_length : (bytes : List ℕ) → length bytes ≡ 0 → (length_at bytes ≡ 0) × (behind_length bytes ≡ bytes)
no_length [] e = (length_at-none, behind_length-none)
no_length (byte ∷ bytes) e = absurd (omega arith)

-- ---- the first of packed entries

first_of : (bytes : List ℕ) (es : List (List ℕ × List ℕ)) → bytes ≡ packed es → 0 < length bytes → (e : List ℕ × List ℕ) × (later : List (List ℕ × List ℕ)) × (bytes ≡ packed (e ∷ later))
first_of bytes [] is some = absurd (omega (arith, ap length is))
first_of bytes (e ∷ es) is some = (e, es, is)

module _ (bytes : List ℕ) (some : 0 < length bytes) (is_packed : IsPacked bytes) where
  split : (e : List ℕ × List ℕ) × (later : List (List ℕ × List ℕ)) × (bytes ≡ packed (e ∷ later))
  split = first_of bytes (entries_in bytes) (sym is_packed) some

  past_key : behind_key bytes ≡ packed_text split.0.1 ++ packed split.1
  past_key = ap behind_key split.2 ∙ behind_key-packed split.0.0 (packed_text split.0.1 ++ packed split.1)

  past_value : behind_text (behind_key bytes) ≡ packed split.1
  past_value = ap behind_text past_key ∙ behind_text-packed _ _

  pub has_key : HasText bytes
  has_key = subst HasText (sym split.2) (HasText-key split.0.0 (packed_text split.0.1 ++ packed split.1))

  pub has_value : HasText (behind_key bytes)
  has_value = subst HasText (sym past_key) (HasText-packed _ _)

  pub few_numbers : (n : ℕ) (more : List ℕ) → bytes ≡ 0 ∷ n ∷ more → n < 8
  few_numbers n more is = key_number split.0.0 (packed_text split.0.1 ++ packed split.1) (number_of split.0.0) n more refl (sym split.2 ∙ is)

  pub later_packed : IsPacked (behind_text (behind_key bytes))
  later_packed = (packed_anew split.1 _ past_value).1

  pub opened : entries_in bytes ≡ (key_at bytes, text_at (behind_key bytes)) ∷ entries_in (behind_text (behind_key bytes))
  opened =
      let key : key_at bytes ≡ split.0.0 = ap key_at split.2 ∙ key_at-packed split.0.0 (packed_text split.0.1 ++ packed split.1) in
      let value : text_at (behind_key bytes) ≡ split.0.1 = ap text_at past_key ∙ text_at-packed _ _ in
      (packed_anew (split.0 ∷ split.1) bytes split.2).0 ∙ (λ i. ((sym key) i, (sym value) i) ∷ (sym (packed_anew split.1 _ past_value).0) i)

  pub shorter : length (behind_text (behind_key bytes)) < length bytes
  shorter =
      omega (arith, ap length past_value, ap length split.2, length-append (packed_key split.0.0) (packed_text split.0.1 ++ packed split.1), length-append (packed_text split.0.1) (packed split.1), length-packed_key split.0.0)

-- whether bytes are left, as `is_empty` tells
pub some_left : (bytes : List ℕ) (empty : Bool) → empty ≡ (length bytes == 0) → empty ≡ false → 0 < length bytes
some_left bytes empty is test = grind (arith, nat_tests)

pub no_more : (bytes : List ℕ) (empty : Bool) → empty ≡ (length bytes == 0) → empty ≡ true → length bytes ≡ 0
no_more bytes empty is test = grind (arith, nat_tests)

-- no entry is in no bytes
pub none_in : (bytes : List ℕ) → length bytes ≡ 0 → entries_in bytes ≡ []
none_in [] none = refl
none_in (byte ∷ bytes) none = absurd (omega arith)

pub none_left : (q bytes : List ℕ) → length bytes ≡ 0 → (bytes ≡ packed (from q (entries_in bytes))) × (bytes ≡ packed (behind q (entries_in bytes))) × (None ≡ value_at q (entries_in bytes))
none_left q [] none = (refl, refl, refl)
none_left q (byte ∷ bytes) none = absurd (omega arith)

module _ (q bytes k rest : List ℕ) (some : 0 < length bytes) (is_packed : IsPacked bytes) (key : k ≡ key_at bytes) (is : rest ≡ behind_text (behind_key bytes)) where
  abbrev one : List ℕ × List ℕ
  one = (key_at bytes, text_at (behind_key bytes))

  abbrev others : List (List ℕ × List ℕ)
  others = entries_in (behind_text (behind_key bytes))

  begins : entries_in bytes ≡ one ∷ others
  begins = opened bytes some is_packed

  -- the first entry is passed where the key is higher
  pub passed : text_cmp q k ≡ Greater
      → (from q (entries_in rest) ≡ from q (entries_in bytes)) × (behind q (entries_in rest) ≡ behind q (entries_in bytes)) × (value_at q (entries_in rest) ≡ value_at q (entries_in bytes))
  passed higher =
      let order : Greater ≡ text_cmp q (key_at bytes) = sym higher ∙ ap (text_cmp q) key in
      let same : entries_in rest ≡ others = ap entries_in is in (
        ap (from q) same ∙ ap (λ o. by_order o (one ∷ others) (one ∷ others) (from q others)) order ∙ ap (from q) (sym begins),
        ap (behind q) same ∙ ap (λ o. by_order o (one ∷ others) others (behind q others)) order ∙ ap (behind q) (sym begins),
        ap (value_at q) same ∙ ap (λ o. by_order o None (Some (text_at (behind_key bytes))) (value_at q others)) order ∙ ap (value_at q) (sym begins),
      )

  -- the place is at the first entry where the key is lower
  pub stopped : text_cmp q k ≡ Less
      → (bytes ≡ packed (from q (entries_in bytes))) × (bytes ≡ packed (behind q (entries_in bytes))) × (None ≡ value_at q (entries_in bytes))
  stopped lower =
      let order : Less ≡ text_cmp q (key_at bytes) = sym lower ∙ ap (text_cmp q) key in
      let laid : bytes ≡ packed (one ∷ others) = sym is_packed ∙ ap packed begins in (
        laid ∙ ap (λ o. packed (by_order o (one ∷ others) (one ∷ others) (from q others))) order ∙ ap (λ l. packed (from q l)) (sym begins),
        laid ∙ ap (λ o. packed (by_order o (one ∷ others) others (behind q others))) order ∙ ap (λ l. packed (behind q l)) (sym begins),
        ap (λ o. by_order o None (Some (text_at (behind_key bytes))) (value_at q others)) order ∙ ap (value_at q) (sym begins),
      )

  -- and where it has the key
  pub met : text_cmp q k ≡ Equal
      → (bytes ≡ packed (from q (entries_in bytes))) × (rest ≡ packed (behind q (entries_in bytes))) × (Some (text_at (behind_key bytes)) ≡ value_at q (entries_in bytes))
  met equal =
      let order : Equal ≡ text_cmp q (key_at bytes) = sym equal ∙ ap (text_cmp q) key in
      let laid : bytes ≡ packed (one ∷ others) = sym is_packed ∙ ap packed begins in (
        laid ∙ ap (λ o. packed (by_order o (one ∷ others) (one ∷ others) (from q others))) order ∙ ap (λ l. packed (from q l)) (sym begins),
        is ∙ sym (later_packed bytes some is_packed) ∙ ap (λ o. packed (by_order o (one ∷ others) others (behind q others))) order ∙ ap (λ l. packed (behind q l)) (sym begins),
        ap (λ o. by_order o None (Some (text_at (behind_key bytes))) (value_at q others)) order ∙ ap (value_at q) (sym begins),
      )

-- ---- the place of a key

pub by_place : (q : List ℕ) (e : List ℕ × List ℕ) (P : Ordering → Type 0) → (text_cmp q e.0 ≡ Less → P Less) → (text_cmp q e.0 ≡ Equal → P Equal) → (text_cmp q e.0 ≡ Greater → P Greater) → P (text_cmp q e.0)
by_place q e P less equal greater = elim (text_cmp q e.0) as (λ o. text_cmp q e.0 ≡ o → P o) [ Less ↦ less | Equal ↦ equal | Greater ↦ greater ] refl

pub before-from : (q : List ℕ) (es : List (List ℕ × List ℕ)) → before q es ++ from q es ≡ es
before-from q [] = refl
before-from q (e ∷ es) =
    by_place q e (λ o. by_order o [] [] (e ∷ before q es) ++ by_order o (e ∷ es) (e ∷ es) (from q es) ≡ e ∷ es)
    (λ _. refl) (λ _. refl) (λ _. ap (λ l. e ∷ l) (before-from q es))

-- the entries from the place on are those behind the key, and before them at most the one that has it
pub from-behind : (q : List ℕ) (es : List (List ℕ × List ℕ)) → (one : List (List ℕ × List ℕ)) × (from q es ≡ one ++ behind q es)
from-behind q [] = ([], refl)
from-behind q (e ∷ es) =
    by_place q e (λ o. (one : List (List ℕ × List ℕ)) × (by_order o (e ∷ es) (e ∷ es) (from q es) ≡ one ++ by_order o (e ∷ es) es (behind q es)))
    (λ _. ([], refl)) (λ _. (e ∷ [], refl)) (λ _. from-behind q es)

-- to put an entry is to lay it between those before its place and those behind its key
pub put-place : (q v : List ℕ) (es : List (List ℕ × List ℕ)) → put text_cmp q v es ≡ before q es ++ (q, v) ∷ behind q es
put-place q v [] = refl
put-place q v (e ∷ es) =
    by_place q e (λ o. by_order o ((q, v) ∷ e ∷ es) ((e.0, v) ∷ es) (e ∷ put text_cmp q v es) ≡ by_order o [] [] (e ∷ before q es) ++ (q, v) ∷ by_order o (e ∷ es) es (behind q es))
    (λ _. refl) (λ equal. ap (λ k. (k, v) ∷ es) (sym (exact_texts q e.0 equal))) (λ _. ap (λ l. e ∷ l) (put-place q v es))

-- how many there are
pub length-place : (q : List ℕ) (es : List (List ℕ × List ℕ)) → length (before q es) + cond (is_some (value_at q es)) 1 0 + length (behind q es) ≡ length es
length-place q [] = omega arith
length-place q (e ∷ es) =
    by_place q e (λ o. length (by_order o [] [] (e ∷ before q es)) + cond (is_some (by_order o None (Some e.1) (value_at q es))) 1 0 + length (by_order o (e ∷ es) es (behind q es)) ≡ suc (length es))
    (λ _. omega arith) (λ _. omega arith) (λ _. omega (arith, length-place q es))

below_first : (q k : List ℕ) (es : List (List ℕ × List ℕ)) → text_cmp q k ≡ Less → T (below_all text_cmp k es) → T (below_all text_cmp q es)
below_first q k [] lt h = tt
below_first q k (e ∷ es) lt h =
    subst (λ o. T (is_lt o && below_all text_cmp q es)) (sym (nat_list_cmp_total.trans q k e.0 lt (less _ (first _ _ h)))) (below_first q k es lt (second _ _ h))

-- a value is found at the place of its key
pub find-place : (q : List ℕ) (es : List (List ℕ × List ℕ)) → T (is_sorted text_cmp es) → find text_cmp q es ≡ value_at q es
find-place q [] h = refl
find-place q (e ∷ es) h =
    by_place q e (λ o. cond (is_eq o) (Some e.1) (find text_cmp q es) ≡ by_order o None (Some e.1) (value_at q es))
    (λ lower. find_below q es (below_first q e.0 es lower (first _ _ h))) (λ _. refl) (λ _. find-place q es (second _ _ h))

-- to take a key away is to leave those before its place and those behind it
pub without-place : (q : List ℕ) (es : List (List ℕ × List ℕ)) → T (is_sorted text_cmp es) → without q es ≡ before q es ++ behind q es
without-place q [] h = refl
without-place q (e ∷ es) h =
    by_place q e (λ o. cond (not (is_eq o)) (e ∷ without q es) (without q es) ≡ by_order o [] [] (e ∷ before q es) ++ by_order o (e ∷ es) es (behind q es))
    (λ lower. ap (λ l. e ∷ l) (without_none q es (find_below q es (below_first q e.0 es lower (first _ _ h)))))
    (λ equal. without_none q es (find_below q es (subst (λ k. T (below_all text_cmp k es)) (sym (exact_texts q e.0 equal)) (first _ _ h))))
    (λ _. ap (λ l. e ∷ l) (without-place q es (second _ _ h)))

-- ---- bytes in two parts

pub parts : (bytes front back : List ℕ) → bytes ≡ front ++ back → (take (length bytes - length back) bytes ≡ front) × (drop (length bytes - length back) bytes ≡ back) × (length back ≤ length bytes)
parts bytes front back is =
    let count : length bytes - length back ≡ length front = omega (arith, ap length is, length-append front back) in (
      (λ i. take (count i) (is i)) ∙ take-append_seam front back,
      (λ i. drop (count i) (is i)) ∙ drop-append_seam front back,
      omega (arith, ap length is, length-append front back),
    )

module _ (q bytes : List ℕ) (is_packed : IsPacked bytes) where
  pub at_from : bytes ≡ packed (before q (entries_in bytes)) ++ packed (from q (entries_in bytes))
  at_from = sym is_packed ∙ ap packed (sym (before-from q (entries_in bytes))) ∙ packed-append (before q (entries_in bytes)) (from q (entries_in bytes))

  pub at_behind : (front : List ℕ) × (bytes ≡ front ++ packed (behind q (entries_in bytes))) × (length (packed (behind q (entries_in bytes))) ≤ length (packed (from q (entries_in bytes))))
  at_behind =
      let es : List (List ℕ × List ℕ) = entries_in bytes in
      let one : (one : List (List ℕ × List ℕ)) × (from q es ≡ one ++ behind q es) = from-behind q es in
      let laid : packed (from q es) ≡ packed one.0 ++ packed (behind q es) = ap packed one.1 ∙ packed-append one.0 (behind q es) in (
        packed (before q es) ++ packed one.0,
        at_from ∙ ap (λ l. packed (before q es) ++ l) laid ∙ sym (append_assoc (packed (before q es)) (packed one.0) (packed (behind q es))),
        omega (arith, ap length laid, length-append (packed one.0) (packed (behind q es))),
      )

-- ---- what is put and cut out

one_more : (there : Bool) (count front back all more : ℕ) → front + cond there 1 0 + back ≡ count → all ≡ front + suc back → more ≡ cond there count (count + 1) → more ≡ all
one_more true count front back all more counted laid many = omega arith
one_more false count front back all more counted laid many = omega arith

module _ (q bytes : List ℕ) (start end : ℕ) (starts : take start bytes ≡ packed (before q (entries_in bytes))) (ends : drop end bytes ≡ packed (behind q (entries_in bytes))) where
  pub put_packed : (v piece new : List ℕ) → piece ≡ packed ((q, v) ∷ []) → new ≡ take start bytes ++ (piece ++ drop end bytes)
      → (entries_in new ≡ put text_cmp q v (entries_in bytes)) × IsPacked new
  put_packed v piece new entry is =
      let es : List (List ℕ × List ℕ) = entries_in bytes in
      let fs : List (List ℕ × List ℕ) = before q es ++ (q, v) ∷ behind q es in
      let laid : new ≡ packed fs
      = is ∙ (λ i. starts i ++ (entry i ++ ends i)) ∙ ap (λ l. packed (before q es) ++ l) (sym (packed-append ((q, v) ∷ []) (behind q es))) ∙ sym (packed-append (before q es) ((q, v) ∷ behind q es)) in
      let anew : (entries_in new ≡ fs) × IsPacked new = packed_anew fs new laid in
      (anew.0 ∙ sym (put-place q v es), anew.1)

  pub cut_packed : (new : List ℕ) → T (is_sorted text_cmp (entries_in bytes)) → new ≡ take start bytes ++ drop end bytes
      → (entries_in new ≡ without q (entries_in bytes)) × IsPacked new
  cut_packed new h is =
      let es : List (List ℕ × List ℕ) = entries_in bytes in
      let fs : List (List ℕ × List ℕ) = before q es ++ behind q es in
      let anew : (entries_in new ≡ fs) × IsPacked new = packed_anew fs new (is ∙ (λ i. starts i ++ ends i) ∙ sym (packed-append (before q es) (behind q es))) in
      (anew.0 ∙ sym (without-place q es h), anew.1)

-- how many entries there are then
module _ (q : List ℕ) (es fs : List (List ℕ × List ℕ)) (there : Bool) (is_there : there ≡ is_some (value_at q es)) where
  counted : length (before q es) + cond there 1 0 + length (behind q es) ≡ length es
  counted = ap (λ b. length (before q es) + cond b 1 0 + length (behind q es)) is_there ∙ length-place q es

  pub put_count : (v : List ℕ) (count more : ℕ) → fs ≡ put text_cmp q v es → count ≡ length es → more ≡ cond there count (count + 1) → more ≡ length fs
  put_count v count more is many next =
      one_more there count (length (before q es)) (length (behind q es)) (length fs) more (counted ∙ sym many)
      (ap length (is ∙ put-place q v es) ∙ length-append (before q es) ((q, v) ∷ behind q es)) next

  pub cut_count : (count : ℕ) → T (is_sorted text_cmp es) → fs ≡ without q es → count ≡ length es → there ≡ true → count - 1 ≡ length fs
  cut_count count h is many has =
      let with_it : length (before q es) + 1 + length (behind q es) ≡ length es = ap (λ b. length (before q es) + cond b 1 0 + length (behind q es)) (sym has) ∙ counted in
      omega (arith, with_it, ap length (is ∙ without-place q es h), length-append (before q es) (behind q es))

-- ---- how an entry is written

-- a length, written byte by byte
pub length_laid : (n k : ℕ) (old mid new : List ℕ) → mid ≡ old ++ replicate k 255 → k ≡ n / 255 → new ≡ mid ++ (n % 255) ∷ [] → new ≡ old ++ packed_length n
unfolding packed_length
length_laid n k old mid new so_far whole last =
    last ∙ ap (λ l. l ++ (n % 255) ∷ []) so_far ∙ append_assoc old (replicate k 255) ((n % 255) ∷ [])
    ∙ ap (λ j. old ++ (replicate j 255 ++ (n % 255) ∷ [])) whole

-- a length below 255 takes one byte
short_length : (n : ℕ) → n < 255 → packed_length n ≡ n ∷ []
unfolding packed_length
short_length n lt =
    let none : n / 255 ≡ 0 = omega arith in
    let all : n % 255 ≡ n = omega arith in
    (λ i. replicate (none i) 255 ++ (all i) ∷ [])

-- such a length, written
pub short_laid : (n byte : ℕ) (old mid new : List ℕ) → n < 255 → byte ≡ n → mid ≡ old → new ≡ mid ++ byte ∷ [] → new ≡ old ++ packed_length n
short_laid n byte old mid new lt is same written =
    written ∙ (λ i. same i ++ (is i) ∷ []) ∙ ap (λ l. old ++ l) (sym (short_length n lt))

-- a key of fewer than 255 bytes that isn't a usual one
pub unusual_packed : (mark byte : ℕ) (key : List ℕ) → None ≡ number_of (mark ∷ key) → length key < 254 → byte ≡ length key + 1 → byte ∷ mark ∷ key ≡ packed_key (mark ∷ key)
unfolding packed_text
unusual_packed mark byte key e short is =
    let count : byte ≡ suc (length key) = omega arith in
    ap (λ b. b ∷ mark ∷ key) count ∙ ap (λ l. l ++ (mark ∷ key)) (sym (short_length (suc (length key)) (omega arith))) ∙ ap (λ o. packed_as o (mark ∷ key)) e

-- a key, written piece by piece
pub key_laid : (mark : ℕ) (key b0 b1 b2 b3 : List ℕ) → None ≡ number_of (mark ∷ key) → b1 ≡ b0 ++ packed_length (length key + 1) → b2 ≡ b1 ++ mark ∷ [] → b3 ≡ b2 ++ key → b3 ≡ b0 ++ packed_key (mark ∷ key)
unfolding packed_text
key_laid mark key b0 b1 b2 b3 e e1 e2 e3 =
    let one_more : length key + 1 ≡ suc (length key) = omega arith in
    let front : List ℕ = packed_length (suc (length key)) in
    let laid : (((b0 ++ front) ++ mark ∷ []) ++ key) ≡ b0 ++ (front ++ (mark ∷ key)) = simp (append_assoc) in
    e3 ∙ ap (λ l. l ++ key) (e2 ∙ ap (λ l. l ++ mark ∷ []) (e1 ∙ ap (λ n. b0 ++ packed_length n) one_more)) ∙ laid ∙ ap (λ o. b0 ++ packed_as o (mark ∷ key)) e

-- an entry, written piece by piece
pub entry_laid : (q value b0 b1 b2 b3 : List ℕ) → b1 ≡ b0 ++ packed_key q → b2 ≡ b1 ++ packed_length (length value) → b3 ≡ b2 ++ value → b3 ≡ b0 ++ packed ((q, value) ∷ [])
unfolding packed_text
entry_laid q value b0 b1 b2 b3 e1 e2 e3 =
    let front : List ℕ = packed_key q in
    let count : List ℕ = packed_length (length value) in
    let laid : (((b0 ++ front) ++ count) ++ value) ≡ b0 ++ (front ++ ((count ++ value) ++ [])) = simp (append_assoc, append-nil) in
    e3 ∙ ap (λ l. l ++ value) (e2 ∙ ap (λ l. l ++ count) e1) ∙ laid

pub short_entry_laid : (one two : ℕ) (key value b0 b1 b2 b3 b4 b5 : List ℕ) → b1 ≡ b0 ++ one ∷ [] → b2 ≡ b1 ++ two ∷ [] → b3 ≡ b2 ++ key → b4 ≡ b3 ++ packed_length (length value) → b5 ≡ b4 ++ value
    → b5 ≡ b0 ++ ((one ∷ two ∷ key) ++ packed_text value)
unfolding packed_text
short_entry_laid one two key value b0 b1 b2 b3 b4 b5 e1 e2 e3 e4 e5 =
    let count : List ℕ = packed_length (length value) in
    let laid : (((((b0 ++ one ∷ []) ++ two ∷ []) ++ key) ++ count) ++ value) ≡ b0 ++ ((one ∷ two ∷ key) ++ (count ++ value)) = simp (append_assoc) in
    e5 ∙ ap (λ l. l ++ value) (e4 ∙ ap (λ l. l ++ count) (e3 ∙ ap (λ l. l ++ key) (e2 ∙ ap (λ l. l ++ two ∷ []) e1))) ∙ laid

-- ---- how an entry is written over others

-- a text, written over what stands behind the front
over : (at past : ℕ) (text front b0 b1 b2 : List ℕ) → length front ≡ at → past ≡ at + length text → b1 ≡ front ++ drop at b0 → b2 ≡ take at b1 ++ (text ++ drop past b1) → b2 ≡ (front ++ text) ++ drop past b0
over at past text front b0 b1 b2 long sum before is =
    let kept : take at b1 ≡ front = ap (take at) before ∙ take_at front (drop at b0) at long in
    let rest : drop past b1 ≡ drop past b0 = ap (drop past) before ∙ drop-append-drop at b0 front past (omega arith) long in
    is ∙ (λ i. kept i ++ (text ++ rest i)) ∙ sym (append_assoc front text (drop past b0))

-- an entry of which each length takes one byte, written over others piece by piece, and what is left of those cut out
module _ (mark one two start end : ℕ) (key value b0 b1 b2 b3 b4 b5 : List ℕ) where
  abbrev at_key : ℕ
  at_key = start + 2

  abbrev at_length : ℕ
  at_length = at_key + length key

  abbrev at_value : ℕ
  at_value = at_length + 1

  abbrev past_entry : ℕ
  past_entry = at_value + length value

  pub within_laid : length value < 255 → two ≡ length value → past_entry ≤ end → end ≤ length b0
      → b1 ≡ take start b0 ++ ((one ∷ mark ∷ []) ++ drop at_key b0) → b2 ≡ take at_key b1 ++ (key ++ drop at_length b1)
      → b3 ≡ take at_length b2 ++ ((two ∷ []) ++ drop at_value b2) → b4 ≡ take at_value b3 ++ (value ++ drop past_entry b3)
      → b5 ≡ take past_entry b4 ++ drop end b4 → b5 ≡ (take start b0 ++ ((one ∷ mark ∷ key) ++ packed_text value)) ++ drop end b0
  unfolding packed_text
  within_laid short_value two_is fits in_range e1 e2 e3 e4 e5 =
      let f0 : List ℕ = take start b0 in
      let f1 : List ℕ = f0 ++ (one ∷ mark ∷ []) in
      let f2 : List ℕ = f1 ++ key in
      let f3 : List ℕ = f2 ++ (two ∷ []) in
      let f4 : List ℕ = f3 ++ value in
      let n0 : length f0 ≡ start = omega (arith, length-take start b0) in
      let n1 : length f1 ≡ at_key = omega (arith, length-append f0 (one ∷ mark ∷ [])) in
      let n2 : length f2 ≡ at_length = omega (arith, length-append f1 key) in
      let n3 : length f3 ≡ at_value = omega (arith, length-append f2 (two ∷ [])) in
      let n4 : length f4 ≡ past_entry = omega (arith, length-append f3 value) in
      let w1 : b1 ≡ f1 ++ drop at_key b0 = over start at_key (one ∷ mark ∷ []) f0 b0 b0 b1 n0 refl (sym (take-append-drop start b0)) e1 in
      let w2 : b2 ≡ f2 ++ drop at_length b0 = over at_key at_length key f1 b0 b1 b2 n1 refl w1 e2 in
      let w3 : b3 ≡ f3 ++ drop at_value b0 = over at_length at_value (two ∷ []) f2 b0 b2 b3 n2 refl w2 e3 in
      let w4 : b4 ≡ f4 ++ drop past_entry b0 = over at_value past_entry value f3 b0 b3 b4 n3 refl w3 e4 in
      let kept : take past_entry b4 ≡ f4 = ap (take past_entry) w4 ∙ take_at f4 (drop past_entry b0) past_entry n4 in
      let rest : drop end b4 ≡ drop end b0 = ap (drop end) w4 ∙ drop-append-drop past_entry b0 f4 end fits n4 in
      let value_length : two ∷ [] ≡ packed_length (length value) = ap (λ n. n ∷ []) two_is ∙ sym (short_length (length value) short_value) in
      let laid : (((f0 ++ (one ∷ mark ∷ [])) ++ key) ++ packed_length (length value)) ++ value ≡ f0 ++ ((one ∷ mark ∷ key) ++ (packed_length (length value) ++ value)) = simp (append_assoc) in
      let entry : f4 ≡ f0 ++ ((one ∷ mark ∷ key) ++ (packed_length (length value) ++ value)) = ap (λ l. (f2 ++ l) ++ value) value_length ∙ laid in
      e5 ∙ (λ i. (kept ∙ entry) i ++ rest i)

-- ---- bytes that begin as before

pub begun_more : (front more bytes : List ℕ) → bytes ≡ front ++ more → IsBegunBy front bytes
begun_more front more bytes is = ap (take (length front)) is ∙ take-append_seam front more

pub begun_same : (front bytes new : List ℕ) → new ≡ bytes → IsBegunBy front bytes → IsBegunBy front new
begun_same front bytes new is begun = ap (take (length front)) is ∙ begun

pub begun_on : (front bytes new : List ℕ) → IsBegunBy front bytes → IsBegunBy bytes new → IsBegunBy front new
begun_on front bytes new one two =
    let fits : length front ≤ length bytes = omega (arith, ap length one, length-take (length front) bytes) in
    let split : new ≡ bytes ++ drop (length bytes) new = sym (take-append-drop (length bytes) new) ∙ ap (λ l. l ++ drop (length bytes) new) two in
    ap (take (length front)) split ∙ take-append-le (length front) bytes (drop (length bytes) new) fits ∙ one

-- what holds anyway holds where memory runs out
pub on_err : {A E P : Type 0} (r : Result A E) → P → OnErr r P
on_err (Ok x) p = tt
on_err (Err e) p = p

-- ---- the map of packed entries

-- there are no more entries than bytes
pub count_fits : (bytes : List ℕ) → IsPacked bytes → length (entries_in bytes) ≤ length bytes
count_fits bytes is_packed = omega (arith, length-packed (entries_in bytes), ap length is_packed)

-- a value is got at the place of its key
pub get-place : (q : List ℕ) (es : List (List ℕ × List ℕ)) → T (is_sorted text_cmp es) → value_at q es ≡ get (from_sorted {R = text_cmp} es) q
get-place q es h = sym (find-place q es h) ∙ sym (get-from_sorted text_cmp es q h)

not_some : (o : Option (List ℕ)) → is_some o ≡ false → o ≡ None
not_some None e = refl
not_some (Some v) e = absurd (cc)

-- a key that isn't there is taken away
pub without_missing : (q : List ℕ) (es : List (List ℕ × List ℕ)) → T (is_sorted text_cmp es) → is_some (value_at q es) ≡ false → es ≡ without q es
without_missing q es h missing = sym (without_none q es (find-place q es h ∙ not_some _ missing))

-- a key is there if its place has a value
pub there-place : (q : List ℕ) (es : List (List ℕ × List ℕ)) (m : FinMap {K = List ℕ} text_cmp (List ℕ)) → T (is_sorted text_cmp es) → from_sorted es ≡ m → is_some (value_at q es) ≡ contains_key m q
there-place q es m h is = ap is_some (get-place q es h) ∙ ap (λ n. contains_key n q) is

-- ---- entries listed one by one

pub listed : {A E : Type 0} (f : A → E) (xs ys : List A) (x : A) (rest all : List E) (e : E) → ys ≡ xs ++ x ∷ [] → f x ≡ e → map f xs ++ e ∷ rest ≡ all → map f ys ++ rest ≡ all
listed f xs ys x rest all e is same so_far =
    ap (λ l. map f l ++ rest) is ∙ ap (λ l. l ++ rest) (map-append f xs (x ∷ [])) ∙ append_assoc (map f xs) (f x ∷ []) rest
    ∙ ap (λ y. map f xs ++ y ∷ rest) same ∙ so_far

-- how many entries the map has
pub len-packed : (es : List (List ℕ × List ℕ)) (m : FinMap {K = List ℕ} text_cmp (List ℕ)) → T (is_sorted text_cmp es) → from_sorted es ≡ m → length es ≡ len m
len-packed es m h is = ap length (sym (entries-from_sorted text_cmp es h) ∙ ap entries is) ∙ sym (len-entries m)
