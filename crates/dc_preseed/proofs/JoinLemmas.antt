-- Lines that are joined one after another are what they are as a whole.
use Rattle.std.proofs.Common.{◌≡◌, ℕ, ◌+◌, ◌≤◌, ◌<◌, Bool, true, false, cond, List, [], ◌∷◌, ◌++◌, length, leb, refl, sym, ap, subst, ◌∙◌, append_assoc, length-append, arith, inl, inr, Option, Some, None}
use Rattle.std.specs.Prelude.{◌||◌, ◌↔◌}
use Rattle.std.specs.List.{list_any, flat_map, concat}
use Rattle.std.specs.Io.BufRead.{strip_last}
use Rattle.std.specs.Option.{option_to_list}
use Rattle.std.proofs.lemmas.Bool.{cases_Bool, cases_lt, lt-leb, le-leb}
use Rattle.std.proofs.lemmas.Grind.{flat_map-append}
use Rattle.std.proofs.lemmas.List.{append-nil}
use Rattle.std.proofs.lemmas.List.Folds.{list_any-append}
use Rattle.dc_text.specs.Ascii.{backslash}
use Rattle.dc_words.proofs.StreamLemmas.{cut_anyway as pieces_are_cut_anyway}
use Rattle.dc_words.specs.Stream.{line_of, line_of_rest, all_lines, lines_by_pieces, rest_by_pieces, AreCutAnyway}
use Rattle.dc_words.specs.declared.stream.Line.{Line}
use Rattle.dc_words.specs.declared.stream.Line.TheVariants.{Whole, TooLong}
use Rattle.dc_preseed.specs.declared.joining.Joined.{Joined}
use Rattle.dc_preseed.specs.Joining.{goes_on, is_alone, bytes_given, is_too_long, joined, as_one, GoOn, AreOne, counted, AreJoined}
use Rattle.dc_preseed.specs.Joiner.{Joining, Taken, with_part, continued, begun, ends, holds, taken, given, after, all_joined}

-- ---- some lines as one

line-at : (most : ℕ) (bytes : List ℕ) → length bytes ≤ most → cond (leb (length bytes) most) (Whole bytes) TooLong ≡ Whole bytes
line-at most bytes short = rw (le-leb (length bytes) most short) refl

long-at : (most : ℕ) (bytes : List ℕ) → most < length bytes → cond (leb (length bytes) most) (Whole bytes) TooLong ≡ TooLong
long-at most bytes long = rw (lt-leb (length bytes) most long) refl

with_too_long : (line : Line) → with_part line TooLong ≡ TooLong
with_too_long (Whole bytes) = refl
with_too_long TooLong = refl

with_whole : (bytes more : List ℕ) → with_part (line_of bytes) (Whole more) ≡ line_of (bytes ++ strip_last backslash more)
with_whole bytes more = elim (cases_lt 1048576 (length bytes)) [
  | inl long ↦
      let longer : 1048576 < length (bytes ++ strip_last backslash more) = omega (arith, length-append bytes (strip_last backslash more)) in
      ap (λ (line : Line). with_part line (Whole more)) (long-at 1048576 bytes long) ∙ sym (long-at 1048576 (bytes ++ strip_last backslash more) longer)
  | inr short ↦ ap (λ (line : Line). with_part line (Whole more)) (line-at 1048576 bytes short)
]

with_one : (bytes : List ℕ) (is_long : Bool) (line : Line) → with_part (cond is_long TooLong (line_of bytes)) line
    ≡ cond (is_long || (is_too_long line || false)) TooLong (line_of (bytes ++ bytes_given line))
with_one bytes true line = refl
with_one bytes false (Whole more) = with_whole bytes more
with_one bytes false TooLong = with_too_long (line_of bytes)

-- a further line behind some
pub joined-push : (lines : List Line) (line : Line) → with_part (joined lines) line ≡ joined (lines ++ line ∷ [])
joined-push lines line =
    let any_is : list_any is_too_long (lines ++ line ∷ []) ≡ (list_any is_too_long lines || (is_too_long line || false)) = list_any-append is_too_long lines (line ∷ []) in
    let all_is : flat_map bytes_given (lines ++ line ∷ []) ≡ flat_map bytes_given lines ++ bytes_given line =
    flat_map-append bytes_given lines (line ∷ []) ∙ ap (λ (bytes : List ℕ). flat_map bytes_given lines ++ bytes) (append-nil (bytes_given line)) in
    with_one (flat_map bytes_given lines) (list_any is_too_long lines) line
    ∙ ap (λ (bytes : List ℕ). cond (list_any is_too_long lines || (is_too_long line || false)) TooLong (line_of bytes)) (sym all_is)
    ∙ ap (λ b. cond b TooLong (line_of (flat_map bytes_given (lines ++ line ∷ [])))) (sym any_is)

-- ---- lines that are held

abbrev AllGoOn : List Line → Type 0
AllGoOn [] = Unit {0}
AllGoOn (line ∷ lines) = (goes_on line ≡ true) × AllGoOn lines

-- the first isn't alone, and the others go on
abbrev AreHeld : List Line → Type 0
AreHeld [] = Unit {0}
AreHeld (line ∷ lines) = (is_alone line ≡ false) × AllGoOn lines

abbrev held_by : ℕ → List Line → Option Joined
held_by n [] = None
held_by n (line ∷ lines) = Some (record { first = counted n; whole = joined (line ∷ lines) })

all-push : (lines : List Line) (line : Line) → AllGoOn lines → goes_on line ≡ true → AllGoOn (lines ++ line ∷ [])
all-push [] line all on = (on, tt)
all-push (l ∷ lines) line all on = (all.0, all-push lines line all.1 on)

go_on-end : (line : Line) (lines : List Line) → AllGoOn (line ∷ lines) → GoOn (line ∷ lines) []
go_on-end line [] all = inr refl
go_on-end line (next ∷ lines) all = (all.0, go_on-end next lines all.1)

go_on-push : (lines : List Line) (line : Line) (rest : List Line) → AllGoOn lines → goes_on line ≡ false → GoOn (lines ++ line ∷ []) rest
go_on-push [] line rest all off = inl off
go_on-push (l ∷ []) line rest all off = (all.0, inl off)
go_on-push (l ∷ m ∷ lines) line rest all off = (all.0, go_on-push (m ∷ lines) line rest all.1 off)

are_one-end : (line : Line) (lines : List Line) → AreHeld (line ∷ lines) → AreOne (line ∷ lines) []
are_one-end line [] held = inr refl
are_one-end line (next ∷ lines) held = (held.0, go_on-end next lines held.1)

are_one-push : (first : Line) (lines : List Line) (line : Line) (rest : List Line) → AreHeld (first ∷ lines) → goes_on line ≡ false
    → AreOne (first ∷ (lines ++ line ∷ [])) rest
are_one-push first [] line rest held off = (held.0, inl off)
are_one-push first (l ∷ lines) line rest held off = (held.0, go_on-push (l ∷ lines) line rest held.1 off)

as_one-several : (line : Line) (lines : List Line) → is_alone line ≡ false → as_one (line ∷ lines) ≡ joined (line ∷ lines)
as_one-several line lines several = ap (λ b. cond b line (joined (line ∷ lines))) several

-- ---- one line after another

abbrev at : ℕ → Option Joined → Joining
at count held = record { count = count; held = held }

abbrev all_from : Joining → List Line → List Joined
all_from joining lines = given joining lines ++ option_to_list (after joining lines).held

abbrev all_behind : Taken → List Line → List Joined
all_behind t lines = (option_to_list t.whole ++ given t.joining lines) ++ option_to_list (after t.joining lines).held

run : (lines group : List Line) (n count : ℕ) → AreHeld group → counted (count + 1) ≡ counted (n + length group)
    → AreJoined n (group ++ lines) (all_from (at count (held_by n group)) lines)
run [] [] n count held e = refl
run [] (x ∷ xs) n count held e =
    (x ∷ xs, [], refl, are_one-end x xs held, ap (λ (w : Line). record { first = counted n; whole = w }) (sym (as_one-several x xs held.0)), refl)
run (l ∷ lines) [] n count held e =
    let number : ℕ = counted (count + 1) in
    let numbered : number ≡ counted n = omega (arith, e) in
    let alone : Taken = ends number (record { first = number; whole = l }) in
    let several : Taken = holds number (begun number l) in
    elim (cases_Bool (is_alone l)) as (λ _. AreJoined n (l ∷ lines) (all_behind (cond (is_alone l) alone several) lines)) [
      | inl has ↦ subst (λ b. AreJoined n (l ∷ lines) (all_behind (cond b alone several) lines)) (sym has) (
        l ∷ [],
        lines,
        refl,
        inl has,
        (λ i. record { first = numbered i; whole = cond (sym has i) l (joined (l ∷ [])) }),
        run lines [] (n + length (l ∷ [])) number tt (omega (arith, e)),
      )
      | inr lacks ↦
          let same : held_by n (l ∷ []) ≡ Some (begun number l) = λ i. Some (record { first = sym numbered i; whole = sym (joined-push [] l) i }) in
          subst (λ b. AreJoined n (l ∷ lines) (all_behind (cond b alone several) lines)) (sym lacks)
          (subst (λ o. AreJoined n (l ∷ lines) (all_from (at number o) lines)) same (run lines (l ∷ []) n number (lacks, tt) (omega (arith, e))))
    ]
run (l ∷ lines) (x ∷ xs) n count held e =
    let number : ℕ = counted (count + 1) in
    let group : List Line = x ∷ (xs ++ l ∷ []) in
    let one : Joined = continued (record { first = counted n; whole = joined (x ∷ xs) }) l in
    let long : length (xs ++ l ∷ []) ≡ length xs + 1 = length-append xs (l ∷ []) in
    elim (cases_Bool (goes_on l)) as (λ _. AreJoined n ((x ∷ xs) ++ l ∷ lines) (all_behind (cond (goes_on l) (holds number one) (ends number one)) lines)) [
      | inl has ↦
          let same : held_by n group ≡ Some one = λ i. Some (record { first = counted n; whole = sym (joined-push (x ∷ xs) l) i }) in
          subst (λ b. AreJoined n ((x ∷ xs) ++ l ∷ lines) (all_behind (cond b (holds number one) (ends number one)) lines)) (sym has)
          (subst (λ o. AreJoined n ((x ∷ xs) ++ l ∷ lines) (all_from (at number o) lines)) same
          (subst (λ ls. AreJoined n ls (all_from (at number (held_by n group)) lines)) (append_assoc (x ∷ xs) (l ∷ []) lines)
          (run lines group n number (held.0, all-push xs l held.1 has) (omega (arith, e, long)))))
      | inr lacks ↦ subst (λ b. AreJoined n ((x ∷ xs) ++ l ∷ lines) (all_behind (cond b (holds number one) (ends number one)) lines)) (sym lacks) (
        group,
        lines,
        sym (append_assoc (x ∷ xs) (l ∷ []) lines),
        are_one-push x xs l lines held lacks,
        ap (λ (w : Line). record { first = counted n; whole = w }) (joined-push (x ∷ xs) l ∙ sym (as_one-several x (xs ++ l ∷ []) held.0)),
        run lines [] (n + length group) number tt (omega (arith, e, long)),
      )
    ]

-- ---- lines are joined in one way

go_on_one : (g h rest more : List Line) → GoOn g rest → GoOn h more → g ++ rest ≡ h ++ more → (g ≡ h) × (rest ≡ more)
go_on_one [] h rest more a b e = absurd a
go_on_one (x ∷ xs) [] rest more a b e = absurd b
go_on_one (x ∷ []) (y ∷ []) rest more a b e = let head : x ≡ y = cc in let tail : rest ≡ more = cc in (ap (λ (l : Line). l ∷ []) head, tail)
go_on_one (x ∷ []) (y ∷ z ∷ zs) rest more a b e =
    let head : x ≡ y = cc in
    let tail : rest ≡ z ∷ (zs ++ more) = cc in
    absurd (elim a [
      | inl off ↦ let both : true ≡ false = sym b.0 ∙ ap goes_on (sym head) ∙ off in cc
      | inr none ↦ let both : [] ≡ z ∷ (zs ++ more) = sym none ∙ tail in cc
    ])
go_on_one (x ∷ w ∷ ws) (y ∷ []) rest more a b e =
    let head : x ≡ y = cc in
    let tail : w ∷ (ws ++ rest) ≡ more = cc in
    absurd (elim b [
      | inl off ↦ let both : true ≡ false = sym a.0 ∙ ap goes_on head ∙ off in cc
      | inr none ↦ let both : [] ≡ w ∷ (ws ++ rest) = sym none ∙ sym tail in cc
    ])
go_on_one (x ∷ w ∷ ws) (y ∷ z ∷ zs) rest more a b e =
    let head : x ≡ y = cc in
    let tail : (w ∷ ws) ++ rest ≡ (z ∷ zs) ++ more = cc in
    let both = go_on_one (w ∷ ws) (z ∷ zs) rest more a.1 b.1 tail in
    (λ i. head i ∷ both.0 i, both.1)

are_one_one : (g h rest more : List Line) → AreOne g rest → AreOne h more → g ++ rest ≡ h ++ more → (g ≡ h) × (rest ≡ more)
are_one_one [] h rest more a b e = absurd a
are_one_one (x ∷ xs) [] rest more a b e = absurd b
are_one_one (x ∷ []) (y ∷ []) rest more a b e = let head : x ≡ y = cc in let tail : rest ≡ more = cc in (ap (λ (l : Line). l ∷ []) head, tail)
are_one_one (x ∷ []) (y ∷ z ∷ zs) rest more a b e =
    let head : x ≡ y = cc in
    let tail : rest ≡ z ∷ (zs ++ more) = cc in
    absurd (elim a [
      | inl alone ↦ let both : true ≡ false = sym alone ∙ ap is_alone head ∙ b.0 in cc
      | inr none ↦ let both : [] ≡ z ∷ (zs ++ more) = sym none ∙ tail in cc
    ])
are_one_one (x ∷ w ∷ ws) (y ∷ []) rest more a b e =
    let head : x ≡ y = cc in
    let tail : w ∷ (ws ++ rest) ≡ more = cc in
    absurd (elim b [
      | inl alone ↦ let both : true ≡ false = sym alone ∙ ap is_alone (sym head) ∙ a.0 in cc
      | inr none ↦ let both : [] ≡ w ∷ (ws ++ rest) = sym none ∙ sym tail in cc
    ])
are_one_one (x ∷ w ∷ ws) (y ∷ z ∷ zs) rest more a b e =
    let head : x ≡ y = cc in
    let tail : (w ∷ ws) ++ rest ≡ (z ∷ zs) ++ more = cc in
    let both = go_on_one (w ∷ ws) (z ∷ zs) rest more a.1 b.1 tail in
    (λ i. head i ∷ both.0 i, both.1)

not_none : (group rest : List Line) → AreOne group rest → [] ≡ group ++ rest → ⊥
not_none [] rest one e = one
not_none (x ∷ xs) rest one e = cc

joined_once : (js ks : List Joined) (n : ℕ) (lines : List Line) → AreJoined n lines js → AreJoined n lines ks → js ≡ ks
joined_once [] [] n lines a b = refl
joined_once [] (k ∷ ks) n lines a b = absurd (not_none b.0 b.1 b.3 (sym a ∙ b.2))
joined_once (j ∷ js) [] n lines a b = absurd (not_none a.0 a.1 a.3 (sym b ∙ a.2))
joined_once (j ∷ js) (k ∷ ks) n lines a b =
    let both = are_one_one a.0 b.0 a.1 b.1 a.3 b.3 (sym a.2 ∙ b.2) in
    let heads : j ≡ k = a.4 ∙ ap (λ g. record { first = counted n; whole = as_one g }) both.0 ∙ sym b.4 in
    let tails : js ≡ ks = joined_once js ks (n + length a.0) a.1 a.5
    (subst (λ ls. AreJoined (n + length a.0) ls ks) (sym both.1) (subst (λ g. AreJoined (n + length g) b.1 ks) (sym both.0) b.5)) in
    λ i. heads i ∷ tails i

joined_all : (lines : List Line) → AreJoined 1 lines (all_joined lines)
joined_all lines = run lines [] 1 0 tt refl

pub joined_one : (lines : List Line) (all : List Joined) → AreJoined 1 lines all ↔ (all ≡ all_joined lines)
joined_one lines all = (
  λ are. joined_once all (all_joined lines) 1 lines are (joined_all lines),
  λ same. subst (AreJoined 1 lines) (sym same) (joined_all lines),
)

-- ---- pieces, and further lines

pub cut_anyway : (pieces : List (List ℕ)) → AreJoined 1 (all_lines (concat pieces)) (all_joined (lines_by_pieces [] pieces ++ line_of_rest (rest_by_pieces [] pieces)))
cut_anyway pieces =
    let cut : AreCutAnyway pieces = pieces_are_cut_anyway pieces in
    let same : all_lines (concat pieces) ≡ lines_by_pieces [] pieces ++ line_of_rest (rest_by_pieces [] pieces) =
    λ i. sym cut.lines i ++ line_of_rest (sym cut.rest i) in
    subst (λ lines. AreJoined 1 (all_lines (concat pieces)) (all_joined lines)) same (joined_all (all_lines (concat pieces)))

pub given-append : (joining : Joining) (lines more : List Line) → given joining (lines ++ more) ≡ given joining lines ++ given (after joining lines) more
given-append joining [] more = refl
given-append joining (line ∷ lines) more =
    let t : Taken = taken joining line in
    ap (λ (l : List Joined). option_to_list t.whole ++ l) (given-append t.joining lines more)
    ∙ sym (append_assoc (option_to_list t.whole) (given t.joining lines) (given (after t.joining lines) more))

pub after-append : (joining : Joining) (lines more : List Line) → after joining (lines ++ more) ≡ after (after joining lines) more
after-append joining [] more = refl
after-append joining (line ∷ lines) more = after-append (taken joining line).joining lines more
