-- Choices that are split, and those that are joined.
use Rattle.std.proofs.Common.{◌≡◌, ℕ, suc, ◌-◌, ◌≤◌, length, get_or, take, drop, arith, Bool, true, false, cond, not, ◌&&◌, List, [], ◌∷◌, ◌++◌, map, Some, None, Option, refl, sym, ap, ◌∙◌, append_assoc}
use Rattle.std.specs.Prelude.{◌==◌, ◌||◌, ◌≢◌, is_none, option_to_list}
use Rattle.std.specs.List.{list_all, flat_map, AllByRecursion}
use Rattle.std.proofs.lemmas.List.{append-nil, map-append}
use Rattle.std.proofs.lemmas.List.Splits.{slice_split_none, slice_split_at}
use Rattle.std.proofs.lemmas.List.Elements.{All-from_recursion}
use Rattle.std.proofs.lemmas.Bool.Decides.{nat_tests}
use Rattle.dc_text.proofs.LineLemmas.{to_end}
use Rattle.dc_text.specs.Bytes.{drop_front, is_nil}
use Rattle.dc_words.specs.Words.{some_word}
use Rattle.dc_words.specs.Choices.{is_gap, spells_next, gap_next, symbols, pieces, choices_of, choice_text, joined, ends_open, IsChoice}

-- ---- what a text says

-- whitespace that is passed over may go first
pub symbols_skip : (bytes : List ℕ) → symbols true bytes ≡ symbols false (drop_front is_gap bytes)
symbols_skip [] = refl
symbols_skip (b ∷ []) = elim (is_gap b) as (λ t. cond t [] (Some b ∷ []) ≡ symbols false (cond t [] (b ∷ []))) [ true ↦ refl | false ↦ refl ]
symbols_skip (b ∷ c ∷ bytes) = elim (is_gap b) as (λ t. cond t (symbols true (c ∷ bytes)) (symbols false (b ∷ c ∷ bytes)) ≡ symbols false (cond t (drop_front is_gap (c ∷ bytes)) (b ∷ c ∷ bytes))) [
  | true ↦ symbols_skip (c ∷ bytes)
  | false ↦ refl
]

pub symbols_escape : (n : ℕ) (rest : List ℕ) → (n == 44 || n == 32) ≡ true → symbols false (92 ∷ n ∷ rest) ≡ Some n ∷ symbols false rest
symbols_escape n rest e = ap (λ t. cond t (Some n ∷ symbols false rest) (Some 92 ∷ symbols false (n ∷ rest))) e

pub symbols_comma : (n : ℕ) (rest : List ℕ) → is_gap n ≡ true → symbols false (44 ∷ n ∷ rest) ≡ None ∷ symbols false (drop_front is_gap rest)
symbols_comma n rest e =
    ap (λ t. cond t (None ∷ symbols true (n ∷ rest)) (Some 44 ∷ symbols false (n ∷ rest))) e
    ∙ ap (λ (s : List (Option ℕ)). None ∷ s) (symbols_skip (n ∷ rest) ∙ ap (λ t. symbols false (cond t (drop_front is_gap rest) (n ∷ rest))) e)

-- any other byte says itself
pub symbols_plain : (b : ℕ) (rest : List ℕ) → (b == 92 && spells_next rest) ≡ false → (b == 44 && gap_next rest) ≡ false → symbols false (b ∷ rest) ≡ Some b ∷ symbols false rest
symbols_plain b [] e g = refl
symbols_plain b (n ∷ rest) e g =
    ap (λ t. cond t (Some n ∷ symbols false rest) (cond (b == 44 && is_gap n) (None ∷ symbols true (n ∷ rest)) (Some b ∷ symbols false (n ∷ rest)))) e
    ∙ ap (λ t. cond t (None ∷ symbols true (n ∷ rest)) (Some b ∷ symbols false (n ∷ rest))) g

-- a backslash before a byte that it spells
pub says_spelled : (text rest : List ℕ) → text ≡ 92 ∷ rest → spells_next rest ≡ true → symbols false text ≡ Some (get_or rest 0 0) ∷ symbols false (take (length rest - 1) (drop 1 rest))
says_spelled text [] is e = absurd (cc)
says_spelled text (n ∷ rest) is e = ap (symbols false) is ∙ symbols_escape n rest e ∙ ap (λ r. Some n ∷ symbols false r) (sym (to_end 1 (n ∷ rest)))

pub says_parted : (text rest : List ℕ) → text ≡ 44 ∷ rest → gap_next rest ≡ true → symbols false text ≡ None ∷ symbols false (drop_front is_gap rest)
says_parted text [] is e = absurd (cc)
says_parted text (n ∷ rest) is e = ap (symbols false) is ∙ symbols_comma n rest e ∙ ap (λ t. None ∷ symbols false (cond t (drop_front is_gap rest) (n ∷ rest))) (sym e)

pub says_plain : (text rest : List ℕ) (b : ℕ) → text ≡ b ∷ rest → (b == 92 && spells_next rest) ≡ false → (b == 44 && gap_next rest) ≡ false → symbols false text ≡ Some b ∷ symbols false rest
says_plain text rest b is e g = ap (symbols false) is ∙ symbols_plain b rest e g

pub drop_front-shorter : (p : ℕ → Bool) (bytes : List ℕ) → length (drop_front p bytes) ≤ length bytes
drop_front-shorter p [] = omega arith
drop_front-shorter p (b ∷ bytes) = let more : length (drop_front p bytes) ≤ length bytes = drop_front-shorter p bytes in
    elim (p b) as (λ t. length (cond t (drop_front p bytes) (b ∷ bytes)) ≤ suc (length bytes)) [ true ↦ omega arith | false ↦ omega arith ]

-- ---- the choices that begin with some bytes

plain_all : (piece : List ℕ) → AllByRecursion (λ s. is_none s ≡ false) (map (λ (b : ℕ). Some b) piece)
plain_all [] = tt
plain_all (b ∷ piece) = (refl, plain_all piece)

bytes_again : (piece : List ℕ) → flat_map option_to_list (map (λ (b : ℕ). Some b) piece) ≡ piece
bytes_again [] = refl
bytes_again (b ∷ piece) = ap (λ (p : List ℕ). b ∷ p) (bytes_again piece)

abbrev word_of : List (Option ℕ) → List (List ℕ)
word_of part = some_word (flat_map option_to_list part)

-- the choices, where these bytes stand before what is said
abbrev pub pieces_from : List ℕ → List (Option ℕ) → List (List ℕ)
pieces_from piece said = pieces (map (λ (b : ℕ). Some b) piece ++ said)

pub pieces_byte : (piece : List ℕ) (b : ℕ) (said : List (Option ℕ)) → pieces_from piece (Some b ∷ said) ≡ pieces_from (piece ++ b ∷ []) said
pieces_byte piece b said = ap pieces (sym (ap (λ (s : List (Option ℕ)). s ++ said) (map-append (λ (b : ℕ). Some b) piece (b ∷ [])) ∙ append_assoc (map (λ (b : ℕ). Some b) piece) (Some b ∷ []) said))

pub pieces_parted : (piece : List ℕ) (said : List (Option ℕ)) → pieces_from piece (None ∷ said) ≡ some_word piece ++ pieces_from [] said
pieces_parted piece said =
    ap (flat_map word_of) (slice_split_at is_none (map (λ (b : ℕ). Some b) piece) None said (All-from_recursion (λ s. is_none s ≡ false) (map (λ (b : ℕ). Some b) piece) (plain_all piece)) refl)
    ∙ ap (λ p. some_word p ++ pieces said) (bytes_again piece)

pub pieces_end : (piece : List ℕ) → pieces_from piece [] ≡ some_word piece
pieces_end piece =
    ap pieces (append-nil (map (λ (b : ℕ). Some b) piece))
    ∙ ap (flat_map word_of) (slice_split_none is_none (map (λ (b : ℕ). Some b) piece) (All-from_recursion (λ s. is_none s ≡ false) (map (λ (b : ℕ). Some b) piece) (plain_all piece)))
    ∙ append-nil (word_of (map (λ (b : ℕ). Some b) piece)) ∙ ap some_word (bytes_again piece)

-- a turn of the loop that reads what a text says
pub turn : (choices : List (List ℕ)) (choice : List ℕ) (said : List (Option ℕ)) (all : List (List ℕ)) → choices ++ pieces_from choice (None ∷ said) ≡ all → (choices ++ some_word choice) ++ pieces_from [] said ≡ all
turn choices choice said all e = append_assoc choices (some_word choice) (pieces_from [] said) ∙ ap (λ (p : List (List ℕ)). choices ++ p) (sym (pieces_parted choice said)) ∙ e

pub finish : (choices : List (List ℕ)) (choice : List ℕ) (all : List (List ℕ)) → choices ++ pieces_from choice [] ≡ all → choices ++ some_word choice ≡ all
finish choices choice all e = ap (λ (p : List (List ℕ)). choices ++ p) (sym (pieces_end choice)) ∙ e

pub nil_of : (bytes : List ℕ) → (length bytes == 0) ≡ true → bytes ≡ []
nil_of [] e = refl
nil_of (b ∷ bytes) e = absurd (grind (arith, nat_tests))

-- ---- choices that are joined

-- a byte as it is written in a choice
abbrev writes_escape : Bool → ℕ → List ℕ → Bool
writes_escape edge b bytes = b == 44 || (b == 32 && (edge || is_nil bytes))

-- what follows a choice in a text: nothing, or the comma before the next one
abbrev IsAfter : List ℕ → Type 0
IsAfter [] = Unit {0}
IsAfter (b ∷ bytes) = b ≡ 44

abbrev is_spaced : ℕ → Bool
is_spaced b = not (is_gap b) || b == 32

both : (a b : Bool) → (a && b) ≡ true → (a ≡ true) × (b ≡ true)
both true b e = (refl, e)
both false b e = absurd (cc)

front_false : (a b : Bool) → (a || b) ≡ false → a ≡ false
front_false true b e = absurd (cc)
front_false false b e = refl

and-false : (a : Bool) → (a && false) ≡ false
and-false true = refl
and-false false = refl

spelled_test : (b : ℕ) (edge last : Bool) → (b == 44 || (b == 32 && (edge || last))) ≡ true → (b == 44 || b == 32) ≡ true
spelled_test b edge last e = elim (b == 44) as (λ t. (t || (b == 32 && (edge || last))) ≡ true → (t || b == 32) ≡ true) [
  | true ↦ λ _. refl
  | false ↦ λ f. (both (b == 32) (edge || last) f).0
] e

edge_byte : (b : ℕ) (last : Bool) → (b == 44 || (b == 32 && (true || last))) ≡ false → (b == 44 || b == 32) ≡ false
edge_byte b last e = elim (b == 32) as (λ t. (b == 44 || (t && true)) ≡ false → (b == 44 || t) ≡ false) [ true ↦ λ f. f | false ↦ λ f. f ] e

-- after a backslash that spells itself no byte stands that it would spell
no_spelling : (piece tail : List ℕ) → piece ≢ [] → spells_next (choice_text true piece ++ tail) ≡ false
no_spelling [] tail some = absurd (some refl)
no_spelling (b ∷ piece) tail some = elim (writes_escape true b piece) as (λ t. writes_escape true b piece ≡ t → spells_next (cond t (92 ∷ b ∷ choice_text false piece) (b ∷ choice_text (b == 92) piece) ++ tail) ≡ false) [
  | true ↦ λ e. refl
  | false ↦ λ e. edge_byte b (is_nil piece) e
] refl

ends_later : (b : ℕ) (piece : List ℕ) → ends_open (b ∷ piece) ≡ false → ends_open piece ≡ false
ends_later b [] e = refl
ends_later b (c ∷ piece) e = e

not_last : (b : ℕ) (piece : List ℕ) → (b == 92) ≡ true → ends_open (b ∷ piece) ≡ false → piece ≢ []
not_last b [] is e = λ _. absurd (cc)
not_last b (c ∷ piece) is e = λ f. cc

-- a byte that is written as it is says itself
plain_here : (b : ℕ) (piece tail : List ℕ) → (b == 44) ≡ false → ends_open (b ∷ piece) ≡ false
    → symbols false (b ∷ (choice_text (b == 92) piece ++ tail)) ≡ Some b ∷ symbols false (choice_text (b == 92) piece ++ tail)
plain_here b piece tail comma ends = symbols_plain b (choice_text (b == 92) piece ++ tail)
    (elim (b == 92) as (λ t. (b == 92) ≡ t → (t && spells_next (choice_text t piece ++ tail)) ≡ false) [
      | true ↦ λ is. no_spelling piece tail (not_last b piece is ends)
      | false ↦ λ is. refl
    ] refl)
    (ap (λ t. t && gap_next (choice_text (b == 92) piece ++ tail)) comma)

said : (piece tail : List ℕ) (edge : Bool) → list_all is_spaced piece ≡ true → ends_open piece ≡ false
    → symbols false (choice_text edge piece ++ tail) ≡ map (λ (b : ℕ). Some b) piece ++ symbols false tail
said [] tail edge spaced ends = refl
said (b ∷ piece) tail edge spaced ends =
    let more : list_all is_spaced piece ≡ true = (both (is_spaced b) (list_all is_spaced piece) spaced).1 in
    elim (writes_escape edge b piece) as (λ t. writes_escape edge b piece ≡ t
    → symbols false (cond t (92 ∷ b ∷ choice_text false piece) (b ∷ choice_text (b == 92) piece) ++ tail) ≡ Some b ∷ (map (λ (b : ℕ). Some b) piece ++ symbols false tail)) [
      | true ↦ λ e. symbols_escape b (choice_text false piece ++ tail) (spelled_test b edge (is_nil piece) e) ∙ ap (λ (s : List (Option ℕ)). Some b ∷ s) (said piece tail false more (ends_later b piece ends))
      | false ↦ λ e. plain_here b piece tail (front_false (b == 44) (b == 32 && (edge || is_nil piece)) e) ends
          ∙ ap (λ (s : List (Option ℕ)). Some b ∷ s) (said piece tail (b == 92) more (ends_later b piece ends))
    ] refl

-- a choice's first byte isn't passed over
spaced_gap : (b : ℕ) → is_spaced b ≡ true → (b == 44 || b == 32) ≡ false → is_gap b ≡ false
spaced_gap b e f = grind (arith, nat_tests)

first_byte : (b : ℕ) (bytes : List ℕ) → is_gap b ≡ false → drop_front is_gap (b ∷ bytes) ≡ b ∷ bytes
first_byte b bytes e = ap (λ t. cond t (drop_front is_gap bytes) (b ∷ bytes)) e

no_gap : (piece tail : List ℕ) → list_all is_spaced piece ≡ true → piece ≢ [] → drop_front is_gap (choice_text true piece ++ tail) ≡ choice_text true piece ++ tail
no_gap [] tail spaced some = absurd (some refl)
no_gap (b ∷ piece) tail spaced some = elim (writes_escape true b piece) as (λ t. writes_escape true b piece ≡ t
    → drop_front is_gap (cond t (92 ∷ b ∷ choice_text false piece) (b ∷ choice_text (b == 92) piece) ++ tail) ≡ cond t (92 ∷ b ∷ choice_text false piece) (b ∷ choice_text (b == 92) piece) ++ tail) [
      | true ↦ λ e. refl
      | false ↦ λ e. first_byte b (choice_text (b == 92) piece ++ tail) (spaced_gap b (both (is_spaced b) (list_all is_spaced piece) spaced).0 (edge_byte b (is_nil piece) e))
    ] refl

some_word-some : (piece : List ℕ) → piece ≢ [] → some_word piece ≡ piece ∷ []
some_word-some [] some = absurd (some refl)
some_word-some (b ∷ piece) some = refl

-- a choice and what follows it
split_first : (piece tail : List ℕ) → IsChoice piece → symbols true (choice_text true piece ++ tail) ≡ map (λ (b : ℕ). Some b) piece ++ symbols false tail
split_first piece tail is =
    symbols_skip (choice_text true piece ++ tail) ∙ ap (symbols false) (no_gap piece tail is.spaced is.some) ∙ said piece tail true is.spaced is.closed

after_comma : (bytes : List ℕ) → symbols false (44 ∷ 32 ∷ bytes) ≡ None ∷ symbols true bytes
after_comma bytes = symbols_comma 32 bytes refl ∙ ap (λ (s : List (Option ℕ)). None ∷ s) (sym (symbols_skip bytes))

pub choices_again : (choices : List (List ℕ)) → AllByRecursion IsChoice choices → choices_of (joined choices) ≡ choices
choices_again [] h = refl
choices_again (choice ∷ []) h =
    ap pieces (split_first choice [] h.0)
    ∙ pieces_end choice ∙ some_word-some choice h.0.some
choices_again (choice ∷ next ∷ choices) h =
    ap pieces (split_first choice (44 ∷ 32 ∷ joined (next ∷ choices)) h.0 ∙ ap (λ (s : List (Option ℕ)). map (λ (b : ℕ). Some b) choice ++ s) (after_comma (joined (next ∷ choices))))
    ∙ pieces_parted choice (symbols true (joined (next ∷ choices)))
    ∙ ap (λ (w : List (List ℕ)). w ++ choices_of (joined (next ∷ choices))) (some_word-some choice h.0.some)
    ∙ ap (λ (cs : List (List ℕ)). choice ∷ cs) (choices_again (next ∷ choices) h.1)

-- ---- what each byte says, whether whitespace is passed over or not

pub either_way : (skips : Bool) (b : ℕ) (rest : List ℕ) → is_gap b ≡ false → symbols skips (b ∷ rest) ≡ symbols false (b ∷ rest)
either_way true b rest e = symbols_skip (b ∷ rest) ∙ ap (λ t. symbols false (cond t (drop_front is_gap rest) (b ∷ rest))) e
either_way false b rest e = refl

pub gap-skipped : (gap text : List ℕ) → list_all is_gap gap ≡ true → symbols true (gap ++ text) ≡ symbols true text
gap-skipped [] text e = refl
gap-skipped (b ∷ gap) text e =
    let f : (is_gap b ≡ true) × (list_all is_gap gap ≡ true) = both _ _ e in
    symbols_skip (b ∷ (gap ++ text)) ∙ ap (λ t. symbols false (cond t (drop_front is_gap (gap ++ text)) (b ∷ (gap ++ text)))) f.0
    ∙ sym (symbols_skip (gap ++ text)) ∙ gap-skipped gap text f.1

pub parting : (skips : Bool) (gap text : List ℕ) → gap ≢ [] → list_all is_gap gap ≡ true → symbols skips (44 ∷ (gap ++ text)) ≡ None ∷ symbols true text
parting skips [] text some e = absurd (some refl)
parting skips (b ∷ gap) text some e =
    let f : (is_gap b ≡ true) × (list_all is_gap gap ≡ true) = both _ _ e in
    either_way skips 44 (b ∷ (gap ++ text)) refl ∙ symbols_comma b (gap ++ text) f.0
    ∙ ap (λ (s : List (Option ℕ)). None ∷ s) (sym (symbols_skip (gap ++ text)) ∙ gap-skipped gap text f.1)

other_test : (b c : ℕ) (t : Bool) → b ≢ c → (b == c && t) ≡ false
other_test b c t other = elim (b == c) as (λ u. (b == c) ≡ u → (u && t) ≡ false) [
  | true ↦ λ e. absurd (other (grind (arith, nat_tests)))
  | false ↦ λ e. refl
] refl

pub other_byte : (b : ℕ) (text : List ℕ) → b ≢ 92 → b ≢ 44 → symbols false (b ∷ text) ≡ Some b ∷ symbols false text
other_byte b text no_backslash no_comma = symbols_plain b text (other_test b 92 (spells_next text) no_backslash) (other_test b 44 (gap_next text) no_comma)

pub first_choice : (choice : List ℕ) (said : List (Option ℕ)) → choice ≢ [] → pieces (map (λ (b : ℕ). Some b) choice ++ None ∷ said) ≡ choice ∷ pieces said
first_choice choice said some = pieces_parted choice said ∙ ap (λ (w : List (List ℕ)). w ++ pieces said) (some_word-some choice some)

pub only_choice : (choice : List ℕ) → choice ≢ [] → pieces (map (λ (b : ℕ). Some b) choice) ≡ choice ∷ []
only_choice choice some = ap pieces (sym (append-nil (map (λ (b : ℕ). Some b) choice))) ∙ pieces_end choice ∙ some_word-some choice some
