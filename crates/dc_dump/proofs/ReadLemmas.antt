-- Lines that are said are read as they are.
use Rattle.std.proofs.Common.{◌≡◌, ◌≢◌, ℕ, ◌+◌, ◌-◌, suc, length, Bool, true, false, cond, not, List, [], ◌∷◌, ◌++◌, Option, Some, None, refl, sym, ap, subst, ◌∙◌, append_assoc, arith, inl, inr, ⊎_elim, map as each}
use Rattle.std.specs.Prelude.{◌&&◌, ◌||◌, ◌==◌, nat_lt, is_some, Ok, codes, slice_index, if◌then◌else◌}
use Rattle.std.specs.Io.BufRead.{ends_with_byte}
use Rattle.std.specs.List.{AllByRecursion, list_all}
use Rattle.std.specs.Option.{option_map_or}
use Rattle.std.proofs.lemmas.Bool.{cases_Bool, le-leb}
use Rattle.std.proofs.lemmas.List.{append-nil}
use Rattle.std.proofs.lemmas.List.Folds.{list_any-append}
use Rattle.dc_text.specs.Bytes.{is_space, is_nil}
use Rattle.dc_text.specs.Lines.{TextLines, has_newline, onto_first, text_lines, text_of}
use Rattle.dc_text.specs.Names.{is_name}
use Rattle.dc_text.specs.Settled.{newlines_shown}
use Rattle.dc_words.specs.Stream.{all_lines, line_of, line_of_rest, clipped}
use Rattle.dc_words.specs.Words.{IsPlainWord, IsWordEnd}
use Rattle.dc_words.specs.declared.stream.Line.TheVariants.{Whole, TooLong}
use Rattle.dc_item.proofs.PrintedBytes.{Spaceless, Free, name_word_is, shown_no_newline}
use Rattle.dc_template.specs.Kinds.{kind_of, kind_word}
use Rattle.dc_template.specs.declared.kinds.Kind.{Kind}
use Rattle.dc_template.specs.declared.kinds.Kind.TheVariants as kinds
use Rattle.dc_preseed.proofs.PartLemmas.{parts_one}
use Rattle.dc_preseed.proofs.SelectionLemmas.{one_answer, sound_value, sound_seen}
use Rattle.dc_preseed.specs.Joining.{is_alone, is_comment, joined, counted, AreJoined, AreJoinedIn}
use Rattle.dc_preseed.specs.Selections.{Parts, parts_of, AreParts, ComesFirst, IsSaid, answer, is_seen, is_silent}
use Rattle.dc_preseed.specs.declared.selections.Selection.{Selection}
use Rattle.dc_preseed.specs.declared.selections.Selection.TheVariants.{Value, Seen}
use Rattle.dc_dump.specs.AnswerLines.{begins_with_hash, is_plain, is_sayable, is_short, lines_by, lines_of, unseen_line, unseen_lines, value_line}
use Rattle.dc_dump.specs.Reading.{is_named, StandsAlone, numbered}
use Rattle.dc_dump.specs.declared.answers.Answer.{Answer}

pub both : (a b : Bool) → (a && b) ≡ true → (a ≡ true) × (b ≡ true)
both true b e = (refl, e)
both false b e = absurd (cc)

pub is_false : (a : Bool) → not a ≡ true → a ≡ false
is_false true e = absurd (cc)
is_false false e = refl

neither : (a b : Bool) → (a || b) ≡ false → (a ≡ false) × (b ≡ false)
neither true b e = absurd (cc)
neither false b e = (refl, e)

or-true : (a : Bool) → (a || true) ≡ true
or-true true = refl
or-true false = refl

-- ---- a line is parted again

solid_of : (bs : List ℕ) → Spaceless bs → list_all (λ b. not (is_space b)) bs ≡ true
solid_of [] h = refl
solid_of (b ∷ bs) h = ap (λ t. not t && list_all (λ c. not (is_space c)) bs) h.0 ∙ solid_of bs h.1

plain_word : (n : List ℕ) → is_name n ≡ true → IsPlainWord n
plain_word n is = let w = name_word_is n is in record { some = w.some; solid = solid_of n w.spaceless }

-- a word behind a space
next : (word rest : List ℕ) → IsPlainWord word → IsWordEnd rest → ComesFirst (32 ∷ (word ++ rest)) word rest
next word rest plain end = record { gap = 32 ∷ []; whole = refl; blank = refl; solid = plain; end = end }

parts_are : (owner name word value : List ℕ) → is_name owner ≡ true → is_name name ≡ true → IsPlainWord word
    → AreParts (owner ++ (32 ∷ (name ++ (32 ∷ (word ++ (32 ∷ value)))))) (record { owner = owner; question = name; word = word; value = value })
parts_are owner name word value o n w = record {
  behind_owner = 32 ∷ (name ++ (32 ∷ (word ++ (32 ∷ value))));
  behind_question = 32 ∷ (word ++ (32 ∷ value));
  rest = 32 ∷ value;
  owner = record { gap = []; whole = refl; blank = refl; solid = plain_word owner o; end = refl };
  question = next name (32 ∷ (word ++ (32 ∷ value))) (plain_word name n) refl;
  word = next word (32 ∷ value) w refl;
  value = refl;
}

-- a line of an owner that doesn't begin as a comment says something
loud : (owner rest : List ℕ) → is_name owner ≡ true → begins_with_hash owner ≡ false → is_silent (owner ++ rest) ≡ false
loud [] rest is hash = absurd ((name_word_is [] is).some refl)
loud (b ∷ owner) rest is hash =
    let solid : is_space b ≡ false = (name_word_is (b ∷ owner) is).spaceless.0 in
    rw solid hash

read_as : (line : List ℕ) (said : Selection) → is_silent line ≡ false → IsSaid (parts_of line) (Ok said) → answer line ≡ Ok (Some said)
read_as line said loud is = ⊎_elim (λ e. sym e) (λ none. absurd (cc)) (one_answer line (Ok (Some said)) (loud, is))

word_of_kind : (kind : Kind) → (is_nil (kind_word kind) ≡ false) × (is_seen (kind_word kind) ≡ false) × (kind_of (kind_word kind) ≡ Some kind) × (list_all (λ b. not (is_space b)) (kind_word kind) ≡ true) × (has_newline (kind_word kind) ≡ false)
word_of_kind kinds.Str = (refl, refl, refl, refl, refl)
word_of_kind kinds.Bool = (refl, refl, refl, refl, refl)
word_of_kind kinds.Select = (refl, refl, refl, refl, refl)
word_of_kind kinds.Multiselect = (refl, refl, refl, refl, refl)
word_of_kind kinds.Password = (refl, refl, refl, refl, refl)
word_of_kind kinds.Note = (refl, refl, refl, refl, refl)
word_of_kind kinds.Txt = (refl, refl, refl, refl, refl)
word_of_kind kinds.Error = (refl, refl, refl, refl, refl)
word_of_kind kinds.Title = (refl, refl, refl, refl, refl)

not_nil : (xs : List ℕ) → is_nil xs ≡ false → xs ≢ []
not_nil [] e = λ _. cc
not_nil (x ∷ xs) e = λ h. cc

pub value_read : (name owner value : List ℕ) (kind : Kind) → is_name name ≡ true → is_name owner ≡ true → begins_with_hash owner ≡ false
    → answer (value_line name kind value owner) ≡ Ok (Some (Value owner name kind (newlines_shown value)))
value_read name owner value kind n o hash =
    let w = word_of_kind kind in
    let line : List ℕ = value_line name kind value owner in
    let parts : Parts = record { owner = owner; question = name; word = kind_word kind; value = newlines_shown value } in
    let are : AreParts line parts = parts_are owner name (kind_word kind) (newlines_shown value) o n (record { some = not_nil (kind_word kind) w.0; solid = w.3 }) in
    read_as line (Value owner name kind (newlines_shown value)) (loud owner (32 ∷ (name ++ (32 ∷ (kind_word kind ++ (32 ∷ newlines_shown value))))) o hash)
    (subst (λ p. IsSaid p (Ok (Value owner name kind (newlines_shown value)))) (sym (parts_one line parts are))
    (sound_value parts kind w.0 (λ i. (o ∙ refl) i && (n ∙ refl) i) w.1 w.2))

pub unseen_read : (name owner : List ℕ) → is_name name ≡ true → is_name owner ≡ true → begins_with_hash owner ≡ false
    → answer (unseen_line name owner) ≡ Ok (Some (Seen name false))
unseen_read name owner n o hash =
    let line : List ℕ = unseen_line name owner in
    let parts : Parts = record { owner = owner; question = name; word = codes "seen"; value = codes "false" } in
    let are : AreParts line parts = parts_are owner name (codes "seen") (codes "false") o n (record { some = not_nil (codes "seen") refl; solid = refl }) in
    read_as line (Seen name false) (loud owner (32 ∷ (name ++ (32 ∷ codes "seen false"))) o hash)
    (subst (λ p. IsSaid p (Ok (Seen name false))) (sym (parts_one line parts are))
    (sound_seen parts false refl (λ i. (o ∙ refl) i && (n ∙ refl) i) refl refl))

-- ---- a line that doesn't go on

ends_cons : (c x y : ℕ) (ys : List ℕ) → ends_with_byte c (x ∷ y ∷ ys) ≡ ends_with_byte c (y ∷ ys)
ends_cons c x y ys =
    let last : length (x ∷ y ∷ ys) - 1 ≡ suc (length (y ∷ ys) - 1) = omega arith in
    let some : nat_lt 0 (length (x ∷ y ∷ ys)) ≡ true = le-leb 1 (length (x ∷ y ∷ ys)) (omega arith) in
    let more : nat_lt 0 (length (y ∷ ys)) ≡ true = le-leb 1 (length (y ∷ ys)) (omega arith) in
    (λ i. (some ∙ sym more) i && (slice_index (x ∷ y ∷ ys) (last i) == c))

ends_behind : (c : ℕ) (xs : List ℕ) (y : ℕ) (ys : List ℕ) → ends_with_byte c (xs ++ y ∷ ys) ≡ ends_with_byte c (y ∷ ys)
ends_behind c [] y ys = refl
ends_behind c (x ∷ []) y ys = ends_cons c x y ys
ends_behind c (x ∷ z ∷ xs) y ys = ends_cons c x z (xs ++ y ∷ ys) ∙ ends_behind c (z ∷ xs) y ys

-- another byte in front, which isn't a backslash
ends_with_other : (x y : ℕ) (v : List ℕ) → ends_with_byte 92 (y ∷ []) ≡ false → ends_with_byte 92 (x ∷ v) ≡ false → ends_with_byte 92 (y ∷ v) ≡ false
ends_with_other x y [] other h = other
ends_with_other x y (c ∷ v) other h = ends_cons 92 y c v ∙ sym (ends_cons 92 x c v) ∙ h

-- a value that is shown in one line ends with a backslash only where it does itself
ends_shown : (x : ℕ) (v : List ℕ) → ends_with_byte 92 (x ∷ v) ≡ false → ends_with_byte 92 (x ∷ newlines_shown v) ≡ false
ends_shown x [] h = h
ends_shown x (b ∷ v) h =
    let rest : ends_with_byte 92 (b ∷ v) ≡ false = sym (ends_cons 92 x b v) ∙ h in
    elim (cases_Bool (b == 10)) [
      | inl newline ↦ rw newline (ends_cons 92 x 92 (110 ∷ newlines_shown v) ∙ ends_cons 92 92 110 (newlines_shown v) ∙ ends_shown 110 v (ends_with_other b 110 v refl rest))
      | inr other ↦ rw other (ends_cons 92 x b (newlines_shown v) ∙ ends_shown b v rest)
    ]

value_ends : (name owner value : List ℕ) (kind : Kind) → ends_with_byte 92 value ≡ false → ends_with_byte 92 (value_line name kind value owner) ≡ false
value_ends name owner value kind h =
    let shown : List ℕ = newlines_shown value in
    ends_behind 92 owner 32 (name ++ (32 ∷ (kind_word kind ++ (32 ∷ shown)))) ∙ ends_behind 92 (32 ∷ name) 32 (kind_word kind ++ (32 ∷ shown))
    ∙ ends_behind 92 (32 ∷ kind_word kind) 32 shown ∙ ends_shown 32 value (behind_space value h) where
      behind_space : (v : List ℕ) → ends_with_byte 92 v ≡ false → ends_with_byte 92 (32 ∷ v) ≡ false
      behind_space [] h = refl
      behind_space (c ∷ v) h = ends_cons 92 32 c v ∙ h

unseen_ends : (name owner : List ℕ) → ends_with_byte 92 (unseen_line name owner) ≡ false
unseen_ends name owner = ends_behind 92 owner 32 (name ++ (32 ∷ codes "seen false")) ∙ ends_behind 92 (32 ∷ name) 32 (codes "seen false")

alone_by : (line : List ℕ) → ends_with_byte 92 line ≡ false → is_alone (Whole line) ≡ true
alone_by line ends = ap (λ t. is_comment line || not t) ends ∙ or-true (is_comment line)

-- ---- a line without newlines

free_line : (bs : List ℕ) → Free 10 bs → has_newline bs ≡ false
free_line [] h = refl
free_line (b ∷ bs) h = ap (λ t. t || has_newline bs) h.0 ∙ free_line bs h.1

one_line : (n : List ℕ) → is_name n ≡ true → has_newline n ≡ false
one_line n is = free_line n (name_word_is n is).one_line

no_newline : (xs ys : List ℕ) → has_newline xs ≡ false → has_newline ys ≡ false → has_newline (xs ++ ys) ≡ false
no_newline xs ys h k = list_any-append (λ b. b == 10) xs ys ∙ (λ i. h i || k i)

value_one : (name owner value : List ℕ) (kind : Kind) → is_name name ≡ true → is_name owner ≡ true → has_newline (value_line name kind value owner) ≡ false
value_one name owner value kind n o =
    let shown : List ℕ = newlines_shown value in
    no_newline owner (32 ∷ (name ++ (32 ∷ (kind_word kind ++ (32 ∷ shown))))) (one_line owner o)
    (no_newline name (32 ∷ (kind_word kind ++ (32 ∷ shown))) (one_line name n)
    (no_newline (kind_word kind) (32 ∷ shown) (word_of_kind kind).4 (free_line shown (shown_no_newline value))))

unseen_one : (name owner : List ℕ) → is_name name ≡ true → is_name owner ≡ true → has_newline (unseen_line name owner) ≡ false
unseen_one name owner n o = no_newline owner (32 ∷ (name ++ (32 ∷ codes "seen false"))) (one_line owner o) (no_newline name (32 ∷ codes "seen false") (one_line name n) refl)

-- ---- all lines of a question

abbrev One : List ℕ → Type 0
One line = (has_newline line ≡ false) × (is_alone (Whole line) ≡ true)

short_too : (lines : List (List ℕ)) → AllByRecursion One lines → list_all is_short lines ≡ true → AllByRecursion StandsAlone lines
short_too [] all short = tt
short_too (line ∷ lines) all short =
    let s = both (is_short line) (list_all is_short lines) short in
    (record { one = all.0.0; short = s.0; alone = all.0.1 }, short_too lines all.1 s.1)

pub all_behind : (P : List ℕ → Type 0) (xs ys : List (List ℕ)) → AllByRecursion P xs → AllByRecursion P ys → AllByRecursion P (xs ++ ys)
all_behind P [] ys h k = k
all_behind P (x ∷ xs) ys h k = (h.0, all_behind P xs ys h.1 k)

module _ (name : List ℕ) (is : is_name name ≡ true) where
  values_one : (kind : Kind) (value : List ℕ) (owners : List (List ℕ)) → list_all is_name owners ≡ true → ends_with_byte 92 value ≡ false
      → AllByRecursion One (each (value_line name kind value) owners)
  values_one kind value [] are ends = tt
  values_one kind value (owner ∷ owners) are ends =
      let o = both (is_name owner) (list_all is_name owners) are in
      ((value_one name owner value kind is o.0, alone_by (value_line name kind value owner) (value_ends name owner value kind ends)), values_one kind value owners o.1 ends)

  unseens_one : (seen : Bool) (owners : List (List ℕ)) → list_all is_name owners ≡ true → AllByRecursion One (unseen_lines name seen owners)
  unseens_one seen [] are = tt
  unseens_one true (owner ∷ owners) are = tt
  unseens_one false (owner ∷ owners) are =
      ((unseen_one name owner is (both (is_name owner) (list_all is_name owners) are).0, alone_by (unseen_line name owner) (unseen_ends name owner)), tt)

  lines_one : (answer : Answer) (kind : Option Kind) → list_all is_name answer.owners ≡ true → ends_with_byte 92 answer.value ≡ false
      → AllByRecursion One (option_map_or (lines_by name answer) kind [])
  lines_one answer None are ends = tt
  lines_one answer (Some kind) are ends =
      all_behind One (each (value_line name kind answer.value) answer.owners) (unseen_lines name answer.seen answer.owners)
      (values_one kind answer.value answer.owners are ends) (unseens_one answer.seen answer.owners are)

pub stand_alone : (name : List ℕ) (answer : Answer) → is_named name answer ≡ true → is_sayable name answer ≡ true → AllByRecursion StandsAlone (lines_of name answer)
stand_alone name answer named e =
    let names = both (is_name name) (list_all is_name answer.owners) named in
    let rest = both (not (is_nil answer.owners)) (is_plain answer && list_all is_short (lines_of name answer)) (both (is_some answer.kind) _ e).1 in
    let plain = both (is_plain answer) (list_all is_short (lines_of name answer)) rest.1 in
    let closed = is_false (ends_with_byte 92 answer.value) (both (list_all (λ owner. not (begins_with_hash owner)) answer.owners) (not (ends_with_byte 92 answer.value)) plain.0).1 in
    short_too (lines_of name answer) (lines_one name names.0 answer answer.kind names.1 closed) plain.1

-- ---- lines that are joined with no other

first_line : (line text : List ℕ) → has_newline line ≡ false → text_lines (line ++ 10 ∷ text) ≡ record { ended = line ∷ (text_lines text).ended; rest = (text_lines text).rest }
first_line [] text h = refl
first_line (b ∷ line) text h =
    let f : ((b == 10) ≡ false) × (has_newline line ≡ false) = neither (b == 10) (has_newline line) h in
    let more : TextLines = text_lines (line ++ 10 ∷ text) in
    ap (λ t. cond t (record { ended = [] ∷ more.ended; rest = more.rest }) (onto_first b more.ended more.rest)) f.0
    ∙ ap (λ (p : TextLines). onto_first b p.ended p.rest) (first_line line text f.1)

text_lines_of : (lines : List (List ℕ)) → AllByRecursion StandsAlone lines → text_lines (text_of lines) ≡ record { ended = lines; rest = [] }
text_lines_of [] all = refl
text_lines_of (line ∷ lines) all =
    ap text_lines (text_cons line lines) ∙ first_line line (text_of lines) all.0.one
    ∙ ap (λ (p : TextLines). record { ended = line ∷ p.ended; rest = p.rest }) (text_lines_of lines all.1) where
      text_cons : (line : List ℕ) (lines : List (List ℕ)) → text_of (line ∷ lines) ≡ line ++ 10 ∷ text_of lines
      text_cons line lines = append_assoc line (10 ∷ []) (text_of lines)

whole_of : (lines : List (List ℕ)) → AllByRecursion StandsAlone lines → each line_of lines ≡ each Whole lines
whole_of [] all = refl
whole_of (line ∷ lines) all = (λ i. (if all.0.short i then Whole line else TooLong) ∷ whole_of lines all.1 i)

joined_so : (number : ℕ) (lines : List (List ℕ)) → AllByRecursion StandsAlone lines → AreJoined number (each Whole lines) (numbered number lines)
joined_so number [] all = refl
joined_so number (line ∷ lines) all = (
  Whole line ∷ [],
  each Whole lines,
  refl,
  inl all.0.alone,
  (λ i. record { first = counted number; whole = cond (sym all.0.alone i) (Whole line) (joined (Whole line ∷ [])) }),
  joined_so (number + 1) lines all.1,
)

pub not_joined : (lines : List (List ℕ)) → AllByRecursion StandsAlone lines → AreJoinedIn (text_of lines) (numbered 1 lines)
not_joined lines all =
    let same : all_lines (text_of lines) ≡ each Whole lines =
    ap (λ (p : TextLines). each line_of p.ended ++ line_of_rest (clipped p.rest)) (text_lines_of lines all) ∙ append-nil (each line_of lines) ∙ whole_of lines all in
    subst (λ ls. AreJoined 1 ls (numbered 1 lines)) (sym same) (joined_so 1 lines all)
