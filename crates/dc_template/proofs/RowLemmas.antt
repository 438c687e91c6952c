-- The indented lines under a description, and the lines of the text that they make.
use Rattle.std.proofs.Common.{◌≡◌, ℕ, suc, Bool, true, false, cond, not, ◌&&◌, List, [], ◌∷◌, ◌++◌, length, map as each, refl, sym, ap, ◌∙◌, subst, arith}
use Rattle.std.specs.Prelude.{◌||◌, ◌==◌, nat_le}
use Rattle.std.specs.List.{list_any, list_all, take_while, slice_split, join_with_byte, AllByRecursion}
use Rattle.std.specs.Str.{bytes_eq}
use Rattle.std.proofs.lemmas.List.{append-nil}
use Rattle.std.proofs.lemmas.List.Splits.{slice_split_none, slice_split_at, join_with_byte-slice_split}
use Rattle.std.proofs.lemmas.List.Elements.{All-from_recursion}
use Rattle.std.proofs.lemmas.List.Sums.{take_while-cons}
use Rattle.std.proofs.lemmas.Bool.Decides.{nat_tests}
use Rattle.dc_text.specs.Bytes.{is_space, is_blank, is_indented, drop_front, drop_back, trimmed}
use Rattle.dc_text.specs.Lines.{has_newline}
use Rattle.dc_template.specs.Forms.{indentation, row_of}
use Rattle.dc_template.specs.Stanzas.{shown, parting, flowed, flowed_after, lines_between_newlines, row_line, IsTextLine, IsExtendedLine, IsExtendedText, flows_on, NoneFlowTogether, read_from_rows}
use Rattle.dc_template.proofs.TestLemmas.{neither, or-true, bytes_eq-other, list_any-append, list_all-append}
use Rattle.dc_template.proofs.TrimLemmas.{drop_back-append, blank-drop_back, drop_back-first, drop_back-twice, trimmed-end, drop_front-append, any-drop_back}
use Rattle.dc_template.specs.declared.forms.Row.{Row}
use Rattle.dc_template.specs.declared.forms.Row.TheVariants.{Empty, Flowing, Kept}

-- the text of a line that flows on
pub record IsFlowing (text : List ℕ) : Type 0 where
  pub plain : is_indented text ≡ false
  pub solid : is_blank text ≡ false
  pub end : drop_back is_space text ≡ text
  pub dot : bytes_eq (trimmed text) (46 ∷ []) ≡ false
  pub one : has_newline text ≡ false

-- the text of a line that is kept as it is
pub record IsKept (text : List ℕ) : Type 0 where
  pub indented : is_indented text ≡ true
  pub solid : is_blank text ≡ false
  pub end : drop_back is_space text ≡ text
  pub one : has_newline text ≡ false

abbrev pub IsSoundRow : Row → Type 0
IsSoundRow Empty = Unit {0}
IsSoundRow (Flowing text) = IsFlowing text
IsSoundRow (Kept text) = IsKept text

abbrev flows : Row → Bool
flows Empty = false
flows (Flowing text) = true
flows (Kept text) = false

-- ---- what an indented line says

abbrev is_gap : ℕ → Bool
is_gap b = b == 32 || b == 9

two_or_more : (n : ℕ) → nat_le 2 (suc (suc n)) ≡ true
two_or_more n = grind (arith, nat_tests)

-- two bytes of indentation are one and an indented rest
pub indented_twice : (b : ℕ) (rest : List ℕ) → is_gap b ≡ true → nat_le 2 (length (indentation (b ∷ rest))) ≡ is_indented rest
indented_twice b [] e = ap (λ (l : List ℕ). nat_le 2 (length l)) (take_while-cons is_gap b [] ∙ ap (λ t. cond t (b ∷ take_while is_gap []) []) e)
indented_twice b (c ∷ rest) e =
    ap (λ (l : List ℕ). nat_le 2 (length l)) (take_while-cons is_gap b (c ∷ rest) ∙ ap (λ t. cond t (b ∷ take_while is_gap (c ∷ rest)) []) e ∙ ap (λ (l : List ℕ). b ∷ l) (take_while-cons is_gap c rest))
    ∙ elim (is_gap c) as (λ t. nat_le 2 (length (b ∷ cond t (c ∷ take_while is_gap rest) [])) ≡ t) [
      | true ↦ two_or_more (length (take_while is_gap rest))
      | false ↦ refl
    ]

gap_space : (b : ℕ) → is_gap b ≡ true → is_space b ≡ true
gap_space b e = grind (arith, nat_tests)

row_kept : (rest : List ℕ) → is_indented rest ≡ true → is_blank rest ≡ false → has_newline rest ≡ false → IsKept (drop_back is_space rest)
row_kept [] i h one = absurd (cc)
row_kept (c ∷ rest) i h one = record {
  indented = ap is_indented (drop_back-first c rest h) ∙ i;
  solid = blank-drop_back (c ∷ rest) ∙ h;
  end = drop_back-twice (c ∷ rest);
  one = any-drop_back (λ b. b == 10) (c ∷ rest) one;
}

row_flowing : (rest : List ℕ) → is_indented rest ≡ false → is_blank rest ≡ false → has_newline rest ≡ false → bytes_eq (trimmed rest) (46 ∷ []) ≡ false → IsFlowing (drop_back is_space rest)
row_flowing [] i h one dot = absurd (cc)
row_flowing (c ∷ rest) i h one dot = record {
  plain = ap is_indented (drop_back-first c rest h) ∙ i;
  solid = blank-drop_back (c ∷ rest) ∙ h;
  end = drop_back-twice (c ∷ rest);
  dot = ap (λ t. bytes_eq t (46 ∷ [])) (trimmed-end (c ∷ rest)) ∙ dot;
  one = any-drop_back (λ b. b == 10) (c ∷ rest) one;
}

row_by_tests : (b : ℕ) (rest : List ℕ) (kept dot : Bool) → nat_le 2 (length (indentation (b ∷ rest))) ≡ kept → bytes_eq (trimmed (b ∷ rest)) (46 ∷ []) ≡ dot
    → row_of (b ∷ rest) ≡ cond kept (Kept (drop_back is_space rest)) (cond dot Empty (Flowing (drop_back is_space rest)))
row_by_tests b rest kept dot e f = λ i. cond (e i) (Kept (drop_back is_space rest)) (cond (f i) Empty (Flowing (drop_back is_space rest)))

pub row_sound : (line : List ℕ) → is_indented line ≡ true → is_blank line ≡ false → has_newline line ≡ false → IsSoundRow (row_of line)
row_sound [] i h one = absurd (cc)
row_sound (b ∷ rest) i h one =
    let space : is_space b ≡ true = gap_space b i in
    let solid : is_blank rest ≡ false = ap (λ t. t && is_blank rest) (sym space) ∙ h in
    let free : has_newline rest ≡ false = (neither (b == 10) (has_newline rest) one).1 in
    let front : trimmed (b ∷ rest) ≡ trimmed rest = ap (λ t. drop_back is_space (cond t (drop_front is_space rest) (b ∷ rest))) space in
    elim (is_indented rest) as (λ t. is_indented rest ≡ t → IsSoundRow (row_of (b ∷ rest))) [
      | true ↦ λ e. subst IsSoundRow (sym (row_by_tests b rest true (bytes_eq (trimmed (b ∷ rest)) (46 ∷ [])) (indented_twice b rest i ∙ e) refl)) (row_kept rest e solid free)
      | false ↦ λ e. elim (bytes_eq (trimmed (b ∷ rest)) (46 ∷ [])) as (λ t. bytes_eq (trimmed (b ∷ rest)) (46 ∷ []) ≡ t → IsSoundRow (row_of (b ∷ rest))) [
        | true ↦ λ f. subst IsSoundRow (sym (row_by_tests b rest false true (indented_twice b rest i ∙ e) f)) tt
        | false ↦ λ f. subst IsSoundRow (sym (row_by_tests b rest false false (indented_twice b rest i ∙ e) f))
            (row_flowing rest e solid free (ap (λ t. bytes_eq t (46 ∷ [])) (sym front) ∙ f))
      ] refl
    ] refl

-- ---- a line of the text, as it stands in a file

not_nil : (text : List ℕ) → is_blank text ≡ false → row_line text ≡ 32 ∷ text
not_nil [] h = absurd (cc)
not_nil (b ∷ text) h = refl

flowing_again : (text : List ℕ) → IsFlowing text → row_of (row_line text) ≡ Flowing text
flowing_again text is =
    ap row_of (not_nil text is.solid) ∙ row_by_tests 32 text false false (indented_twice 32 text refl ∙ is.plain) is.dot ∙ ap (λ (t : List ℕ). Flowing t) is.end

kept_again : (text : List ℕ) → IsKept text → row_of (row_line text) ≡ Kept text
kept_again text is =
    ap row_of (not_nil text is.solid) ∙ row_by_tests 32 text true (bytes_eq (trimmed (32 ∷ text)) (46 ∷ [])) (indented_twice 32 text refl ∙ is.indented) refl ∙ ap (λ (t : List ℕ). Kept t) is.end

-- the text of a row is such a line
record Says (row : Row) (line : List ℕ) : Type 0 where
  is : IsExtendedLine line
  flow : flows_on line ≡ flows row
  text : flows row ≡ true → IsFlowing line

text_line : (line : List ℕ) → IsTextLine line → IsExtendedLine line
text_line [] is = tt
text_line (b ∷ line) is = is

flow_is : (line : List ℕ) → is_blank line ≡ false → flows_on line ≡ not (is_indented line)
flow_is [] h = absurd (cc)
flow_is (b ∷ line) h = refl

flowing_says : (row : Row) (line : List ℕ) → flows row ≡ true → IsFlowing line → Says row line
flowing_says row line f is = record {
  is = text_line line (record { solid = is.solid; end = is.end; dot = λ _. is.dot });
  flow = flow_is line is.solid ∙ ap not is.plain ∙ sym f;
  text = λ _. is;
}

row_says : (row : Row) → IsSoundRow row → Says row (shown row)
row_says Empty s = record { is = tt; flow = refl; text = λ e. absurd (cc) }
row_says (Flowing text) s = flowing_says (Flowing text) text refl s
row_says (Kept text) s = record {
  is = text_line text (record { solid = s.solid; end = s.end; dot = λ plain. absurd (let off : true ≡ false = sym s.indented ∙ plain in cc) });
  flow = flow_is text s.solid ∙ ap not s.indented;
  text = λ e. absurd (cc);
}

free_row : (row : Row) → IsSoundRow row → has_newline (shown row) ≡ false
free_row Empty s = refl
free_row (Flowing text) s = s.one
free_row (Kept text) s = s.one

-- ---- the lines of the text

-- these lines begin with one that says the row
record Begins (row : Row) (lines : List (List ℕ)) : Type 0 where
  first : List ℕ
  rest : List (List ℕ)
  whole : lines ≡ first ∷ rest
  says : Says row first
  each : AllByRecursion IsExtendedLine rest
  apart : NoneFlowTogether (first ∷ rest)

free_all : (text : List ℕ) → has_newline text ≡ false → AllByRecursion (λ b. (b == 10) ≡ false) text
free_all [] h = tt
free_all (b ∷ text) h = let f : ((b == 10) ≡ false) × (has_newline text ≡ false) = neither _ _ h in (f.0, free_all text f.1)

pub one_line : (text : List ℕ) → has_newline text ≡ false → lines_between_newlines text ≡ text ∷ []
one_line text h = slice_split_none (λ b. b == 10) text (All-from_recursion (λ b. (b == 10) ≡ false) text (free_all text h))

pub line_first : (text rest : List ℕ) → has_newline text ≡ false → lines_between_newlines (text ++ 10 ∷ rest) ≡ text ∷ lines_between_newlines rest
line_first text rest h = slice_split_at (λ b. b == 10) text 10 rest (All-from_recursion (λ b. (b == 10) ≡ false) text (free_all text h)) refl

-- bytes go in front of the first line
line_longer : (text rest first : List ℕ) (lines : List (List ℕ)) → has_newline text ≡ false → lines_between_newlines rest ≡ first ∷ lines → lines_between_newlines (text ++ rest) ≡ (text ++ first) ∷ lines
line_longer [] rest first lines h e = e
line_longer (b ∷ text) rest first lines h e =
    let f : ((b == 10) ≡ false) × (has_newline text ≡ false) = neither _ _ h in
    ap (λ t. cond t ([] ∷ lines_between_newlines (text ++ rest)) (Rattle.std.specs.List.onto_first b (lines_between_newlines (text ++ rest)))) f.0
    ∙ ap (Rattle.std.specs.List.onto_first b) (line_longer text rest first lines f.1 e)

single : (row : Row) → IsSoundRow row → Begins row (lines_between_newlines (shown row ++ []))
single row s = record {
  first = shown row;
  rest = [];
  whole = ap lines_between_newlines (append-nil (shown row)) ∙ one_line (shown row) (free_row row s);
  says = row_says row s;
  each = tt;
  apart = tt;
}

-- a line that doesn't flow on comes first
parted : (row next : Row) (tail : List ℕ) → IsSoundRow row → (flows row && flows next) ≡ false → Begins next (lines_between_newlines tail) → Begins row (lines_between_newlines (shown row ++ 10 ∷ tail))
parted row next tail s off h = record {
  first = shown row;
  rest = h.first ∷ h.rest;
  whole = line_first (shown row) tail (free_row row s) ∙ ap (λ (ls : List (List ℕ)). shown row ∷ ls) h.whole;
  says = row_says row s;
  each = (h.says.is, h.each);
  apart = ((λ i. (row_says row s).flow i && h.says.flow i) ∙ off, h.apart);
}

has_blank : List ℕ → Bool
has_blank bytes = list_any (λ b. b == 32) bytes

not_dot : (front tail : List ℕ) → bytes_eq (front ++ 32 ∷ tail) (46 ∷ []) ≡ false
not_dot front tail = bytes_eq-other (λ b. b == 32) (front ++ 32 ∷ tail) (46 ∷ []) (list_any-append (λ b. b == 32) front (32 ∷ tail) ∙ or-true (list_any (λ b. b == 32) front)) refl

indented_first : (text tail : List ℕ) → is_blank text ≡ false → is_indented text ≡ false → is_indented (text ++ tail) ≡ false
indented_first [] tail h e = absurd (cc)
indented_first (b ∷ text) tail h e = e

-- two texts that flow on, with a space between them
flowing_more : (text next : List ℕ) → IsFlowing text → IsFlowing next → IsFlowing (text ++ 32 ∷ next)
flowing_more text next a b = record {
  plain = indented_first text (32 ∷ next) a.solid a.plain;
  solid = list_all-append is_space text (32 ∷ next) ∙ ap (λ t. t && is_blank (32 ∷ next)) a.solid;
  end = drop_back-append text (32 ∷ next) b.solid ∙ ap (λ (t : List ℕ). text ++ t) (drop_back-append (32 ∷ []) next b.solid ∙ ap (λ (t : List ℕ). 32 ∷ t) b.end);
  dot = ap (λ t. bytes_eq t (46 ∷ [])) (ap (drop_back is_space) (drop_front-append text (32 ∷ next) a.solid)
      ∙ drop_back-append (drop_front is_space text) (32 ∷ next) b.solid ∙ ap (λ (t : List ℕ). drop_front is_space text ++ t) (drop_back-append (32 ∷ []) next b.solid ∙ ap (λ (t : List ℕ). 32 ∷ t) b.end))
      ∙ not_dot (drop_front is_space text) next;
  one = list_any-append (λ c. c == 10) text (32 ∷ next) ∙ (λ i. a.one i || b.one i);
}

joined : (text next tail : List ℕ) → IsFlowing text → Begins (Flowing next) (lines_between_newlines tail) → Begins (Flowing text) (lines_between_newlines (text ++ 32 ∷ tail))
joined text next tail s h =
    let more : IsFlowing (text ++ 32 ∷ h.first) = flowing_more text h.first s (h.says.text refl) in
    let whole : lines_between_newlines (text ++ 32 ∷ tail) ≡ (text ++ 32 ∷ h.first) ∷ h.rest = line_longer text (32 ∷ tail) (32 ∷ h.first) h.rest s.one (line_longer (32 ∷ []) tail h.first h.rest refl h.whole) in
    record {
      first = text ++ 32 ∷ h.first;
      rest = h.rest;
      whole = whole;
      says = flowing_says (Flowing text) (text ++ 32 ∷ h.first) refl more;
      each = h.each;
      apart = again (text ++ 32 ∷ h.first) h.first h.rest ((flowing_says (Flowing text) (text ++ 32 ∷ h.first) refl more).flow ∙ sym h.says.flow) h.apart;
    } where
      again : (line first : List ℕ) (rest : List (List ℕ)) → flows_on line ≡ flows_on first → NoneFlowTogether (first ∷ rest) → NoneFlowTogether (line ∷ rest)
      again line first [] e a = tt
      again line first (next ∷ rest) e a = (ap (λ t. t && flows_on next) e ∙ a.0, a.1)

lines_begin : (row : Row) (rows : List Row) → IsSoundRow row → AllByRecursion IsSoundRow rows → Begins row (lines_between_newlines (flowed (row ∷ rows)))
lines_begin row [] s h = single row s
lines_begin Empty (next ∷ rows) s h = parted Empty next (flowed (next ∷ rows)) s refl (lines_begin next rows h.0 h.1)
lines_begin (Kept text) (next ∷ rows) s h = parted (Kept text) next (flowed (next ∷ rows)) s refl (lines_begin next rows h.0 h.1)
lines_begin (Flowing text) (Empty ∷ rows) s h = parted (Flowing text) Empty (flowed (Empty ∷ rows)) s refl (lines_begin Empty rows h.0 h.1)
lines_begin (Flowing text) (Kept next ∷ rows) s h = parted (Flowing text) (Kept next) (flowed (Kept next ∷ rows)) s refl (lines_begin (Kept next) rows h.0 h.1)
lines_begin (Flowing text) (Flowing next ∷ rows) s h = joined text next (flowed (Flowing next ∷ rows)) s (lines_begin (Flowing next) rows h.0 h.1)

-- ---- the text is read again from its lines

parting-apart : (a b : Row) → (flows a && flows b) ≡ false → parting a b ≡ 10
parting-apart Empty b e = refl
parting-apart (Kept text) b e = refl
parting-apart (Flowing text) Empty e = refl
parting-apart (Flowing text) (Kept next) e = refl
parting-apart (Flowing text) (Flowing next) e = absurd (cc)

abbrev rows_of : List (List ℕ) → List Row
rows_of lines = each (λ line. row_of (row_line line)) lines

-- ---- a line, as it is read again

record IsReadAgain (line : List ℕ) : Type 0 where
  shows : shown (row_of (row_line line)) ≡ line
  solid : is_blank (row_line line) ≡ false
  flow : flows (row_of (row_line line)) ≡ flows_on line

text_again : (b : ℕ) (line : List ℕ) → IsTextLine (b ∷ line) → IsReadAgain (b ∷ line)
text_again b line is =
    let text : List ℕ = b ∷ line in
    let dotted : Bool = bytes_eq (trimmed (32 ∷ text)) (46 ∷ []) in
    elim (is_indented text) as (λ t. is_indented text ≡ t → IsReadAgain text) [
      | true ↦ λ e.
          let row : row_of (32 ∷ text) ≡ Kept text = row_by_tests 32 text true dotted (indented_twice 32 text refl ∙ e) refl ∙ ap (λ (t : List ℕ). Kept t) is.end in
          record { shows = ap shown row; solid = is.solid; flow = ap flows row ∙ ap not (sym e) }
      | false ↦ λ e.
          let row : row_of (32 ∷ text) ≡ Flowing text = row_by_tests 32 text false false (indented_twice 32 text refl ∙ e) (is.dot e) ∙ ap (λ (t : List ℕ). Flowing t) is.end in
          record { shows = ap shown row; solid = is.solid; flow = ap flows row ∙ ap not (sym e) }
    ] refl

line_again : (line : List ℕ) → IsExtendedLine line → IsReadAgain line
line_again [] is = record { shows = refl; solid = refl; flow = refl }
line_again (b ∷ line) is = text_again b line is

read_after : (line : List ℕ) (lines : List (List ℕ)) → IsExtendedLine line → AllByRecursion IsExtendedLine lines → NoneFlowTogether (line ∷ lines)
    → line ++ flowed_after (row_of (row_line line)) (rows_of lines) ≡ join_with_byte 10 (line ∷ lines)
read_after line [] s h a = append-nil line
read_after line (next ∷ lines) s h a =
    let one : IsReadAgain line = line_again line s in
    let two : IsReadAgain next = line_again next h.0 in
    (λ i. line ++ (parting-apart (row_of (row_line line)) (row_of (row_line next)) ((λ j. one.flow j && two.flow j) ∙ a.0) i ∷ (two.shows i ++ flowed_after (row_of (row_line next)) (rows_of lines))))
    ∙ ap (λ (t : List ℕ). line ++ 10 ∷ t) (read_after next lines h.0 h.1 a.1)

all_read : (lines : List (List ℕ)) → AllByRecursion IsExtendedLine lines → NoneFlowTogether lines → flowed (rows_of lines) ≡ join_with_byte 10 lines
all_read [] h a = refl
all_read (line ∷ lines) h a = ap (λ (t : List ℕ). t ++ flowed_after (row_of (row_line line)) (rows_of lines)) (line_again line h.0).shows ∙ read_after line lines h.0 h.1 a

-- an extended description is read again from its lines as they stand in a file
pub extended_again : (text : List ℕ) → IsExtendedText text → read_from_rows text ≡ text
extended_again text is = all_read (lines_between_newlines text) is.lines is.apart ∙ join_with_byte-slice_split 10 text

all_solid : (lines : List (List ℕ)) → AllByRecursion IsExtendedLine lines → list_all (λ line. not (is_blank (row_line line))) lines ≡ true
all_solid [] h = refl
all_solid (line ∷ lines) h = (λ i. not ((line_again line h.0).solid i) && list_all (λ l. not (is_blank (row_line l))) lines) ∙ all_solid lines h.1

-- and none of those lines is blank
pub extended_solid : (text : List ℕ) → IsExtendedText text → list_all (λ line. not (is_blank (row_line line))) (lines_between_newlines text) ≡ true
extended_solid text is = all_solid (lines_between_newlines text) is.lines

pub extended_sound : (row : Row) (rows : List Row) → IsSoundRow row → AllByRecursion IsSoundRow rows → IsExtendedText (flowed (row ∷ rows))
extended_sound row rows s h =
    let b : Begins row (lines_between_newlines (flowed (row ∷ rows))) = lines_begin row rows s h in
    record {
      lines = subst (AllByRecursion IsExtendedLine) (sym b.whole) (b.says.is, b.each);
      apart = subst NoneFlowTogether (sym b.whole) b.apart;
    }
