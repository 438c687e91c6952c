-- The printed lines of templates, by what they say.
use Rattle.std.proofs.Common.{◌≡◌, ℕ, true, false, cond, not, List, [], ◌∷◌, ◌++◌, map as each, Some, None, Option, refl, sym, ap, ◌∙◌, append_assoc}
use Rattle.std.specs.Prelude.{◌==◌, codes, option_to_list}
use Rattle.std.specs.List.{list_all, flat_map, onto_first as onto_part, AllByRecursion}
use Rattle.std.specs.Option.{option_map}
use Rattle.std.specs.Str.{bytes_eq}
use Rattle.std.specs.FinMap as map
use Rattle.std.proofs.lemmas.List.{append-nil}
use Rattle.dc_text.specs.Bytes.{is_blank}
use Rattle.dc_text.specs.Maps.{Texts, text_cmp}
use Rattle.dc_text.specs.Lines.{has_newline}
use Rattle.dc_template.specs.Kinds.{kind_word, kind_of}
use Rattle.dc_template.specs.Forms.{type_word, is_description, is_extended, row_of, form_of, is_comment}
use Rattle.dc_template.specs.Stanzas.{Stanza, flowed, extended_key, extended_text, rows_first, as_field, fields_in, kind_in, fields_of, stanza, IsExtendedText, IsFieldAmong, field_map, IsTemplate, lines_between_newlines, row_line}
use Rattle.dc_text.proofs.FirstLemmas.{before_first-later}
use Rattle.dc_template.specs.TemplateFaults.{is_blank_form, until_blank}
use Rattle.dc_template.specs.Reading.{template_at, templates_in}
use Rattle.dc_template.specs.Printed.{field_line, extended_lines, field_lines, template_lines}
use Rattle.dc_template.proofs.RowLemmas.{extended_again, extended_solid}
use Rattle.dc_template.proofs.TestLemmas.{both, neither, not_true}
use Rattle.dc_template.proofs.FieldLemmas.{each_field}
use Rattle.dc_template.proofs.PrintedFields.{is_skipped, text_under, printed_at, printed_fields, same_fields}
use Rattle.dc_template.proofs.PrintedLines.{field_said, field_comment, field_newline, template_said, template_newline, row_said, row_comment, row_newline, lines_between_newlines_free}
use Rattle.dc_template.specs.declared.kinds.Kind.{Kind}
use Rattle.dc_template.specs.declared.kinds.Kind.TheVariants.{Str, Bool as Boolean, Select, Multiselect, Password, Note, Txt, Error, Title}
use Rattle.dc_template.specs.declared.forms.Row.{Row}
use Rattle.dc_template.specs.declared.forms.Form.{Form}
use Rattle.dc_template.specs.declared.forms.Form.TheVariants.{Blank, Indented, Heads, Sets}

-- ---- what the lines of a template say

-- the lines of an extended text
abbrev pub rows_said : List ℕ → List Row
rows_said text = each (λ line. row_of (row_line line)) (lines_between_newlines text)

abbrev pub as_rows : List Row → List Form
as_rows rows = each (λ row. Indented row) rows

abbrev pub under_forms : Option (List ℕ) → List Form
under_forms None = []
under_forms (Some text) = as_rows (rows_said text)

abbrev pub field_forms : Texts (List ℕ) → List ℕ × List ℕ → List Form
field_forms m e = cond (is_skipped e.0) [] (Sets e.0 e.1 ∷ under_forms (text_under m e.0))

abbrev pub body_forms : Stanza → List Form
body_forms t = Sets type_word (kind_word t.kind) ∷ flat_map (field_forms (field_map t)) t.fields

abbrev pub template_forms : Stanza → List Form
template_forms t = Heads t.name ∷ body_forms t ++ Blank ∷ []

-- a printed line: it says this, is no comment and has no newline
pub record IsPrinted (line : List ℕ) (form : Form) : Type 0 where
  pub says : form_of line ≡ form
  pub plain : is_comment line ≡ false
  pub one : has_newline line ≡ false

-- these lines say these forms
abbrev pub ArePrinted : List (List ℕ) → List Form → Type 0
ArePrinted [] [] = Unit {0}
ArePrinted [] (f ∷ fs) = ⊥
ArePrinted (l ∷ ls) [] = ⊥
ArePrinted (l ∷ ls) (f ∷ fs) = IsPrinted l f × ArePrinted ls fs

pub printed-append : (ls ms : List (List ℕ)) (fs gs : List Form) → ArePrinted ls fs → ArePrinted ms gs → ArePrinted (ls ++ ms) (fs ++ gs)
printed-append [] ms [] gs a b = b
printed-append [] ms (f ∷ fs) gs a b = absurd a
printed-append (l ∷ ls) ms [] gs a b = absurd a
printed-append (l ∷ ls) ms (f ∷ fs) gs a b = (a.0, printed-append ls ms fs gs a.1 b)

pub printed_forms : (ls : List (List ℕ)) (fs : List Form) → ArePrinted ls fs → each form_of ls ≡ fs
printed_forms [] [] h = refl
printed_forms [] (f ∷ fs) h = absurd h
printed_forms (l ∷ ls) [] h = absurd h
printed_forms (l ∷ ls) (f ∷ fs) h = λ i. IsPrinted.says h.0 i ∷ printed_forms ls fs h.1 i

pub printed_plain : (ls : List (List ℕ)) (fs : List Form) → ArePrinted ls fs → AllByRecursion (λ l. is_comment l ≡ false) ls
printed_plain [] fs h = tt
printed_plain (l ∷ ls) [] h = absurd h
printed_plain (l ∷ ls) (f ∷ fs) h = (IsPrinted.plain h.0, printed_plain ls fs h.1)

pub printed_one : (ls : List (List ℕ)) (fs : List Form) → ArePrinted ls fs → AllByRecursion (λ l. has_newline l ≡ false) ls
printed_one [] fs h = tt
printed_one (l ∷ ls) [] h = absurd h
printed_one (l ∷ ls) (f ∷ fs) h = (IsPrinted.one h.0, printed_one ls fs h.1)

rows_printed : (lines : List (List ℕ)) → list_all (λ line. not (is_blank (row_line line))) lines ≡ true → AllByRecursion (λ l. has_newline l ≡ false) lines
    → ArePrinted (each row_line lines) (as_rows (each (λ line. row_of (row_line line)) lines))
rows_printed [] s h = tt
rows_printed (line ∷ lines) s h =
    let f : (not (is_blank (row_line line)) ≡ true) × (list_all (λ l. not (is_blank (row_line l))) lines ≡ true) = both _ _ s in
    (record { says = row_said line (not_true _ f.0); plain = row_comment line; one = row_newline line h.0 }, rows_printed lines f.1 h.1)

-- an extended text of a template
text_sound : (t : Stanza) (key text : List ℕ) → IsTemplate t → is_description key ≡ true → map.get (field_map t) (extended_key key) ≡ Some text → IsExtendedText text
text_sound t key text h d e = ((h.sound (extended_key key) text e).extended d).1

under_printed : (t : Stanza) (key : List ℕ) → IsTemplate t → ArePrinted (cond (is_description key) (extended_lines (map.get (field_map t) (extended_key key))) []) (under_forms (text_under (field_map t) key))
under_printed t key h = elim (is_description key) as (λ b. is_description key ≡ b → ArePrinted (cond b (extended_lines (map.get (field_map t) (extended_key key))) []) (under_forms (cond b (map.get (field_map t) (extended_key key)) None))) [
  | true ↦ λ d. elim (map.get (field_map t) (extended_key key)) as (λ o. map.get (field_map t) (extended_key key) ≡ o → ArePrinted (extended_lines o) (under_forms o)) [
    | None ↦ λ e. tt
    | Some text ↦ λ e. rows_printed (lines_between_newlines text) (extended_solid text (text_sound t key text h d e)) (lines_between_newlines_free text)
  ] refl
  | false ↦ λ d. tt
] refl

field_printed : (t : Stanza) (key value : List ℕ) → IsTemplate t → IsFieldAmong (field_map t) key value → ArePrinted (field_lines (field_map t) (key, value)) (field_forms (field_map t) (key, value))
field_printed t key value h f = elim (is_skipped key) as (λ b. is_skipped key ≡ b → ArePrinted
    (cond b [] (field_line key value ∷ cond (is_description key) (extended_lines (map.get (field_map t) (extended_key key))) []))
    (cond b [] (Sets key value ∷ under_forms (text_under (field_map t) key)))) [
      | true ↦ λ s. tt
      | false ↦ λ s.
          let g = f.line (neither (bytes_eq key type_word) (is_extended key) s).1 in
          (record { says = field_said key value f.is_key g.0 g.1 g.2; plain = field_comment key value f.is_key; one = field_newline key value f.is_key g.2 }, under_printed t key h)
    ] refl

fields_printed : (t : Stanza) (es : List (List ℕ × List ℕ)) → IsTemplate t → AllByRecursion (λ e. IsFieldAmong (field_map t) e.0 e.1) es → ArePrinted (flat_map (field_lines (field_map t)) es) (flat_map (field_forms (field_map t)) es)
fields_printed t [] h f = tt
fields_printed t (e ∷ es) h f =
    printed-append (field_lines (field_map t) e) (flat_map (field_lines (field_map t)) es) (field_forms (field_map t) e) (flat_map (field_forms (field_map t)) es)
    (field_printed t e.0 e.1 h f.0) (fields_printed t es h f.1)

type_printed : (kind : Kind) → IsPrinted (codes "Type: " ++ kind_word kind) (Sets type_word (kind_word kind))
type_printed Str = record { says = refl; plain = refl; one = refl }
type_printed Boolean = record { says = refl; plain = refl; one = refl }
type_printed Select = record { says = refl; plain = refl; one = refl }
type_printed Multiselect = record { says = refl; plain = refl; one = refl }
type_printed Password = record { says = refl; plain = refl; one = refl }
type_printed Note = record { says = refl; plain = refl; one = refl }
type_printed Txt = record { says = refl; plain = refl; one = refl }
type_printed Error = record { says = refl; plain = refl; one = refl }
type_printed Title = record { says = refl; plain = refl; one = refl }

pub template_printed : (t : Stanza) → IsTemplate t → ArePrinted (template_lines t) (template_forms t)
template_printed t h =
    printed-append ((codes "Template: " ++ t.name) ∷ (codes "Type: " ++ kind_word t.kind) ∷ flat_map (field_lines (field_map t)) t.fields) ([] ∷ []) (Heads t.name ∷ body_forms t) (Blank ∷ [])
    (record { says = template_said t.name h.named; plain = refl; one = template_newline t.name h.named }, (type_printed t.kind, fields_printed t t.fields h (each_field t h)))
    (record { says = refl; plain = refl; one = refl }, tt)

pub templates_printed : (ts : List Stanza) → AllByRecursion IsTemplate ts → ArePrinted (flat_map template_lines ts) (flat_map template_forms ts)
templates_printed [] h = tt
templates_printed (t ∷ ts) h = printed-append (template_lines t) (flat_map template_lines ts) (template_forms t) (flat_map template_forms ts) (template_printed t h.0) (templates_printed ts h.1)

-- ---- the templates that the lines make

rows_none : (rows : List Row) (more : List Form) → fields_in (as_rows rows ++ more) ≡ fields_in more
rows_none [] more = refl
rows_none (row ∷ rows) more = rows_none rows more

rows_first-rows : (rows : List Row) (more : List Form) → rows_first more ≡ [] → rows_first (as_rows rows ++ more) ≡ rows
rows_first-rows [] more h = h
rows_first-rows (row ∷ rows) more h = ap (λ (rs : List Row). row ∷ rs) (rows_first-rows rows more h)

no_rows_first : (m : Texts (List ℕ)) (es : List (List ℕ × List ℕ)) → rows_first (flat_map (field_forms m) es) ≡ []
no_rows_first m [] = refl
no_rows_first m (e ∷ es) = elim (is_skipped e.0) as (λ b. rows_first (cond b [] (Sets e.0 e.1 ∷ under_forms (text_under m e.0)) ++ flat_map (field_forms m) es) ≡ []) [ true ↦ no_rows_first m es | false ↦ refl ]

lines_between_newlines-some : (text : List ℕ) → (x : List ℕ) × (xs : List (List ℕ)) × (lines_between_newlines text ≡ x ∷ xs)
lines_between_newlines-some [] = ([], [], refl)
lines_between_newlines-some (b ∷ text) = elim (b == 10) as (λ t. (x : List ℕ) × (xs : List (List ℕ)) × (cond t ([] ∷ lines_between_newlines text) (onto_part b (lines_between_newlines text)) ≡ x ∷ xs)) [
  | true ↦ ([], lines_between_newlines text, refl)
  | false ↦ (let more = lines_between_newlines-some text in (b ∷ more.0, more.1, ap (onto_part b) more.2))
]

-- the text is read again
rows_text : (text : List ℕ) → IsExtendedText text → extended_text (rows_said text) ≡ Some text
rows_text text h =
    let some : (x : List ℕ) × (xs : List (List ℕ)) × (lines_between_newlines text ≡ x ∷ xs) = lines_between_newlines-some text in
    let row : List ℕ → Row = λ line. row_of (row_line line) in
    ap (λ ls. extended_text (each row ls)) some.2
    ∙ ap (λ ls. Some (flowed (each row ls))) (sym some.2)
    ∙ ap (λ (x : List ℕ). Some x) (extended_again text h)

-- what the rows under a field make
under_text : (t : Stanza) (key : List ℕ) → IsTemplate t → extended_text (rows_first (under_forms (text_under (field_map t) key))) ≡ text_under (field_map t) key
under_text t key h = elim (is_description key) as (λ b. is_description key ≡ b → extended_text (rows_first (under_forms (cond b (map.get (field_map t) (extended_key key)) None))) ≡ cond b (map.get (field_map t) (extended_key key)) None) [
  | true ↦ λ d. elim (map.get (field_map t) (extended_key key)) as (λ o. map.get (field_map t) (extended_key key) ≡ o → extended_text (rows_first (under_forms o)) ≡ o) [
    | None ↦ λ e. refl
    | Some text ↦ λ e. ap (λ rows. extended_text rows) (ap rows_first (sym (append-nil (as_rows (rows_said text)))) ∙ rows_first-rows (rows_said text) [] refl) ∙ rows_text text (text_sound t key text h d e)
  ] refl
  | false ↦ λ d. refl
] refl

under_first : (o : Option (List ℕ)) (more : List Form) → rows_first more ≡ [] → rows_first (under_forms o ++ more) ≡ rows_first (under_forms o)
under_first None more h = h
under_first (Some text) more h = rows_first-rows (rows_said text) more h ∙ sym (ap rows_first (sym (append-nil (as_rows (rows_said text)))) ∙ rows_first-rows (rows_said text) [] refl)

under_none : (o : Option (List ℕ)) (more : List Form) → fields_in (under_forms o ++ more) ≡ fields_in more
under_none None more = refl
under_none (Some text) more = rows_none (rows_said text) more

fields_again : (t : Stanza) (es : List (List ℕ × List ℕ)) → IsTemplate t → fields_in (flat_map (field_forms (field_map t)) es) ≡ flat_map (printed_at (field_map t)) es
fields_again t [] h = refl
fields_again t (e ∷ es) h =
    let m : Texts (List ℕ) = field_map t in
    let more : List Form = flat_map (field_forms m) es in
    elim (is_skipped e.0) as (λ b. fields_in (cond b [] (Sets e.0 e.1 ∷ under_forms (text_under m e.0)) ++ more) ≡ cond b [] ((e.0, e.1) ∷ as_field (extended_key e.0) (text_under m e.0)) ++ flat_map (printed_at m) es) [
      | true ↦ fields_again t es h
      | false ↦
          (λ i. (e.0, e.1) ∷ as_field (extended_key e.0) (extended_text (under_first (text_under m e.0) more (no_rows_first m es) i)) ++ under_none (text_under m e.0) more i)
          ∙ (λ i. (e.0, e.1) ∷ as_field (extended_key e.0) (under_text t e.0 h i) ++ fields_again t es h i)
    ]

body_fields : (t : Stanza) → IsTemplate t → fields_in (body_forms t) ≡ printed_fields t
body_fields t h =
    ap (λ rows. (type_word, kind_word t.kind) ∷ as_field (extended_key type_word) (extended_text rows) ++ fields_in (flat_map (field_forms (field_map t)) t.fields)) (no_rows_first (field_map t) t.fields)
    ∙ ap (λ es. (type_word, kind_word t.kind) ∷ es) (fields_again t t.fields h)

pub kind_again : (kind : Kind) → kind_of (kind_word kind) ≡ Some kind
kind_again Str = refl
kind_again Boolean = refl
kind_again Select = refl
kind_again Multiselect = refl
kind_again Password = refl
kind_again Note = refl
kind_again Txt = refl
kind_again Error = refl
kind_again Title = refl

stanza_again : (t : Stanza) → IsTemplate t → stanza t.name t.kind (body_forms t) ≡ t
stanza_again t h =
    let fields : map.entries (fields_of (body_forms t)) ≡ t.fields = ap (λ es. map.entries (map.from_entries {R = text_cmp} es)) (body_fields t h) ∙ ap map.entries (same_fields t h) ∙ h.ordered in
    λ i. record { name = t.name; kind = t.kind; fields = fields i }

-- neither blank nor a Template line
record IsFurther (f : Form) : Type 0 where
  solid : is_blank_form f ≡ false
  none : (fs : List Form) → templates_in (f ∷ fs) ≡ templates_in fs

all_append : {X : Type 0} (P : X → Type 0) (xs ys : List X) → AllByRecursion P xs → AllByRecursion P ys → AllByRecursion P (xs ++ ys)
all_append P [] ys a b = b
all_append P (x ∷ xs) ys a b = (a.0, all_append P xs ys a.1 b)

rows_further : (rows : List Row) → AllByRecursion IsFurther (as_rows rows)
rows_further [] = tt
rows_further (row ∷ rows) = (record { solid = refl; none = λ fs. refl }, rows_further rows)

under_further : (o : Option (List ℕ)) → AllByRecursion IsFurther (under_forms o)
under_further None = tt
under_further (Some text) = rows_further (rows_said text)

fields_further : (m : Texts (List ℕ)) (es : List (List ℕ × List ℕ)) → AllByRecursion IsFurther (flat_map (field_forms m) es)
fields_further m [] = tt
fields_further m (e ∷ es) = all_append IsFurther (field_forms m e) (flat_map (field_forms m) es)
    (elim (is_skipped e.0) as (λ b. AllByRecursion IsFurther (cond b [] (Sets e.0 e.1 ∷ under_forms (text_under m e.0)))) [ true ↦ tt | false ↦ (record { solid = refl; none = λ fs. refl }, under_further (text_under m e.0)) ])
    (fields_further m es)

body_further : (t : Stanza) → AllByRecursion IsFurther (body_forms t)
body_further t = (record { solid = refl; none = λ fs. refl }, fields_further (field_map t) t.fields)

until-body : (fs rest : List Form) → AllByRecursion IsFurther fs → until_blank (fs ++ Blank ∷ rest) ≡ fs
until-body [] rest h = refl
until-body (f ∷ fs) rest h = before_first-later is_blank_form f (fs ++ Blank ∷ rest) (IsFurther.solid h.0) ∙ ap (λ (gs : List Form). f ∷ gs) (until-body fs rest h.1)

templates-body : (fs rest : List Form) → AllByRecursion IsFurther fs → templates_in (fs ++ Blank ∷ rest) ≡ templates_in rest
templates-body [] rest h = refl
templates-body (f ∷ fs) rest h = IsFurther.none h.0 (fs ++ Blank ∷ rest) ∙ templates-body fs rest h.1

template_again : (t : Stanza) (rest : List Form) → IsTemplate t → template_at t.name (body_forms t ++ Blank ∷ rest) ≡ t ∷ []
template_again t rest h =
    ap (λ body. option_to_list (option_map (λ kind. stanza t.name kind body) (kind_in body))) (until-body (body_forms t) rest (body_further t))
    ∙ ap (λ o. option_to_list (option_map (λ kind. stanza t.name kind (body_forms t)) o)) (kind_again t.kind)
    ∙ ap (λ (s : Stanza). s ∷ []) (stanza_again t h)

pub templates_again : (ts : List Stanza) → AllByRecursion IsTemplate ts → templates_in (flat_map template_forms ts) ≡ ts
templates_again [] h = refl
templates_again (t ∷ ts) h =
    let rest : List Form = flat_map template_forms ts in
    ap (λ (fs : List Form). templates_in (Heads t.name ∷ fs)) (append_assoc (body_forms t) (Blank ∷ []) rest)
    ∙ (λ i. template_again t rest h.0 i ++ templates-body (body_forms t) rest (body_further t) i)
    ∙ ap (λ (ss : List Stanza). t ∷ ss) (templates_again ts h.1)
