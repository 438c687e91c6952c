-- The templates of lines that stand where they do are as templates should be.
use Rattle.std.proofs.Common.{◌≡◌, ℕ, ◌+◌, Bool, true, false, cond, not, ◌&&◌, List, [], ◌∷◌, ◌++◌, length, Some, None, Option, Ok, Err, Result, refl, sym, ap, ◌∙◌, subst, arith, length-append}
use Rattle.std.specs.Prelude.{◌||◌, nat_le, nat_lt, is_some, codes, option_to_list}
use Rattle.std.specs.List.{AllByRecursion}
use Rattle.std.specs.Option.{option_map}
use Rattle.std.specs.Str.{bytes_eq}
use Rattle.std.specs.Ordering.{eq_by_cmp}
use Rattle.std.specs.FinMap as map
use Rattle.std.specs.FinMap.{find}
use Rattle.std.specs.Cmp.Lexicographic.{same_text, nat_list_cmp_total, nat_list_eq_equiv}
use Rattle.std.proofs.lemmas.Map.Text.{is_eq-slice_cmp}
use Rattle.std.proofs.lemmas.Slice.Eq.{bytes_eq-Decides}
use Rattle.std.proofs.lemmas.Bool.Decides.{nat_tests}
use Rattle.dc_text.specs.Faults.{run, goes_on}
use Rattle.dc_text.specs.Maps.{text_cmp}
use Rattle.dc_text.specs.Names.{is_name, is_field_key, has_length}
use Rattle.dc_text.proofs.MapLemmas.{from_entries-entries}
use Rattle.dc_template.specs.Kinds.{kind_word, kind_of, all_kinds}
use Rattle.dc_template.specs.Forms.{type_word, template_word, is_description, is_extended, is_line_key, forms}
use Rattle.dc_template.specs.Stanzas.{Stanza, flowed, extended_key, described_by, extended_text, rows_first, as_field, fields_in, kind_in, fields_of, stanza, IsLine, IsExtendedText, IsFieldAmong, field_map, IsTemplate}
use Rattle.dc_text.proofs.FirstLemmas.{before_first-cons, before_first-later}
use Rattle.dc_template.specs.TemplateFaults.{is_blank_form, until_blank}
use Rattle.dc_template.specs.Reading.{template_at, templates_in, AreSound}
use Rattle.dc_template.specs.Machine.{fault_seen, noted, step}
use Rattle.dc_template.proofs.TestLemmas.{both, both_hold, neither, not_true, find_passes}
use Rattle.dc_template.proofs.KeyLemmas.{IsKey, key_is}
use Rattle.dc_template.proofs.CheckLemmas.{step_ok}
use Rattle.dc_template.proofs.RowLemmas.{IsSoundRow, extended_sound}
use Rattle.dc_template.proofs.FormLemmas.{IsSetting, IsSoundForm}
use Rattle.dc_template.specs.declared.kinds.Kind.{Kind}
use Rattle.dc_template.specs.declared.forms.Row.{Row}
use Rattle.dc_template.specs.declared.forms.Form.{Form}
use Rattle.dc_template.specs.declared.forms.Form.TheVariants.{Blank, Indented, Colonless, Unkeyed, Unnamed, Heads, Sets}
use Rattle.dc_template.specs.declared.forms.Line.{Line}
use Rattle.dc_template.specs.declared.checking.Seen.{Seen}
use Rattle.dc_template.specs.declared.faults.TemplateKind.{TemplateKind}

-- ---- indented lines stand under descriptions

-- each indented line goes on the line of a description; where `describes` is true the line before is one
abbrev pub IsUnder : Bool → List Form → Type 0
IsUnder describes [] = Unit {0}
IsUnder describes (Indented row ∷ lines) = (describes ≡ true) × IsUnder describes lines
IsUnder describes (Sets key value ∷ lines) = IsUnder (is_description key) lines
IsUnder describes (_ ∷ lines) = IsUnder false lines

goes_ok : {S T F : Type 0} (r : Result S F) (f : S → Result T F) (t : T) → goes_on r f ≡ Ok t → (s : S) × (r ≡ Ok s) × (f s ≡ Ok t)
goes_ok (Ok s) f t e = (s, refl, e)
goes_ok (Err x) f t e = absurd (cc)

-- a line that is taken, and the lines after it
pub run_cons : (l : Line) (lines : List Line) (s t : Seen) → run step (l ∷ lines) s ≡ Ok t → (fault_seen s l.form (forms lines) ≡ None) × (run step lines (noted s l.form) ≡ Ok t)
run_cons l lines s t e =
    let g : (u : Seen) × (step s l lines ≡ Ok u) × (run step lines u ≡ Ok t) = goes_ok (step s l lines) (λ u. run step lines u) t e in
    let f : (fault_seen s l.form (forms lines) ≡ None) × (noted s l.form ≡ g.0) = step_ok (fault_seen s l.form (forms lines)) s g.0 l g.1 in
    (f.0, ap (λ u. run step lines u) f.1 ∙ g.2)

described : (a d : Bool) (x y : TemplateKind) → cond a (Some x) (cond d None (Some y)) ≡ None → d ≡ true
described true d x y e = absurd (cc)
described false true x y e = refl
described false false x y e = absurd (cc)

under_line : (form : Form) (lines : List Form) (s : Seen) → fault_seen s form lines ≡ None → IsUnder (noted s form).describes lines → IsUnder s.describes (form ∷ lines)
under_line Blank lines s e h = h
under_line (Indented row) lines s e h = (described (not s.is_open) s.describes _ _ e, h)
under_line Colonless lines s e h = absurd (cc)
under_line Unkeyed lines s e h = absurd (cc)
under_line Unnamed lines s e h = absurd (cc)
under_line (Heads name) lines s e h = h
under_line (Sets key value) lines s e h = h

pub run_under : (lines : List Line) (s t : Seen) → run step lines s ≡ Ok t → IsUnder s.describes (forms lines)
run_under [] s t e = tt
run_under (l ∷ lines) s t e = let f : (fault_seen s l.form (forms lines) ≡ None) × (run step lines (noted s l.form) ≡ Ok t) = run_cons l lines s t e in
    under_line l.form (forms lines) s f.0 (run_under lines (noted s l.form) t f.1)

pub until_under : (describes : Bool) (lines : List Form) → IsUnder describes lines → IsUnder describes (until_blank lines)
until_under d [] h = tt
until_under d (Blank ∷ lines) h = tt
until_under d (Indented row ∷ lines) h = subst (IsUnder d) (sym (before_first-later is_blank_form (Indented row) lines refl)) (h.0, until_under d lines h.1)
until_under d (Colonless ∷ lines) h = subst (IsUnder d) (sym (before_first-later is_blank_form Colonless lines refl)) (until_under false lines h)
until_under d (Unkeyed ∷ lines) h = subst (IsUnder d) (sym (before_first-later is_blank_form Unkeyed lines refl)) (until_under false lines h)
until_under d (Unnamed ∷ lines) h = subst (IsUnder d) (sym (before_first-later is_blank_form Unnamed lines refl)) (until_under false lines h)
until_under d (Heads name ∷ lines) h = subst (IsUnder d) (sym (before_first-later is_blank_form (Heads name) lines refl)) (until_under false lines h)
until_under d (Sets key value ∷ lines) h = subst (IsUnder d) (sym (before_first-later is_blank_form (Sets key value) lines refl)) (until_under (is_description key) lines h)

pub until_sound : (lines : List Form) → AllByRecursion IsSoundForm lines → AllByRecursion IsSoundForm (until_blank lines)
until_sound [] h = tt
until_sound (f ∷ lines) h =
    subst (AllByRecursion IsSoundForm) (sym (before_first-cons is_blank_form f lines))
    (elim (is_blank_form f) as (λ t. AllByRecursion IsSoundForm (cond t [] (f ∷ until_blank lines))) [ true ↦ tt | false ↦ (h.0, until_sound lines h.1) ])

-- ---- keys

abbrev pub same_key : List ℕ → List ℕ → Bool
same_key a b = eq_by_cmp text_cmp a b

pub key_same : (a b : List ℕ) → same_key a b ≡ true → a ≡ b
key_same a b e = same_text a b (sym (sym (is_eq-slice_cmp a b) ∙ e))

-- the key of an extended text is longer by nine bytes, and none of the others is one
pub line_key : (key : List ℕ) → is_line_key key ≡ true → (is_field_key key ≡ true) × (is_extended key ≡ false) × ((is_description key && nat_lt 55 (length key)) ≡ false)
line_key key e =
    let f : (is_field_key key ≡ true) × (not (is_extended key || (is_description key && nat_lt 55 (length key))) ≡ true) = both _ _ e in
    let g : (is_extended key ≡ false) × ((is_description key && nat_lt 55 (length key)) ≡ false) = neither _ _ (not_true _ f.1) in
    (f.0, g.0, g.1)

short_enough : (n : ℕ) → nat_lt 55 n ≡ false → (nat_le 1 (9 + n) && nat_le (9 + n) 64) ≡ true
short_enough n e = grind (arith, nat_tests)

second : (a b : Bool) → a ≡ true → (a && b) ≡ false → b ≡ false
second true b p e = e
second false b p e = absurd (cc)

-- the key of a description, which leaves room, as the key of its extended text
pub extended_is_key : (key : List ℕ) → is_line_key key ≡ true → is_description key ≡ true → is_field_key (extended_key key) ≡ true
extended_is_key key e d =
    let f : (is_field_key key ≡ true) × (is_extended key ≡ false) × ((is_description key && nat_lt 55 (length key)) ≡ false) = line_key key e in
    let is : IsKey key = key_is key f.0 in
    let size : length (extended_key key) ≡ 9 + length key = length-append (codes "extended_") key in
    let sized : has_length 64 (extended_key key) ≡ true = ap (λ n. nat_le 1 n && nat_le n 64) size ∙ short_enough (length key) (second (is_description key) (nat_lt 55 (length key)) d f.2) in
    both_hold _ _ (both_hold _ _ sized is.bytes) refl

pub extended_is : (key : List ℕ) → is_description key ≡ true → is_extended (extended_key key) ≡ true
extended_is key e = e

-- ---- the fields of some lines

-- a field among some entries
record FieldIn (es : List (List ℕ × List ℕ)) (key value : List ℕ) : Type 0 where
  is_key : is_field_key key ≡ true
  extended : is_extended key ≡ true → (is_some (find text_cmp (described_by key) es) ≡ true) × IsExtendedText value
  line : is_extended key ≡ false → (bytes_eq key template_word ≡ false) × (is_line_key key ≡ true) × IsLine value

abbrev AllIn : List (List ℕ × List ℕ) → Type 0
AllIn es = (key value : List ℕ) → find text_cmp key es ≡ Some value → FieldIn es key value

same_first : (key value : List ℕ) (es : List (List ℕ × List ℕ)) → is_some (find text_cmp key ((key, value) ∷ es)) ≡ true
same_first key value es = ap (λ t. is_some (cond t (Some value) (find text_cmp key es))) (is_eq-slice_cmp key key ∙ (bytes_eq-Decides key key).1 refl)

is_some-later : (b : Bool) (value : List ℕ) (o : Option (List ℕ)) → is_some o ≡ true → is_some (cond b (Some value) o) ≡ true
is_some-later true value o e = refl
is_some-later false value o e = e

still_found : (q : List ℕ) (xs ys : List (List ℕ × List ℕ)) → is_some (find text_cmp q ys) ≡ true → is_some (find text_cmp q (xs ++ ys)) ≡ true
still_found q [] ys e = e
still_found q (x ∷ xs) ys e = is_some-later (same_key q x.0) x.1 (find text_cmp q (xs ++ ys)) (still_found q xs ys e)

lift_in : (xs ys : List (List ℕ × List ℕ)) (key value : List ℕ) → FieldIn ys key value → FieldIn (xs ++ ys) key value
lift_in xs ys key value f = record {
  is_key = f.is_key;
  extended = λ e. let g = f.extended e in (still_found (described_by key) xs ys g.0, g.1);
  line = f.line;
}

setting_in : (es : List (List ℕ × List ℕ)) (key value : List ℕ) → IsSetting key value → FieldIn es key value
setting_in es key value is =
    let f : (is_field_key key ≡ true) × (is_extended key ≡ false) × ((is_description key && nat_lt 55 (length key)) ≡ false) = line_key key is.is_key in
    record {
      is_key = f.0;
      extended = λ e. (let off : true ≡ false = sym e ∙ f.1 in absurd (cc));
      line = λ _. (is.other, is.is_key, is.line);
    }

extended_in : (es : List (List ℕ × List ℕ)) (key value text : List ℕ) → is_line_key key ≡ true → is_description key ≡ true → IsExtendedText text → FieldIn ((key, value) ∷ es) (extended_key key) text
extended_in es key value text is d e = record {
  is_key = extended_is_key key is d;
  extended = λ _. (same_first key value es, e);
  line = λ off. (let no : true ≡ false = sym (extended_is key d) ∙ off in absurd (cc));
}

-- where a list of entries finds a value: in the first, or in the others
record FoundHere (key k value v : List ℕ) : Type 0 where
  key_is : key ≡ k
  value_is : v ≡ value

found_first : (key k value v : List ℕ) (o : Option (List ℕ)) (P : Type 0) → cond (same_key key k) (Some v) o ≡ Some value → (FoundHere key k value v → P) → (o ≡ Some value → P) → P
found_first key k value v o P e here there = elim (same_key key k) as (λ t. same_key key k ≡ t → cond t (Some v) o ≡ Some value → P) [
  | true ↦ λ same f. here (record { key_is = key_same key k same; value_is = cc })
  | false ↦ λ _ f. there f
] refl e

field_at : (es : List (List ℕ × List ℕ)) (key k value v : List ℕ) → FoundHere key k value v → FieldIn es k v → FieldIn es key value
field_at es key k value v f g = subst (λ x. FieldIn es x value) (sym f.key_is) (subst (λ x. FieldIn es k x) f.value_is g)

-- the first of the rows stands under a description
abbrev pub AreDescribed : Bool → List Row → Type 0
AreDescribed describes [] = Unit {0}
AreDescribed describes (row ∷ rows) = describes ≡ true

pub first_described : (describes : Bool) (lines : List Form) → IsUnder describes lines → AreDescribed describes (rows_first lines)
first_described d [] h = tt
first_described d (Blank ∷ lines) h = tt
first_described d (Indented row ∷ lines) h = h.0
first_described d (Colonless ∷ lines) h = tt
first_described d (Unkeyed ∷ lines) h = tt
first_described d (Unnamed ∷ lines) h = tt
first_described d (Heads name ∷ lines) h = tt
first_described d (Sets key value ∷ lines) h = tt

first_sound : (lines : List Form) → AllByRecursion IsSoundForm lines → AllByRecursion IsSoundRow (rows_first lines)
first_sound [] h = tt
first_sound (Blank ∷ lines) h = tt
first_sound (Indented row ∷ lines) h = (h.0, first_sound lines h.1)
first_sound (Colonless ∷ lines) h = tt
first_sound (Unkeyed ∷ lines) h = tt
first_sound (Unnamed ∷ lines) h = tt
first_sound (Heads name ∷ lines) h = tt
first_sound (Sets key value ∷ lines) h = tt

sets_in : (k v : List ℕ) (rows : List Row) (more : List (List ℕ × List ℕ)) → IsSetting k v → AllByRecursion IsSoundRow rows → AreDescribed (is_description k) rows → AllIn more
    → AllIn ((k, v) ∷ as_field (extended_key k) (extended_text rows) ++ more)
sets_in k v [] more is sound d rest = λ key value e.
    found_first key k value v (find text_cmp key more) (FieldIn ((k, v) ∷ more) key value) e
    (λ here. field_at ((k, v) ∷ more) key k value v here (setting_in ((k, v) ∷ more) k v is))
    (λ f. lift_in ((k, v) ∷ []) more key value (rest key value f))
sets_in k v (row ∷ rows) more is sound d rest = λ key value e.
    let text : List ℕ = flowed (row ∷ rows) in
    let es : List (List ℕ × List ℕ) = (k, v) ∷ (extended_key k, text) ∷ more in
    found_first key k value v (find text_cmp key ((extended_key k, text) ∷ more)) (FieldIn es key value) e
    (λ here. field_at es key k value v here (setting_in es k v is))
    (λ f. found_first key (extended_key k) value text (find text_cmp key more) (FieldIn es key value) f
    (λ here. field_at es key (extended_key k) value text here (extended_in ((extended_key k, text) ∷ more) k v text is.is_key d (extended_sound row rows sound.0 sound.1)))
    (λ g. lift_in ((k, v) ∷ (extended_key k, text) ∷ []) more key value (rest key value g)))

all_in : (describes : Bool) (lines : List Form) → IsUnder describes lines → AllByRecursion IsSoundForm lines → AllIn (fields_in lines)
all_in d [] u h = λ key value e. absurd (cc)
all_in d (Blank ∷ lines) u h = all_in false lines u h.1
all_in d (Indented row ∷ lines) u h = all_in d lines u.1 h.1
all_in d (Colonless ∷ lines) u h = all_in false lines u h.1
all_in d (Unkeyed ∷ lines) u h = all_in false lines u h.1
all_in d (Unnamed ∷ lines) u h = all_in false lines u h.1
all_in d (Heads name ∷ lines) u h = all_in false lines u h.1
all_in d (Sets key value ∷ lines) u h =
    sets_in key value (rows_first lines) (fields_in lines) h.0 (first_sound lines h.1) (first_described (is_description key) lines u) (all_in (is_description key) lines u h.1)

-- ---- the kind

no_type : (k : List ℕ) (o : Option (List ℕ)) (more : List (List ℕ × List ℕ)) → find text_cmp type_word (as_field (extended_key k) o ++ more) ≡ find text_cmp type_word more
no_type k None more = refl
no_type k (Some text) more = refl

kind_is : (word : List ℕ) (kind : Kind) → kind_of word ≡ Some kind → word ≡ kind_word kind
kind_is word kind e = sym (same_text (kind_word kind) word (sym (find_passes (λ k. bytes_eq (kind_word k) word) all_kinds kind e)))

kind_found : (lines : List Form) (kind : Kind) → kind_in lines ≡ Some kind → find text_cmp type_word (fields_in lines) ≡ Some (kind_word kind)
kind_found [] kind e = absurd (cc)
kind_found (Blank ∷ lines) kind e = kind_found lines kind e
kind_found (Indented row ∷ lines) kind e = kind_found lines kind e
kind_found (Colonless ∷ lines) kind e = kind_found lines kind e
kind_found (Unkeyed ∷ lines) kind e = kind_found lines kind e
kind_found (Unnamed ∷ lines) kind e = kind_found lines kind e
kind_found (Heads name ∷ lines) kind e = kind_found lines kind e
kind_found (Sets key value ∷ lines) kind e =
    let same : same_key type_word key ≡ bytes_eq key type_word = is_eq-slice_cmp type_word key ∙ nat_list_eq_equiv.symm type_word key in
    let others : List (List ℕ × List ℕ) = as_field (extended_key key) (extended_text (rows_first lines)) ++ fields_in lines in
    ap (λ t. cond t (Some value) (find text_cmp type_word others)) same
    ∙ elim (bytes_eq key type_word) as (λ t. cond t (kind_of value) (kind_in lines) ≡ Some kind → cond t (Some value) (find text_cmp type_word others) ≡ Some (kind_word kind)) [
      | true ↦ λ f. ap (λ (w : List ℕ). Some w) (kind_is value kind f)
      | false ↦ λ f. no_type key (extended_text (rows_first lines)) (fields_in lines) ∙ kind_found lines kind f
    ] e

-- ---- the template of a stanza

stanza_sound : (name : List ℕ) (kind : Kind) (lines : List Form) → is_name name ≡ true → kind_in lines ≡ Some kind → AllIn (fields_in lines) → IsTemplate (stanza name kind lines)
stanza_sound name kind lines named typed all =
    let es : List (List ℕ × List ℕ) = fields_in lines in
    let again : field_map (stanza name kind lines) ≡ fields_of lines = from_entries-entries (fields_of lines) in
    record {
      named = named;
      typed = ap (λ m. map.get m type_word) again ∙ map.get-from_entries nat_list_cmp_total es type_word ∙ kind_found lines kind typed;
      ordered = ap map.entries again;
      sound = λ key value e.
          let f : FieldIn es key value = all key value (sym (map.get-from_entries nat_list_cmp_total es key) ∙ ap (λ m. map.get m key) (sym again) ∙ e) in
          subst (λ m. IsFieldAmong m key value) (sym again) (record {
            is_key = f.is_key;
            extended = λ g. (ap is_some (map.get-from_entries nat_list_cmp_total es (described_by key)) ∙ (f.extended g).0, (f.extended g).1);
            line = f.line;
          });
    }

all_append : {X : Type 0} (P : X → Type 0) (xs ys : List X) → AllByRecursion P xs → AllByRecursion P ys → AllByRecursion P (xs ++ ys)
all_append P [] ys a b = b
all_append P (x ∷ xs) ys a b = (a.0, all_append P xs ys a.1 b)

template_sound : (name : List ℕ) (lines : List Form) → is_name name ≡ true → IsUnder false lines → AllByRecursion IsSoundForm lines → AllByRecursion IsTemplate (template_at name lines)
template_sound name lines named u h =
    let body : List Form = until_blank lines in
    elim (kind_in body) as (λ o. kind_in body ≡ o → AllByRecursion IsTemplate (option_to_list (option_map (λ kind. stanza name kind body) o))) [
      | None ↦ λ e. tt
      | Some kind ↦ λ e. (stanza_sound name kind body named e (all_in false body (until_under false lines u) (until_sound lines h)), tt)
    ] refl

line_sound : (form : Form) (lines : List Form) (describes : Bool) → IsSoundForm form → IsUnder describes (form ∷ lines) → AllByRecursion IsSoundForm lines → AreSound lines → AreSound (form ∷ lines)
line_sound Blank lines d f u h rest = rest
line_sound (Indented row) lines d f u h rest = rest
line_sound Colonless lines d f u h rest = rest
line_sound Unkeyed lines d f u h rest = rest
line_sound Unnamed lines d f u h rest = rest
line_sound (Heads name) lines d f u h rest = all_append IsTemplate (template_at name lines) (templates_in lines) (template_sound name lines f u h) rest
line_sound (Sets key value) lines d f u h rest = rest

pub run_sound : (lines : List Line) (s t : Seen) → run step lines s ≡ Ok t → AllByRecursion IsSoundForm (forms lines) → AreSound (forms lines)
run_sound [] s t e h = tt
run_sound (l ∷ lines) s t e h =
    line_sound l.form (forms lines) s.describes h.0 (run_under (l ∷ lines) s t e) h.1
    (run_sound lines (noted s l.form) t (run_cons l lines s t e).1 h.1)

-- the templates of two runs of lines
pub sound_front : (xs ys : List Stanza) → AllByRecursion IsTemplate (xs ++ ys) → AllByRecursion IsTemplate xs × AllByRecursion IsTemplate ys
sound_front [] ys h = (tt, h)
sound_front (x ∷ xs) ys h = let f = sound_front xs ys h.1 in ((h.0, f.0), f.1)
