-- What is printed is read again.
use Rattle.std.proofs.Common.{◌≡◌, ℕ, Bool, true, false, cond, not, ◌&&◌, List, [], ◌∷◌, ◌++◌, Some, None, Ok, refl, sym, ap, ◌∙◌, subst, append_assoc}
use Rattle.std.specs.Prelude.{◌||◌, ◌≢◌, T, is_none}
use Rattle.std.specs.List.{flat_map, list_any, AllByRecursion}
use Rattle.dc_text.proofs.FirstLemmas.{before_first-later}
use Rattle.dc_template.specs.TemplateFaults.{is_blank_form, sets_type}
use Rattle.std.specs.Str.{bytes_eq}
use Rattle.std.specs.Cmp.Lexicographic.{same_text}
use Rattle.std.specs.Ordering.{is_lt}
use Rattle.std.proofs.lemmas.Map.Text.{is_eq-slice_cmp}
use Rattle.std.specs.FinMap as map
use Rattle.std.specs.FinMap.{is_sorted}
use Rattle.std.specs.FinMap.Entries.{below_all}
use Rattle.dc_text.specs.Faults.{run, goes_on}
use Rattle.dc_text.proofs.LineLaws.{lines_of-text_of}
use Rattle.dc_text.specs.Lines.{lines_of}
use Rattle.dc_text.specs.Maps.{AreDistinct, Texts, text_cmp}
use Rattle.dc_template.specs.Kinds.{kind_word, kind_of}
use Rattle.dc_template.specs.Forms.{type_word, is_description, is_extended, lines_from, lines_in, forms}
use Rattle.dc_template.specs.Stanzas.{Stanza, extended_key, field_map, IsTemplate}
use Rattle.dc_template.specs.Reading.{Reads, templates_in}
use Rattle.dc_template.specs.Machine.{fault_seen, noted, at_start, step_by, step}
use Rattle.dc_template.specs.Printed.{template_lines, canon, names}
use Rattle.dc_template.proofs.TestLemmas.{neither, list_any-append}
use Rattle.dc_template.proofs.FieldLemmas.{T_both, not_below}
use Rattle.dc_template.proofs.FaultLaws.{all_stand}
use Rattle.dc_template.proofs.PrintedFields.{is_skipped, text_under}
use Rattle.dc_template.proofs.PrintedLines.{forms-from}
use Rattle.dc_template.proofs.PrintedForms.{rows_said, as_rows, under_forms, field_forms, template_forms, ArePrinted, printed_forms, printed_plain, printed_one, templates_printed, templates_again, kind_again}
use Rattle.dc_template.specs.declared.kinds.Kind.{Kind}
use Rattle.dc_template.specs.declared.forms.Row.{Row}
use Rattle.dc_template.specs.declared.forms.Form.{Form}
use Rattle.dc_template.specs.declared.forms.Form.TheVariants.{Blank, Sets}
use Rattle.dc_template.specs.declared.forms.Line.{Line}
use Rattle.dc_template.specs.declared.checking.Seen.{Seen}
use Rattle.dc_template.specs.declared.faults.TemplateKind.TheVariants.{NoTemplate, NoType, BadType, Twice, StrayIndent}

-- ---- the reader takes the lines

-- no line has a fault, after what was seen
abbrev IsTaken : Seen → List Form → Type 0
IsTaken s [] = Unit {0}
IsTaken s (f ∷ fs) = (fault_seen s f fs ≡ None) × IsTaken (noted s f) fs

taken_runs : (lines : List Line) (s : Seen) → IsTaken s (forms lines) → (t : Seen) × (run step lines s ≡ Ok t)
taken_runs [] s h = (s, refl)
taken_runs (l ∷ lines) s h =
    let more : (t : Seen) × (run step lines (noted s l.form) ≡ Ok t) = taken_runs lines (noted s l.form) h.1 in
    (more.0, ap (λ found. goes_on (step_by found s l) (λ t. run step lines t)) h.0 ∙ more.1)

-- ---- texts that were seen

first_last : (a b : Bool) → (a || (b || false)) ≡ (b || a)
first_last true true = refl
first_last true false = refl
first_last false true = refl
first_last false false = refl

among-more : (texts : List (List ℕ)) (text q : List ℕ) → list_any (bytes_eq q) (texts ++ text ∷ []) ≡ (bytes_eq q text || list_any (bytes_eq q) texts)
among-more texts text q = list_any-append (bytes_eq q) texts (text ∷ []) ∙ first_last (list_any (bytes_eq q) texts) (bytes_eq q text)

-- ---- the fields of a template

-- between two stanzas
abbrev between : List (List ℕ) → Seen
between names = record { names = names; keys = []; is_open = false; describes = false }

rows_taken : (s : Seen) (rows : List Row) (rest : List Form) → s.is_open ≡ true → s.describes ≡ true → IsTaken s rest → IsTaken s (as_rows rows ++ rest)
rows_taken s [] rest o d h = h
rows_taken s (row ∷ rows) rest o d h = (
  (λ i. cond (not (o i)) (Some NoTemplate) (cond (d i) None (Some StrayIndent))),
  rows_taken s rows rest o d h,
)

-- an extended text stands under a description
under_taken : (m : Texts (List ℕ)) (key : List ℕ) (s : Seen) (rest : List Form) → s.is_open ≡ true → s.describes ≡ is_description key → IsTaken s rest → IsTaken s (under_forms (text_under m key) ++ rest)
under_taken m key s rest o d h = elim (is_description key) as (λ b. is_description key ≡ b → IsTaken s (under_forms (cond b (map.get m (extended_key key)) None) ++ rest)) [
  | true ↦ λ e. elim (map.get m (extended_key key)) as (λ t. IsTaken s (under_forms t ++ rest)) [ None ↦ h | Some text ↦ rows_taken s (rows_said text) rest o (d ∙ e) h ]
  | false ↦ λ e. h
] refl

-- none of the keys that have lines is in the set, and no two are the same
abbrev AreNew : List (List ℕ) → List (List ℕ × List ℕ) → Type 0
AreNew keys [] = Unit {0}
AreNew keys (e ∷ es) = cond (is_skipped e.0) (AreNew keys es) ((list_any (bytes_eq e.0) keys ≡ false) × AreNew (keys ++ e.0 ∷ []) es)

sets_fault : (s : Seen) (key value : List ℕ) (fs : List Form) → s.is_open ≡ true → bytes_eq key type_word ≡ false → list_any (bytes_eq key) s.keys ≡ false → fault_seen s (Sets key value) fs ≡ None
sets_fault s key value fs o other new =
    λ i. cond (not (o i)) (Some NoTemplate)
    (cond (other i && is_none (kind_of value)) (Some BadType)
    (cond (new i) (Some Twice) None))

fields_taken : (m : Texts (List ℕ)) (es : List (List ℕ × List ℕ)) (s : Seen) (rest : List Form) → s.is_open ≡ true → AreNew s.keys es → IsTaken (between s.names) rest → IsTaken s (flat_map (field_forms m) es ++ Blank ∷ rest)
fields_taken m [] s rest o new h = (refl, h)
fields_taken m (e ∷ es) s rest o new h =
    elim (is_skipped e.0) as (λ b. is_skipped e.0 ≡ b → cond b (AreNew s.keys es) ((list_any (bytes_eq e.0) s.keys ≡ false) × AreNew (s.keys ++ e.0 ∷ []) es)
    → IsTaken s ((cond b [] (Sets e.0 e.1 ∷ under_forms (text_under m e.0)) ++ flat_map (field_forms m) es) ++ Blank ∷ rest)) [
      | true ↦ λ skip n. fields_taken m es s rest o n h
      | false ↦ λ skip n.
          let next : Seen = record s { keys = s.keys ++ e.0 ∷ []; describes = is_description e.0 } in
          let more : IsTaken next (flat_map (field_forms m) es ++ Blank ∷ rest) = fields_taken m es next rest o n.1 h in (
            sets_fault s e.0 e.1 ((under_forms (text_under m e.0) ++ flat_map (field_forms m) es) ++ Blank ∷ rest) o (neither (bytes_eq e.0 type_word) (is_extended e.0) skip).0 n.0,
            subst (IsTaken next) (sym (append_assoc (under_forms (text_under m e.0)) (flat_map (field_forms m) es) (Blank ∷ rest)))
                (under_taken m e.0 next (flat_map (field_forms m) es ++ Blank ∷ rest) o refl more),
          )
    ] refl new

-- fields in order have keys of their own
AreOthers : List (List ℕ) → List (List ℕ × List ℕ) → Type 0
AreOthers keys es = AllByRecursion (λ (e : List ℕ × List ℕ). is_skipped e.0 ≡ false → list_any (bytes_eq e.0) keys ≡ false) es

still_others : (keys : List (List ℕ)) (k : List ℕ) (es : List (List ℕ × List ℕ)) → T (below_all text_cmp k es) → AreOthers keys es → AreOthers (keys ++ k ∷ []) es
unfolding AreOthers
still_others keys k [] b h = tt
still_others keys k (e ∷ es) b h =
    let p : T (is_lt (text_cmp k e.0)) × T (below_all text_cmp k es) = T_both _ _ b in
    (λ s. among-more keys k e.0 ∙ (λ i. (sym (is_eq-slice_cmp e.0 k) ∙ not_below k e.0 p.0) i || h.0 s i), still_others keys k es p.1 h.1)

ordered_new : (keys : List (List ℕ)) (es : List (List ℕ × List ℕ)) → T (is_sorted text_cmp es) → AreOthers keys es → AreNew keys es
unfolding AreOthers
ordered_new keys [] o h = tt
ordered_new keys (e ∷ es) o h =
    let p : T (below_all text_cmp e.0 es) × T (is_sorted text_cmp es) = T_both _ _ o in
    elim (is_skipped e.0) as (λ b. is_skipped e.0 ≡ b → cond b (AreNew keys es) ((list_any (bytes_eq e.0) keys ≡ false) × AreNew (keys ++ e.0 ∷ []) es)) [
      | true ↦ λ s. ordered_new keys es p.1 h.1
      | false ↦ λ s. (h.0 s, ordered_new (keys ++ e.0 ∷ []) es p.1 (still_others keys e.0 es p.0 h.1))
    ] refl

not_type : (es : List (List ℕ × List ℕ)) → AreOthers (type_word ∷ []) es
unfolding AreOthers
not_type [] = tt
not_type (e ∷ es) = (λ s. ap (λ b. b || false) (neither (bytes_eq e.0 type_word) (is_extended e.0) s).0, not_type es)

fields_new : (t : Stanza) → IsTemplate t → AreNew (type_word ∷ []) t.fields
fields_new t h = ordered_new (type_word ∷ []) t.fields (subst (λ es. T (is_sorted text_cmp es)) h.ordered (map.entries_sorted (field_map t))) (not_type t.fields)

-- ---- the lines of templates

type_fault : (s : Seen) (kind : Kind) (fs : List Form) → s.is_open ≡ true → s.keys ≡ [] → fault_seen s (Sets type_word (kind_word kind)) fs ≡ None
type_fault s kind fs o keys =
    λ i. cond (not (o i)) (Some NoTemplate)
    (cond (is_none (kind_again kind i)) (Some BadType)
    (cond (list_any (bytes_eq type_word) (keys i)) (Some Twice) None))

template_taken : (t : Stanza) (known : List (List ℕ)) (rest : List Form) → IsTemplate t → list_any (bytes_eq t.name) known ≡ false → IsTaken (between (known ++ t.name ∷ [])) rest → IsTaken (between known) (template_forms t ++ rest)
template_taken t known rest h new more =
    let opened : Seen = record { names = known ++ t.name ∷ []; keys = []; is_open = true; describes = false } in
    let typed : Seen = record { names = known ++ t.name ∷ []; keys = type_word ∷ []; is_open = true; describes = false } in
    let fields : List Form = flat_map (field_forms (field_map t)) t.fields in
    let body : IsTaken typed ((fields ++ Blank ∷ []) ++ rest) = subst (IsTaken typed) (sym (append_assoc fields (Blank ∷ []) rest)) (fields_taken (field_map t) t.fields typed rest refl (fields_new t h) more) in (
      ap (λ fs. cond (not (list_any sets_type fs)) (Some NoType) (cond (list_any (bytes_eq t.name) known) (Some Twice) None))
          (before_first-later is_blank_form (Sets type_word (kind_word t.kind)) ((fields ++ Blank ∷ []) ++ rest) refl)
          ∙ ap (λ b. cond b (Some Twice) None) new,
      (type_fault opened t.kind ((fields ++ Blank ∷ []) ++ rest) refl refl, body),
    )

-- none of the names is in the set
abbrev AreUnknown : List (List ℕ) → List Stanza → Type 0
AreUnknown known ts = AllByRecursion (λ (t : Stanza). list_any (bytes_eq t.name) known ≡ false) ts

other_name : (a b : List ℕ) → (a ≡ b → ⊥) → bytes_eq a b ≡ false
other_name a b h = elim (bytes_eq a b) as (λ t. bytes_eq a b ≡ t → t ≡ false) [ true ↦ λ e. absurd (h (same_text a b (sym e))) | false ↦ λ e. refl ] refl

still_unknown : (known : List (List ℕ)) (name : List ℕ) (ts : List Stanza) → AllByRecursion (λ other. other ≢ name) (names ts) → AreUnknown known ts → AreUnknown (known ++ name ∷ []) ts
still_unknown known name [] a h = tt
still_unknown known name (t ∷ ts) a h = (among-more known name t.name ∙ (λ i. other_name t.name name a.0 i || h.0 i), still_unknown known name ts a.1 h.1)

templates_taken : (ts : List Stanza) (known : List (List ℕ)) → AllByRecursion IsTemplate ts → AreDistinct (names ts) → AreUnknown known ts → IsTaken (between known) (flat_map template_forms ts)
templates_taken [] known h apart new = tt
templates_taken (t ∷ ts) known h apart new =
    template_taken t known (flat_map template_forms ts) h.0 new.0
    (templates_taken ts (known ++ t.name ∷ []) h.1 apart.1 (still_unknown known t.name ts apart.0 new.1))

none_known : (ts : List Stanza) → AreUnknown [] ts
none_known [] = tt
none_known (t ∷ ts) = (refl, none_known ts)

pub read_again : (ts : List Stanza) → AllByRecursion IsTemplate ts → AreDistinct (names ts) → Reads (canon ts) ts
read_again ts h apart =
    let printed : List (List ℕ) = flat_map template_lines ts in
    let said : List Form = flat_map template_forms ts in
    let are : ArePrinted printed said = templates_printed ts h in
    let lines : lines_of (canon ts) ≡ printed = lines_of-text_of printed (printed_one printed said are) in
    let says : forms (lines_in (canon ts)) ≡ said = ap (λ ls. forms (lines_from 1 ls)) lines ∙ forms-from 1 printed (printed_plain printed said are) ∙ printed_forms printed said are in
    let runs : (t : Seen) × (run step (lines_in (canon ts)) at_start ≡ Ok t) = taken_runs (lines_in (canon ts)) at_start (subst (IsTaken at_start) (sym says) (templates_taken ts [] h apart (none_known ts))) in
    record {
      stand = all_stand (lines_in (canon ts)) runs.0 runs.1;
      are = sym (ap templates_in says ∙ templates_again ts h);
    }
