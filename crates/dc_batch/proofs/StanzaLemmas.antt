-- Lines, and the stanzas that they make.
use Rattle.std.proofs.Common.{◌≡◌, ℕ, ◌-◌, ◌≤◌, Bool, true, false, cond, List, [], ◌∷◌, ◌++◌, length, get_or, take, drop, Some, None, Option, refl, sym, ap, ◌∙◌, arith}
use Rattle.std.specs.Prelude.{◌||◌, is_some, slice_get}
use Rattle.std.specs.List.{list_any, cons_option, slice_split, onto_first}
use Rattle.std.proofs.lemmas.List.{append-nil}
use Rattle.std.proofs.lemmas.List.Elements.{filter_map-append}
use Rattle.std.proofs.lemmas.Slice.{between_to_end}
use Rattle.std.proofs.Math.Nat.{le_refl}
use Rattle.dc_text.specs.Bytes.{is_nil}
use Rattle.dc_text.proofs.FirstLemmas.{before_first-later, after_last-cons}
use Rattle.dc_batch.specs.Forms.{forms}
use Rattle.dc_batch.specs.Jobs.{is_blank_form, is_field, value_in, sets, has_field, values_of, value_at}
use Rattle.dc_batch.specs.JobFaults.{since_blank, until_blank}
use Rattle.dc_batch.proofs.TestLemmas.{list_any-append, or-true, or-false, neither}
use Rattle.dc_batch.specs.declared.forms.Field.{Field}
use Rattle.dc_batch.specs.declared.forms.Field.TheVariants.{Package, Templates, Config}
use Rattle.dc_batch.specs.declared.forms.Form.{Form}
use Rattle.dc_batch.specs.declared.forms.Form.TheVariants.{Blank, Colonless, Unknown, Sets}
use Rattle.dc_batch.specs.declared.forms.Line.{Line}

pub line_apart : (lines : List Line) (l : Line) → 1 ≤ length lines → l ≡ get_or lines 0 l → lines ≡ l ∷ take (length lines - 1) (drop 1 lines)
line_apart [] l h e = absurd (omega arith)
line_apart (m ∷ lines) l h e = λ i. sym e i ∷ sym (between_to_end (m ∷ lines) 1 (length (m ∷ lines)) (le_refl _)) i

-- a turn of the loop that looks for a field
pub field_turn : (field : Field) (all rest tail : List Line) (l : Line) → rest ≡ l ∷ tail → is_blank_form l.form ≡ false → sets field l.form ≡ false
    → has_field field (until_blank (forms rest)) ≡ has_field field (until_blank (forms all)) → has_field field (until_blank (forms tail)) ≡ has_field field (until_blank (forms all))
field_turn field all rest tail l whole solid off so_far =
    ap (λ b. b || has_field field (until_blank (forms tail))) (sym off)
    ∙ ap (has_field field) (sym (ap (λ ls. until_blank (forms ls)) whole ∙ before_first-later is_blank_form l.form (forms tail) solid)) ∙ so_far

-- ---- one more line

pub since_blank-blank : (fs : List Form) → since_blank (fs ++ Blank ∷ []) ≡ []
since_blank-blank [] = refl
since_blank-blank (f ∷ fs) =
    after_last-cons is_blank_form f (fs ++ Blank ∷ [])
    ∙ ap (λ b. cond b (since_blank (fs ++ Blank ∷ [])) (f ∷ (fs ++ Blank ∷ []))) (list_any-append is_blank_form (f ∷ fs) (Blank ∷ []) ∙ or-true (list_any is_blank_form (f ∷ fs)))
    ∙ since_blank-blank fs

cond_push : (b : Bool) (xs ys : List Form) (x : Form) → cond b (xs ++ x ∷ []) (ys ++ x ∷ []) ≡ cond b xs ys ++ x ∷ []
cond_push true xs ys x = refl
cond_push false xs ys x = refl

pub since_blank-push : (fs : List Form) (x : Form) → is_blank_form x ≡ false → since_blank (fs ++ x ∷ []) ≡ since_blank fs ++ x ∷ []
since_blank-push [] x h = after_last-cons is_blank_form x [] ∙ ap (λ b. cond (b || false) [] (x ∷ [])) h
since_blank-push (f ∷ fs) x h =
    after_last-cons is_blank_form f (fs ++ x ∷ [])
    ∙ ap (λ b. cond b (since_blank (fs ++ x ∷ [])) (f ∷ (fs ++ x ∷ []))) (list_any-append is_blank_form (f ∷ fs) (x ∷ []) ∙ ap (λ b. list_any is_blank_form (f ∷ fs) || (b || false)) h ∙ or-false (list_any is_blank_form (f ∷ fs)))
    ∙ ap (λ xs. cond (list_any is_blank_form (f ∷ fs)) xs (f ∷ (fs ++ x ∷ []))) (since_blank-push fs x h)
    ∙ cond_push (list_any is_blank_form (f ∷ fs)) (since_blank fs) (f ∷ fs) x
    ∙ ap (λ xs. xs ++ x ∷ []) (sym (after_last-cons is_blank_form f fs))

pub not_nil : {X : Type 0} (xs : List X) (x : X) → is_nil (xs ++ x ∷ []) ≡ false
not_nil [] x = refl
not_nil (y ∷ xs) x = refl

-- ---- the parts between blank lines

abbrev pub parts : List Form → List (List Form)
parts fs = slice_split is_blank_form fs

onto_back : (f : Form) (ps qs : List (List Form)) → is_nil ps ≡ false → onto_first f (ps ++ qs) ≡ onto_first f ps ++ qs
onto_back f [] qs h = absurd (cc)
onto_back f (p ∷ ps) qs h = refl

some_parts : (fs : List Form) → is_nil (parts fs) ≡ false
some_parts [] = refl
some_parts (f ∷ fs) = elim (is_blank_form f) as (λ b. is_nil (cond b ([] ∷ parts fs) (onto_first f (parts fs))) ≡ false) [
  | true ↦ refl
  | false ↦ onto_some f (parts fs) (some_parts fs)
] where
  onto_some : (f : Form) (ps : List (List Form)) → is_nil ps ≡ false → is_nil (onto_first f ps) ≡ false
  onto_some f [] h = refl
  onto_some f (p ∷ ps) h = refl

-- a blank line begins a new part
pub parts-blank : (fs : List Form) → parts (fs ++ Blank ∷ []) ≡ parts fs ++ [] ∷ []
parts-blank [] = refl
parts-blank (f ∷ fs) = elim (is_blank_form f) as (λ b. cond b ([] ∷ parts (fs ++ Blank ∷ [])) (onto_first f (parts (fs ++ Blank ∷ []))) ≡ cond b ([] ∷ parts fs) (onto_first f (parts fs)) ++ [] ∷ []) [
  | true ↦ ap (λ (ps : List (List Form)). [] ∷ ps) (parts-blank fs)
  | false ↦ ap (onto_first f) (parts-blank fs) ∙ onto_back f (parts fs) ([] ∷ []) (some_parts fs)
]

-- with an element behind the last part
abbrev pub onto_last : Form → List (List Form) → List (List Form)
onto_last x [] = (x ∷ []) ∷ []
onto_last x (p ∷ []) = (p ++ x ∷ []) ∷ []
onto_last x (p ∷ q ∷ ps) = p ∷ onto_last x (q ∷ ps)

onto_last-cons : (x : Form) (p : List Form) (ps : List (List Form)) → is_nil ps ≡ false → onto_last x (p ∷ ps) ≡ p ∷ onto_last x ps
onto_last-cons x p [] h = absurd (cc)
onto_last-cons x p (q ∷ ps) h = refl

onto_both : (f x : Form) (ps : List (List Form)) → is_nil ps ≡ false → onto_first f (onto_last x ps) ≡ onto_last x (onto_first f ps)
onto_both f x [] h = absurd (cc)
onto_both f x (p ∷ []) h = refl
onto_both f x (p ∷ q ∷ ps) h = refl

-- any other line goes on the last part
parts-onto : (fs : List Form) (x : Form) → is_blank_form x ≡ false → parts (fs ++ x ∷ []) ≡ onto_last x (parts fs)
parts-onto [] x h = ap (λ b. cond b ([] ∷ [] ∷ []) ((x ∷ []) ∷ [])) h
parts-onto (f ∷ fs) x h = elim (is_blank_form f) as (λ b. cond b ([] ∷ parts (fs ++ x ∷ [])) (onto_first f (parts (fs ++ x ∷ []))) ≡ onto_last x (cond b ([] ∷ parts fs) (onto_first f (parts fs)))) [
  | true ↦ ap (λ (ps : List (List Form)). [] ∷ ps) (parts-onto fs x h) ∙ sym (onto_last-cons x [] (parts fs) (some_parts fs))
  | false ↦ ap (onto_first f) (parts-onto fs x h) ∙ onto_both f x (parts fs) (some_parts fs)
]

onto_last-back : (x : Form) (ps : List (List Form)) (p : List Form) → onto_last x (ps ++ p ∷ []) ≡ ps ++ (p ++ x ∷ []) ∷ []
onto_last-back x [] p = refl
onto_last-back x (q ∷ ps) p = onto_last-cons x q (ps ++ p ∷ []) (not_nil ps p) ∙ ap (λ (qs : List (List Form)). q ∷ qs) (onto_last-back x ps p)

pub parts-push : (fs : List Form) (x : Form) (ps : List (List Form)) (p : List Form) → is_blank_form x ≡ false → parts fs ≡ ps ++ p ∷ [] → parts (fs ++ x ∷ []) ≡ ps ++ (p ++ x ∷ []) ∷ []
parts-push fs x ps p h e = parts-onto fs x h ∙ ap (onto_last x) e ∙ onto_last-back x ps p

-- ---- the value of a field

is_field-same : (field : Field) → is_field field field ≡ true
is_field-same Package = refl
is_field-same Templates = refl
is_field-same Config = refl

-- a line that doesn't set the field gives it no value
pub gives_none : (field : Field) (line : Form) → sets field line ≡ false → value_in field line ≡ None
gives_none field Blank e = refl
gives_none field Colonless e = refl
gives_none field Unknown e = refl
gives_none field (Sets other value) e = ap (λ b. cond b (Some value) None) e

-- a line that sets a field that the lines don't have
pub value-new : (field : Field) (value : List ℕ) (lines : List Form) → has_field field lines ≡ false → value_at field (lines ++ Sets field value ∷ []) ≡ Some value
value-new field value [] h = ap (λ b. slice_get (cons_option (cond b (Some value) None) []) 0) (is_field-same field)
value-new field value (l ∷ lines) h =
    let f : (sets field l ≡ false) × (has_field field lines ≡ false) = neither _ _ h in
    ap (λ (o : Option (List ℕ)). slice_get (cons_option o (values_of field (lines ++ Sets field value ∷ []))) 0) (gives_none field l f.0) ∙ value-new field value lines f.1

-- a line that doesn't set the field
pub value-kept : (field : Field) (x : Form) (lines : List Form) → sets field x ≡ false → value_at field (lines ++ x ∷ []) ≡ value_at field lines
value-kept field x lines h =
    ap (λ vs. slice_get vs 0)
    (filter_map-append (value_in field) lines (x ∷ []) ∙ ap (λ (o : Option (List ℕ)). values_of field lines ++ cons_option o []) (gives_none field x h) ∙ append-nil (values_of field lines))

-- the lines have a field where they give it a value
pub value_some : (field : Field) (lines : List Form) → is_some (value_at field lines) ≡ has_field field lines
value_some field [] = refl
value_some field (Blank ∷ lines) = value_some field lines
value_some field (Colonless ∷ lines) = value_some field lines
value_some field (Unknown ∷ lines) = value_some field lines
value_some field (Sets other value ∷ lines) = elim (is_field field other) as (λ b. is_some (slice_get (cons_option (cond b (Some value) None) (values_of field lines)) 0) ≡ (b || has_field field lines)) [
  | true ↦ refl
  | false ↦ value_some field lines
]
