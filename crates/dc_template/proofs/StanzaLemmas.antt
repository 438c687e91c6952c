-- The lines of a stanza, one after another.
use Rattle.std.proofs.Common.{◌≡◌, ℕ, ◌-◌, ◌≤◌, false, cond, List, [], ◌∷◌, ◌++◌, length, get_or, take, drop, refl, sym, ap, ◌∙◌, arith, append_assoc, subst}
use Rattle.std.specs.Prelude.{◌||◌}
use Rattle.std.specs.List.{list_any}
use Rattle.dc_template.specs.Kinds.{kind_of}
use Rattle.dc_template.specs.Fields.{HaveKeys}
use Rattle.dc_template.specs.Forms.{forms}
use Rattle.dc_template.specs.Stanzas.{as_field, extended_key, extended_text, rows_first, fields_at, fields_in, kind_in}
use Rattle.dc_text.proofs.FirstLemmas.{before_first-later}
use Rattle.dc_template.specs.TemplateFaults.{is_blank_form, until_blank, sets_type}
use Rattle.dc_template.specs.declared.forms.Row.{Row}
use Rattle.dc_template.specs.declared.forms.Form.{Form}
use Rattle.dc_template.specs.declared.forms.Form.TheVariants.{Blank, Indented, Colonless, Unkeyed, Unnamed, Heads, Sets}
use Rattle.dc_template.specs.declared.forms.Line.{Line}
use Rattle.std.proofs.lemmas.Slice.{between_to_end}
use Rattle.std.proofs.Math.Nat.{le_refl}

pub line_apart : (lines : List Line) (l : Line) → 1 ≤ length lines → l ≡ get_or lines 0 l → lines ≡ l ∷ take (length lines - 1) (drop 1 lines)
line_apart [] l h e = absurd (omega arith)
line_apart (m ∷ lines) l h e = λ i. sym e i ∷ sym (between_to_end (m ∷ lines) 1 (length (m ∷ lines)) (le_refl _)) i

-- a run of indented lines ends before a blank line
rows-until : (lines : List Form) → rows_first (until_blank lines) ≡ rows_first lines
rows-until [] = refl
rows-until (Blank ∷ lines) = refl
rows-until (Indented row ∷ lines) = ap rows_first (before_first-later is_blank_form (Indented row) lines refl) ∙ ap (λ (rows : List Row). row ∷ rows) (rows-until lines)
rows-until (Colonless ∷ lines) = ap rows_first (before_first-later is_blank_form Colonless lines refl)
rows-until (Unkeyed ∷ lines) = ap rows_first (before_first-later is_blank_form Unkeyed lines refl)
rows-until (Unnamed ∷ lines) = ap rows_first (before_first-later is_blank_form Unnamed lines refl)
rows-until (Heads name ∷ lines) = ap rows_first (before_first-later is_blank_form (Heads name) lines refl)
rows-until (Sets key value ∷ lines) = ap rows_first (before_first-later is_blank_form (Sets key value) lines refl)

fields-until : (form : Form) (lines : List Form) → fields_at form (until_blank lines) ≡ fields_at form lines
fields-until Blank lines = refl
fields-until (Indented row) lines = refl
fields-until Colonless lines = refl
fields-until Unkeyed lines = refl
fields-until Unnamed lines = refl
fields-until (Heads name) lines = refl
fields-until (Sets key value) lines = ap (λ rows. (key, value) ∷ as_field (extended_key key) (extended_text rows)) (rows-until lines)

-- a line without the type
kind-passed : (form : Form) (lines : List Form) → sets_type form ≡ false → kind_in (form ∷ lines) ≡ kind_in lines
kind-passed Blank lines off = refl
kind-passed (Indented row) lines off = refl
kind-passed Colonless lines off = refl
kind-passed Unkeyed lines off = refl
kind-passed Unnamed lines off = refl
kind-passed (Heads name) lines off = refl
kind-passed (Sets key value) lines off = ap (λ t. cond t (kind_of value) (kind_in lines)) off

-- the first line of those before a blank one
until_first : (rest tail : List Line) (l : Line) → rest ≡ l ∷ tail → is_blank_form l.form ≡ false → until_blank (forms rest) ≡ l.form ∷ until_blank (forms tail)
until_first rest tail l whole solid = ap (λ ls. until_blank (forms ls)) whole ∙ before_first-later is_blank_form l.form (forms tail) solid

-- a turn of the loops that look for the type
pub type_turn : (all rest tail : List Line) (l : Line) → rest ≡ l ∷ tail → is_blank_form l.form ≡ false → sets_type l.form ≡ false
    → list_any sets_type (until_blank (forms rest)) ≡ list_any sets_type (until_blank (forms all)) → list_any sets_type (until_blank (forms tail)) ≡ list_any sets_type (until_blank (forms all))
type_turn all rest tail l whole solid off so_far =
    ap (λ b. b || list_any sets_type (until_blank (forms tail))) (sym off) ∙ ap (list_any sets_type) (sym (until_first rest tail l whole solid)) ∙ so_far

pub kind_turn : (all rest tail : List Line) (l : Line) → rest ≡ l ∷ tail → is_blank_form l.form ≡ false → sets_type l.form ≡ false
    → kind_in (until_blank (forms rest)) ≡ kind_in (until_blank (forms all)) → kind_in (until_blank (forms tail)) ≡ kind_in (until_blank (forms all))
kind_turn all rest tail l whole solid off so_far =
    sym (kind-passed l.form (until_blank (forms tail)) off) ∙ ap kind_in (sym (until_first rest tail l whole solid)) ∙ so_far

-- the kind, where the type is found
pub kind_found : (all rest tail : List Line) (l : Line) (word : List ℕ) → rest ≡ l ∷ tail → is_blank_form l.form ≡ false → ((lines : List Form) → kind_in (l.form ∷ lines) ≡ kind_of word)
    → kind_in (until_blank (forms rest)) ≡ kind_in (until_blank (forms all)) → kind_of word ≡ kind_in (until_blank (forms all))
kind_found all rest tail l word whole solid found so_far =
    sym (found (until_blank (forms tail))) ∙ ap kind_in (sym (until_first rest tail l whole solid)) ∙ so_far

-- a turn of the loop over a stanza
pub fields_turn : (fields new all : List (List ℕ × List ℕ)) (rest tail : List Line) (l : Line) → rest ≡ l ∷ tail → is_blank_form l.form ≡ false → new ≡ fields ++ fields_at l.form (forms tail)
    → fields ++ fields_in (until_blank (forms rest)) ≡ all → new ++ fields_in (until_blank (forms tail)) ≡ all
fields_turn fields new all rest tail l whole solid is so_far =
    ap (λ es. es ++ fields_in (until_blank (forms tail))) is
    ∙ append_assoc fields (fields_at l.form (forms tail)) (fields_in (until_blank (forms tail)))
    ∙ ap (λ es. fields ++ (es ++ fields_in (until_blank (forms tail)))) (sym (fields-until l.form (forms tail)))
    ∙ ap (λ ls. fields ++ fields_in ls) (sym (before_first-later is_blank_form l.form (forms tail) solid))
    ∙ ap (λ ls. fields ++ fields_in (until_blank (forms ls))) (sym whole)
    ∙ so_far

fields_keyed : (xs ys : List (List ℕ × List ℕ)) → HaveKeys (xs ++ ys) → HaveKeys xs × HaveKeys ys
fields_keyed [] ys h = (tt, h)
fields_keyed (x ∷ xs) ys h = let f : HaveKeys xs × HaveKeys ys = fields_keyed xs ys h.1 in ((h.0, f.0), f.1)

-- the keys of the first line's fields, and of those of the other lines
pub keys_turn : (rest tail : List Line) (l : Line) → rest ≡ l ∷ tail → is_blank_form l.form ≡ false → HaveKeys (fields_in (until_blank (forms rest)))
    → HaveKeys (fields_at l.form (forms tail)) × HaveKeys (fields_in (until_blank (forms tail)))
keys_turn rest tail l whole solid h =
    fields_keyed (fields_at l.form (forms tail)) (fields_in (until_blank (forms tail)))
    (subst HaveKeys (ap fields_in (until_first rest tail l whole solid) ∙ ap (λ es. es ++ fields_in (until_blank (forms tail))) (fields-until l.form (forms tail))) h)
