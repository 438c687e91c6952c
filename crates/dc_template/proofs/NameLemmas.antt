-- Templates that are read have names of their own.
use Rattle.std.proofs.Common.{◌≡◌, ◌≢◌, ℕ, Bool, true, false, cond, not, ◌&&◌, List, [], ◌∷◌, ◌++◌, Some, None, Option, refl, sym, ap, ◌∙◌, subst, append_assoc, map as each}
use Rattle.std.specs.Prelude.{◌||◌, option_to_list}
use Rattle.std.specs.List.{AllByRecursion, list_any, filter_map}
use Rattle.std.specs.Option.{option_map}
use Rattle.std.specs.Str.{bytes_eq}
use Rattle.std.proofs.lemmas.List.{map-append}
use Rattle.std.proofs.lemmas.Slice.Eq.{bytes_eq-Decides}
use Rattle.std.proofs.lemmas.List.Elements.{filter_map-append}
use Rattle.dc_text.specs.Faults.{AllStand}
use Rattle.dc_text.specs.Maps.{AreDistinct}
use Rattle.dc_template.specs.Forms.{forms, lines_in}
use Rattle.dc_template.specs.Stanzas.{Stanza, stanza, kind_in}
use Rattle.dc_template.specs.TemplateFaults.{name_in, begins_stanza, until_blank, sets_type, fault, Stands}
use Rattle.dc_template.specs.Reading.{Reads, templates_in}
use Rattle.dc_template.proofs.TestLemmas.{list_any-append, or-true}
use Rattle.dc_template.specs.declared.kinds.Kind.{Kind}
use Rattle.dc_template.specs.declared.forms.Form.{Form}
use Rattle.dc_template.specs.declared.forms.Form.TheVariants.{Blank, Indented, Colonless, Unkeyed, Unnamed, Heads, Sets}
use Rattle.dc_template.specs.declared.forms.Line.{Line}
use Rattle.dc_template.specs.declared.faults.TemplateKind.TheVariants.{NoTemplate, NoType, Twice}

abbrev names_in : List Form → List (List ℕ)
names_in lines = each (λ (t : Stanza). t.name) (templates_in lines)

-- a name that a line before has
abbrev is_taken : List ℕ → List Form → Bool
is_taken name before = list_any (bytes_eq name) (filter_map name_in before)

-- each line stands behind these and those before it
abbrev StandFrom : List Form → List Form → Type 0
StandFrom before [] = Unit {0}
StandFrom before (line ∷ lines) = (fault before line lines ≡ None) × StandFrom (before ++ line ∷ []) lines

standing : (before rest : List Line) → AllStand Stands (before ++ rest) → StandFrom (forms before) (forms rest)
standing before [] stand = tt
standing before (line ∷ rest) stand =
    let later : StandFrom (forms (before ++ line ∷ [])) (forms rest) = standing (before ++ line ∷ []) rest (λ b a l e. stand b a l (sym (append_assoc before (line ∷ []) rest) ∙ e)) in
    (stand before rest line refl, subst (λ fs. StandFrom fs (forms rest)) (map-append (λ (l : Line). l.form) before (line ∷ [])) later)

not_repeated : (b t r : Bool) → cond (b && false) (Some NoTemplate) (cond (b && not t) (Some NoType) (cond (not b || r) (Some Twice) None)) ≡ None → r ≡ false
not_repeated true true true e = absurd (cc)
not_repeated true true false e = refl
not_repeated true false r e = absurd (cc)
not_repeated false t r e = absurd (cc)

-- a Template line that stands has a new name
name_is_new : (before : List Form) (name : List ℕ) (after : List Form) → fault before (Heads name) after ≡ None → is_taken name before ≡ false
name_is_new before name after e = not_repeated (begins_stanza before) (list_any sets_type (until_blank after)) (is_taken name before) e

taken_by : (name : List ℕ) (before : List Form) (line : Form) → is_taken name (before ++ line ∷ []) ≡ (is_taken name before || is_taken name (line ∷ []))
taken_by name before line = ap (list_any (bytes_eq name)) (filter_map-append name_in before (line ∷ [])) ∙ list_any-append (bytes_eq name) (filter_map name_in before) (filter_map name_in (line ∷ []))

stays_taken : (name : List ℕ) (before : List Form) (line : Form) → is_taken name before ≡ true → is_taken name (before ++ line ∷ []) ≡ true
stays_taken name before line is = taken_by name before line ∙ ap (λ b. b || is_taken name (line ∷ [])) is

same_bytes : (text : List ℕ) → bytes_eq text text ≡ true
same_bytes text = (bytes_eq-Decides text text).1 refl

is_taken_then : (name : List ℕ) (before : List Form) → is_taken name (before ++ Heads name ∷ []) ≡ true
is_taken_then name before = taken_by name before (Heads name) ∙ ap (λ b. is_taken name before || (b || false)) (same_bytes name) ∙ or-true (is_taken name before)

other_name : (name next : List ℕ) (before : List Form) → is_taken name before ≡ true → is_taken next before ≡ false → next ≢ name
other_name name next before old new same = let wrong : true ≡ false = sym old ∙ ap (λ n. is_taken n before) (sym same) ∙ new in cc

-- what holds of a name and of those behind it
with_name : (P : List ℕ → Type 0) (name : List ℕ) (kind : Option Kind) (lines : List Form) (later : List Stanza) → P name → AllByRecursion P (each (λ (t : Stanza). t.name) later)
    → AllByRecursion P (each (λ (t : Stanza). t.name) (option_to_list (option_map (λ (k : Kind). stanza name k lines) kind) ++ later))
with_name P name None lines later here all = all
with_name P name (Some kind) lines later here all = (here, all)

-- the names of later stanzas are others than one that was taken
others : (name : List ℕ) (before rest : List Form) → StandFrom before rest → is_taken name before ≡ true → AllByRecursion (λ other. other ≢ name) (names_in rest)
others name before [] stand is = tt
others name before (Heads next ∷ rest) stand is =
    with_name (λ other. other ≢ name) next (kind_in (until_blank rest)) (until_blank rest) (templates_in rest)
    (other_name name next before is (name_is_new before next rest stand.0)) (others name (before ++ Heads next ∷ []) rest stand.1 (stays_taken name before (Heads next) is))
others name before (Blank ∷ rest) stand is = others name (before ++ Blank ∷ []) rest stand.1 (stays_taken name before Blank is)
others name before (Indented row ∷ rest) stand is = others name (before ++ Indented row ∷ []) rest stand.1 (stays_taken name before (Indented row) is)
others name before (Colonless ∷ rest) stand is = others name (before ++ Colonless ∷ []) rest stand.1 (stays_taken name before Colonless is)
others name before (Unkeyed ∷ rest) stand is = others name (before ++ Unkeyed ∷ []) rest stand.1 (stays_taken name before Unkeyed is)
others name before (Unnamed ∷ rest) stand is = others name (before ++ Unnamed ∷ []) rest stand.1 (stays_taken name before Unnamed is)
others name before (Sets key value ∷ rest) stand is = others name (before ++ Sets key value ∷ []) rest stand.1 (stays_taken name before (Sets key value) is)

distinct_with : (name : List ℕ) (kind : Option Kind) (lines : List Form) (later : List Stanza) → AllByRecursion (λ other. other ≢ name) (each (λ (t : Stanza). t.name) later) → AreDistinct (each (λ (t : Stanza). t.name) later)
    → AreDistinct (each (λ (t : Stanza). t.name) (option_to_list (option_map (λ (k : Kind). stanza name k lines) kind) ++ later))
distinct_with name None lines later apart all = all
distinct_with name (Some kind) lines later apart all = (apart, all)

distinct_from : (before rest : List Form) → StandFrom before rest → AreDistinct (names_in rest)
distinct_from before [] stand = tt
distinct_from before (Heads name ∷ rest) stand =
    distinct_with name (kind_in (until_blank rest)) (until_blank rest) (templates_in rest)
    (others name (before ++ Heads name ∷ []) rest stand.1 (is_taken_then name before)) (distinct_from (before ++ Heads name ∷ []) rest stand.1)
distinct_from before (Blank ∷ rest) stand = distinct_from (before ++ Blank ∷ []) rest stand.1
distinct_from before (Indented row ∷ rest) stand = distinct_from (before ++ Indented row ∷ []) rest stand.1
distinct_from before (Colonless ∷ rest) stand = distinct_from (before ++ Colonless ∷ []) rest stand.1
distinct_from before (Unkeyed ∷ rest) stand = distinct_from (before ++ Unkeyed ∷ []) rest stand.1
distinct_from before (Unnamed ∷ rest) stand = distinct_from (before ++ Unnamed ∷ []) rest stand.1
distinct_from before (Sets key value ∷ rest) stand = distinct_from (before ++ Sets key value ∷ []) rest stand.1

-- no two templates of a text have one name
pub names_apart : (text : List ℕ) (templates : List Stanza) → Reads text templates → AreDistinct (each (λ (t : Stanza). t.name) templates)
names_apart text templates reads =
    subst (λ (ts : List Stanza). AreDistinct (each (λ (t : Stanza). t.name) ts)) (sym reads.are) (distinct_from [] (forms (lines_in text)) (standing [] (lines_in text) reads.stand))
