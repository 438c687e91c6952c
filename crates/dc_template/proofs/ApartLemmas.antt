-- The fields of a stanza that stands have keys of their own.
use Rattle.std.proofs.Common.{◌≡◌, ℕ, Bool, true, false, cond, not, List, [], ◌∷◌, ◌++◌, Some, None, Ok, refl, sym, ap, ◌∙◌, subst}
use Rattle.std.specs.Prelude.{◌||◌}
use Rattle.std.specs.List.{AllByRecursion, IsDistinct, list_any}
use Rattle.std.specs.Str.{bytes_eq}
use Rattle.std.specs.Cmp.Lexicographic.{same_text}
use Rattle.std.proofs.lemmas.Slice.Eq.{bytes_eq-Decides}
use Rattle.dc_text.specs.Faults.{run}
use Rattle.dc_text.proofs.FirstLemmas.{before_first-later}
use Rattle.dc_template.specs.Fields.{keys_of, HaveKeys, AreApart, StanzasAreFit}
use Rattle.dc_template.specs.Forms.{is_description, is_extended, is_line_key, forms}
use Rattle.dc_template.specs.Machine.{fault_seen, noted, step}
use Rattle.dc_template.specs.Stanzas.{extended_key, extended_text, rows_first, as_field, fields_in}
use Rattle.dc_template.specs.TemplateFaults.{is_blank_form, has_bad_type, until_blank}
use Rattle.dc_template.proofs.FormLemmas.{IsSoundForm}
use Rattle.dc_template.proofs.SoundLemmas.{IsUnder, run_cons, run_under, until_under, until_sound, line_key, extended_is_key, extended_is, AreDescribed, first_described}
use Rattle.dc_template.proofs.TestLemmas.{list_any-append, neither, or-true}
use Rattle.dc_template.specs.declared.forms.Row.{Row}
use Rattle.dc_template.specs.declared.forms.Form.{Form}
use Rattle.dc_template.specs.declared.forms.Form.TheVariants.{Blank, Indented, Colonless, Unkeyed, Unnamed, Heads, Sets}
use Rattle.dc_template.specs.declared.forms.Line.{Line}
use Rattle.dc_template.specs.declared.checking.Seen.{Seen}
use Rattle.dc_template.specs.declared.faults.TemplateKind.{TemplateKind}
use Rattle.dc_template.specs.declared.faults.TemplateKind.TheVariants.{NoTemplate, BadType, Twice}

-- ---- keys of lines

-- the lines up to a blank one have keys of their own, and none of those that were seen
abbrev HaveNew : List (List ℕ) → List Form → Type 0
HaveNew seen [] = Unit {0}
HaveNew seen (Blank ∷ lines) = Unit {0}
HaveNew seen (Sets key value ∷ lines) = (list_any (bytes_eq key) seen ≡ false) × HaveNew (seen ++ key ∷ []) lines
HaveNew seen (_ ∷ lines) = HaveNew seen lines

not_twice : (a b r : Bool) (x y z : TemplateKind) → cond a (Some x) (cond b (Some y) (cond r (Some z) None)) ≡ None → r ≡ false
not_twice true b r x y z e = absurd (cc)
not_twice false true r x y z e = absurd (cc)
not_twice false false true x y z e = absurd (cc)
not_twice false false false x y z e = refl

new_line : (form : Form) (lines : List Form) (s : Seen) → fault_seen s form lines ≡ None → HaveNew (noted s form).keys lines → HaveNew s.keys (form ∷ lines)
new_line Blank lines s e h = tt
new_line (Indented row) lines s e h = h
new_line Colonless lines s e h = h
new_line Unkeyed lines s e h = h
new_line Unnamed lines s e h = h
new_line (Heads name) lines s e h = h
new_line (Sets key value) lines s e h = (not_twice (not s.is_open) (has_bad_type (Sets key value)) (list_any (bytes_eq key) s.keys) NoTemplate BadType Twice e, h)

run_new : (lines : List Line) (s t : Seen) → run step lines s ≡ Ok t → HaveNew s.keys (forms lines)
run_new [] s t e = tt
run_new (l ∷ lines) s t e = let f : (fault_seen s l.form (forms lines) ≡ None) × (run step lines (noted s l.form) ≡ Ok t) = run_cons l lines s t e in
    new_line l.form (forms lines) s f.0 (run_new lines (noted s l.form) t f.1)

-- the same of lines of which none is blank
abbrev AreNew : List (List ℕ) → List Form → Type 0
AreNew seen [] = Unit {0}
AreNew seen (Blank ∷ lines) = ⊥
AreNew seen (Sets key value ∷ lines) = (list_any (bytes_eq key) seen ≡ false) × AreNew (seen ++ key ∷ []) lines
AreNew seen (_ ∷ lines) = AreNew seen lines

until_new : (seen : List (List ℕ)) (lines : List Form) → HaveNew seen lines → AreNew seen (until_blank lines)
until_new seen [] h = tt
until_new seen (Blank ∷ lines) h = tt
until_new seen (Indented row ∷ lines) h = subst (AreNew seen) (sym (before_first-later is_blank_form (Indented row) lines refl)) (until_new seen lines h)
until_new seen (Colonless ∷ lines) h = subst (AreNew seen) (sym (before_first-later is_blank_form Colonless lines refl)) (until_new seen lines h)
until_new seen (Unkeyed ∷ lines) h = subst (AreNew seen) (sym (before_first-later is_blank_form Unkeyed lines refl)) (until_new seen lines h)
until_new seen (Unnamed ∷ lines) h = subst (AreNew seen) (sym (before_first-later is_blank_form Unnamed lines refl)) (until_new seen lines h)
until_new seen (Heads name ∷ lines) h = subst (AreNew seen) (sym (before_first-later is_blank_form (Heads name) lines refl)) (until_new seen lines h)
until_new seen (Sets key value ∷ lines) h = subst (AreNew seen) (sym (before_first-later is_blank_form (Sets key value) lines refl)) (h.0, until_new (seen ++ key ∷ []) lines h.1)

-- ---- texts that differ

-- a text that was seen is none that wasn't
differ : (seen : List (List ℕ)) (old new : List ℕ) → list_any (bytes_eq old) seen ≡ true → list_any (bytes_eq new) seen ≡ false → bytes_eq old new ≡ false
differ seen old new has none = elim (bytes_eq old new) as (λ t. bytes_eq old new ≡ t → t ≡ false) [
  | true ↦ λ same. (let off : true ≡ false = sym has ∙ ap (λ text. list_any (bytes_eq text) seen) (same_text old new (sym same)) ∙ none in absurd (cc))
  | false ↦ λ _. refl
] refl

-- texts of which one is the key of an extended text
differ_by : (one other : List ℕ) (b : Bool) → is_extended one ≡ b → is_extended other ≡ not b → bytes_eq one other ≡ false
differ_by one other b is off = elim (bytes_eq one other) as (λ t. bytes_eq one other ≡ t → t ≡ false) [
  | true ↦ λ same. absurd (not_itself b (sym is ∙ ap is_extended (same_text one other (sym same)) ∙ off))
  | false ↦ λ _. refl
] refl where
  not_itself : (t : Bool) → t ≡ not t → ⊥
  not_itself true e = cc
  not_itself false e = cc

-- ---- keys of fields

-- none of them is this key
abbrev NoneIs : List ℕ → List (List ℕ × List ℕ) → Type 0
NoneIs key fields = AllByRecursion (λ other. bytes_eq key other ≡ false) (keys_of fields)

-- this key is none that a line with a new key brings
abbrev IsApart : List ℕ → List (List ℕ) → Type 0
IsApart key seen = (new : List ℕ) → list_any (bytes_eq new) seen ≡ false → is_extended new ≡ false
    → (bytes_eq key new ≡ false) × (is_description new ≡ true → bytes_eq key (extended_key new) ≡ false)

line_apart : (seen : List (List ℕ)) (key : List ℕ) → list_any (bytes_eq key) seen ≡ true → is_extended key ≡ false → IsApart key seen
line_apart seen key has plain = λ new none other. (differ seen key new has none, λ d. differ_by key (extended_key new) false plain (extended_is new d))

extended_apart : (seen : List (List ℕ)) (key : List ℕ) → list_any (bytes_eq key) seen ≡ true → is_description key ≡ true → IsApart (extended_key key) seen
extended_apart seen key has d = λ new none other. (differ_by (extended_key key) new true (extended_is key d) other, λ _. differ seen key new has none)

apart_later : (seen : List (List ℕ)) (key next : List ℕ) → IsApart key seen → IsApart key (seen ++ next ∷ [])
apart_later seen key next h = λ new none other. h new (neither _ _ (sym (list_any-append (bytes_eq new) seen (next ∷ [])) ∙ none)).0 other

with_text : (key k : List ℕ) (rows : List Row) (more : List (List ℕ × List ℕ)) → AreDescribed (is_description k) rows → (is_description k ≡ true → bytes_eq key (extended_key k) ≡ false) → NoneIs key more
    → NoneIs key (as_field (extended_key k) (extended_text rows) ++ more)
with_text key k [] more d apart rest = rest
with_text key k (row ∷ rows) more d apart rest = (apart d, rest)

none_is : (key : List ℕ) (seen : List (List ℕ)) (describes : Bool) (lines : List Form) → IsApart key seen → AreNew seen lines → IsUnder describes lines → AllByRecursion IsSoundForm lines → NoneIs key (fields_in lines)
none_is key seen d [] apart new u h = tt
none_is key seen d (Blank ∷ lines) apart new u h = absurd new
none_is key seen d (Indented row ∷ lines) apart new u h = none_is key seen d lines apart new u.1 h.1
none_is key seen d (Colonless ∷ lines) apart new u h = none_is key seen false lines apart new u h.1
none_is key seen d (Unkeyed ∷ lines) apart new u h = none_is key seen false lines apart new u h.1
none_is key seen d (Unnamed ∷ lines) apart new u h = none_is key seen false lines apart new u h.1
none_is key seen d (Heads name ∷ lines) apart new u h = none_is key seen false lines apart new u h.1
none_is key seen d (Sets k value ∷ lines) apart new u h =
    let here = apart k new.0 (line_key k h.0.is_key).1 in (
      here.0,
      with_text key k (rows_first lines) (fields_in lines) (first_described (is_description k) lines u) here.1
          (none_is key (seen ++ k ∷ []) (is_description k) lines (apart_later seen key k apart) new.1 u h.1),
    )

-- ---- the fields of a stanza

distinct_text : (k : List ℕ) (rows : List Row) (more : List (List ℕ × List ℕ)) → AreDescribed (is_description k) rows → (is_description k ≡ true → NoneIs (extended_key k) more) → AreApart more
    → AreApart (as_field (extended_key k) (extended_text rows) ++ more)
unfolding IsDistinct
distinct_text k [] more d none rest = rest
distinct_text k (row ∷ rows) more d none rest = (none d, rest)

fields_apart : (seen : List (List ℕ)) (describes : Bool) (lines : List Form) → AreNew seen lines → IsUnder describes lines → AllByRecursion IsSoundForm lines → AreApart (fields_in lines)
unfolding IsDistinct
fields_apart seen d [] new u h = tt
fields_apart seen d (Blank ∷ lines) new u h = absurd new
fields_apart seen d (Indented row ∷ lines) new u h = fields_apart seen d lines new u.1 h.1
fields_apart seen d (Colonless ∷ lines) new u h = fields_apart seen false lines new u h.1
fields_apart seen d (Unkeyed ∷ lines) new u h = fields_apart seen false lines new u h.1
fields_apart seen d (Unnamed ∷ lines) new u h = fields_apart seen false lines new u h.1
fields_apart seen d (Heads name ∷ lines) new u h = fields_apart seen false lines new u h.1
fields_apart seen d (Sets k value ∷ lines) new u h =
    let has : list_any (bytes_eq k) (seen ++ k ∷ []) ≡ true = list_any-append (bytes_eq k) seen (k ∷ []) ∙ ap (λ b. list_any (bytes_eq k) seen || (b || false)) ((bytes_eq-Decides k k).1 refl) ∙ or-true (list_any (bytes_eq k) seen) in
    let plain : is_extended k ≡ false = (line_key k h.0.is_key).1 in
    let described : AreDescribed (is_description k) (rows_first lines) = first_described (is_description k) lines u in
    let later : (key : List ℕ) → IsApart key (seen ++ k ∷ []) → NoneIs key (fields_in lines) = λ key apart. none_is key (seen ++ k ∷ []) (is_description k) lines apart new.1 u h.1 in (
      with_text k k (rows_first lines) (fields_in lines) described (λ is. differ_by k (extended_key k) false plain (extended_is k is)) (later k (line_apart (seen ++ k ∷ []) k has plain)),
      distinct_text k (rows_first lines) (fields_in lines) described (λ is. later (extended_key k) (extended_apart (seen ++ k ∷ []) k has is)) (fields_apart (seen ++ k ∷ []) (is_description k) lines new.1 u h.1),
    )

keyed_text : (k : List ℕ) (rows : List Row) (more : List (List ℕ × List ℕ)) → is_line_key k ≡ true → AreDescribed (is_description k) rows → HaveKeys more → HaveKeys (as_field (extended_key k) (extended_text rows) ++ more)
keyed_text k [] more is d rest = rest
keyed_text k (row ∷ rows) more is d rest = (extended_is_key k is d, rest)

fields_keyed : (describes : Bool) (lines : List Form) → IsUnder describes lines → AllByRecursion IsSoundForm lines → HaveKeys (fields_in lines)
fields_keyed d [] u h = tt
fields_keyed d (Blank ∷ lines) u h = fields_keyed false lines u h.1
fields_keyed d (Indented row ∷ lines) u h = fields_keyed d lines u.1 h.1
fields_keyed d (Colonless ∷ lines) u h = fields_keyed false lines u h.1
fields_keyed d (Unkeyed ∷ lines) u h = fields_keyed false lines u h.1
fields_keyed d (Unnamed ∷ lines) u h = fields_keyed false lines u h.1
fields_keyed d (Heads name ∷ lines) u h = fields_keyed false lines u h.1
fields_keyed d (Sets k value ∷ lines) u h =
    ((line_key k h.0.is_key).0, keyed_text k (rows_first lines) (fields_in lines) h.0.is_key (first_described (is_description k) lines u) (fields_keyed (is_description k) lines u h.1))

-- ---- the fields of each stanza

line_fit : (form : Form) (lines : List Form) (seen : List (List ℕ)) (describes : Bool) → HaveNew seen lines → IsUnder describes (form ∷ lines) → AllByRecursion IsSoundForm lines → StanzasAreFit lines → StanzasAreFit (form ∷ lines)
line_fit Blank lines seen d new u h rest = rest
line_fit (Indented row) lines seen d new u h rest = rest
line_fit Colonless lines seen d new u h rest = rest
line_fit Unkeyed lines seen d new u h rest = rest
line_fit Unnamed lines seen d new u h rest = rest
line_fit (Heads name) lines seen d new u h rest =
    let under : IsUnder false (until_blank lines) = until_under false lines u in
    let sound : AllByRecursion IsSoundForm (until_blank lines) = until_sound lines h in
    (record { keyed = fields_keyed false (until_blank lines) under sound; apart = fields_apart seen false (until_blank lines) (until_new seen lines new) under sound }, rest)
line_fit (Sets key value) lines seen d new u h rest = rest

-- what the reader took has stanzas whose fields have keys of their own
pub run_fit : (lines : List Line) (s t : Seen) → run step lines s ≡ Ok t → AllByRecursion IsSoundForm (forms lines) → StanzasAreFit (forms lines)
run_fit [] s t e h = tt
run_fit (l ∷ lines) s t e h =
    let later : run step lines (noted s l.form) ≡ Ok t = (run_cons l lines s t e).1 in
    line_fit l.form (forms lines) (noted s l.form).keys s.describes (run_new lines (noted s l.form) t later) (run_under (l ∷ lines) s t e) h.1 (run_fit lines (noted s l.form) t later h.1)
