-- What the reader sees of the lines so far, and the fault that it finds.
use Rattle.std.proofs.Common.{◌≡◌, ℕ, Bool, true, false, cond, not, ◌&&◌, List, [], ◌∷◌, ◌++◌, Some, None, Option, Ok, Err, refl, sym, ap, ◌∙◌, subst}
use Rattle.std.specs.Prelude.{◌||◌, MatchResult}
use Rattle.std.specs.List.{list_any, list_all, filter_map}
use Rattle.std.specs.Str.{bytes_eq}
use Rattle.std.proofs.lemmas.List.{append-nil, map-append}
use Rattle.std.proofs.lemmas.List.Elements.{filter_map-append}
use Rattle.dc_text.specs.Bytes.{is_nil}
use Rattle.dc_text.specs.Faults.{AllStand, IsFirstFault, run}
use Rattle.dc_text.proofs.FaultLemmas.{run_finds}
use Rattle.dc_template.specs.Forms.{forms}
use Rattle.dc_text.proofs.FirstLemmas.{after_last-cons}
use Rattle.dc_template.specs.TemplateFaults.{is_blank_form, since_blank, begins_stanza, name_in, key_in, is_indented_form, sets_description, ends_in_description, has_bad_type, until_blank, sets_type, fault, Stands, HasFault}
use Rattle.dc_template.specs.Machine.{fault_seen, noted, at_start, step_by, step}
use Rattle.dc_template.proofs.TestLemmas.{and-false, and-true, or-true, or-false, list_any-append, list_all-append}
use Rattle.dc_template.specs.declared.forms.Row.{Row}
use Rattle.dc_template.specs.declared.forms.Form.{Form}
use Rattle.dc_template.specs.declared.forms.Form.TheVariants.{Blank, Indented, Colonless, Unkeyed, Unnamed, Heads, Sets}
use Rattle.dc_template.specs.declared.forms.Line.{Line}
use Rattle.dc_template.specs.declared.checking.Seen.{Seen}
use Rattle.dc_template.specs.declared.faults.TemplateKind.{TemplateKind}
use Rattle.dc_template.specs.declared.faults.TemplateKind.TheVariants.{NoTemplate, BadName, NoType, BadType, Twice, StrayIndent}

-- ---- one more line

since_blank-blank : (fs : List Form) → since_blank (fs ++ Blank ∷ []) ≡ []
since_blank-blank [] = refl
since_blank-blank (f ∷ fs) =
    after_last-cons is_blank_form f (fs ++ Blank ∷ [])
    ∙ ap (λ b. cond b (since_blank (fs ++ Blank ∷ [])) (f ∷ (fs ++ Blank ∷ []))) (list_any-append is_blank_form (f ∷ fs) (Blank ∷ []) ∙ or-true (list_any is_blank_form (f ∷ fs)))
    ∙ since_blank-blank fs

cond_push : (b : Bool) (xs ys : List Form) (x : Form) → cond b (xs ++ x ∷ []) (ys ++ x ∷ []) ≡ cond b xs ys ++ x ∷ []
cond_push true xs ys x = refl
cond_push false xs ys x = refl

since_blank-push : (fs : List Form) (x : Form) → is_blank_form x ≡ false → since_blank (fs ++ x ∷ []) ≡ since_blank fs ++ x ∷ []
since_blank-push [] x h = after_last-cons is_blank_form x [] ∙ ap (λ b. cond (b || false) [] (x ∷ [])) h
since_blank-push (f ∷ fs) x h =
    after_last-cons is_blank_form f (fs ++ x ∷ [])
    ∙ ap (λ b. cond b (since_blank (fs ++ x ∷ [])) (f ∷ (fs ++ x ∷ []))) (list_any-append is_blank_form (f ∷ fs) (x ∷ []) ∙ ap (λ b. list_any is_blank_form (f ∷ fs) || (b || false)) h ∙ or-false (list_any is_blank_form (f ∷ fs)))
    ∙ ap (λ xs. cond (list_any is_blank_form (f ∷ fs)) xs (f ∷ (fs ++ x ∷ []))) (since_blank-push fs x h)
    ∙ cond_push (list_any is_blank_form (f ∷ fs)) (since_blank fs) (f ∷ fs) x
    ∙ ap (λ xs. xs ++ x ∷ []) (sym (after_last-cons is_blank_form f fs))

not_nil : (fs : List Form) (x : Form) → is_nil (fs ++ x ∷ []) ≡ false
not_nil [] x = refl
not_nil (f ∷ fs) x = refl

-- a line that isn't indented is the one that an indented line goes on
ends-other : (fs : List Form) (x : Form) → is_indented_form x ≡ false → ends_in_description (fs ++ x ∷ []) ≡ sets_description x
ends-other [] x h = refl
ends-other (f ∷ fs) x h =
    ap (λ b. cond b (sets_description f) (ends_in_description (fs ++ x ∷ []))) (list_all-append is_indented_form fs (x ∷ []) ∙ ap (λ b. list_all is_indented_form fs && (b && true)) h ∙ and-false (list_all is_indented_form fs))
    ∙ ends-other fs x h

ends-indented : (fs : List Form) (row : Row) → ends_in_description (fs ++ Indented row ∷ []) ≡ ends_in_description fs
ends-indented [] row = refl
ends-indented (f ∷ fs) row =
    ap (λ b. cond b (sets_description f) (ends_in_description (fs ++ Indented row ∷ []))) (list_all-append is_indented_form fs (Indented row ∷ []) ∙ and-true (list_all is_indented_form fs))
    ∙ ap (cond (list_all is_indented_form fs) (sets_description f)) (ends-indented fs row)

-- ---- what was seen of some lines

pub record Sees (before : List Form) (s : Seen) : Type 0 where
  pub names : s.names ≡ filter_map name_in before
  pub keys : s.keys ≡ filter_map key_in (since_blank before)
  pub opened : s.is_open ≡ not (begins_stanza before)
  pub describes : s.describes ≡ ends_in_description (since_blank before)

fault-indented : (b d : Bool) → cond (not (not b)) (Some NoTemplate) (cond d None (Some StrayIndent)) ≡ cond (b && true) (Some NoTemplate) (cond (not d) (Some StrayIndent) None)
fault-indented true d = refl
fault-indented false true = refl
fault-indented false false = refl

fault-heads : (b t r : Bool) → cond (not b) (Some Twice) (cond (not t) (Some NoType) (cond r (Some Twice) None)) ≡ cond (b && false) (Some NoTemplate) (cond (b && not t) (Some NoType) (cond (not b || r) (Some Twice) None))
fault-heads true t r = refl
fault-heads false t r = refl

fault-sets : (b t r : Bool) → cond (not (not b)) (Some NoTemplate) (cond t (Some BadType) (cond r (Some Twice) None)) ≡ cond (b && true) (Some NoTemplate) (cond t (Some BadType) (cond r (Some Twice) None))
fault-sets true t r = refl
fault-sets false t r = refl

fault-other : (b : Bool) → cond (b && false) (Some NoTemplate) None ≡ None
fault-other b = ap (λ t. cond t (Some NoTemplate) None) (and-false b)

fault-unnamed : (b : Bool) → Some BadName ≡ cond (b && false) (Some NoTemplate) (Some BadName)
fault-unnamed b = ap (λ t. cond t (Some NoTemplate) (Some BadName)) (sym (and-false b))

-- what is seen tells the fault
pub fault_same : (before : List Form) (s : Seen) (line : Form) (after : List Form) → Sees before s → fault_seen s line after ≡ fault before line after
fault_same before s Blank after h = sym (fault-other (begins_stanza before))
fault_same before s (Indented row) after h =
    (λ i. cond (not (h.opened i)) (Some NoTemplate) (cond (h.describes i) None (Some StrayIndent)))
    ∙ fault-indented (begins_stanza before) (ends_in_description (since_blank before))
fault_same before s Colonless after h = refl
fault_same before s Unkeyed after h = refl
fault_same before s Unnamed after h = fault-unnamed (begins_stanza before)
fault_same before s (Heads name) after h =
    (λ i. cond (h.opened i) (Some Twice) (cond (not (list_any sets_type (until_blank after))) (Some NoType) (cond (list_any (bytes_eq name) (h.names i)) (Some Twice) None)))
    ∙ fault-heads (begins_stanza before) (list_any sets_type (until_blank after)) (list_any (bytes_eq name) (filter_map name_in before))
fault_same before s (Sets key value) after h =
    (λ i. cond (not (h.opened i)) (Some NoTemplate) (cond (has_bad_type (Sets key value)) (Some BadType) (cond (list_any (bytes_eq key) (h.keys i)) (Some Twice) None)))
    ∙ fault-sets (begins_stanza before) (has_bad_type (Sets key value)) (list_any (bytes_eq key) (filter_map key_in (since_blank before)))

-- a line that belongs to a stanza which was begun
is_opened : {X : Type 0} (b : Bool) (x : X) (rest : Option X) → cond (not b) (Some x) rest ≡ None → b ≡ true
is_opened true x rest e = refl
is_opened false x rest e = absurd (cc)

pushed-same : (before : List Form) (x : Form) → name_in x ≡ None → filter_map name_in (before ++ x ∷ []) ≡ filter_map name_in before
pushed-same before x e = filter_map-append name_in before (x ∷ []) ∙ ap (λ (o : Option (List ℕ)). filter_map name_in before ++ Rattle.std.specs.List.cons_option o []) e ∙ append-nil (filter_map name_in before)

keys-same : (before : List Form) (x : Form) → is_blank_form x ≡ false → key_in x ≡ None → filter_map key_in (since_blank (before ++ x ∷ [])) ≡ filter_map key_in (since_blank before)
keys-same before x unblank e =
    ap (filter_map key_in) (since_blank-push before x unblank)
    ∙ filter_map-append key_in (since_blank before) (x ∷ []) ∙ ap (λ (o : Option (List ℕ)). filter_map key_in (since_blank before) ++ Rattle.std.specs.List.cons_option o []) e ∙ append-nil (filter_map key_in (since_blank before))

opened-push : (before : List Form) (x : Form) → is_blank_form x ≡ false → true ≡ not (begins_stanza (before ++ x ∷ []))
opened-push before x e = sym (ap (λ g. not (is_nil g)) (since_blank-push before x e) ∙ ap not (not_nil (since_blank before) x))

pub noted_sees : (before : List Form) (s : Seen) (line : Form) (after : List Form) → Sees before s → fault_seen s line after ≡ None → Sees (before ++ line ∷ []) (noted s line)
noted_sees before s Blank after h e = record {
  names = h.names ∙ sym (pushed-same before Blank refl);
  keys = ap (filter_map key_in) (sym (since_blank-blank before));
  opened = ap (λ g. not (is_nil g)) (sym (since_blank-blank before));
  describes = ap ends_in_description (sym (since_blank-blank before));
}
noted_sees before s (Indented row) after h e = record {
  names = h.names ∙ sym (pushed-same before (Indented row) refl);
  keys = h.keys ∙ sym (keys-same before (Indented row) refl refl);
  opened = is_opened s.is_open NoTemplate (cond s.describes None (Some StrayIndent)) e ∙ opened-push before (Indented row) refl;
  describes = h.describes ∙ sym (ap ends_in_description (since_blank-push before (Indented row) refl) ∙ ends-indented (since_blank before) row);
}
noted_sees before s Colonless after h e = absurd (cc)
noted_sees before s Unkeyed after h e = absurd (cc)
noted_sees before s Unnamed after h e = absurd (cc)
noted_sees before s (Heads name) after h e = record {
  names = ap (λ ns. ns ++ name ∷ []) h.names ∙ sym (filter_map-append name_in before (Heads name ∷ []));
  keys = h.keys ∙ sym (keys-same before (Heads name) refl refl);
  opened = opened-push before (Heads name) refl;
  describes = sym (ap ends_in_description (since_blank-push before (Heads name) refl) ∙ ends-other (since_blank before) (Heads name) refl);
}
noted_sees before s (Sets key value) after h e = record {
  names = h.names ∙ sym (pushed-same before (Sets key value) refl);
  keys = ap (λ ks. ks ++ key ∷ []) h.keys
      ∙ sym (ap (filter_map key_in) (since_blank-push before (Sets key value) refl) ∙ filter_map-append key_in (since_blank before) (Sets key value ∷ []));
  opened = is_opened s.is_open NoTemplate (cond (has_bad_type (Sets key value)) (Some BadType) (cond (list_any (bytes_eq key) s.keys) (Some Twice) None)) e ∙ opened-push before (Sets key value) refl;
  describes = sym (ap ends_in_description (since_blank-push before (Sets key value) refl) ∙ ends-other (since_blank before) (Sets key value) refl);
}

-- ---- over numbered lines

abbrev pub Holds : List Line → Seen → Type 0
Holds before s = Sees (forms before) s

-- what a step says
pub step_ok : (found : Option TemplateKind) (s t : Seen) (line : Line) → step_by found s line ≡ Ok t → (found ≡ None) × (noted s line.form ≡ t)
step_ok None s t line e = (refl, cc)
step_ok (Some kind) s t line e = absurd (cc)

step_err : (found : Option TemplateKind) (s : Seen) (line : Line) (f : Line × TemplateKind) → step_by found s line ≡ Err f → (f.0 ≡ line) × (found ≡ Some f.1)
step_err None s line f e = absurd (cc)
step_err (Some kind) s line f e = let same : ◌≡◌ {A = Line × TemplateKind} (line, kind) f = cc in (ap (λ (p : Line × TemplateKind). p.0) (sym same), ap (λ (p : Line × TemplateKind). Some p.1) same)

taken : (before : List Line) (s : Seen) (l : Line) (after : List Line) (t : Seen) → Holds before s → step s l after ≡ Ok t → Stands before l after × Holds (before ++ l ∷ []) t
taken before s l after t h e =
    let f : (fault_seen s l.form (forms after) ≡ None) × (noted s l.form ≡ t) = step_ok (fault_seen s l.form (forms after)) s t l e in (
      sym (fault_same (forms before) s l.form (forms after) h) ∙ f.0,
      subst (λ fs. Sees fs t) (sym (map-append (λ (m : Line). m.form) before (l ∷ []))) (subst (Sees (forms before ++ l.form ∷ [])) f.1 (noted_sees (forms before) s l.form (forms after) h f.0)),
    )

refused : (before : List Line) (s : Seen) (l : Line) (after : List Line) (f : Line × TemplateKind) → Holds before s → step s l after ≡ Err f → (f.0 ≡ l) × HasFault before l after f.1
refused before s l after f h e =
    let g : (f.0 ≡ l) × (fault_seen s l.form (forms after) ≡ Some f.1) = step_err (fault_seen s l.form (forms after)) s l f e in
    (g.0, sym (fault_same (forms before) s l.form (forms after) h) ∙ g.1)

sees_start : Sees [] at_start
sees_start = record { names = refl; keys = refl; opened = refl; describes = refl }

-- the reader takes all lines, and each stands, or it finds the first fault
pub machine : (lines : List Line) → MatchResult (run step lines at_start) (λ t. Holds lines t × AllStand Stands lines) (λ f. IsFirstFault Stands HasFault lines f.0 f.1)
machine lines = run_finds step Stands HasFault Holds taken refused lines at_start sees_start
