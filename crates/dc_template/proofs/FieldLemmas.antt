-- Fields as entries, and as a map.
use Rattle.std.proofs.Common.{◌≡◌, ℕ, Bool, true, false, cond, ◌&&◌, List, [], ◌∷◌, ◌++◌, Some, refl, sym, ap, ◌∙◌, subst}
use Rattle.std.specs.Prelude.{T}
use Rattle.std.specs.List.{AllByRecursion}
use Rattle.std.specs.declared.cmp.Ordering.{Ordering}
use Rattle.std.specs.declared.cmp.Ordering.TheVariants.{Less, Equal, Greater}
use Rattle.std.specs.Ordering.{eq_by_cmp, is_eq, is_lt, ordering_reverse}
use Rattle.std.specs.Cmp.Lexicographic.{nat_list_cmp_total}
use Rattle.std.specs.FinMap as map
use Rattle.std.specs.FinMap.{find, is_sorted}
use Rattle.std.specs.FinMap.Entries.{below_all}
use Rattle.std.proofs.lemmas.Map.Text.{is_eq-slice_cmp}
use Rattle.std.proofs.lemmas.Slice.Eq.{bytes_eq-Decides}
use Rattle.dc_template.specs.Stanzas.{Stanza, IsFieldAmong, field_map, IsTemplate}
use Rattle.dc_text.specs.Maps.{Texts, text_cmp}

-- the entries put into a map, the last one first
abbrev pub put_back : {X : Type 0} → List (List ℕ × X) → Texts X → Texts X
put_back [] m = m
put_back (e ∷ es) m = map.insert (put_back es m) e.0 e.1

pub put_back-last : {X : Type 0} (es : List (List ℕ × X)) (e : List ℕ × X) (m : Texts X) → put_back (es ++ e ∷ []) m ≡ put_back es (map.insert m e.0 e.1)
put_back-last [] e m = refl
put_back-last (d ∷ es) e m = ap (λ (n : Texts _). map.insert n d.0 d.1) (put_back-last es e m)

pub put_back-empty : {X : Type 0} (es : List (List ℕ × X)) → put_back es map.empty ≡ map.from_entries es
put_back-empty [] = refl
put_back-empty (e ∷ es) = ap (λ (n : Texts _). map.insert n e.0 e.1) (put_back-empty es)

-- ---- the entries of a map are its fields

T_true : (b : Bool) → T b → b ≡ true
T_true true h = refl
T_true false h = absurd h

pub T_both : (a b : Bool) → T (a && b) → T a × T b
T_both true b h = (tt, h)
T_both false b h = absurd h

is_less : (o : Ordering) → T (is_lt o) → o ≡ Less
is_less Less h = refl
is_less Equal h = absurd h
is_less Greater h = absurd h

-- a key is none of those below it
pub not_below : (x y : List ℕ) → T (is_lt (text_cmp x y)) → eq_by_cmp text_cmp y x ≡ false
not_below x y h = ap is_eq (nat_list_cmp_total.antisymm y x ∙ ap ordering_reverse (is_less (text_cmp x y) h))

module _ {X : Type 0} where
  lift_found : (e : List ℕ × X) (es fs : List (List ℕ × X)) → T (below_all text_cmp e.0 fs) → AllByRecursion (λ f. find text_cmp f.0 es ≡ Some f.1) fs → AllByRecursion (λ f. find text_cmp f.0 (e ∷ es) ≡ Some f.1) fs
  lift_found e es [] b h = tt
  lift_found e es (f ∷ fs) b h =
      let p : T (is_lt (text_cmp e.0 f.0)) × T (below_all text_cmp e.0 fs) = T_both _ _ b in
      (ap (λ t. cond t (Some e.1) (find text_cmp f.0 es)) (not_below e.0 f.0 p.0) ∙ h.0, lift_found e es fs p.1 h.1)

  -- each entry of a list in order is found
  found_each : (es : List (List ℕ × X)) → T (is_sorted text_cmp es) → AllByRecursion (λ e. find text_cmp e.0 es ≡ Some e.1) es
  found_each [] h = tt
  found_each (e ∷ es) h =
      let p : T (below_all text_cmp e.0 es) × T (is_sorted text_cmp es) = T_both _ _ h in
      (ap (λ t. cond t (Some e.1) (find text_cmp e.0 es)) (is_eq-slice_cmp e.0 e.0 ∙ (bytes_eq-Decides e.0 e.0).1 refl), lift_found e es es p.0 (found_each es p.1))

  -- each entry of a map is what the map has
  pub entries_found : (m : Texts X) → AllByRecursion (λ e. map.get m e.0 ≡ Some e.1) (map.entries m)
  entries_found m = to_get (map.entries m) (found_each (map.entries m) (map.entries_sorted m)) where
    to_get : (es : List (List ℕ × X)) → AllByRecursion (λ e. find text_cmp e.0 (map.entries m) ≡ Some e.1) es → AllByRecursion (λ e. map.get m e.0 ≡ Some e.1) es
    to_get [] h = tt
    to_get (e ∷ es) h = (map.get-entries m e.0 ∙ h.0, to_get es h.1)

-- a template's fields, each as it should be
pub each_field : (t : Stanza) → IsTemplate t → AllByRecursion (λ e. IsFieldAmong (field_map t) e.0 e.1) t.fields
each_field t h = subst (AllByRecursion (λ e. IsFieldAmong (field_map t) e.0 e.1)) h.ordered (sound (map.entries (field_map t)) (entries_found (field_map t))) where
  sound : (es : List (List ℕ × List ℕ)) → AllByRecursion (λ e. map.get (field_map t) e.0 ≡ Some e.1) es → AllByRecursion (λ e. IsFieldAmong (field_map t) e.0 e.1) es
  sound [] g = tt
  sound (e ∷ es) g = (h.sound e.0 e.1 g.0, sound es g.1)

-- an entry that was popped goes into the map
pub pop_turn : (list new : List (List ℕ × List ℕ)) (key value : List ℕ) (m n all : Texts (List ℕ)) → list ≡ new ++ (key, value) ∷ [] → n ≡ map.insert m key value → put_back list m ≡ all → put_back new n ≡ all
pop_turn list new key value m n all is put e = ap (put_back new) put ∙ sym (ap (λ l. put_back l m) is ∙ put_back-last new (key, value) m) ∙ e
