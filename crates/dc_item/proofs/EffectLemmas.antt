-- Which operations leave an item as it is, and owners taken away one by one.
use Rattle.std.proofs.Common.{◌≡◌, ℕ, Bool, true, false, cond, List, [], ◌∷◌, ◌++◌, length, Some, None, Option, Bor, refl, sym, ap, ◌∙◌}
use Rattle.std.specs.Prelude.{◌&&◌, ◌||◌, not, is_some}
use Rattle.std.specs.Bool.{Decides}
use Rattle.std.specs.List.{list_any}
use Rattle.std.specs.Option.{option_copied, option_map_or}
use Rattle.std.specs.Str.{bytes_eq}
use Rattle.std.specs.Ordering.{eq_by_cmp, is_eq}
use Rattle.std.specs.Cmp.Lexicographic.{nat_list_cmp_total}
use Rattle.std.proofs.lemmas.Bool.Decides.{same_from_decides}
use Rattle.std.proofs.lemmas.Cmp.{tied_itself}
use Rattle.std.proofs.lemmas.Slice.Eq.{bytes_eq-Decides}
use Rattle.std.specs.FinMap.{get, insert, remove, keys, contains_key, same_map, get-insert, get-remove, get-retain_keys}
use Rattle.dc_text.specs.Bytes.{is_nil}
use Rattle.dc_text.specs.Maps.{Texts, TextSet, set_of, text_cmp}
use Rattle.dc_text.proofs.MapLemmas.{exact_texts, set_of-push}
use Rattle.dc_item.specs.Item.{ItemParts}
use Rattle.dc_item.specs.After.{asked, after, parts_eq, with_flag, without, drops_owners, effect_of}
use Rattle.dc_item.specs.declared.op.After.TheVariants.{Same, Changed, Gone}
use Rattle.dc_item.specs.declared.effect.Effect.TheVariants as effect
use Rattle.dc_item.specs.declared.op.Op.{Op}
use Rattle.dc_item.specs.declared.op.Op.TheVariants.{SetField, DropField, SetFlag, SetVar, AddOwner, DropOwners}
use Rattle.dc_item.proofs.ItemLemmas.{same_key, contains_key-set_of, insert_there, remove_missing}
use Rattle.dc_item.proofs.AfterLemmas.{parts_eq-Decides, has-without, false_from, named_out}

not_false : (b : Bool) → b ≡ true → b ≡ false → ⊥
not_false true t f = cc
not_false false t f = cc

-- ---- a map in which nothing changes

put_back : {X : Type 0} (m : Texts X) (k : List ℕ) (v : X) → get m k ≡ Some v → insert m k v ≡ m
put_back {X = X} m k v e = same_map nat_list_cmp_total exact_texts _ _ (λ q. get-insert nat_list_cmp_total m k v q
    ∙ elim (eq_by_cmp text_cmp q k) as (λ b. eq_by_cmp text_cmp q k ≡ b → cond b (Some v) (get m q) ≡ get m q) [
      | true ↦ λ t. sym (ap (get m) (same_key q k t) ∙ e)
      | false ↦ λ t. refl
    ] refl)

get-put : {X : Type 0} (m : Texts X) (k : List ℕ) (v : X) → get (insert m k v) k ≡ Some v
get-put m k v = get-insert nat_list_cmp_total m k v k ∙ ap (λ o. cond (is_eq o) (Some v) (get m k)) (tied_itself nat_list_cmp_total k)

take_out : {X : Type 0} (m : Texts X) (k : List ℕ) → get m k ≡ None → remove m k ≡ m
take_out {X = X} m k e = same_map nat_list_cmp_total exact_texts _ _ (λ q. get-remove nat_list_cmp_total m k q
    ∙ elim (eq_by_cmp text_cmp q k) as (λ b. eq_by_cmp text_cmp q k ≡ b → cond b None (get m q) ≡ get m q) [
      | true ↦ λ t. sym (ap (get m) (same_key q k t) ∙ e)
      | false ↦ λ t. refl
    ] refl)

get-taken : {X : Type 0} (m : Texts X) (k : List ℕ) → get (remove m k) k ≡ None
get-taken m k = get-remove nat_list_cmp_total m k k ∙ ap (λ o. cond (is_eq o) None (get m k)) (tied_itself nat_list_cmp_total k)

-- ---- the tests

value_decides : (o : Option (List ℕ)) (v : List ℕ) → Decides (option_map_or (λ bytes. bytes_eq bytes v) o false) (o ≡ Some v)
value_decides None v = (λ e. absurd (cc), λ e. absurd (cc))
value_decides (Some x) v = let d : Decides (bytes_eq x v) (x ≡ v) = bytes_eq-Decides x v in (λ e. ap Some (d.0 e), λ e. d.1 (cc))

none_decides : {X : Type 0} (o : Option X) (b : Bool) → is_some o ≡ not b → Decides b (o ≡ None)
none_decides None true e = (λ h. refl, λ h. refl)
none_decides None false e = absurd (cc)
none_decides (Some x) true e = absurd (cc)
none_decides (Some x) false e = (λ h. absurd (cc), λ h. absurd (cc))

-- a value behind a reference is there where the reference is
pub copied_is : {X : Type 0} (o : Option (Bor X)) → is_some (option_copied o) ≡ is_some o
copied_is None = refl
copied_is (Some x) = refl

-- two tests of which each is true where the other is
agree : {P Q : Type 0} (a b : Bool) → Decides a P → Decides b Q → (P → Q) → (Q → P) → a ≡ b
agree a b p q to from = same_from_decides a b (λ e. to (p.0 e), λ h. p.1 (from h)) q

-- a set that has a member, or has it not, as it is asked for
flag_decides : (s : TextSet) (k : List ℕ) (is_set b : Bool) → (b ≡ true → contains_key s k ≡ is_set) → (contains_key s k ≡ is_set → b ≡ true) → Decides b (with_flag s k is_set ≡ s)
flag_decides s k true b to from = (
  λ e. insert_there s k (to e),
  λ h. from (sym (ap (λ t. contains_key t k) h) ∙ ap is_some (get-put s k tt)),
)
flag_decides s k false b to from = (
  λ e. remove_missing s k (to e),
  λ h. from (sym (ap (λ t. contains_key t k) h) ∙ ap is_some (get-taken s k)),
)

-- ---- names of which some are owners

-- one of the names that passes
one_named : (p : List ℕ → Bool) (names : List (List ℕ)) → list_any p names ≡ true → (q : List ℕ) × (p q ≡ true) × (list_any (eq_by_cmp text_cmp q) names ≡ true)
one_named p [] e = absurd (cc)
one_named p (name ∷ names) e = elim (p name) as (λ b. p name ≡ b → (b || list_any p names) ≡ true → (q : List ℕ) × (p q ≡ true) × ((eq_by_cmp text_cmp q name || list_any (eq_by_cmp text_cmp q) names) ≡ true)) [
  | true ↦ λ t h. (name, t, ap (λ o. is_eq o || list_any (eq_by_cmp text_cmp name) names) (tied_itself nat_list_cmp_total name))
  | false ↦ λ t h. let rest : (q : List ℕ) × (p q ≡ true) × (list_any (eq_by_cmp text_cmp q) names ≡ true) = one_named p names h in (rest.0, rest.1, either (eq_by_cmp text_cmp rest.0 name) _ rest.2)
] refl e where
  either : (a b : Bool) → b ≡ true → (a || b) ≡ true
  either true b h = refl
  either false b h = h

-- a name that passes is among those of which some pass
passes : (p : List ℕ → Bool) (names : List (List ℕ)) (q : List ℕ) → list_any (eq_by_cmp text_cmp q) names ≡ true → p q ≡ true → list_any p names ≡ true
passes p [] q e h = absurd (cc)
passes p (name ∷ names) q e h = elim (eq_by_cmp text_cmp q name) as (λ b. eq_by_cmp text_cmp q name ≡ b → (b || list_any (eq_by_cmp text_cmp q) names) ≡ true → (p name || list_any p names) ≡ true) [
  | true ↦ λ t r. ap (λ b. b || list_any p names) (ap p (sym (same_key q name t)) ∙ h)
  | false ↦ λ t r. either (p name) _ (passes p names q r h)
] refl e where
  either : (a b : Bool) → b ≡ true → (a || b) ≡ true
  either true b h = refl
  either false b h = h

without_unnamed : (s : TextSet) (names : List (List ℕ)) → list_any (contains_key s) names ≡ false → without s names ≡ s
without_unnamed s names none = same_map nat_list_cmp_total exact_texts _ _ (λ q.
    get-retain_keys s (λ owner. not (contains_key (set_of names) owner)) q (λ x t. ap (λ owner. not (contains_key (set_of names) owner)) (sym (exact_texts q x t)))
    ∙ elim (contains_key (set_of names) q) as (λ b. contains_key (set_of names) q ≡ b → cond (not b) (get s q) None ≡ get s q) [
      | true ↦ λ t. unheld (get s q) (λ h. not_false _ (passes (contains_key s) names q (sym (contains_key-set_of names q) ∙ t) h) none)
      | false ↦ λ t. refl
    ] refl) where
      unheld : (o : Option (Unit {0})) → (is_some o ≡ true → ⊥) → None ≡ o
      unheld None h = refl
      unheld (Some u) h = absurd (h refl)

with_none_named : (s : TextSet) (names : List (List ℕ)) → without s names ≡ s → list_any (contains_key s) names ≡ false
with_none_named s names same = false_from _ (λ e.
    let one : (q : List ℕ) × (contains_key s q ≡ true) × (list_any (eq_by_cmp text_cmp q) names ≡ true) = one_named (contains_key s) names e in
    not_false (contains_key s one.0) one.1
    (sym (ap (λ t. contains_key t one.0) same) ∙ has-without s names one.0 ∙ named_out (contains_key (set_of names) one.0) (contains_key s one.0) (contains_key-set_of names one.0 ∙ one.2)))

not_decides : (b : Bool) → Decides (not b) (b ≡ false)
not_decides true = (λ e. absurd (cc), λ e. absurd (cc))
not_decides false = (λ e. refl, λ e. refl)

-- ---- the item that is asked for is the item

module _ (parts : ItemParts) where
  abbrev same : Op → Bool
  same op = parts_eq (asked op parts) parts

  pub stays_field : (k v : List ℕ) → option_map_or (λ bytes. bytes_eq bytes v) (get parts.fields k) false ≡ same (SetField k v)
  stays_field k v = agree _ _ (value_decides (get parts.fields k) v) (parts_eq-Decides (asked (SetField k v) parts) parts)
      (λ e. ap (λ m. record parts { fields = m }) (put_back parts.fields k v e))
      (λ r. sym (ap (λ (p : ItemParts). get p.fields k) r) ∙ get-put parts.fields k v)

  pub stays_variable : (k v : List ℕ) → option_map_or (λ bytes. bytes_eq bytes v) (get parts.variables k) false ≡ same (SetVar k v)
  stays_variable k v = agree _ _ (value_decides (get parts.variables k) v) (parts_eq-Decides (asked (SetVar k v) parts) parts)
      (λ e. ap (λ m. record parts { variables = m }) (put_back parts.variables k v e))
      (λ r. sym (ap (λ (p : ItemParts). get p.variables k) r) ∙ get-put parts.variables k v)

  pub stays_without_field : (k : List ℕ) (b : Bool) → is_some (get parts.fields k) ≡ not b → b ≡ same (DropField k)
  stays_without_field k b is = agree b _ (none_decides (get parts.fields k) b is) (parts_eq-Decides (asked (DropField k) parts) parts)
      (λ e. ap (λ m. record parts { fields = m }) (take_out parts.fields k e))
      (λ r. sym (ap (λ (p : ItemParts). get p.fields k) r) ∙ get-taken parts.fields k)

  pub stays_flag : (k : List ℕ) (is_set b : Bool) → Decides b (contains_key parts.flags k ≡ is_set) → b ≡ same (SetFlag k is_set)
  stays_flag k is_set b d = agree b _ (flag_decides parts.flags k is_set b d.0 d.1) (parts_eq-Decides (asked (SetFlag k is_set) parts) parts)
      (λ e. ap (λ m. record parts { flags = m }) e)
      (λ r. ap (λ (p : ItemParts). p.flags) r)

  pub stays_owner : (k : List ℕ) → contains_key parts.owners k ≡ same (AddOwner k)
  stays_owner k = agree _ _ (flag_decides parts.owners k true (contains_key parts.owners k) (λ e. e) (λ e. e)) (parts_eq-Decides (asked (AddOwner k) parts) parts)
      (λ e. ap (λ m. record parts { owners = m }) e)
      (λ r. ap (λ (p : ItemParts). p.owners) r)

  pub stays_owned : (names : List (List ℕ)) → not (list_any (contains_key parts.owners) names) ≡ same (DropOwners names)
  stays_owned names = agree _ _ (not_decides (list_any (contains_key parts.owners) names)) (parts_eq-Decides (asked (DropOwners names) parts) parts)
      (λ e. ap (λ m. record parts { owners = m }) (without_unnamed parts.owners names e))
      (λ r. with_none_named parts.owners names (ap (λ (p : ItemParts). p.owners) r))

-- ---- owners taken away one by one

abbrev here : Option (Unit {0})
here = Some tt

-- the last name first, and then the others
pub without_last : (s : TextSet) (names : List (List ℕ)) (name : List ℕ) → without (remove s name) names ≡ without s (names ++ name ∷ [])
without_last s names name = same_map nat_list_cmp_total exact_texts _ _ (λ q.
    let out : (t : TextSet) (ns : List (List ℕ)) → get (without t ns) q ≡ cond (not (contains_key (set_of ns) q)) (get t q) None
    = λ t ns. get-retain_keys t (λ owner. not (contains_key (set_of ns) owner)) q (λ x e. ap (λ owner. not (contains_key (set_of ns) owner)) (sym (exact_texts q x e))) in
    out (remove s name) names
    ∙ ap (λ o. cond (not (contains_key (set_of names) q)) o None) (get-remove nat_list_cmp_total s name q)
    ∙ turn (eq_by_cmp text_cmp q name) (contains_key (set_of names) q) (get s q)
    ∙ ap (λ b. cond (not b) (get s q) None) (sym (ap (λ t. contains_key t q) (set_of-push names name) ∙ ap is_some (get-insert nat_list_cmp_total (set_of names) name tt q) ∙ some_or (eq_by_cmp text_cmp q name) (get (set_of names) q)))
    ∙ sym (out s (names ++ name ∷ []))) where
      turn : (a b : Bool) (o : Option (Unit {0})) → cond (not b) (cond a None o) None ≡ cond (not (a || b)) o None
      turn true true o = refl
      turn true false o = refl
      turn false b o = refl

      some_or : (a : Bool) (o : Option (Unit {0})) → is_some (cond a here o) ≡ (a || is_some o)
      some_or true o = refl
      some_or false o = refl

-- no name
pub without_none : (s : TextSet) → without s [] ≡ s
without_none s = without_unnamed s [] refl

-- a list as long as none
pub nothing_in : (names : List (List ℕ)) → length names ≡ 0 → names ≡ []
nothing_in [] e = refl
nothing_in (name ∷ names) e = absurd (cc)

-- ---- an item that changes

changed_from : (a b : Bool) (item : ItemParts) → effect_of (cond a Same (cond b Gone (Changed item))) ≡ effect.Changed → cond a Same (cond b Gone (Changed item)) ≡ Changed item
changed_from true b item e = absurd (cc)
changed_from false true item e = absurd (cc)
changed_from false false item e = refl

pub changes : (op : Op) (parts : ItemParts) → effect_of (after op parts) ≡ effect.Changed → after op parts ≡ Changed (asked op parts)
changes op parts e = changed_from (parts_eq (asked op parts) parts) (drops_owners op && is_nil (keys (asked op parts).owners)) (asked op parts) e
