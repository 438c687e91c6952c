-- The parts of an item in one map of marked texts: what is put there or taken away.
use Rattle.std.proofs.Common.{◌≡◌, ℕ, Bool, true, false, cond, List, [], ◌∷◌, Some, None, Option, arith, refl, sym, ap, ◌∙◌, subst}
use Rattle.std.specs.Prelude.{◌==◌, ◌&&◌, ◌||◌, is_some}
use Rattle.std.specs.Bool.{Decides}
use Rattle.std.specs.Str.{bytes_eq}
use Rattle.std.specs.Ordering.{eq_by_cmp}
use Rattle.std.specs.Cmp.Lexicographic.{nat_list_cmp_total}
use Rattle.std.proofs.lemmas.Bool.Decides.{nat_tests, same_from_decides}
use Rattle.std.specs.FinMap.{get, insert, remove, contains_key, empty, same_map, get-empty, get-insert, get-remove}
use Rattle.dc_text.specs.Bytes.{is_nil}
use Rattle.dc_text.specs.Maps.{Texts, text_cmp}
use Rattle.dc_text.specs.Names.{is_name, is_field_key, is_flag_name, is_variable_key}
use Rattle.dc_text.specs.Settled.{is_settled}
use Rattle.dc_text.proofs.MapLemmas.{exact_texts}
use Rattle.dc_parts.specs.Usual.{usual_name}
use Rattle.dc_parts.specs.declared.usual.UsualKey.{UsualKey}
use Rattle.dc_parts.specs.declared.usual.UsualKey.TheVariants as usual
use Rattle.dc_item.specs.After.{map_eq, parts_eq}
use Rattle.dc_item.specs.Item.{ItemParts, IsItem, no_parts}
use Rattle.dc_item.specs.Sections.{section, members, parts_in, is_part, IsParts, fields_mark, owners_mark, flags_mark, variables_mark}
use Rattle.dc_item.proofs.AfterLemmas.{map_eq-Decides, parts_eq-Decides}
use Rattle.dc_item.proofs.ItemLemmas.{same_key, IsItem-no_parts, Keeps-insert, Keeps-remove, KeepsAll-insert, KeepsAll-remove}
use Rattle.dc_item.proofs.SectionLemmas.{get-section, section-insert, section-insert-other, section-remove, section-remove-other, contains_key-members, members-insert, members-insert-other, members-remove, members-remove-other, section-empty, members-empty}

-- ---- each key has a mark

abbrev AllParts : Texts (List ℕ) → Type 0
AllParts m = (key value : List ℕ) → get m key ≡ Some value → is_part key value ≡ true

AllParts-insert : (m : Texts (List ℕ)) (k v : List ℕ) → AllParts m → is_part k v ≡ true → AllParts (insert m k v)
AllParts-insert m k v all part key value e =
    elim (eq_by_cmp text_cmp key k) as (λ b. eq_by_cmp text_cmp key k ≡ b → cond b (Some v) (get m key) ≡ Some value → is_part key value ≡ true) [
      | true ↦ λ t is. let same : v ≡ value = cc in ap (λ q. is_part q value) (same_key key k t) ∙ ap (is_part k) (sym same) ∙ part
      | false ↦ λ t is. all key value is
    ] refl (sym (get-insert nat_list_cmp_total m k v key) ∙ e)

AllParts-remove : (m : Texts (List ℕ)) (k : List ℕ) → AllParts m → AllParts (remove m k)
AllParts-remove m k all key value e =
    elim (eq_by_cmp text_cmp key k) as (λ b. cond b None (get m key) ≡ Some value → is_part key value ≡ true) [
      | true ↦ λ is. absurd (cc)
      | false ↦ λ is. all key value is
    ] (sym (get-remove nat_list_cmp_total m k key) ∙ e)

-- ---- no parts

pub none_in : (m : Texts (List ℕ)) → m ≡ empty → parts_in m ≡ no_parts
none_in m is = ap parts_in is ∙ (λ i. record { fields = section-empty fields_mark i; flags = members-empty flags_mark i; variables = section-empty variables_mark i; owners = members-empty owners_mark i })

pub begins : (m : Texts (List ℕ)) → m ≡ empty → IsParts m
begins m is = (
  subst IsItem (sym (none_in m is)) IsItem-no_parts,
  λ key value e. absurd (no_value key value (ap (λ n. get n key) (sym is) ∙ e)),
) where
  no_value : (key value : List ℕ) → get (empty {K = List ℕ} {X = List ℕ} {R = text_cmp}) key ≡ Some value → ⊥
  no_value key value e = let n : get (empty {K = List ℕ} {X = List ℕ} {R = text_cmp}) key ≡ None = get-empty text_cmp key in cc

-- ---- a field

field_in : (m : Texts (List ℕ)) (k v : List ℕ) → parts_in (insert m (fields_mark ∷ k) v) ≡ record (parts_in m) { fields = insert (section fields_mark m) k v }
field_in m k v = λ i. record {
  fields = section-insert fields_mark m k v i;
  flags = members-insert-other flags_mark fields_mark m k v refl i;
  variables = section-insert-other variables_mark fields_mark m k v refl i;
  owners = members-insert-other owners_mark fields_mark m k v refl i;
}

pub put_field : (m n : Texts (List ℕ)) (k v : List ℕ) (item : ItemParts) → parts_in m ≡ item → n ≡ insert m (fields_mark ∷ k) v → parts_in n ≡ record item { fields = insert item.fields k v }
put_field m n k v item seen is = ap parts_in is ∙ field_in m k v ∙ ap (λ (p : ItemParts). record p { fields = insert p.fields k v }) seen

pub with_field : (m n : Texts (List ℕ)) (k v : List ℕ) → IsParts m → n ≡ insert m (fields_mark ∷ k) v → is_field_key k ≡ true → is_settled v ≡ true → IsParts n
with_field m n k v kept is key value = (
  subst IsItem (sym (ap parts_in is ∙ field_in m k v))
      (record { fields = Keeps-insert is_field_key is_settled (section fields_mark m) k v kept.0.fields key value; flags = kept.0.flags; variables = kept.0.variables; owners = kept.0.owners }),
  subst AllParts (sym is) (AllParts-insert m (fields_mark ∷ k) v kept.1 refl),
)

-- where there is none with its key
pub put_new_field : (b : Bool) (m n : Texts (List ℕ)) (k v : List ℕ) (item : ItemParts) → parts_in m ≡ item → n ≡ cond b (insert m (fields_mark ∷ k) v) m → parts_in n ≡ cond b (record item { fields = insert item.fields k v }) item
put_new_field true m n k v item seen is = put_field m n k v item seen is
put_new_field false m n k v item seen is = ap parts_in is ∙ seen

pub with_new_field : (b : Bool) (m n : Texts (List ℕ)) (k v : List ℕ) → IsParts m → n ≡ cond b (insert m (fields_mark ∷ k) v) m → is_field_key k ≡ true → is_settled v ≡ true → IsParts n
with_new_field true m n k v kept is key value = with_field m n k v kept is key value
with_new_field false m n k v kept is key value = subst IsParts (sym is) kept

-- a usual key is one
pub usual_is_key : (key : UsualKey) → is_field_key (usual_name key) ≡ true
usual_is_key usual.Default = refl
usual_is_key usual.Description = refl
usual_is_key usual.ExtendedDescription = refl
usual_is_key usual.Template = refl
usual_is_key usual.«Type» = refl
usual_is_key usual.Value = refl

no_field_in : (m : Texts (List ℕ)) (k : List ℕ) → parts_in (remove m (fields_mark ∷ k)) ≡ record (parts_in m) { fields = remove (section fields_mark m) k }
no_field_in m k = λ i. record {
  fields = section-remove fields_mark m k i;
  flags = members-remove-other flags_mark fields_mark m k refl i;
  variables = section-remove-other variables_mark fields_mark m k refl i;
  owners = members-remove-other owners_mark fields_mark m k refl i;
}

pub drop_field : (m n : Texts (List ℕ)) (k : List ℕ) (item : ItemParts) → parts_in m ≡ item → n ≡ remove m (fields_mark ∷ k) → parts_in n ≡ record item { fields = remove item.fields k }
drop_field m n k item seen is = ap parts_in is ∙ no_field_in m k ∙ ap (λ (p : ItemParts). record p { fields = remove p.fields k }) seen

pub without_field : (m n : Texts (List ℕ)) (k : List ℕ) → IsParts m → n ≡ remove m (fields_mark ∷ k) → IsParts n
without_field m n k kept is = (
  subst IsItem (sym (ap parts_in is ∙ no_field_in m k))
      (record { fields = Keeps-remove is_field_key is_settled (section fields_mark m) k kept.0.fields; flags = kept.0.flags; variables = kept.0.variables; owners = kept.0.owners }),
  subst AllParts (sym is) (AllParts-remove m (fields_mark ∷ k) kept.1),
)

-- ---- a variable

variable_in : (m : Texts (List ℕ)) (k v : List ℕ) → parts_in (insert m (variables_mark ∷ k) v) ≡ record (parts_in m) { variables = insert (section variables_mark m) k v }
variable_in m k v = λ i. record {
  fields = section-insert-other fields_mark variables_mark m k v refl i;
  flags = members-insert-other flags_mark variables_mark m k v refl i;
  variables = section-insert variables_mark m k v i;
  owners = members-insert-other owners_mark variables_mark m k v refl i;
}

pub put_variable : (m n : Texts (List ℕ)) (k v : List ℕ) (item : ItemParts) → parts_in m ≡ item → n ≡ insert m (variables_mark ∷ k) v → parts_in n ≡ record item { variables = insert item.variables k v }
put_variable m n k v item seen is = ap parts_in is ∙ variable_in m k v ∙ ap (λ (p : ItemParts). record p { variables = insert p.variables k v }) seen

pub with_variable : (m n : Texts (List ℕ)) (k v : List ℕ) → IsParts m → n ≡ insert m (variables_mark ∷ k) v → is_variable_key k ≡ true → is_settled v ≡ true → IsParts n
with_variable m n k v kept is key value = (
  subst IsItem (sym (ap parts_in is ∙ variable_in m k v))
      (record { fields = kept.0.fields; flags = kept.0.flags; variables = Keeps-insert is_variable_key is_settled (section variables_mark m) k v kept.0.variables key value; owners = kept.0.owners }),
  subst AllParts (sym is) (AllParts-insert m (variables_mark ∷ k) v kept.1 refl),
)

pub put_new_variable : (b : Bool) (m n : Texts (List ℕ)) (k v : List ℕ) (item : ItemParts) → parts_in m ≡ item → n ≡ cond b (insert m (variables_mark ∷ k) v) m → parts_in n ≡ cond b (record item { variables = insert item.variables k v }) item
put_new_variable true m n k v item seen is = put_variable m n k v item seen is
put_new_variable false m n k v item seen is = ap parts_in is ∙ seen

pub with_new_variable : (b : Bool) (m n : Texts (List ℕ)) (k v : List ℕ) → IsParts m → n ≡ cond b (insert m (variables_mark ∷ k) v) m → is_variable_key k ≡ true → is_settled v ≡ true → IsParts n
with_new_variable true m n k v kept is key value = with_variable m n k v kept is key value
with_new_variable false m n k v kept is key value = subst IsParts (sym is) kept

-- ---- a flag

flag_in : (m : Texts (List ℕ)) (k : List ℕ) → parts_in (insert m (flags_mark ∷ k) []) ≡ record (parts_in m) { flags = insert (members flags_mark m) k tt }
flag_in m k = λ i. record {
  fields = section-insert-other fields_mark flags_mark m k [] refl i;
  flags = members-insert flags_mark m k [] i;
  variables = section-insert-other variables_mark flags_mark m k [] refl i;
  owners = members-insert-other owners_mark flags_mark m k [] refl i;
}

pub put_flag : (m n : Texts (List ℕ)) (k : List ℕ) (item : ItemParts) → parts_in m ≡ item → n ≡ insert m (flags_mark ∷ k) [] → parts_in n ≡ record item { flags = insert item.flags k tt }
put_flag m n k item seen is = ap parts_in is ∙ flag_in m k ∙ ap (λ (p : ItemParts). record p { flags = insert p.flags k tt }) seen

pub with_flag : (m n : Texts (List ℕ)) (k : List ℕ) → IsParts m → n ≡ insert m (flags_mark ∷ k) [] → is_flag_name k ≡ true → IsParts n
with_flag m n k kept is flag = (
  subst IsItem (sym (ap parts_in is ∙ flag_in m k))
      (record { fields = kept.0.fields; flags = KeepsAll-insert is_flag_name (members flags_mark m) k kept.0.flags flag; variables = kept.0.variables; owners = kept.0.owners }),
  subst AllParts (sym is) (AllParts-insert m (flags_mark ∷ k) [] kept.1 refl),
)

no_flag_in : (m : Texts (List ℕ)) (k : List ℕ) → parts_in (remove m (flags_mark ∷ k)) ≡ record (parts_in m) { flags = remove (members flags_mark m) k }
no_flag_in m k = λ i. record {
  fields = section-remove-other fields_mark flags_mark m k refl i;
  flags = members-remove flags_mark m k i;
  variables = section-remove-other variables_mark flags_mark m k refl i;
  owners = members-remove-other owners_mark flags_mark m k refl i;
}

pub drop_flag : (m n : Texts (List ℕ)) (k : List ℕ) (item : ItemParts) → parts_in m ≡ item → n ≡ remove m (flags_mark ∷ k) → parts_in n ≡ record item { flags = remove item.flags k }
drop_flag m n k item seen is = ap parts_in is ∙ no_flag_in m k ∙ ap (λ (p : ItemParts). record p { flags = remove p.flags k }) seen

pub without_flag : (m n : Texts (List ℕ)) (k : List ℕ) → IsParts m → n ≡ remove m (flags_mark ∷ k) → IsParts n
without_flag m n k kept is = (
  subst IsItem (sym (ap parts_in is ∙ no_flag_in m k))
      (record { fields = kept.0.fields; flags = KeepsAll-remove is_flag_name (members flags_mark m) k kept.0.flags; variables = kept.0.variables; owners = kept.0.owners }),
  subst AllParts (sym is) (AllParts-remove m (flags_mark ∷ k) kept.1),
)

-- ---- an owner

owner_in : (m : Texts (List ℕ)) (k : List ℕ) → parts_in (insert m (owners_mark ∷ k) []) ≡ record (parts_in m) { owners = insert (members owners_mark m) k tt }
owner_in m k = λ i. record {
  fields = section-insert-other fields_mark owners_mark m k [] refl i;
  flags = members-insert-other flags_mark owners_mark m k [] refl i;
  variables = section-insert-other variables_mark owners_mark m k [] refl i;
  owners = members-insert owners_mark m k [] i;
}

pub put_owner : (m n : Texts (List ℕ)) (k : List ℕ) (item : ItemParts) → parts_in m ≡ item → n ≡ insert m (owners_mark ∷ k) [] → parts_in n ≡ record item { owners = insert item.owners k tt }
put_owner m n k item seen is = ap parts_in is ∙ owner_in m k ∙ ap (λ (p : ItemParts). record p { owners = insert p.owners k tt }) seen

pub with_owner : (m n : Texts (List ℕ)) (k : List ℕ) → IsParts m → n ≡ insert m (owners_mark ∷ k) [] → is_name k ≡ true → IsParts n
with_owner m n k kept is name = (
  subst IsItem (sym (ap parts_in is ∙ owner_in m k))
      (record { fields = kept.0.fields; flags = kept.0.flags; variables = kept.0.variables; owners = KeepsAll-insert is_name (members owners_mark m) k kept.0.owners name }),
  subst AllParts (sym is) (AllParts-insert m (owners_mark ∷ k) [] kept.1 refl),
)

no_owner_in : (m : Texts (List ℕ)) (k : List ℕ) → parts_in (remove m (owners_mark ∷ k)) ≡ record (parts_in m) { owners = remove (members owners_mark m) k }
no_owner_in m k = λ i. record {
  fields = section-remove-other fields_mark owners_mark m k refl i;
  flags = members-remove-other flags_mark owners_mark m k refl i;
  variables = section-remove-other variables_mark owners_mark m k refl i;
  owners = members-remove owners_mark m k i;
}

pub drop_owner : (m n : Texts (List ℕ)) (k : List ℕ) (item : ItemParts) → parts_in m ≡ item → n ≡ remove m (owners_mark ∷ k) → parts_in n ≡ record item { owners = remove item.owners k }
drop_owner m n k item seen is = ap parts_in is ∙ no_owner_in m k ∙ ap (λ (p : ItemParts). record p { owners = remove p.owners k }) seen

pub without_owner : (m n : Texts (List ℕ)) (k : List ℕ) → IsParts m → n ≡ remove m (owners_mark ∷ k) → IsParts n
without_owner m n k kept is = (
  subst IsItem (sym (ap parts_in is ∙ no_owner_in m k))
      (record { fields = kept.0.fields; flags = kept.0.flags; variables = kept.0.variables; owners = KeepsAll-remove is_name (members owners_mark m) k kept.0.owners }),
  subst AllParts (sym is) (AllParts-remove m (owners_mark ∷ k) kept.1),
)

-- ---- items are equal where their maps are

nothing : (o : Option (List ℕ)) → ((v : List ℕ) → o ≡ Some v → ⊥) → o ≡ None
nothing None h = refl
nothing (Some v) h = absurd (h v refl)

-- two values that may be there, of which each is empty
both_empty : (o p : Option (List ℕ)) → is_some o ≡ is_some p → ((v : List ℕ) → o ≡ Some v → v ≡ []) → ((v : List ℕ) → p ≡ Some v → v ≡ []) → o ≡ p
both_empty None None e f g = refl
both_empty None (Some v) e f g = absurd (cc)
both_empty (Some v) None e f g = absurd (cc)
both_empty (Some v) (Some w) e f g = ap Some (f v refl ∙ sym (g w refl))

is_empty : (v : List ℕ) → is_nil v ≡ true → v ≡ []
is_empty [] e = refl
is_empty (b ∷ v) e = absurd (cc)

one_mark : (a b : ℕ) → (a == b) ≡ true → a ≡ b
one_mark a b e = grind (arith, nat_tests)

section_same : (mark : ℕ) (m n : Texts (List ℕ)) (k : List ℕ) → section mark m ≡ section mark n → get m (mark ∷ k) ≡ get n (mark ∷ k)
section_same mark m n k is = sym (get-section mark m k) ∙ ap (λ s. get s k) is ∙ get-section mark n k

members_same : (mark : ℕ) (m n : Texts (List ℕ)) (k : List ℕ) → members mark m ≡ members mark n → contains_key m (mark ∷ k) ≡ contains_key n (mark ∷ k)
members_same mark m n k is = sym (contains_key-members mark m k) ∙ ap (λ s. contains_key s k) is ∙ contains_key-members mark n k

at_mark : (f v o g : Bool) (m n : Texts (List ℕ)) (mark : ℕ) (k : List ℕ) → (mark == fields_mark) ≡ f → (mark == variables_mark) ≡ v → (mark == owners_mark) ≡ o → (mark == flags_mark) ≡ g
    → parts_in m ≡ parts_in n
    → ((value : List ℕ) → get m (mark ∷ k) ≡ Some value → ((f || v) || ((o || g) && is_nil value)) ≡ true)
    → ((value : List ℕ) → get n (mark ∷ k) ≡ Some value → ((f || v) || ((o || g) && is_nil value)) ≡ true)
    → get m (mark ∷ k) ≡ get n (mark ∷ k)
at_mark true v o g m n mark k fe ve oe ge same p q = subst (λ a. get m (a ∷ k) ≡ get n (a ∷ k)) (sym (one_mark mark fields_mark fe)) (section_same fields_mark m n k (ap (λ (p : ItemParts). p.fields) same))
at_mark false true o g m n mark k fe ve oe ge same p q = subst (λ a. get m (a ∷ k) ≡ get n (a ∷ k)) (sym (one_mark mark variables_mark ve)) (section_same variables_mark m n k (ap (λ (p : ItemParts). p.variables) same))
at_mark false false true g m n mark k fe ve oe ge same p q =
    both_empty _ _ (subst (λ a. contains_key m (a ∷ k) ≡ contains_key n (a ∷ k)) (sym (one_mark mark owners_mark oe)) (members_same owners_mark m n k (ap (λ (p : ItemParts). p.owners) same)))
    (λ w e. is_empty w (p w e)) (λ w e. is_empty w (q w e))
at_mark false false false true m n mark k fe ve oe ge same p q =
    both_empty _ _ (subst (λ a. contains_key m (a ∷ k) ≡ contains_key n (a ∷ k)) (sym (one_mark mark flags_mark ge)) (members_same flags_mark m n k (ap (λ (p : ItemParts). p.flags) same)))
    (λ w e. is_empty w (p w e)) (λ w e. is_empty w (q w e))
at_mark false false false false m n mark k fe ve oe ge same p q = nothing _ (λ w e. no (p w e)) ∙ sym (nothing _ (λ w e. no (q w e))) where
  no : false ≡ true → ⊥
  no h = cc

at_key : (m n : Texts (List ℕ)) (key : List ℕ) → IsParts m → IsParts n → parts_in m ≡ parts_in n → get m key ≡ get n key
at_key m n [] p q same = nothing _ (λ w e. no (p.1 [] w e)) ∙ sym (nothing _ (λ w e. no (q.1 [] w e))) where
  no : false ≡ true → ⊥
  no h = cc
at_key m n (mark ∷ k) p q same = at_mark (mark == fields_mark) (mark == variables_mark) (mark == owners_mark) (mark == flags_mark) m n mark k refl refl refl refl same (p.1 (mark ∷ k)) (q.1 (mark ∷ k))

parts_same : (m n : Texts (List ℕ)) → IsParts m → IsParts n → parts_in m ≡ parts_in n → m ≡ n
parts_same m n p q same = same_map nat_list_cmp_total exact_texts m n (λ key. at_key m n key p q same)

pub same_parts : (m n : Texts (List ℕ)) → IsParts m → IsParts n → map_eq bytes_eq m n ≡ parts_eq (parts_in m) (parts_in n)
same_parts m n p q =
    let maps : Decides (map_eq bytes_eq m n) (m ≡ n) = map_eq-Decides m n in
    let items : Decides (parts_eq (parts_in m) (parts_in n)) (parts_in m ≡ parts_in n) = parts_eq-Decides (parts_in m) (parts_in n) in
    same_from_decides _ _ (λ e. ap parts_in (maps.0 e), λ same. maps.1 (parts_same m n p q same)) items
