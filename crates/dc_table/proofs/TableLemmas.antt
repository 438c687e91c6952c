-- The names of a table's items, and what a write or a removal makes of a table.
use Rattle.std.proofs.Common.{◌≡◌, ℕ, zero, suc, Result, Ok, Err, OnErr, ◌<◌, position, length, slice_get, Option, option_map, Bool, true, false, cond, List, [], ◌∷◌, Some, None, map as each, refl, sym, ap, ◌∙◌, subst}
use Rattle.std.specs.Prelude.{is_some, ◌&&◌, ◌||◌}
use Rattle.std.specs.List.{list_all, list_any}
use Rattle.std.specs.Ordering.{eq_by_cmp}
use Rattle.std.specs.Cmp.{eq_by_cmp_equiv}
use Rattle.std.specs.Cmp.Lexicographic.{nat_list_cmp_total}
use Rattle.std.specs.FinMap.{get, insert, remove, contains_key, empty, entries, keys, contains_key-keys, get-empty, get-insert, get-remove, from_entries, get-from_entries}
use Rattle.dc_text.specs.Bytes.{is_nil}
use Rattle.dc_text.specs.Maps.{text_cmp}
use Rattle.dc_text.specs.Names.{is_name}
use Rattle.dc_item.specs.Item.{ItemParts}
use Rattle.dc_item.proofs.ItemLemmas.{same_key}
use Rattle.dc_table.specs.Tracked.{Table}
use Rattle.std.specs.Map.{keys_of, values_of, lookup}
use Rattle.std.specs.Str.{bytes_eq}
use Rattle.std.proofs.lemmas.List.Quantifiers.{position-Some}
use Rattle.std.proofs.lemmas.Option.{slice_get-map}
use Rattle.std.proofs.lemmas.Slice.Eq.{bytes_eq-Decides}
use Rattle.indexmap.specs.IndexMap.{set_value_at}
use Rattle.indexmap.proofs.MapLemmas.{insert_entry-first, Found-position}
use Rattle.dc_item.specs.After.{after, after_at, asked, effect_of, drops_owners, parts_eq}
use Rattle.dc_item.specs.declared.op.Op.{Op}
use Rattle.dc_item.specs.declared.op.After.TheVariants as made
use Rattle.dc_item.specs.declared.effect.Effect.TheVariants as effect
use Rattle.dc_item.proofs.TextTableLemmas.{lookup-find, table-insert}
use Rattle.dc_table.specs.Marks.{name_at}

-- each item's name is a name
abbrev pub AreNamed : Table → Type 0
AreNamed m = (name : List ℕ) → contains_key m name ≡ true → is_name name ≡ true

pub are_named_empty : AreNamed empty
are_named_empty name e = absurd (let none : contains_key (empty {K = List ℕ} {X = ItemParts} {R = text_cmp}) name ≡ false = ap is_some (get-empty text_cmp name) in cc)

pub are_named_insert : (m : Table) (k : List ℕ) (v : ItemParts) → AreNamed m → is_name k ≡ true → AreNamed (insert m k v)
are_named_insert m k v named is name e =
    elim (eq_by_cmp text_cmp name k) as (λ b. eq_by_cmp text_cmp name k ≡ b → is_some (cond b (Some v) (get m name)) ≡ true → is_name name ≡ true) [
      | true ↦ λ t _. ap is_name (same_key name k t) ∙ is
      | false ↦ λ t here. named name here
    ] refl (sym (ap is_some (get-insert nat_list_cmp_total m k v name)) ∙ e)

pub are_named_remove : (m : Table) (k : List ℕ) → AreNamed m → AreNamed (remove m k)
are_named_remove m k named name e =
    elim (eq_by_cmp text_cmp name k) as (λ b. is_some (cond b None (get m name)) ≡ true → is_name name ≡ true) [
      | true ↦ λ here. absurd (cc)
      | false ↦ λ here. named name here
    ] (sym (ap is_some (get-remove nat_list_cmp_total m k name)) ∙ e)

-- where an entry is put, or taken away
pub named_insert : (es fs : List (List ℕ × ItemParts)) (k : List ℕ) (v : ItemParts) → from_entries {R = text_cmp} fs ≡ insert (from_entries es) k v → AreNamed (from_entries es) → is_name k ≡ true → AreNamed (from_entries fs)
named_insert es fs k v is named name = subst AreNamed (sym is) (are_named_insert (from_entries es) k v named name)

pub named_remove : (es fs : List (List ℕ × ItemParts)) (k : List ℕ) → from_entries {R = text_cmp} fs ≡ remove (from_entries es) k → AreNamed (from_entries es) → AreNamed (from_entries fs)
named_remove es fs k is named = subst AreNamed (sym is) (are_named_remove (from_entries es) k named)

pub named_none : (es : List (List ℕ × ItemParts)) → es ≡ [] → AreNamed (from_entries es)
named_none es is = subst (λ (l : List (List ℕ × ItemParts)). AreNamed (from_entries l)) (sym is) are_named_empty

all_listed : (ks : List (List ℕ)) → ((q : List ℕ) → list_any (eq_by_cmp text_cmp q) ks ≡ true → is_name q ≡ true) → list_all is_name ks ≡ true
all_listed [] named = refl
all_listed (k ∷ ks) named =
    let here : is_name k ≡ true = named k (ap (λ b. b || list_any (eq_by_cmp text_cmp k) ks) ((eq_by_cmp_equiv nat_list_cmp_total).refl k)) in
    ap (λ b. b && list_all is_name ks) here ∙ all_listed ks (λ q e. named q (later (eq_by_cmp text_cmp q k) e)) where
      later : (a : Bool) {b : Bool} → b ≡ true → (a || b) ≡ true
      later true e = refl
      later false e = e

-- all names of a table are names
pub names_are_names : (m : Table) → AreNamed m → list_all is_name (keys m) ≡ true
names_are_names m named = all_listed (keys m) (λ q e. named q (contains_key-keys m q ∙ e))

-- the names of entries, as a map shows them
abbrev pub firsts : List (List ℕ × ItemParts) → List (List ℕ)
firsts entries = each (λ e. e.0) entries

-- ---- a search by the bytes of the key

pub found : (es : List (List ℕ × ItemParts)) (k : List ℕ) → lookup (bytes_eq k) es ≡ get (from_entries {R = text_cmp} es) k
found es k = lookup-find k es ∙ sym (get-from_entries nat_list_cmp_total es k)

-- the key stands at the place where it is found
pub at_place : (es : List (List ℕ × ItemParts)) (k : List ℕ) (i : ℕ) → position (bytes_eq k) (keys_of es) ≡ Some i → name_at (keys_of es) i ≡ k
at_place es k i is = sym ((bytes_eq-Decides k (name_at (keys_of es) i)).0 (position-Some (bytes_eq k) (keys_of es) i [] is).1)

pub is_within : (es : List (List ℕ × ItemParts)) (k : List ℕ) (i : ℕ) → position (bytes_eq k) (keys_of es) ≡ Some i → i < length (keys_of es)
is_within es k i is = (position-Some (bytes_eq k) (keys_of es) i [] is).0

-- to write a value at that place is to put it at the key
pub table-set_at : (es fs : List (List ℕ × ItemParts)) (k : List ℕ) (i : ℕ) (v : ItemParts) → position (bytes_eq k) (keys_of es) ≡ Some i → fs ≡ set_value_at es i v
    → from_entries {R = text_cmp} fs ≡ insert (from_entries es) k v
table-set_at es fs k i v at is = table-insert es fs k v (is ∙ sym (insert_entry-first bytes_eq k v es i (Found-position (bytes_eq k) es i at).first))

pub value_at : (es : List (List ℕ × ItemParts)) (i : ℕ) (o : Option (List ℕ × ItemParts)) → o ≡ slice_get es i → option_map (λ e. e.1) o ≡ slice_get (values_of es) i
value_at es i o is = ap (option_map (λ (e : List ℕ × ItemParts). e.1)) is ∙ sym (slice_get-map (λ (e : List ℕ × ItemParts). e.1) es i)

-- ---- what an operation made, told by its effect

pub was_same : (op : Op) (item : ItemParts) → effect.Same ≡ effect_of (after op item) → after op item ≡ made.Same
was_same op item is = by (parts_eq (asked op item) item) (drops_owners op && is_nil (keys (asked op item).owners)) is where
  by : (a b : Bool) → effect.Same ≡ effect_of (cond a made.Same (cond b made.Gone (made.Changed (asked op item)))) → cond a made.Same (cond b made.Gone (made.Changed (asked op item))) ≡ made.Same
  by true b e = refl
  by false true e = absurd (cc)
  by false false e = absurd (cc)

pub was_changed : (op : Op) (item : ItemParts) → effect.Changed ≡ effect_of (after op item) → after op item ≡ made.Changed (asked op item)
was_changed op item is = by (parts_eq (asked op item) item) (drops_owners op && is_nil (keys (asked op item).owners)) is where
  by : (a b : Bool) → effect.Changed ≡ effect_of (cond a made.Same (cond b made.Gone (made.Changed (asked op item)))) → cond a made.Same (cond b made.Gone (made.Changed (asked op item))) ≡ made.Changed (asked op item)
  by true b e = absurd (cc)
  by false true e = absurd (cc)
  by false false e = refl

pub was_gone : (op : Op) (item : ItemParts) → effect.Gone ≡ effect_of (after op item) → after op item ≡ made.Gone
was_gone op item is = by (parts_eq (asked op item) item) (drops_owners op && is_nil (keys (asked op item).owners)) is where
  by : (a b : Bool) → effect.Gone ≡ effect_of (cond a made.Same (cond b made.Gone (made.Changed (asked op item)))) → cond a made.Same (cond b made.Gone (made.Changed (asked op item))) ≡ made.Gone
  by true b e = absurd (cc)
  by false true e = refl
  by false false e = absurd (cc)

pub made_same : (op : Op) (o : Option ItemParts) → effect.Same ≡ effect_of (after_at op o) → is_some o ≡ true → after_at op o ≡ made.Same
made_same op (Some item) is there = was_same op item is
made_same op None is there = absurd (cc)

pub made_changed : (op : Op) (o : Option ItemParts) (item : ItemParts) → effect.Changed ≡ effect_of (after_at op o) → o ≡ Some item → after_at op o ≡ made.Changed (asked op item)
made_changed op o item is at = ap (after_at op) at ∙ was_changed op item (is ∙ ap (λ p. effect_of (after_at op p)) at)

pub made_gone : (op : Op) (o : Option ItemParts) → effect.Gone ≡ effect_of (after_at op o) → is_some o ≡ true → after_at op o ≡ made.Gone
made_gone op (Some item) is there = was_gone op item is
made_gone op None is there = absurd (cc)

-- ---- what a table has at a name

pub here : (table : Table) (es : List (List ℕ × ItemParts)) (k name : List ℕ) (o : Option ItemParts) → from_entries es ≡ table → k ≡ name → o ≡ lookup (bytes_eq k) es → get table name ≡ o
here table es k name o is key at = sym (at ∙ found es k ∙ (λ i. get (is i) (key i)))

pub none_here : (table : Table) (es : List (List ℕ × ItemParts)) (k name : List ℕ) → from_entries es ≡ table → k ≡ name → false ≡ is_some (lookup (bytes_eq k) es) → get table name ≡ None
none_here table es k name is key gone = is_none (get table name) (ap is_some (here table es k name (lookup (bytes_eq k) es) is key refl) ∙ sym gone) where
  is_none : (o : Option ItemParts) → is_some o ≡ false → o ≡ None
  is_none (Some item) e = absurd (cc)
  is_none None e = refl

-- a value written over by itself
pub same_value : (es : List (List ℕ × ItemParts)) (i : ℕ) (v : ItemParts) → slice_get (values_of es) i ≡ Some v → set_value_at es i v ≡ es
same_value [] i v is = refl
same_value (e ∷ es) zero v is = let one : v ≡ e.1 = cc in λ j. (e.0, one j) ∷ es
same_value (e ∷ es) (suc i) v is = ap (λ l. e ∷ l) (same_value es i v is)

-- what holds in any case holds after an error
pub either_way : {T E P : Type 0} (r : Result T E) → P → OnErr r P
either_way (Ok x) p = tt
either_way (Err e) p = p
