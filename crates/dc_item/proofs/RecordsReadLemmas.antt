-- The records of a text as they are kept: what they have, and one more at the end.
use Rattle.std.proofs.Common.{◌≡◌, ℕ, suc, ◌+◌, Bool, true, false, cond, List, [], ◌∷◌, ◌++◌, length, arith, Some, Option, map as each, refl, sym, ap, subst, ◌∙◌, length-append}
use Rattle.std.specs.Prelude.{◌||◌, ◌&&◌, is_some}
use Rattle.std.specs.List.{list_all, list_any}
use Rattle.std.specs.Map.{lookup}
use Rattle.std.specs.Ordering.{eq_by_cmp}
use Rattle.std.specs.Str.{bytes_eq}
use Rattle.std.specs.Cmp.Lexicographic.{nat_list_cmp_total}
use Rattle.std.specs.FinMap.{contains_key, find, from_entries, get-from_entries}
use Rattle.std.proofs.lemmas.List.{map-append}
use Rattle.indexmap.specs.IndexMap.{insert_entry}
use Rattle.dc_text.specs.Maps.{set_of, text_cmp}
use Rattle.dc_text.specs.Names.{is_name}
use Rattle.dc_item.specs.Item.{ItemParts}
use Rattle.dc_item.specs.RecordsRead.{with_lines, names_in, AreKept}
use Rattle.dc_item.specs.Table.{contents, names_of, table_of}
use Rattle.dc_item.proofs.ItemLemmas.{contains_key-set_of, KeepsAll-set_of, list_all-push}
use Rattle.dc_item.proofs.TextTableLemmas.{lookup-find, same_test}
use Rattle.dc_item.specs.declared.entry.Entry.{Entry}

abbrev Kept : Type 0
Kept = List (List ℕ × ItemParts)

-- ---- names, items and lines

pub length-with_lines : (items : Kept) (lines : List ℕ) → length lines ≡ length items → length (with_lines items lines) ≡ length items
length-with_lines [] lines e = refl
length-with_lines (kept ∷ items) [] e = absurd (omega (arith, e))
length-with_lines (kept ∷ items) (line ∷ lines) e = ap suc (length-with_lines items lines (omega (arith, e)))

pub names-with_lines : (items : Kept) (lines : List ℕ) → length lines ≡ length items → names_of (with_lines items lines) ≡ names_in items
names-with_lines [] lines e = refl
names-with_lines (kept ∷ items) [] e = absurd (omega (arith, e))
names-with_lines (kept ∷ items) (line ∷ lines) e = ap (λ names. kept.0 ∷ names) (names-with_lines items lines (omega (arith, e)))

contents-with_lines : (items : Kept) (lines : List ℕ) → length lines ≡ length items → each contents (with_lines items lines) ≡ items
contents-with_lines [] lines e = refl
contents-with_lines (kept ∷ items) [] e = absurd (omega (arith, e))
contents-with_lines (kept ∷ items) (line ∷ lines) e = ap (λ rest. kept ∷ rest) (contents-with_lines items lines (omega (arith, e)))

pub table-with_lines : (items : Kept) (lines : List ℕ) → length lines ≡ length items → from_entries items ≡ table_of (with_lines items lines)
table-with_lines items lines e = ap (λ es. from_entries es) (sym (contents-with_lines items lines e))

with_lines-push : (items : Kept) (lines : List ℕ) (name : List ℕ) (item : ItemParts) (line : ℕ) → length lines ≡ length items
    → with_lines (items ++ (name, item) ∷ []) (lines ++ line ∷ []) ≡ with_lines items lines ++ record { name = name; item = item; line = line } ∷ []
with_lines-push [] [] name item line e = refl
with_lines-push [] (l ∷ lines) name item line e = absurd (omega (arith, e))
with_lines-push (kept ∷ items) [] name item line e = absurd (omega (arith, e))
with_lines-push (kept ∷ items) (l ∷ lines) name item line e = ap (λ rest. record { name = kept.0; item = kept.1; line = l } ∷ rest) (with_lines-push items lines name item line (omega (arith, e)))

-- ---- whether a name is there

found-named : (items : Kept) (name : List ℕ) → is_some (find text_cmp name items) ≡ list_any (eq_by_cmp text_cmp name) (names_in items)
found-named [] name = refl
found-named (kept ∷ items) name = either (eq_by_cmp text_cmp name kept.0) (find text_cmp name items) (list_any (eq_by_cmp text_cmp name) (names_in items)) (found-named items name) where
  either : (b : Bool) (o : Option ItemParts) (c : Bool) → is_some o ≡ c → is_some (cond b (Some kept.1) o) ≡ (b || c)
  either true o c e = refl
  either false o c e = e

found-set_of : (items : Kept) (name : List ℕ) → is_some (find text_cmp name items) ≡ contains_key (set_of (names_in items)) name
found-set_of items name = found-named items name ∙ sym (contains_key-set_of (names_in items) name)

-- each key of the table is a name
pub keys_named : (items : Kept) (name : List ℕ) → list_all is_name (names_in items) ≡ true → contains_key (from_entries {R = text_cmp} items) name ≡ true → is_name name ≡ true
keys_named items name named there =
    KeepsAll-set_of is_name (names_in items) named name (sym (found-set_of items name) ∙ ap is_some (sym (get-from_entries nat_list_cmp_total items name)) ∙ there)

both : (a b : Bool) → (a && b) ≡ true → a ≡ true
both true b e = refl
both false b e = absurd (cc)

pub first_named : (items rest : Kept) (name : List ℕ) (item : ItemParts) → items ≡ (name, item) ∷ rest → list_all is_name (names_in items) ≡ true → is_name name ≡ true
first_named items rest name item is named = both (is_name name) (list_all is_name (names_in rest)) (ap (λ l. list_all is_name (names_in l)) (sym is) ∙ named)

-- a search by the text finds the name
pub has_name : (name : List ℕ) (items : Kept) → is_some (lookup (bytes_eq name) items) ≡ contains_key (set_of (names_in items)) name
has_name name items = ap is_some (lookup-find name items) ∙ found-set_of items name

-- a new key goes last
last : (items : Kept) (name : List ℕ) (item : ItemParts) → list_any (eq_by_cmp text_cmp name) (names_in items) ≡ false → insert_entry bytes_eq items name item ≡ items ++ (name, item) ∷ []
last [] name item none = refl
last (kept ∷ items) name item none = by (bytes_eq name kept.0) (eq_by_cmp text_cmp name kept.0) (same_test name kept.0) none (last items name item) where
  by : (b c : Bool) → b ≡ c → (c || list_any (eq_by_cmp text_cmp name) (names_in items)) ≡ false
      → (list_any (eq_by_cmp text_cmp name) (names_in items) ≡ false → insert_entry bytes_eq items name item ≡ items ++ (name, item) ∷ []) → cond b ((kept.0, item) ∷ items) (kept ∷ insert_entry bytes_eq items name item) ≡ kept ∷ (items ++ (name, item) ∷ [])
  by b true is h rest = absurd (cc)
  by true false is h rest = absurd (cc)
  by false false is h rest = ap (λ l. kept ∷ l) (rest h)

pub insert-new : (items new : Kept) (name : List ℕ) (item : ItemParts) → new ≡ insert_entry bytes_eq items name item → contains_key (set_of (names_in items)) name ≡ false → new ≡ items ++ (name, item) ∷ []
insert-new items new name item is none = is ∙ last items name item (sym (contains_key-set_of (names_in items) name) ∙ none)

-- ---- one more record

pub none_kept : (items : Kept) (lines : List ℕ) → items ≡ [] → lines ≡ [] → AreKept items lines
none_kept items lines none no_lines = subst (λ (l : Kept). AreKept l lines) (sym none) (subst (λ (l : List ℕ). AreKept [] l) (sym no_lines) (record { as_many = refl; named = refl }))

pub kept_push : (items new : Kept) (lines more : List ℕ) (name : List ℕ) (item : ItemParts) (line : ℕ) → AreKept items lines → is_name name ≡ true
    → new ≡ items ++ (name, item) ∷ [] → more ≡ lines ++ line ∷ [] → AreKept new more
kept_push items new lines more name item line kept good is next =
    record {
      as_many = ap length next ∙ length-append lines (line ∷ []) ∙ ap (λ n. n + 1) kept.as_many ∙ sym (ap length is ∙ length-append items ((name, item) ∷ []));
      named = ap (list_all is_name) (ap names_in is ∙ map-append (λ (e : List ℕ × ItemParts). e.0) items ((name, item) ∷ [])) ∙ list_all-push is_name (names_in items) name kept.named good;
    }

pub entries_push : (items new : Kept) (lines more : List ℕ) (entries : List Entry) (name : List ℕ) (item : ItemParts) (line : ℕ) → length lines ≡ length items → with_lines items lines ≡ entries
    → new ≡ items ++ (name, item) ∷ [] → more ≡ lines ++ line ∷ [] → with_lines new more ≡ entries ++ record { name = name; item = item; line = line } ∷ []
entries_push items new lines more entries name item line many are is next =
    (λ i. with_lines (is i) (next i)) ∙ with_lines-push items lines name item line many ∙ ap (λ es. es ++ record { name = name; item = item; line = line } ∷ []) are
