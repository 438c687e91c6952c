-- What is read is a table: names are names, and items are items.
use Rattle.std.proofs.Common.{◌≡◌, ℕ, ◌+◌, Bool, true, false, cond, List, [], ◌∷◌, ◌++◌, map, Some, None, Option, refl, sym, ap, ◌∙◌, subst}
use Rattle.std.specs.Prelude.{◌&&◌, ◌==◌, codes}
use Rattle.std.specs.List.{filter_map, flat_map, list_all, list_any, AllByRecursion, cons_option, before_first, after_first, enumerate_from}
use Rattle.std.specs.Str.{bytes_eq}
use Rattle.std.specs.Ordering.{eq_by_cmp}
use Rattle.std.specs.Cmp.Lexicographic.{nat_list_cmp_total}
use Rattle.std.specs.FinMap.{find, get-from_entries}
use Rattle.dc_text.specs.Bytes.{is_indented, trimmed, without_space, lower, is_blank as is_blank_line}
use Rattle.dc_text.specs.Maps.{text_cmp}
use Rattle.dc_text.specs.Names.{is_name, is_field_key, is_flag_name, is_variable_key}
use Rattle.dc_text.specs.Settled.{is_settled}
use Rattle.dc_text.proofs.SettledLemmas.{is_settled-settled}
use Rattle.dc_item.specs.Grammar.{line_said, pieces, name_line, owners_line, flags_line, variables_line, field_line, headed_line, variable_line, indented_line, RecordLine, Blank, Name, Owners, Flags, Variables, Variable, Field, Nothing}
use Rattle.dc_item.specs.Item.{ItemParts, IsItem}
use Rattle.dc_text.proofs.FirstLemmas.{before_first-cons}
use Rattle.dc_item.specs.Records.{is_blank, until_blank, field_in, variable_in, owners_in, flags_in, item_of, lines_said, record_at, records_of, numbered, ReadsLines}
use Rattle.dc_item.specs.Table.{contents, table_of, IsEntry, IsTable}
use Rattle.dc_item.proofs.Groups.{Line}
use Rattle.dc_item.proofs.ItemLemmas.{same_key, KeepsAll-set_of}
use Rattle.dc_item.specs.declared.entry.Entry.{Entry}

-- ---- what a line says is such that an item can hold it

abbrev IsGood : RecordLine → Type 0
IsGood Blank = Unit {0}
IsGood (Name name) = is_name name ≡ true
IsGood (Owners names) = list_all is_name names ≡ true
IsGood (Flags flags) = list_all is_flag_name flags ≡ true
IsGood Variables = Unit {0}
IsGood (Variable key value) = (is_variable_key key ≡ true) × (is_settled value ≡ true)
IsGood (Field key value) = (is_field_key key ≡ true) × (is_settled value ≡ true)
IsGood Nothing = Unit {0}

good_if : (b : Bool) (p : RecordLine) → (b ≡ true → IsGood p) → IsGood (cond b p Nothing)
good_if true p h = h refl
good_if false p h = tt

good_either : (b : Bool) (p q : RecordLine) → IsGood p → IsGood q → IsGood (cond b p q)
good_either true p q g h = g
good_either false p q g h = h

field_good : (key rest : List ℕ) → IsGood (field_line key rest)
field_good key rest = good_if (is_field_key key) _ (λ e. (e, is_settled-settled (without_space rest)))

variable_good : (key rest : List ℕ) → IsGood (variable_line key rest)
variable_good key rest = good_if (is_variable_key key) _ (λ e. (e, is_settled-settled (without_space rest)))

headed_good : (word rest : List ℕ) → IsGood (headed_line word rest)
headed_good word rest =
    good_either (bytes_eq word (codes "name")) (name_line rest) _ (good_if (is_name (trimmed rest)) _ (λ e. e))
    (good_either (bytes_eq word (codes "owners")) (owners_line rest) _ (good_if (list_all is_name (pieces rest)) _ (λ e. e))
    (good_either (bytes_eq word (codes "flags")) (flags_line rest) _ (good_if (list_all is_flag_name (pieces rest)) _ (λ e. e))
    (good_either (bytes_eq word (codes "variables")) (variables_line rest) _ (good_if (is_blank_line rest) Variables (λ e. tt)) (field_good word rest))))

indented_good : (line : List ℕ) → IsGood (indented_line line)
indented_good line = good_either (list_any (λ b. b == 61) line) _ Nothing (variable_good (trimmed (before_first (λ b. b == 61) line)) (after_first (λ b. b == 61) line)) tt

part_good : (line : List ℕ) → IsGood (line_said line)
part_good line =
    good_either (is_blank_line line) Blank _ tt
    (good_either (is_indented line) (indented_line line) _ (indented_good line)
    (good_either (list_any (λ b. b == 58) line) _ Nothing (headed_good (map lower (before_first (λ b. b == 58) line)) (after_first (λ b. b == 58) line)) tt))

abbrev AllGood : List RecordLine → Type 0
AllGood ps = AllByRecursion IsGood ps

numbered_good : (n : ℕ) (lines : List (List ℕ)) → AllGood (lines_said (enumerate_from n (map line_said lines)))
numbered_good n [] = tt
numbered_good n (l ∷ lines) = (part_good l, numbered_good (n + 1) lines)

-- ---- the item of such lines

until_good : (ps : List RecordLine) → AllGood ps → AllGood (until_blank ps)
until_good [] g = tt
until_good (p ∷ ps) g =
    subst AllGood (sym (before_first-cons is_blank p ps)) (elim (is_blank p) as (λ b. AllGood (cond b [] (p ∷ until_blank ps))) [ true ↦ tt | false ↦ (g.0, until_good ps g.1) ])

-- what is found among the entries that the lines make
module _ (h : RecordLine → Option (List ℕ × List ℕ)) (p q : List ℕ → Bool) (good : (x : RecordLine) (k v : List ℕ) → IsGood x → h x ≡ Some (k, v) → (p k ≡ true) × (q v ≡ true)) where
  found_good : (ps : List RecordLine) (k v : List ℕ) → AllGood ps → find text_cmp k (filter_map h ps) ≡ Some v → (p k ≡ true) × (q v ≡ true)
  found_good [] k v g e = absurd (cc)
  found_good (x ∷ ps) k v g e =
      elim (h x) as (λ o. h x ≡ o → find text_cmp k (cons_option o (filter_map h ps)) ≡ Some v → (p k ≡ true) × (q v ≡ true)) [
        | None ↦ λ _ f. found_good ps k v g.1 f
        | Some kv ↦ λ is. elim (eq_by_cmp text_cmp k kv.0) as (λ b. eq_by_cmp text_cmp k kv.0 ≡ b → cond b (Some kv.1) (find text_cmp k (filter_map h ps)) ≡ Some v → (p k ≡ true) × (q v ≡ true)) [
          | true ↦ λ t f. (let both : (p kv.0 ≡ true) × (q kv.1 ≡ true) = good x kv.0 kv.1 g.0 is in let same : kv.1 ≡ v = cc in (ap p (same_key k kv.0 t) ∙ both.0, ap q (sym same) ∙ both.1))
          | false ↦ λ t f. found_good ps k v g.1 f
        ] refl
      ] refl e

pair_of : (x y : List ℕ × List ℕ) → Some x ≡ Some y → x ≡ y
pair_of x y e = cc

good_field : (x : RecordLine) (k v : List ℕ) → IsGood x → field_in x ≡ Some (k, v) → (is_field_key k ≡ true) × (is_settled v ≡ true)
good_field Blank k v g e = absurd (cc)
good_field (Name name) k v g e = absurd (cc)
good_field (Owners names) k v g e = absurd (cc)
good_field (Flags names) k v g e = absurd (cc)
good_field Variables k v g e = absurd (cc)
good_field (Variable key value) k v g e = absurd (cc)
good_field (Field key value) k v g e = let a : (key, value) ≡ (k, v) = pair_of (key, value) (k, v) e in (ap (λ (x : List ℕ × List ℕ). is_field_key x.0) (sym a) ∙ g.0, ap (λ (x : List ℕ × List ℕ). is_settled x.1) (sym a) ∙ g.1)
good_field Nothing k v g e = absurd (cc)

good_variable : (x : RecordLine) (k v : List ℕ) → IsGood x → variable_in x ≡ Some (k, v) → (is_variable_key k ≡ true) × (is_settled v ≡ true)
good_variable Blank k v g e = absurd (cc)
good_variable (Name name) k v g e = absurd (cc)
good_variable (Owners names) k v g e = absurd (cc)
good_variable (Flags names) k v g e = absurd (cc)
good_variable Variables k v g e = absurd (cc)
good_variable (Variable key value) k v g e = let a : (key, value) ≡ (k, v) = pair_of (key, value) (k, v) e in (ap (λ (x : List ℕ × List ℕ). is_variable_key x.0) (sym a) ∙ g.0, ap (λ (x : List ℕ × List ℕ). is_settled x.1) (sym a) ∙ g.1)
good_variable (Field key value) k v g e = absurd (cc)
good_variable Nothing k v g e = absurd (cc)

all_both : (p : List ℕ → Bool) (xs ys : List (List ℕ)) → list_all p xs ≡ true → list_all p ys ≡ true → list_all p (xs ++ ys) ≡ true
all_both p [] ys a b = b
all_both p (x ∷ xs) ys a b = let f : (p x ≡ true) × (list_all p xs ≡ true) = apart (p x) _ a in (λ i. f.0 i && all_both p xs ys f.1 b i) where
  apart : (s t : Bool) → (s && t) ≡ true → (s ≡ true) × (t ≡ true)
  apart true t e = (refl, e)
  apart false t e = absurd (cc)

owners_good : (x : RecordLine) → IsGood x → list_all is_name (owners_in x) ≡ true
owners_good Blank g = refl
owners_good (Name name) g = refl
owners_good (Owners names) g = g
owners_good (Flags names) g = refl
owners_good Variables g = refl
owners_good (Variable key value) g = refl
owners_good (Field key value) g = refl
owners_good Nothing g = refl

flags_good : (x : RecordLine) → IsGood x → list_all is_flag_name (flags_in x) ≡ true
flags_good Blank g = refl
flags_good (Name name) g = refl
flags_good (Owners names) g = refl
flags_good (Flags names) g = g
flags_good Variables g = refl
flags_good (Variable key value) g = refl
flags_good (Field key value) g = refl
flags_good Nothing g = refl

listed_good : (p : List ℕ → Bool) (f : RecordLine → List (List ℕ)) → ((x : RecordLine) → IsGood x → list_all p (f x) ≡ true) → (ps : List RecordLine) → AllGood ps → list_all p (flat_map f ps) ≡ true
listed_good p f h [] g = refl
listed_good p f h (x ∷ ps) g = all_both p (f x) (flat_map f ps) (h x g.0) (listed_good p f h ps g.1)

item_good : (ps : List RecordLine) → AllGood ps → IsItem (item_of ps)
item_good ps g = record {
  fields = λ k v e. found_good field_in is_field_key is_settled good_field ps k v g (sym (get-from_entries nat_list_cmp_total (filter_map field_in ps) k) ∙ e);
  flags = KeepsAll-set_of is_flag_name (flat_map flags_in ps) (listed_good is_flag_name flags_in flags_good ps g);
  variables = λ k v e. found_good variable_in is_variable_key is_settled good_variable ps k v g (sym (get-from_entries nat_list_cmp_total (filter_map variable_in ps) k) ∙ e);
  owners = KeepsAll-set_of is_name (flat_map owners_in ps) (listed_good is_name owners_in owners_good ps g);
}

-- ---- the records of such lines

all_append : (xs ys : List Entry) → AllByRecursion IsEntry xs → AllByRecursion IsEntry ys → AllByRecursion IsEntry (xs ++ ys)
all_append [] ys a b = b
all_append (x ∷ xs) ys a b = (a.0, all_append xs ys a.1 b)

record_good : (n : ℕ) (p : RecordLine) (ps : List RecordLine) → IsGood p → AllGood ps → AllByRecursion IsEntry (record_at n p ps)
record_good n Blank ps g h = tt
record_good n (Name name) ps g h = (record { name = g; item = item_good (until_blank ps) (until_good ps h) }, tt)
record_good n (Owners names) ps g h = tt
record_good n (Flags names) ps g h = tt
record_good n Variables ps g h = tt
record_good n (Variable key value) ps g h = tt
record_good n (Field key value) ps g h = tt
record_good n Nothing ps g h = tt

records_good : (ls : List Line) → AllGood (lines_said ls) → AllByRecursion IsEntry (records_of ls)
records_good [] g = tt
records_good (l ∷ ls) g = all_append (record_at l.0 l.1 (lines_said ls)) (records_of ls) (record_good l.0 l.1 (lines_said ls) g.0 g.1) (records_good ls g.1)

found_entry : (es : List Entry) (name : List ℕ) (item : ItemParts) → AllByRecursion IsEntry es → find text_cmp name (map contents es) ≡ Some item → (is_name name ≡ true) × IsItem item
found_entry [] name item g e = absurd (cc)
found_entry (x ∷ es) name item g e = elim (eq_by_cmp text_cmp name x.name) as (λ b. eq_by_cmp text_cmp name x.name ≡ b → cond b (Some x.item) (find text_cmp name (map contents es)) ≡ Some item → (is_name name ≡ true) × IsItem item) [
  | true ↦ λ t f. (let same : x.item ≡ item = cc in (ap is_name (same_key name x.name t) ∙ g.0.name, subst IsItem same g.0.item))
  | false ↦ λ t f. found_entry es name item g.1 f
] refl e

-- the records that were read make a table
pub read_is_table : (lines : List (List ℕ)) (records : List Entry) → ReadsLines lines records → IsTable (table_of records)
read_is_table lines records r name item e =
    let good : AllByRecursion IsEntry records = subst (AllByRecursion IsEntry) (sym r.are) (records_good (numbered lines) (numbered_good 1 lines)) in
    found_entry records name item good (sym (get-from_entries nat_list_cmp_total (map contents records) name) ∙ e)
