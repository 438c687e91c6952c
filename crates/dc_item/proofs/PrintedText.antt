-- The printed text of records is read as the records.
use Rattle.std.proofs.Common.{◌≡◌, ℕ, ◌+◌, Bool, true, false, cond, List, [], ◌∷◌, ◌++◌, map, Some, None, refl, sym, ap, ◌∙◌, subst}
use Rattle.std.specs.Prelude.{◌&&◌, ◌||◌, T, is_some}
use Rattle.std.specs.declared.cmp.Ordering.{Ordering}
use Rattle.std.specs.declared.cmp.Ordering.TheVariants.{Less, Equal, Greater}
use Rattle.std.specs.Ordering.{eq_by_cmp, is_lt, is_eq}
use Rattle.std.specs.Cmp.Lexicographic.{nat_list_cmp_total}
use Rattle.std.proofs.lemmas.Cmp.{tied_itself}
use Rattle.std.specs.List.{flat_map, AllByRecursion, enumerate_from}
use Rattle.std.proofs.lemmas.List.{map-append}
use Rattle.std.specs.FinMap as fin
use Rattle.std.specs.FinMap.Entries.{find, is_sorted, below_all}
use Rattle.dc_text.specs.Lines.{lines_of, text_of, has_newline, HaveNoNewline}
use Rattle.dc_text.proofs.LineLaws.{lines_of-text_of}
use Rattle.dc_text.specs.Maps.{AreDistinct, Texts, TextSet, text_cmp}
use Rattle.dc_text.specs.Names.{is_name, is_field_key, is_flag_name, is_variable_key}
use Rattle.dc_text.specs.Settled.{is_settled}
use Rattle.dc_item.specs.Grammar.{line_said, RecordLine, Blank, Name, Variables}
use Rattle.dc_item.specs.Item.{ItemParts, IsItem}
use Rattle.dc_item.specs.Records.{numbered, lines_said, records_of, Reads, ReadsLines, IsNewName}
use Rattle.dc_item.specs.Printed.{canon, table_text, record_lines, shown_field, shown_variable, list_lines, variable_lines, owners_head, flags_head}
use Rattle.dc_item.specs.Table.{names_of, table_of, contents, IsEntry, IsTable, IsInOrder, ReadsAs}
use Rattle.dc_item.proofs.ItemLemmas.{same_key}
use Rattle.dc_item.proofs.PrintedBytes.{Free, IsWord, name_word_is, owners_words, flags_words, name_said, owners_said, flags_said, list_one_line, field_one_line, field_said, variable_one_line, variable_said}
use Rattle.dc_item.proofs.PrintedLines.{field_part, variable_part, owners_part, flags_part, variables_part, parts_of, PartsStand, PartsStand-nil, lines_stand, parts_stand, keys_apart, contents_of, contents-records_of, contents_again}
use Rattle.dc_item.specs.declared.entry.Entry.{Entry}

-- ---- lines printed one after another are read as these lines

abbrev pub HasNoNewline : List ℕ → Type 0
HasNoNewline line = Free 10 line

no_newline : (line : List ℕ) → HasNoNewline line → has_newline line ≡ false
no_newline [] h = refl
no_newline (b ∷ line) h = ap (λ t. t || has_newline line) h.0 ∙ no_newline line h.1

have_no_newline : (lines : List (List ℕ)) → AllByRecursion HasNoNewline lines → HaveNoNewline lines
have_no_newline [] h = tt
have_no_newline (line ∷ lines) h = (no_newline line h.0, have_no_newline lines h.1)

-- ---- what is found in a map, and its entries

first_of_and : (a b : Bool) → T (a && b) → T a
first_of_and true b h = tt
first_of_and false b h = absurd h

second_of_and : (a b : Bool) → T (a && b) → T b
second_of_and true b h = h
second_of_and false b h = absurd h

not_equal : (o : Ordering) → T (is_lt o) → is_eq o ≡ false
not_equal Less h = refl
not_equal Equal h = absurd h
not_equal Greater h = absurd h

find-below : {X : Type 0} (q : List ℕ) (es : List (List ℕ × X)) → T (below_all text_cmp q es) → find text_cmp q es ≡ None
find-below q [] h = refl
find-below q (e ∷ es) h = ap (λ b. cond b (Some e.1) (find text_cmp q es)) (not_equal _ (first_of_and _ _ h)) ∙ find-below q es (second_of_and _ _ h)

find-later : {X : Type 0} (e : List ℕ × X) (es : List (List ℕ × X)) (k : List ℕ) (v : X) → T (below_all text_cmp e.0 es) → find text_cmp k es ≡ Some v → find text_cmp k (e ∷ es) ≡ Some v
find-later e es k v below found = elim (eq_by_cmp text_cmp k e.0) as (λ b. eq_by_cmp text_cmp k e.0 ≡ b → cond b (Some e.1) (find text_cmp k es) ≡ Some v) [
  | true ↦ λ t. (let none : find text_cmp k es ≡ None = ap (λ q. find text_cmp q es) (same_key k e.0 t) ∙ find-below e.0 es below in absurd (cc))
  | false ↦ λ t. found
] refl

-- what holds of each that is found holds of each entry
each_found : {X : Type 0} (P : List ℕ × X → Type 0) (es : List (List ℕ × X)) → T (is_sorted text_cmp es) → ((k : List ℕ) (v : X) → find text_cmp k es ≡ Some v → P (k, v)) → AllByRecursion P es
each_found P [] s h = tt
each_found P (e ∷ es) s h = (
  h e.0 e.1 (ap (λ o. cond (is_eq o) (Some e.1) (find text_cmp e.0 es)) (tied_itself nat_list_cmp_total e.0)),
  each_found P es (second_of_and _ _ s) (λ k v f. h k v (find-later e es k v (first_of_and _ _ s) f)),
)

abbrev pub IsField : List ℕ × List ℕ → Type 0
IsField e = (is_field_key e.0 ≡ true) × (is_settled e.1 ≡ true)

abbrev pub IsVariable : List ℕ × List ℕ → Type 0
IsVariable e = (is_variable_key e.0 ≡ true) × (is_settled e.1 ≡ true)

entries_found : (P : List ℕ × List ℕ → Type 0) (m : Texts (List ℕ)) → ((k v : List ℕ) → fin.get m k ≡ Some v → P (k, v)) → AllByRecursion P (fin.entries m)
entries_found P m h = each_found P (fin.entries m) (fin.entries_sorted m) (λ k v f. h k v (fin.get-entries m k ∙ f))

firsts_found : (P : List ℕ → Type 0) (es : List (List ℕ × Unit {0})) → AllByRecursion (λ e. P e.0) es → AllByRecursion P (map (λ e. e.0) es)
firsts_found P [] h = tt
firsts_found P (e ∷ es) h = (h.0, firsts_found P es h.1)

keys_found : (p : List ℕ → Bool) (s : TextSet) → ((k : List ℕ) → fin.contains_key s k ≡ true → p k ≡ true) → AllByRecursion (λ k. p k ≡ true) (fin.keys s)
keys_found p s h = firsts_found (λ k. p k ≡ true) (fin.entries s)
    (each_found (λ e. p e.0 ≡ true) (fin.entries s) (fin.entries_sorted s) (λ k v f. h k (ap is_some (fin.get-entries s k ∙ f))))

-- what printing needs of a record
record IsPrintable (e : Entry) : Type 0 where
  pub name : is_name e.name ≡ true
  pub fields : AllByRecursion IsField (fin.entries e.item.fields)
  pub owners : AllByRecursion (λ n. is_name n ≡ true) (fin.keys e.item.owners)
  pub flags : AllByRecursion (λ n. is_flag_name n ≡ true) (fin.keys e.item.flags)
  pub variables : AllByRecursion IsVariable (fin.entries e.item.variables)

printable : (e : Entry) → IsEntry e → IsPrintable e
printable e h = record {
  name = h.name;
  fields = entries_found IsField e.item.fields h.item.fields;
  owners = keys_found is_name e.item.owners h.item.owners;
  flags = keys_found is_flag_name e.item.flags h.item.flags;
  variables = entries_found IsVariable e.item.variables h.item.variables;
}

-- ---- one record's lines

all_append : {X : Type 0} (P : X → Type 0) (xs ys : List X) → AllByRecursion P xs → AllByRecursion P ys → AllByRecursion P (xs ++ ys)
all_append P [] ys a b = b
all_append P (x ∷ xs) ys a b = (a.0, all_append P xs ys a.1 b)

fields_newlines : (es : List (List ℕ × List ℕ)) → AllByRecursion IsField es → AllByRecursion HasNoNewline (map shown_field es)
fields_newlines [] h = tt
fields_newlines (e ∷ es) h = (field_one_line e h.0.0, fields_newlines es h.1)

variables_newlines : (es : List (List ℕ × List ℕ)) → AllByRecursion IsVariable es → AllByRecursion HasNoNewline (map shown_variable es)
variables_newlines [] h = tt
variables_newlines (e ∷ es) h = (variable_one_line e h.0.0, variables_newlines es h.1)

list_newlines : (head : List ℕ) (ks : List (List ℕ)) → Free 10 head → AllByRecursion IsWord ks → AllByRecursion HasNoNewline (list_lines head ks)
list_newlines head [] f h = tt
list_newlines head (k ∷ ks) f h = (list_one_line head k ks f h, tt)

variable_lines_newlines : (es : List (List ℕ × List ℕ)) → AllByRecursion IsVariable es → AllByRecursion HasNoNewline (variable_lines es)
variable_lines_newlines [] h = tt
variable_lines_newlines (e ∷ es) h = ((refl, (refl, (refl, (refl, (refl, (refl, (refl, (refl, (refl, (refl, tt)))))))))), variables_newlines (e ∷ es) h)

no_newlines : (e : Entry) → IsPrintable e → AllByRecursion HasNoNewline (record_lines (contents e))
no_newlines e h =
    let f : List (List ℕ) = map shown_field (fin.entries e.item.fields) in
    let o : List (List ℕ) = list_lines owners_head (fin.keys e.item.owners) in
    let g : List (List ℕ) = list_lines flags_head (fin.keys e.item.flags) in
    let v : List (List ℕ) = variable_lines (fin.entries e.item.variables) in (
      (refl, (refl, (refl, (refl, (refl, (refl, (name_word_is e.name h.name).one_line)))))),
      all_append HasNoNewline (((f ++ o) ++ g) ++ v) ([] ∷ [])
          (all_append HasNoNewline ((f ++ o) ++ g) v
          (all_append HasNoNewline (f ++ o) g
          (all_append HasNoNewline f o (fields_newlines (fin.entries e.item.fields) h.fields)
          (list_newlines owners_head (fin.keys e.item.owners) (refl, (refl, (refl, (refl, (refl, (refl, (refl, (refl, tt)))))))) (owners_words (fin.keys e.item.owners) h.owners)))
          (list_newlines flags_head (fin.keys e.item.flags) (refl, (refl, (refl, (refl, (refl, (refl, (refl, tt))))))) (flags_words (fin.keys e.item.flags) h.flags)))
          (variable_lines_newlines (fin.entries e.item.variables) h.variables))
          (tt, tt),
    )

fields_parts : (es : List (List ℕ × List ℕ)) → AllByRecursion IsField es → map line_said (map shown_field es) ≡ map field_part es
fields_parts [] h = refl
fields_parts (e ∷ es) h = λ i. field_said e h.0.0 h.0.1 i ∷ fields_parts es h.1 i

variables_parts : (es : List (List ℕ × List ℕ)) → AllByRecursion IsVariable es → map line_said (map shown_variable es) ≡ map variable_part es
variables_parts [] h = refl
variables_parts (e ∷ es) h = λ i. variable_said e h.0.0 h.0.1 i ∷ variables_parts es h.1 i

owners_parts : (ks : List (List ℕ)) → AllByRecursion (λ n. is_name n ≡ true) ks → map line_said (list_lines owners_head ks) ≡ owners_part ks
owners_parts [] h = refl
owners_parts (k ∷ ks) h = ap (λ p. p ∷ []) (owners_said k ks h)

flags_parts : (ks : List (List ℕ)) → AllByRecursion (λ n. is_flag_name n ≡ true) ks → map line_said (list_lines flags_head ks) ≡ flags_part ks
flags_parts [] h = refl
flags_parts (k ∷ ks) h = ap (λ p. p ∷ []) (flags_said k ks h)

variable_lines_parts : (es : List (List ℕ × List ℕ)) → AllByRecursion IsVariable es → map line_said (variable_lines es) ≡ variables_part es
variable_lines_parts [] h = refl
variable_lines_parts (e ∷ es) h = ap (λ ps. Variables ∷ ps) (variables_parts (e ∷ es) h)

parts_of_lines : (e : Entry) → IsPrintable e → map line_said (record_lines (contents e)) ≡ parts_of e
parts_of_lines e h =
    let f : List (List ℕ) = map shown_field (fin.entries e.item.fields) in
    let o : List (List ℕ) = list_lines owners_head (fin.keys e.item.owners) in
    let g : List (List ℕ) = list_lines flags_head (fin.keys e.item.flags) in
    let v : List (List ℕ) = variable_lines (fin.entries e.item.variables) in
    let body : map line_said (((f ++ o) ++ g) ++ v) ≡ ((map line_said f ++ map line_said o) ++ map line_said g) ++ map line_said v
    = map-append line_said ((f ++ o) ++ g) v ∙ ap (λ xs. xs ++ map line_said v) (map-append line_said (f ++ o) g ∙ ap (λ xs. xs ++ map line_said g) (map-append line_said f o)) in
    (λ i. name_said e.name h.name i ∷ map-append line_said (((f ++ o) ++ g) ++ v) ([] ∷ []) i)
    ∙ ap (λ xs. Name e.name ∷ (xs ++ Blank ∷ []))
    (body ∙ (λ i. ((fields_parts (fin.entries e.item.fields) h.fields i ++ owners_parts (fin.keys e.item.owners) h.owners i) ++ flags_parts (fin.keys e.item.flags) h.flags i)
    ++ variable_lines_parts (fin.entries e.item.variables) h.variables i))

-- ---- all records' lines

table_lines : (es : List Entry) → AllByRecursion IsEntry es → AllByRecursion HasNoNewline (flat_map (λ e. record_lines (contents e)) es)
table_lines [] h = tt
table_lines (e ∷ es) h = all_append HasNoNewline (record_lines (contents e)) (flat_map (λ e. record_lines (contents e)) es) (no_newlines e (printable e h.0)) (table_lines es h.1)

table_parts : (es : List Entry) → AllByRecursion IsEntry es → map line_said (flat_map (λ e. record_lines (contents e)) es) ≡ flat_map parts_of es
table_parts [] h = refl
table_parts (e ∷ es) h = map-append line_said (record_lines (contents e)) (flat_map (λ e. record_lines (contents e)) es) ∙ (λ i. parts_of_lines e (printable e h.0) i ++ table_parts es h.1 i)

none_before : (names : List (List ℕ)) → AllByRecursion (IsNewName []) names
none_before [] = tt
none_before (n ∷ names) = (tt, none_before names)

lines_said-enumerate_from : (n : ℕ) (ps : List RecordLine) → lines_said (enumerate_from n ps) ≡ ps
lines_said-enumerate_from n [] = refl
lines_said-enumerate_from n (p ∷ ps) = ap (λ xs. p ∷ xs) (lines_said-enumerate_from (n + 1) ps)

pub read_again : (entries : List Entry) → AllByRecursion IsEntry entries → AreDistinct (names_of entries) → ReadsAs (canon entries) entries
read_again entries good apart =
    let lines : List (List ℕ) = flat_map (λ e. record_lines (contents e)) entries in
    let is : lines_of (canon entries) ≡ lines = lines_of-text_of lines (have_no_newline lines (table_lines entries good)) in
    let said : lines_said (numbered lines) ≡ flat_map parts_of entries = lines_said-enumerate_from 1 (map line_said lines) ∙ table_parts entries good in
    let stand : PartsStand (flat_map parts_of entries) = parts_stand [] entries PartsStand-nil refl (none_before (names_of entries)) apart in
    let reads : ReadsLines lines (records_of (numbered lines)) = record { stand = lines_stand (numbered lines) (subst PartsStand (sym said) stand); are = refl } in
    (records_of (numbered lines), subst (λ ls. ReadsLines ls (records_of (numbered lines))) (sym is) reads, contents-records_of (numbered lines) ∙ ap contents_of said ∙ contents_again entries)

-- ---- tables

lines_by_contents : (entries : List Entry) → flat_map (λ e. record_lines (contents e)) entries ≡ flat_map record_lines (map contents entries)
lines_by_contents [] = refl
lines_by_contents (e ∷ es) = ap (λ ls. record_lines (contents e) ++ ls) (lines_by_contents es)

-- the text of records in order is that of their table
pub text_of_table : (entries : List Entry) → IsInOrder entries → canon entries ≡ table_text (table_of entries)
text_of_table entries h = ap text_of (lines_by_contents entries ∙ ap (flat_map record_lines) h)

abbrev entries_from : List (List ℕ × ItemParts) → List Entry
entries_from es = map (λ e. record { name = e.0; item = e.1; line = 0 }) es

contents_from : (es : List (List ℕ × ItemParts)) → map contents (entries_from es) ≡ es
contents_from [] = refl
contents_from (e ∷ es) = ap (λ l. e ∷ l) (contents_from es)

names_from : (es : List (List ℕ × ItemParts)) → names_of (entries_from es) ≡ map (λ e. e.0) es
names_from [] = refl
names_from (e ∷ es) = ap (λ l. e.0 ∷ l) (names_from es)

good_from : (es : List (List ℕ × ItemParts)) → AllByRecursion (λ e. (is_name e.0 ≡ true) × IsItem e.1) es → AllByRecursion IsEntry (entries_from es)
good_from [] h = tt
good_from (e ∷ es) h = (record { name = h.0.0; item = h.0.1 }, good_from es h.1)

-- the printed text of a table is read as its records
pub table_again : (table : Texts ItemParts) → IsTable table → (read : List Entry) × Reads (table_text table) read × (map contents read ≡ fin.entries table)
table_again table h =
    let es : List (List ℕ × ItemParts) = fin.entries table in
    let good : AllByRecursion IsEntry (entries_from es) = good_from es (each_found (λ e. (is_name e.0 ≡ true) × IsItem e.1) es (fin.entries_sorted table) (λ k v f. h k v (fin.get-entries table k ∙ f))) in
    let again : ReadsAs (canon (entries_from es)) (entries_from es) = read_again (entries_from es) good (subst AreDistinct (sym (names_from es)) (keys_apart table)) in
    (again.0, subst (λ text. Reads text again.0) (ap text_of (lines_by_contents (entries_from es) ∙ ap (flat_map record_lines) (contents_from es))) again.1, again.2 ∙ contents_from es)
