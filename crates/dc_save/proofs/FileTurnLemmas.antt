-- The files of a folder, one after another.
use Rattle.std.proofs.Common.{◌≡◌, ℕ, Bool, true, false, cond, List, [], ◌∷◌, ◌++◌, map as each, Option, Some, None, refl, sym, ap, ◌∙◌, subst, append_assoc}
use Rattle.std.specs.Prelude.{is_some}
use Rattle.std.specs.Ordering.{eq_by_cmp}
use Rattle.std.specs.Cmp.Lexicographic.{nat_list_cmp_total}
use Rattle.std.specs.FinMap.{get, insert, contains_key, entries, find, get-from_entries, get-entries, get-insert, same_map}
use Rattle.std.proofs.lemmas.List.{append-nil, map-append}
use Rattle.dc_text.specs.Maps.{text_cmp, AreDistinct}
use Rattle.dc_text.proofs.MapLemmas.{exact_texts}
use Rattle.dc_outside.specs.Disk.{Disk}
use Rattle.dc_outside.specs.State.{FilesView}
use Rattle.dc_outside.specs.Steps.{after_look}
use Rattle.dc_outside.specs.declared.files.FilesOp.TheVariants.{Read}
use Rattle.dc_item.proofs.ItemLemmas.{same_key}
use Rattle.dc_item.specs.Item.{ItemParts}
use Rattle.dc_item.specs.Table.{contents, table_of, names_of}
use Rattle.dc_item.specs.declared.entry.Entry.{Entry}
use Rattle.dc_conf.specs.declared.spec.LayerSpec.{LayerSpec}
use Rattle.dc_layer.specs.State.{Table, LayerState, taken_in}
use Rattle.dc_save.specs.Found.{IsFoundAt}
use Rattle.dc_save.specs.FolderLoading.{Holds, HoldAll, path_at, reads_of}
use Rattle.dc_save.specs.FileTurns.{table_with, with_new}
use Rattle.dc_save.proofs.TableLemmas.{is_new}

-- ---- what was read

pub reads_push : (told : FilesView) (spec : LayerSpec) (files : List (List ℕ)) (file : List ℕ) → reads_of told spec (files ++ file ∷ []) ≡ after_look (reads_of told spec files) Read (path_at spec file) true
reads_push told spec [] file = refl
reads_push told spec (first ∷ files) file = reads_push (after_look told Read (path_at spec first) true) spec files file

pub reads_disk : (told : FilesView) (spec : LayerSpec) (files : List (List ℕ)) → (reads_of told spec files).disk ≡ told.disk
reads_disk told spec [] = refl
reads_disk told spec (file ∷ files) = reads_disk (after_look told Read (path_at spec file) true) spec files

pub hold_push : (disk : Option Disk) (spec : LayerSpec) (files : List (List ℕ)) (file : List ℕ) (entries more : List Entry) (found : Option (List ℕ))
    → HoldAll disk spec files entries → IsFoundAt disk (path_at spec file) found → Holds spec file found more → HoldAll disk spec (files ++ file ∷ []) (entries ++ more)
hold_push disk spec [] file entries more found hold at holds = (found, more, [], at, holds, refl, ap (λ (l : List Entry). l ++ more) hold ∙ sym (append-nil more))
hold_push disk spec (next ∷ files) file entries more found hold at holds =
    (hold.0, hold.1, hold.2 ++ more, hold.3, hold.4, hold_push disk spec files file hold.2 more found hold.5 at holds, ap (λ (l : List Entry). l ++ more) hold.6 ∙ append_assoc hold.1 hold.2 more)

-- ---- the table

either : Option ItemParts → Option ItemParts → Option ItemParts
either None other = other
either (Some item) other = Some item

find-append : (k : List ℕ) (es fs : List (List ℕ × ItemParts)) → find text_cmp k (es ++ fs) ≡ either (find text_cmp k es) (find text_cmp k fs)
unfolding either
find-append k [] fs = refl
find-append k (e ∷ es) fs = elim (eq_by_cmp text_cmp k e.0) as (λ b. cond b (Some e.1) (find text_cmp k (es ++ fs)) ≡ either (cond b (Some e.1) (find text_cmp k es)) (find text_cmp k fs)) [
  | true ↦ refl
  | false ↦ find-append k es fs
]

get-with : (table : Table) (es : List Entry) (k : List ℕ) → get (table_with table es) k ≡ either (get table k) (find text_cmp k (each contents es))
get-with table es k =
    get-from_entries nat_list_cmp_total (entries table ++ each contents es) k ∙ find-append k (entries table) (each contents es)
    ∙ ap (λ o. either o (find text_cmp k (each contents es))) (sym (get-entries table k))

get-table : (es : List Entry) (k : List ℕ) → get (table_of es) k ≡ find text_cmp k (each contents es)
get-table es k = get-from_entries nat_list_cmp_total (each contents es) k

pub table_push : (es fs : List Entry) → table_with (table_of es) fs ≡ table_of (es ++ fs)
table_push es fs = same_map nat_list_cmp_total exact_texts _ _ (λ k.
    get-with (table_of es) fs k ∙ ap (λ o. either o (find text_cmp k (each contents fs))) (get-table es k)
    ∙ sym (find-append k (each contents es) (each contents fs)) ∙ ap (find text_cmp k) (sym (map-append contents es fs)) ∙ sym (get-table (es ++ fs) k))

pub with_none : (table : Table) → table_with table [] ≡ table
unfolding either
with_none table = same_map nat_list_cmp_total exact_texts _ _ (λ k. get-with table [] k ∙ same (get table k)) where
  same : (o : Option ItemParts) → either o None ≡ o
  same None = refl
  same (Some item) = refl

-- one more record in front, of a name that the table has, or none of the others
pub with_had : (table : Table) (e : Entry) (es : List Entry) → contains_key table e.name ≡ true → table_with table (e ∷ es) ≡ table_with table es
unfolding either
with_had table e es has = same_map nat_list_cmp_total exact_texts _ _ (λ k. get-with table (e ∷ es) k ∙ skip k ∙ sym (get-with table es k)) where
  skip : (k : List ℕ) → either (get table k) (find text_cmp k (contents e ∷ each contents es)) ≡ either (get table k) (find text_cmp k (each contents es))
  skip k = elim (eq_by_cmp text_cmp k e.name) as (λ b. eq_by_cmp text_cmp k e.name ≡ b → either (get table k) (cond b (Some e.item) (find text_cmp k (each contents es))) ≡ either (get table k) (find text_cmp k (each contents es))) [
    | true ↦ λ t. there (get table k) (Some e.item) (find text_cmp k (each contents es)) (ap (λ n. is_some (get table n)) (same_key k e.name t) ∙ has)
    | false ↦ λ t. refl
  ] refl where
    there : (o x y : Option ItemParts) → is_some o ≡ true → either o x ≡ either o y
    there None x y h = absurd (cc)
    there (Some item) x y h = refl

none_from : (o : Option ItemParts) → is_some o ≡ false → o ≡ None
none_from None h = refl
none_from (Some item) h = absurd (cc)

-- a name that the table with some records has, and none of them, it had before
pub had_before : (table : Table) (es : List Entry) (k : List ℕ) → contains_key (table_with table es) k ≡ true → contains_key (table_of es) k ≡ false → contains_key table k ≡ true
unfolding either
had_before table es k has none =
    let lacks : find text_cmp k (each contents es) ≡ None = sym (get-table es k) ∙ none_from (get (table_of es) k) none in
    sym (same (get table k)) ∙ sym (ap is_some (get-with table es k ∙ ap (either (get table k)) lacks)) ∙ has where
      same : (o : Option ItemParts) → is_some (either o None) ≡ is_some o
      same None = refl
      same (Some item) = refl

-- one more record in front, of a name that it doesn't have
pub with_another : (table : Table) (e : Entry) (es : List Entry) → contains_key (table_with table es) e.name ≡ false → insert (table_with table es) e.name e.item ≡ table_with table (e ∷ es)
unfolding either
with_another table e es lacks = same_map nat_list_cmp_total exact_texts _ _ (λ k.
    get-insert nat_list_cmp_total (table_with table es) e.name e.item k ∙ ap (cond (eq_by_cmp text_cmp k e.name) (Some e.item)) (get-with table es k)
    ∙ put k ∙ sym (get-with table (e ∷ es) k)) where
      first_none : (o p : Option ItemParts) → is_some (either o p) ≡ false → o ≡ None
      first_none None p h = refl
      first_none (Some item) p h = absurd (cc)

      put : (k : List ℕ) → cond (eq_by_cmp text_cmp k e.name) (Some e.item) (either (get table k) (find text_cmp k (each contents es))) ≡ either (get table k) (find text_cmp k (contents e ∷ each contents es))
      put k = elim (eq_by_cmp text_cmp k e.name) as (λ b. eq_by_cmp text_cmp k e.name ≡ b
          → cond b (Some e.item) (either (get table k) (find text_cmp k (each contents es))) ≡ either (get table k) (cond b (Some e.item) (find text_cmp k (each contents es)))) [
            | true ↦ λ t. ap (λ o. either o (Some e.item)) (sym (ap (get table) (same_key k e.name t)
                ∙ first_none (get table e.name) (find text_cmp e.name (each contents es)) (ap is_some (sym (get-with table es e.name)) ∙ lacks)))
            | false ↦ λ t. refl
          ] refl

-- ---- the records of one file, the last first

pub nothing_new : (layer : LayerState) → layer ≡ with_new layer []
nothing_new layer = ap (λ (table : Table). record layer { table = table }) (sym (with_none layer.table))

module _ (first now : LayerState) (records left popped done : List Entry) (e : Entry) (apart : AreDistinct (names_of records)) (are : records ≡ left ++ done) (last : left ≡ popped ++ e ∷ []) (is : now ≡ with_new first done) where
  whole : records ≡ popped ++ e ∷ done
  whole = are ∙ ap (λ (l : List Entry). l ++ done) last ∙ append_assoc popped (e ∷ []) done

  alone : contains_key (table_of done) e.name ≡ false
  alone = is_new popped e done (subst (λ (l : List Entry). AreDistinct (names_of l)) whole apart)

  in_first : (b : Bool) → contains_key now.table e.name ≡ b → contains_key (table_with first.table done) e.name ≡ b
  in_first b has = sym (ap (λ (l : LayerState). contains_key l.table e.name) is) ∙ has

  pub had_step : contains_key now.table e.name ≡ true → (more : List Entry) × (records ≡ popped ++ more) × (now ≡ with_new first more)
  had_step has = (e ∷ done, whole, is ∙ ap (λ (table : Table). record first { table = table }) (sym (with_had first.table e done (had_before first.table done e.name (in_first true has) alone))))

  pub taken_step : (after : LayerState) → contains_key now.table e.name ≡ false → after ≡ taken_in now e.name e.item → (more : List Entry) × (records ≡ popped ++ more) × (after ≡ with_new first more)
  taken_step after has then = (
    e ∷ done,
    whole,
    then ∙ ap (λ (l : LayerState). taken_in l e.name e.item) is ∙ ap (λ (table : Table). record first { table = table }) (with_another first.table e done (in_first false has)),
  )
