-- What was loaded are tables: each name that is seen in them is a name, and each item an item.
use Rattle.std.proofs.Common.{◌≡◌, Bool, ℕ, zero, suc, true, false, cond, List, [], ◌∷◌, ◌++◌, Option, Some, None, map as each, refl, sym, ap, subst, ◌∙◌}
use Rattle.std.specs.Prelude.{Result, Ok, Err, IfSome, codes, option_and_then}
use Rattle.std.specs.FinMap as map
use Rattle.std.specs.FinMap.{find, get-empty, get-from_entries}
use Rattle.std.specs.List.{AllByRecursion}
use Rattle.std.specs.Option.{option_or}
use Rattle.std.specs.Ordering.{eq_by_cmp}
use Rattle.std.specs.Cmp.Lexicographic.{nat_list_cmp_total}
use Rattle.std.proofs.lemmas.List.{map-append}
use Rattle.dc_text.specs.Lines.{lines_of}
use Rattle.dc_text.specs.Maps.{text_cmp}
use Rattle.dc_text.specs.Names.{is_name}
use Rattle.dc_outside.specs.Disk.{Disk}
use Rattle.dc_outside.specs.State.{LinkState}
use Rattle.dc_conf.specs.declared.spec.LayerSort.{LayerSort}
use Rattle.dc_conf.specs.declared.spec.LayerSort.TheVariants.{File, Tree, Pack, Pipe}
use Rattle.dc_conf.specs.declared.spec.LayerSpec.{LayerSpec}
use Rattle.dc_item.specs.Item.{IsItem, ItemParts}
use Rattle.dc_item.specs.Records.{Reads}
use Rattle.dc_item.specs.Table.{IsTable, contents, table_of}
use Rattle.dc_item.specs.declared.entry.Entry.{Entry}
use Rattle.dc_item.proofs.ReadTables.{read_is_table}
use Rattle.dc_layer.specs.State.{LayerState, Table, blank, set_up, without_items}
use Rattle.dc_store.specs.Holders.{item_at, look_of}
use Rattle.dc_store.specs.Plans.{look}
use Rattle.dc_conf.specs.Plans.{leaves}
use Rattle.dc_store.proofs.Searches.{look_step}
use Rattle.dc_question.specs.Questions.{QuestionContext, question, template}
use Rattle.dc_save.specs.FolderLoading.{HoldAll, Holds, IsFolderHere, its_files}
use Rattle.dc_save.specs.Loading.{IsHere, LoadsBy, text_in, with_loaded}
use Rattle.dc_save.specs.PipeLoading.{LoadsWhere}
use Rattle.dc_save.specs.declared.pipe_loading.PipeLoaded.{PipeLoaded}
use Rattle.dc_save.specs.declared.pipe_loading.PipeLoaded.TheVariants as piped
use Rattle.dc_save.specs.declared.loading.Loaded.{Loaded}
use Rattle.dc_save.specs.declared.loading.Loaded.TheVariants.{Here, LeftOut}
use Rattle.dc_shelf.specs.Shelves.{GoesOn, LoadAnswer, LoadsAll, LoadsOne, Sources, all_set_up}
use Rattle.dc_shelf.specs.declared.loading.SourceError.{SourceError}
use Rattle.dc_shelf.specs.declared.loading.SourceError.TheVariants as source
use Rattle.dc_dump.specs.SetAgain.{IsHeld}

-- ---- the tables of records

empty_table : IsTable map.empty
empty_table name item e = absurd (let none : ◌≡◌ {A = Option ItemParts} None (Some item) = sym (get-empty text_cmp name) ∙ e in cc)

find_both : (q : List ℕ) (xs ys : List (List ℕ × ItemParts)) → find text_cmp q (xs ++ ys) ≡ option_or (find text_cmp q xs) (find text_cmp q ys)
find_both q [] ys = refl
find_both q (x ∷ xs) ys = elim (eq_by_cmp text_cmp q x.0) as (λ b. cond b (Some x.1) (find text_cmp q (xs ++ ys)) ≡ option_or (cond b (Some x.1) (find text_cmp q xs)) (find text_cmp q ys)) [
  | true ↦ refl
  | false ↦ find_both q xs ys
]

-- a record of two lists is of one of them
get_both : (one other : List Entry) (name : List ℕ) → map.get (table_of (one ++ other)) name ≡ option_or (map.get (table_of one) name) (map.get (table_of other) name)
get_both one other name =
    let first : map.get (table_of one) name ≡ find text_cmp name (each contents one) = get-from_entries nat_list_cmp_total (each contents one) name in
    let second : map.get (table_of other) name ≡ find text_cmp name (each contents other) = get-from_entries nat_list_cmp_total (each contents other) name in
    get-from_entries nat_list_cmp_total (each contents (one ++ other)) name
    ∙ ap (find text_cmp name) (map-append contents one other)
    ∙ find_both name (each contents one) (each contents other)
    ∙ (λ i. option_or (sym first i) (sym second i))

-- an item is of one of two
of_either : (P : ItemParts → Type 0) (one other : Option ItemParts) (item : ItemParts) → ((found : ItemParts) → one ≡ Some found → P found) → ((found : ItemParts) → other ≡ Some found → P found)
    → option_or one other ≡ Some item → P item
of_either P None other item first second e = second item e
of_either P (Some found) other item first second e = first item e

both_tables : (one other : List Entry) → IsTable (table_of one) → IsTable (table_of other) → IsTable (table_of (one ++ other))
both_tables one other first second name item e =
    of_either (λ found. (is_name name ≡ true) × IsItem found) (map.get (table_of one) name) (map.get (table_of other) name) item (first name) (second name) (sym (get_both one other name) ∙ e)

-- ---- one load

read_table : (text : List ℕ) (records : List Entry) → Reads text records → IsTable (table_of records)
read_table text records reads = read_is_table (lines_of text) records reads

one_held : (spec : LayerSpec) (file : List ℕ) (found : Option (List ℕ)) (entries : List Entry) → Holds spec file found entries → IsTable (table_of entries)
one_held spec file None entries none = subst (λ (es : List Entry). IsTable (table_of es)) (sym none) empty_table
one_held spec file (Some text) entries holds = read_table text entries holds.0

all_held : (disk : Option Disk) (spec : LayerSpec) (files : List (List ℕ)) (entries : List Entry) → HoldAll disk spec files entries → IsTable (table_of entries)
all_held disk spec [] entries none = subst (λ (es : List Entry). IsTable (table_of es)) (sym none) empty_table
all_held disk spec (file ∷ files) entries hold =
    subst (λ (es : List Entry). IsTable (table_of es)) (sym hold.6) (both_tables hold.1 hold.2 (one_held spec file hold.0 hold.1 hold.4) (all_held disk spec files hold.2 hold.5))

same_table : (spec : LayerSpec) (layer : LayerState) (table : Table) (found : Option (List ℕ)) → (with_loaded spec layer table found).table ≡ table
same_table spec layer table None = refl
same_table spec layer table (Some text) = refl

file_table : (disk : Option Disk) (spec : LayerSpec) (layer made : LayerState) → IsHere disk spec layer made → IsTable made.table
file_table disk spec layer made here =
    subst IsTable (sym (ap (λ (l : LayerState). l.table) here.layer_is ∙ same_table spec layer (table_of here.records) here.found)) (read_table (text_in here.found) here.records here.reads)

folder_table : (disk : Option Disk) (spec : LayerSpec) (layer made : LayerState) → IsFolderHere disk spec layer made → IsTable made.table
folder_table disk spec layer made here =
    subst IsTable (sym (ap (λ (l : LayerState). l.table) here.layer_is)) (all_held disk spec (its_files spec here.listed) here.entries here.hold)

-- a layer that is left out has no items
out_table : (layer made : LayerState) → made ≡ without_items layer → IsTable made.table
out_table layer made out = subst IsTable (sym (ap (λ (l : LayerState). l.table) out)) empty_table

table_by : (sort : LayerSort) (disk : Option Disk) (spec : LayerSpec) (layer made : LayerState) (loaded : Loaded) → LoadsBy sort disk spec layer made (Ok loaded) → IsTable made.table
table_by File disk spec layer made Here loads = file_table disk spec layer made loads
table_by Tree disk spec layer made Here loads = folder_table disk spec layer made loads
table_by Pack disk spec layer made Here loads = folder_table disk spec layer made loads
table_by File disk spec layer made LeftOut loads = out_table layer made loads.1
table_by Tree disk spec layer made LeftOut loads = out_table layer made loads.1
table_by Pack disk spec layer made LeftOut loads = out_table layer made loads.1
table_by Pipe disk spec layer made loaded loads = absurd loads

-- of one that comes through a pipe, whose layer had a table before, which stays where nothing is read
piped_table : (infd : Bool) (spec : LayerSpec) (layer made : LayerState) (old new : LinkState) (loaded : PipeLoaded) → IsTable layer.table → LoadsWhere infd spec layer made old new (Ok loaded) → IsTable made.table
piped_table true spec layer made old new piped.Here before is = subst IsTable (sym (ap (λ (l : LayerState). l.table) is.layer_is)) (read_table is.text is.records is.reads)
piped_table true spec layer made old new piped.LeftOut before is = out_table layer made is.2
piped_table false spec layer made old new loaded before is = subst IsTable (sym (ap (λ (l : LayerState). l.table) is.1)) before

no_error : (error : SourceError) → ◌≡◌ {A = Result (Unit {0}) SourceError} (Ok tt) (Err error) → ⊥
no_error error is = cc

-- the load was answered, and the others follow
goes_on : (spec : LayerSpec) (layer made : LayerState) (from mid : Sources) (more last : Type 0) (first : LoadAnswer) → IsTable layer.table → LoadsOne spec layer made from mid first → GoesOn first (Ok tt) more last → IsTable made.table × more
goes_on spec layer made from mid more last (LoadAnswer.OfFiles (Ok loaded)) before is goes = (table_by spec.sort from.files.view.disk spec layer made loaded is.0, goes)
goes_on spec layer made from mid more last (LoadAnswer.OfPipe (Ok loaded)) before is goes = (piped_table spec.infd spec layer made from.link mid.link loaded before is.1, goes)
goes_on spec layer made from mid more last (LoadAnswer.OfFiles (Err error)) before is goes = absurd (no_error (source.Files error) goes.0)
goes_on spec layer made from mid more last (LoadAnswer.OfPipe (Err error)) before is goes = absurd (no_error (source.Pipe error) goes.0)

-- ---- all loads

-- each layer has a table of items
abbrev pub AreTables : List LayerState → Type 0
AreTables layers = AllByRecursion (λ layer. IsTable layer.table) layers

pub loads_tables : (specs : List LayerSpec) (new : List LayerState) (from left : Sources) → LoadsAll specs (all_set_up specs) new from left (Ok tt) → AreTables new
loads_tables [] new from left loads = subst AreTables (sym loads.1) tt
loads_tables (spec ∷ specs) [] from left loads = absurd loads
loads_tables (spec ∷ specs) (made ∷ new) from left loads =
    let goes = goes_on spec (set_up (blank spec.sort) spec) made from loads.1 _ _ loads.0 empty_table loads.2 loads.3 in
    (goes.0, loads_tables specs new loads.1 left goes.1)

-- ---- what is seen

-- a name and an item such as tables have
abbrev IsFit : List ℕ → ItemParts → Type 0
IsFit name item = (is_name name ≡ true) × IsItem item

item_fits : (layers : List LayerState) (place : ℕ) (name : List ℕ) (item : ItemParts) → AreTables layers → item_at layers place name ≡ Some item → IsFit name item
item_fits [] place name item tables e = absurd (cc)
item_fits (layer ∷ layers) zero name item tables e = tables.0 name item e
item_fits (layer ∷ layers) (suc place) name item tables e = item_fits layers place name item tables.1 e

look_fits : (layers : List LayerState) (ps : List ℕ) (name : List ℕ) (item : ItemParts) → AreTables layers → look_of layers ps name ≡ Some item → IsFit name item
look_fits layers [] name item tables e = absurd (cc)
look_fits layers (p ∷ ps) name item tables e =
    of_either (IsFit name) (item_at layers p name) (look_of layers ps name) item (λ found is. item_fits layers p name found tables is) (λ found is. look_fits layers ps name found tables is)
    (sym (look_step layers p ps name) ∙ e)

module _ (layers : List LayerState) (at : QuestionContext) (tables : AreTables layers) where
  template_fits : (name : Option (List ℕ)) → IfSome (option_and_then (look layers at.templates) name) IsItem
  template_fits None = tt
  template_fits (Some name) = by_item (look layers at.templates name) (λ item e. (look_fits layers (leaves at.templates) name item tables e).1) where
    by_item : (o : Option ItemParts) → ((item : ItemParts) → o ≡ Some item → IsItem item) → IfSome o IsItem
    by_item None is = tt
    by_item (Some item) is = is item refl

  held : (name : List ℕ) → IsHeld layers at name
  held name = by_item (question layers at name) (λ item e. look_fits layers (leaves at.config) name item tables e) where
    by_item : (o : Option ItemParts) → ((item : ItemParts) → o ≡ Some item → IsFit name item)
        → IfSome o (λ item. (is_name name ≡ true) × IsItem item × IfSome (template layers at item) IsItem)
    by_item None is = tt
    by_item (Some item) is = let fits = is item refl in (fits.0, fits.1, template_fits (map.get item.fields (codes "template")))

  pub held_in : (names : List (List ℕ)) → AllByRecursion (IsHeld layers at) names
  held_in [] = tt
  held_in (name ∷ names) = (held name, held_in names)
