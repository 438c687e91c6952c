-- What `copydb` copies (debconf-copydb(1)): items of one database are put into another, in byte order.
use Rattle.std.specs.Prelude.{◌≡◌, ℕ, Bool, true, false, ◌&&◌, List, [], ◌∷◌, ◌++◌, Option, Some, None, option_and_then, codes, if◌then◌else◌}
use Rattle.std.specs.Option.{option_or, option_map_or}
use Rattle.std.specs.List.{filter_map, list_any}
use Rattle.std.specs.FinMap as map
use Rattle.dc_conf.specs.Trees.{Tree, Leaf}
use Rattle.dc_item.specs.Item.{ItemParts}
use Rattle.dc_item.specs.declared.op.Op.TheVariants.{Put}
use Rattle.dc_template.specs.declared.kinds.Kind.{Kind}
use Rattle.dc_layer.specs.Patterns.{Sought, is_found}
use Rattle.dc_layer.specs.State.{LayerState}
use Rattle.dc_store.specs.Batches.{Write, write_done}
use Rattle.dc_store.specs.Plans.{StoreState, stored, look, names}
use Rattle.dc_store.specs.Writes.{takes_at}
use Rattle.dc_question.specs.Readings.{template_of, kind_by}
use Rattle.dc_tools.specs.declared.report.CopyReport.{CopyReport}

-- a copy: its source and its destination, where the templates stand, and the patterns for names and for owners
pub record Copying : Type 0 where
  pub source : Tree
  pub dest : Tree
  pub templates : Tree
  pub by_name : Option Sought
  pub by_owner : Option Sought

-- ---- which items are copied

-- the pattern is found in the bytes
abbrev pub finds : Sought → List ℕ → Bool
finds pattern bytes = is_found pattern.ignore_case pattern.text bytes

-- a pattern for names that is there is found in the name, and one for owners that is there in one of the item's owners
abbrev pub is_chosen : Copying → List ℕ → ItemParts → Bool
is_chosen copy name item =
    option_map_or (λ p. finds p name) copy.by_name true && option_map_or (λ p. list_any (finds p) (map.keys item.owners)) copy.by_owner true

-- the name and the item that is seen under it in the source, where it is copied
abbrev pub chosen_at : List LayerState → Copying → List ℕ → Option (List ℕ × ItemParts)
chosen_at layers copy name = option_and_then (λ item. if is_chosen copy name item then Some (name, item) else None) (look layers copy.source name)

-- the items that are copied, in byte order of their names
abbrev pub chosen : List LayerState → Copying → List (List ℕ × ItemParts)
chosen layers copy = filter_map (chosen_at layers copy) (names layers copy.source)

-- ---- how they are copied

-- the kind by which the copy of an item is tested: what its template says, else what it says itself
abbrev pub kind_copied : List LayerState → Tree → ItemParts → Option Kind
kind_copied layers templates item = option_or (kind_by (template_of (look layers templates) item)) (kind_by (Some item))

-- the write that puts an item into the destination, by the tables as they stand then
abbrev pub copy_write : List LayerState → Copying → List ℕ × ItemParts → Write
copy_write layers copy entry =
    record { plan = copy.dest; name = entry.0; kind = kind_copied layers copy.templates entry.1; op = Put entry.1; reported_for = entry.0 ∷ [] }

-- a report with lines more, of an item that was put
abbrev pub put_told : CopyReport → List ℕ → CopyReport
put_told report lines = record { lines = report.lines ++ lines; refused = report.refused }

-- a report with a line more, of an item that was refused
abbrev pub refusal_told : CopyReport → List ℕ → CopyReport
refusal_told report name = record { lines = report.lines ++ (name ++ codes " can't be changed\n"); refused = true }

-- how far a copy is: the layers, and what is reported
pub record CopyState : Type 0 where
  pub layers : List LayerState
  pub report : CopyReport

-- once an item was written: what the store told of it is reported, or, where nothing was written, that it was refused
abbrev pub with_written : CopyState → List ℕ → Option StoreState → CopyState
with_written at name (Some store) = record { layers = store.layers; report = put_told at.report store.told }
with_written at name None = record { layers = at.layers; report = refusal_told at.report name }

-- once an item is copied, by a store that told nothing before
abbrev pub after_copy : Copying → CopyState → List ℕ × ItemParts → CopyState
after_copy copy at entry = with_written at entry.0 (write_done (stored at.layers []) (copy_write at.layers copy entry))

-- once all are, in order
abbrev pub after_copies : Copying → CopyState → List (List ℕ × ItemParts) → CopyState
after_copies copy at [] = at
after_copies copy at (entry ∷ entries) = after_copies copy (after_copy copy at entry) entries

-- once those of the names are that are chosen
abbrev pub after_names : Copying → CopyState → List (List ℕ) → CopyState
after_names copy at names = after_copies copy at (filter_map (chosen_at at.layers copy) names)

-- ---- what a copy is

-- how far the copy is that works on the store, by its report
abbrev pub so_far : StoreState → CopyReport → CopyState
so_far store report = record { layers = store.layers; report = report }

-- the report before the first item: what the store told before, and nothing was refused
abbrev pub first_report : List ℕ → CopyReport
first_report told = record { lines = told; refused = false }

-- Each item that is chosen was copied. Whatever the store told is reported, and so nothing is left of it.
pub record IsCopied (copy : Copying) (old new : StoreState) (report : CopyReport) : Type 0 where
  pub copied : so_far new report ≡ after_copies copy (so_far old (first_report old.told)) (chosen old.layers copy)
  pub taken : new.told ≡ []

-- the plan is one layer that takes each item
pub record IsOpen (layers : List LayerState) (plan : Tree) : Type 0 where
  pub place : ℕ
  pub alone : plan ≡ Leaf place
  pub takes : (name : List ℕ) (kind : Option Kind) → takes_at layers name kind place ≡ true
