-- Several writes, of which all are done or none.
use Rattle.std.specs.Prelude.{◌≡◌, ℕ, Bool, not, List, [], ◌∷◌, ◌⊎◌, Option, Some, None, unwrap_or, map as each, if◌then◌else◌}
use Rattle.std.specs.List.{All, find, filter, flat_map, list_any, AllPairs, Contains}
use Rattle.std.specs.Str.{bytes_eq}
use Rattle.dc_conf.specs.Trees.{Tree}
use Rattle.dc_item.specs.declared.op.Op.{Op}
use Rattle.dc_template.specs.declared.kinds.Kind.{Kind}
use Rattle.dc_layer.specs.State.{LayerState}
use Rattle.dc_conf.specs.Plans.{IsOver, all_places}
use Rattle.dc_store.specs.Plans.{StoreState, write, would_take}
use Rattle.dc_store.specs.declared.batch.ReportedFor.{ReportedFor}
use Rattle.dc_store.specs.declared.batch.ReportedFor.TheVariants.{Itself, Names}

-- a write: an operation on the item of a name, of which the kind may be known, in a plan; and the names of the items for which it is
-- done, by which its refusal is told
pub record Write : Type 0 where
  pub plan : Tree
  pub name : List ℕ
  pub kind : Option Kind
  pub op : Op
  pub reported_for : List (List ℕ)

-- the names for which the write of an item is done
abbrev pub names_for : List ℕ → ReportedFor → List (List ℕ)
names_for name Itself = name ∷ []
names_for name (Names others) = others

-- whether the write would be refused
abbrev pub is_refused : List LayerState → Write → Bool
is_refused layers w = not (would_take layers w.plan w.name w.kind w.op)

-- what the write leaves, unless it is refused
abbrev pub write_done : StoreState → Write → Option StoreState
write_done store w = write store w.plan w.name w.kind w.op

-- the writes done in order, of which one that is refused changes nothing
abbrev pub all_done : StoreState → List Write → StoreState
all_done store [] = store
all_done store (w ∷ batch) = all_done (unwrap_or (write_done store w) store) batch

-- A row of writes: each is tested on the layers before the row, and all are done in order, or none where one is refused.
abbrev pub commit : StoreState → List Write → Option StoreState
commit store batch = if list_any (is_refused store.layers) batch then None else Some (all_done store batch)

-- the names for which a write is done that would be refused
abbrev pub refused_names : List LayerState → List Write → List (List ℕ)
refused_names layers batch = flat_map (λ w. w.reported_for) (filter (is_refused layers) batch)

-- the first of these names for which one is
abbrev pub first_refused : List LayerState → List (List ℕ) → List Write → Option (List ℕ)
first_refused layers names batch = find (λ name. list_any (bytes_eq name) (refused_names layers batch)) names

-- ---- which writes stand in a row

-- two plans share no layer
abbrev pub AreApart : Tree → Tree → Type 0
AreApart p q = (place : ℕ) → Contains (all_places p) place → Contains (all_places q) place → ⊥

-- two writes are on different items
abbrev pub AreDistinct : Write → Write → Type 0
AreDistinct v w = (v.name ≡ w.name → ⊥) ⊎ AreApart v.plan w.plan

-- each two are
abbrev pub AllDistinct : List Write → Type 0
AllDistinct batch = AllPairs AreDistinct batch

-- each speaks of so many layers
abbrev pub AreOver : List Write → ℕ → Type 0
AreOver batch count = All (λ w. IsOver w.plan count) batch

-- the names that they are on
abbrev pub names_of : List Write → List (List ℕ)
names_of batch = each (λ w. w.name) batch
