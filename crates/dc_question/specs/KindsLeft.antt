-- The kinds of templates once writes to them are done, kept in a map, by which writes to questions beside them are tested.
use Rattle.std.specs.Prelude.{ℕ, Bool, true, false, ◌||◌, List, [], ◌∷◌, Option, option_and_then, unwrap_or, codes, if◌then◌else◌}
use Rattle.std.specs.FinMap as map
use Rattle.dc_text.specs.Maps.{Texts}
use Rattle.dc_item.specs.Item.{ItemParts}
use Rattle.dc_item.specs.declared.op.Op.{Op}
use Rattle.dc_item.specs.declared.op.Op.TheVariants.{AddOwner, DropOwners}
use Rattle.dc_template.specs.declared.kinds.Kind.{Kind}
use Rattle.dc_layer.specs.State.{LayerState}
use Rattle.dc_store.specs.Plans.{look, look_after}
use Rattle.dc_store.specs.Batches.{Write, is_refused}
use Rattle.dc_question.specs.Questions.{QuestionContext}
use Rattle.dc_question.specs.Readings.{kind_by}

-- the operation changes owners alone
abbrev pub is_on_owners : Op → Bool
is_on_owners (AddOwner owner) = true
is_on_owners (DropOwners owners) = true
is_on_owners _ = false

-- the kind of a template once an operation on it is done
abbrev pub kind_left : List LayerState → QuestionContext → List ℕ → Op → Option Kind
kind_left layers at name op = kind_by (look_after layers at.templates name op)

-- the kinds with the one that a write leaves, where it is taken and the first to its name
abbrev pub with_kind : List LayerState → QuestionContext → Texts (Option Kind) → Write → Texts (Option Kind)
with_kind layers at kinds w =
    if map.contains_key kinds w.name || is_refused layers w then kinds else map.insert kinds w.name (kind_left layers at w.name w.op)

-- the same of several writes in turn
abbrev pub with_kinds : List LayerState → QuestionContext → Texts (Option Kind) → List Write → Texts (Option Kind)
with_kinds layers at kinds [] = kinds
with_kinds layers at kinds (w ∷ batch) = with_kinds layers at (with_kind layers at kinds w) batch

-- the kind of a template where some are known
abbrev pub known_kind : List LayerState → QuestionContext → Texts (Option Kind) → List ℕ → Option Kind
known_kind layers at kinds name = unwrap_or (map.get kinds name) (kind_by (look layers at.templates name))

-- the kind of a question's item where those of some templates are known
abbrev pub item_kind : List LayerState → QuestionContext → Texts (Option Kind) → Option ItemParts → Option Kind
item_kind layers at kinds item = option_and_then (λ i. option_and_then (known_kind layers at kinds) (map.get i.fields (codes "template"))) item

-- the kind of a question once an operation on it is done, where those of some templates are known
abbrev pub kind_then : List LayerState → QuestionContext → Texts (Option Kind) → List ℕ → Op → Option Kind
kind_then layers at kinds name op = item_kind layers at kinds (look_after layers at.config name op)

-- a write to a question where the kinds of some templates are known
abbrev pub write_by : List LayerState → QuestionContext → Texts (Option Kind) → List ℕ → Op → Write
write_by layers at kinds name op =
    record { plan = at.config; name = name; kind = kind_then layers at kinds name op; op = op; reported_for = name ∷ [] }
