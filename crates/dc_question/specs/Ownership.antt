-- Calls that give questions to owners and take them away (debconf-devel(7), REGISTER, UNREGISTER, PURGE, X_LOADTEMPLATEFILE): the row of
-- writes of each. A template is owned by its questions, a question by packages, and each goes with its last owner.
use Rattle.std.specs.Prelude.{ℕ, Bool, true, false, not, ◌&&◌, List, [], ◌∷◌, ◌++◌, map as each, Option, Some, None, Result, Err, option_map, option_and_then, codes, if◌then◌else◌}
use Rattle.std.specs.Option.{option_map_or}
use Rattle.std.specs.List.{filter, filter_map, find, flat_map}
use Rattle.std.specs.Str.{bytes_eq}
use Rattle.std.specs.FinMap as map
use Rattle.dc_text.specs.Maps.{set_of}
use Rattle.dc_text.specs.Settled.{settled}
use Rattle.dc_item.specs.After.{after_at}
use Rattle.dc_item.specs.Item.{ItemParts}
use Rattle.dc_item.specs.declared.op.Op.{Op}
use Rattle.dc_item.specs.declared.op.Op.TheVariants.{Put, AddOwner, DropOwners}
use Rattle.dc_item.specs.declared.op.After.{After}
use Rattle.dc_item.specs.declared.op.After.TheVariants.{Same, Changed, Gone}
use Rattle.dc_layer.specs.State.{LayerState}
use Rattle.dc_store.specs.Plans.{StoreState, look, look_after, has_below, owned}
use Rattle.dc_store.specs.Batches.{Write, is_refused}
use Rattle.dc_template.specs.Stanzas.{Stanza}
use Rattle.dc_template.specs.declared.kinds.Kind.{Kind}
use Rattle.dc_question.specs.Changes.{batch_for}
use Rattle.dc_question.specs.Questions.{QuestionContext, question, named_template, read, read_template}
use Rattle.dc_question.specs.Readings.{template_of, kind_by}
use Rattle.dc_question.specs.declared.errors.QuestionError.{QuestionError}
use Rattle.dc_question.specs.declared.errors.QuestionError.TheVariants.{Twice}

-- ---- the kinds by which writes are tested

-- the item of a template by which a write to it is tested: as it is then, and as it was where it goes
abbrev pub kept_after : Option ItemParts → After → Option ItemParts
kept_after item Same = item
kept_after item (Changed made) = Some made
kept_after item Gone = item

-- the kind by which a write to a template is tested
abbrev pub kind_tested : List LayerState → QuestionContext → List ℕ → Op → Option Kind
kind_tested layers at name op = kind_by (kept_after (look layers at.templates name) (after_at op (look layers at.templates name)))

-- a write to a template, for some questions
abbrev pub template_write : List LayerState → QuestionContext → List ℕ → Op → List (List ℕ) → Write
template_write layers at name op questions = record {
  plan = at.templates;
  name = name;
  kind = kind_tested layers at name op;
  op = op;
  reported_for = questions;
}

-- the write is on this template, and is taken
abbrev pub is_taken_on : List LayerState → List ℕ → Write → Bool
is_taken_on layers name w = bytes_eq name w.name && not (is_refused layers w)

-- what is seen of a template when these writes to templates are done: one that is refused isn't
abbrev pub template_then : List LayerState → QuestionContext → List Write → List ℕ → Option ItemParts
template_then layers at batch name =
    option_map_or (λ w. look_after layers at.templates name w.op) (find (is_taken_on layers name) batch) (look layers at.templates name)

-- a write to a question beside these writes to templates: its kind is that of the template that it is bound to when all are done
abbrev pub write_beside : List LayerState → QuestionContext → List Write → List ℕ → Op → Write
write_beside layers at batch name op = record {
  plan = at.config;
  name = name;
  kind = option_and_then (λ item. kind_by (template_of (template_then layers at batch) item)) (look_after layers at.config name op);
  op = op;
  reported_for = name ∷ [];
}

-- ---- a question is bound to a template and an owner

-- the item of a new question of a template
abbrev pub new_question : List ℕ → List ℕ → ItemParts
new_question template owner =
    record { fields = map.insert map.empty (codes "template") (settled template); flags = map.empty; variables = map.empty; owners = map.insert map.empty owner tt }

-- what binds a question to a template and an owner: the new item, or one more owner where the question is there
abbrev pub binding : List ℕ → List ℕ → Option ItemParts → Op
binding template owner None = Put (new_question template owner)
binding template owner (Some item) = AddOwner owner

-- the question is there, and it isn't bound to this template
abbrev pub has_other_template : List ℕ → Option ItemParts → Bool
has_other_template template item = option_map_or (λ parts. not (option_map_or (bytes_eq template) (map.get parts.fields (codes "template")) false)) item false

-- the template takes the operation, and the question is bound to it and to the owner
abbrev pub bind_batch : List LayerState → QuestionContext → List ℕ → Op → List ℕ → List ℕ → List Write
bind_batch layers at template op name owner =
    template_write layers at template op (name ∷ [])
    ∷ write_beside layers at (template_write layers at template op (name ∷ []) ∷ []) name (binding template owner (question layers at name)) ∷ []

-- a question is registered: it becomes an owner of its template
abbrev pub register_batch : List LayerState → QuestionContext → List ℕ → List ℕ → List ℕ → List Write
register_batch layers at template name owner = bind_batch layers at template (AddOwner name) name owner

abbrev pub registered : StoreState → QuestionContext → List ℕ → List ℕ → List ℕ → Result StoreState QuestionError
registered store at template name owner =
    read_template name (named_template store.layers at template) (λ item.
    if has_other_template template (question store.layers at name) then Err (Twice name)
    else batch_for store (name ∷ []) (register_batch store.layers at template name owner))

-- ---- templates are loaded

-- the item of a template of a file: its settled fields, the owners that it had, and the question of its own name
abbrev pub loaded_template : Stanza → Option ItemParts → ItemParts
loaded_template template old = record {
  fields = map.from_entries (each (λ field. (field.0, settled field.1)) template.fields);
  flags = map.empty;
  variables = map.empty;
  owners = map.insert (option_map_or (λ item. item.owners) old map.empty) template.name tt;
}

-- what puts it
abbrev pub put_loaded : List LayerState → QuestionContext → Stanza → Op
put_loaded layers at template = Put (loaded_template template (look layers at.templates template.name))

-- each is put, with the question of its name bound to it and to the owner
abbrev pub load_batch : List LayerState → QuestionContext → List ℕ → List Stanza → List Write
load_batch layers at owner templates =
    flat_map (λ t. bind_batch layers at t.name (put_loaded layers at t) t.name owner) templates

-- the first whose question is bound to another template
abbrev pub bound_elsewhere : List LayerState → QuestionContext → List Stanza → Option Stanza
bound_elsewhere layers at templates = find (λ t. has_other_template t.name (question layers at t.name)) templates

abbrev pub loaded : StoreState → QuestionContext → List ℕ → List Stanza → Result StoreState QuestionError
loaded store at owner templates =
    option_map_or (λ t. Err (Twice t.name)) (bound_elsewhere store.layers at templates)
    (batch_for store (each (λ t. t.name) templates) (load_batch store.layers at owner templates))

-- ---- an owner leaves questions

abbrev pub is_gone : After → Bool
is_gone Gone = true
is_gone _ = false

-- the question goes with the owner: it is the last one, and no layer below the holder has an item of this name
abbrev pub goes_with : List LayerState → QuestionContext → List ℕ → List ℕ → Bool
goes_with layers at owner name = is_gone (after_at (DropOwners (owner ∷ [])) (question layers at name)) && not (has_below layers at.config name)

-- the name of the template that the question is bound to, where it is there
abbrev pub bound_to : List LayerState → QuestionContext → List ℕ → Option (List ℕ)
bound_to layers at name =
    option_and_then (λ item. option_and_then (λ t. option_map (λ _. t) (named_template layers at t)) (map.get item.fields (codes "template"))) (question layers at name)

-- the template that loses the question with the owner
abbrev pub loser_of : List LayerState → QuestionContext → List ℕ → List ℕ → Option (List ℕ)
loser_of layers at owner name = if goes_with layers at owner name then bound_to layers at name else None

-- the templates that lose some of the questions, in byte order
abbrev pub losers : List LayerState → QuestionContext → List ℕ → List (List ℕ) → List (List ℕ)
losers layers at owner names = map.keys (set_of (filter_map (loser_of layers at owner) names))

-- those of the questions that a template loses
abbrev pub lost_by : List LayerState → QuestionContext → List ℕ → List (List ℕ) → List ℕ → List (List ℕ)
lost_by layers at owner names template = filter (λ name. option_map_or (bytes_eq template) (loser_of layers at owner name) false) names

abbrev pub losses : List LayerState → QuestionContext → List ℕ → List (List ℕ) → List Write
losses layers at owner names =
    each (λ t. template_write layers at t (DropOwners (lost_by layers at owner names t)) (lost_by layers at owner names t)) (losers layers at owner names)

-- each of the questions loses the owner, and of those that go with it the templates lose them
abbrev pub leave_batch : List LayerState → QuestionContext → List ℕ → List (List ℕ) → List Write
leave_batch layers at owner names =
    each (λ name. write_beside layers at (losses layers at owner names) name (DropOwners (owner ∷ []))) names ++ losses layers at owner names

-- the owner leaves a question
abbrev pub unregistered : StoreState → QuestionContext → List ℕ → List ℕ → Result StoreState QuestionError
unregistered store at name owner =
    read name (question store.layers at name) (λ item. batch_for store (name ∷ []) (leave_batch store.layers at owner (name ∷ [])))

-- each of the questions of an owner loses it
abbrev pub purge_batch : List LayerState → QuestionContext → List ℕ → List Write
purge_batch layers at owner = leave_batch layers at owner (owned layers at.config owner)

-- the owner leaves all its questions
abbrev pub purged : StoreState → QuestionContext → List ℕ → Result StoreState QuestionError
purged store at owner =
    batch_for store (owned store.layers at.config owner) (purge_batch store.layers at owner)
