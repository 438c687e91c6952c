-- What questions say, over the layers of a store (debconf-devel(7)). A question is an item of the configuration's plan, and its
-- template is one of the templates' plan.
use Rattle.std.specs.Prelude.{◌≡◌, ℕ, Bool, List, Option, Some, None, Result, Ok, Err, is_some, option_map, option_and_then, if◌then◌else◌}
use Rattle.std.specs.FinMap as map
use Rattle.dc_text.specs.Names.{is_name}
use Rattle.dc_conf.specs.Trees.{Tree}
use Rattle.dc_item.specs.Item.{ItemParts}
use Rattle.dc_template.specs.declared.kinds.Kind.{Kind}
use Rattle.dc_layer.specs.State.{LayerState}
use Rattle.dc_conf.specs.Plans.{IsOver}
use Rattle.dc_store.specs.Plans.{look, can_change as can_change_in}
use Rattle.dc_question.specs.Readings.{template_of, kind_by, localised, field_of, value_of, choices_by}
use Rattle.dc_question.specs.declared.choices.ChoicePair.{ChoicePair}
use Rattle.dc_question.specs.declared.errors.QuestionError.{QuestionError}
use Rattle.dc_question.specs.declared.errors.QuestionError.TheVariants.{NoQuestion, NoTemplate, NoField, OutOfMemory}

-- where questions and templates stand, and the user's language
pub record QuestionContext : Type 0 where
  pub config : Tree
  pub templates : Tree
  pub lang : List ℕ

-- both plans speak of so many layers
pub record IsSetOver (at : QuestionContext) (count : ℕ) : Type 0 where
  pub config : IsOver at.config count
  pub templates : IsOver at.templates count

-- ---- what is there

-- the item of a question
abbrev pub question : List LayerState → QuestionContext → List ℕ → Option ItemParts
question layers at name = look layers at.config name

abbrev pub exists : List LayerState → QuestionContext → List ℕ → Bool
exists layers at name = is_some (question layers at name)

-- the template of an item
abbrev pub template : List LayerState → QuestionContext → ItemParts → Option ItemParts
template layers at item = template_of (look layers at.templates) item

-- the template of a name; a text that isn't one names none
abbrev pub named_template : List LayerState → QuestionContext → List ℕ → Option ItemParts
named_template layers at name = if is_name name then look layers at.templates name else None

-- the kind of a question
abbrev pub kind : List LayerState → QuestionContext → List ℕ → Option Kind
kind layers at name = option_and_then (λ item. kind_by (template layers at item)) (question layers at name)

-- its owners, in byte order
abbrev pub owners : List LayerState → QuestionContext → List ℕ → Option (List (List ℕ))
owners layers at name = option_map (λ item. map.keys item.owners) (question layers at name)

-- whether a change of it is taken
abbrev pub can_change : List LayerState → QuestionContext → List ℕ → Bool
can_change layers at name = can_change_in layers at.config name (kind layers at name)

-- ---- what it says, or why it says nothing

-- what is read of a question that is there
abbrev pub read : {A : Type 0} → List ℕ → Option ItemParts → (ItemParts → Result A QuestionError) → Result A QuestionError
read name None reading = Err (NoQuestion name)
read name (Some item) reading = reading item

-- what is read of a template that is there
abbrev pub read_template : {A : Type 0} → List ℕ → Option ItemParts → (ItemParts → Result A QuestionError) → Result A QuestionError
read_template name None reading = Err (NoTemplate name)
read_template name (Some template) reading = reading template

-- a field that the template has
abbrev pub read_field : Option (List ℕ) → Result (List ℕ) QuestionError
read_field None = Err NoField
read_field (Some text) = Ok text

-- its own value, else its template's default in the user's language, else the empty text
abbrev pub value : List LayerState → QuestionContext → List ℕ → Result (List ℕ) QuestionError
value layers at name = read name (question layers at name) (λ item. Ok (value_of at.lang item (template layers at item)))

-- a field of its template in the user's language
abbrev pub field : List LayerState → QuestionContext → List ℕ → List ℕ → Result (List ℕ) QuestionError
field layers at name key =
    read name (question layers at name) (λ item.
    read_template name (template layers at item) (λ template. read_field (localised at.lang template key)))

-- the same with the question's variables put in
abbrev pub expanded_field : List LayerState → QuestionContext → List ℕ → List ℕ → Result (List ℕ) QuestionError
expanded_field layers at name key =
    read name (question layers at name) (λ item.
    read_template name (template layers at item) (λ template. read_field (field_of at.lang item template key)))

-- its choices, each with its label
abbrev pub choices : List LayerState → QuestionContext → List ℕ → Result ChoicePair QuestionError
choices layers at name =
    read name (question layers at name) (λ item.
    read_template name (template layers at item) (λ template. Ok (choices_by at.lang item template)))

-- whether a flag of it is true
abbrev pub flag : List LayerState → QuestionContext → List ℕ → List ℕ → Result Bool QuestionError
flag layers at name key = read name (question layers at name) (λ item. Ok (map.contains_key item.flags key))

-- A call answers what is read, unless memory runs out.
abbrev pub Answers : {A : Type 0} → Result A QuestionError → Result A QuestionError → Type 0
Answers (Ok answer) reading = reading ≡ Ok answer
Answers (Err OutOfMemory) reading = Unit {0}
Answers (Err error) reading = reading ≡ Err error
