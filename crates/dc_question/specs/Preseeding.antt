-- A question that is answered before it is asked (debconf-set-selections(1)): the row of writes, and what it leaves.
use Rattle.std.specs.Prelude.{ℕ, Bool, ◌||◌, List, [], ◌∷◌, ◌++◌, Option, Some, None, Result, is_some, codes, if◌then◌else◌}
use Rattle.std.specs.FinMap as map
use Rattle.dc_text.specs.Settled.{settled}
use Rattle.dc_item.specs.Item.{ItemParts, no_parts}
use Rattle.dc_item.specs.declared.op.Op.TheVariants.{Put}
use Rattle.dc_layer.specs.State.{LayerState}
use Rattle.dc_store.specs.Plans.{StoreState}
use Rattle.dc_store.specs.Batches.{Write}
use Rattle.dc_template.specs.Kinds.{kind_word}
use Rattle.dc_template.specs.declared.kinds.Kind.{Kind}
use Rattle.dc_question.specs.Changes.{batch_for}
use Rattle.dc_question.specs.Ownership.{template_write, write_beside}
use Rattle.dc_question.specs.Questions.{QuestionContext, question, exists, named_template}
use Rattle.dc_question.specs.declared.errors.QuestionError.{QuestionError}

-- ---- what is written

-- the question as it was, or a new one of the template of its name
abbrev pub question_then : Option ItemParts → List ℕ → ItemParts
question_then (Some item) name = item
question_then None name = record no_parts { fields = map.insert map.empty (codes "template") (settled name) }

-- the question with its answer: the settled value, one more owner, and seen unless that isn't wanted
abbrev pub answered : Option ItemParts → List ℕ → List ℕ → List ℕ → Bool → ItemParts
answered old owner name value unseen = record (question_then old name) {
  fields = map.insert (question_then old name).fields (codes "value") (settled value);
  owners = map.insert (question_then old name).owners owner tt;
  flags = if unseen then (question_then old name).flags else map.insert (question_then old name).flags (codes "seen") tt;
}

-- a template that is made for a new question: its type, and the question as its owner
abbrev pub made_template : Kind → List ℕ → ItemParts
made_template kind name = record no_parts { fields = map.insert map.empty (codes "type") (kind_word kind); owners = map.insert map.empty name tt }

-- ---- the row

-- the question is there, or a template of its name
abbrev pub is_known : List LayerState → QuestionContext → List ℕ → Bool
is_known layers at name = exists layers at name || is_some (named_template layers at name)

-- the write that makes the template of a new question
abbrev pub template_made : List LayerState → QuestionContext → List ℕ → Kind → Write
template_made layers at name kind = template_write layers at name (Put (made_template kind name)) (name ∷ [])

-- the writes to templates: the template is made where neither it nor the question is there
abbrev pub template_batch : List LayerState → QuestionContext → List ℕ → Kind → List Write
template_batch layers at name kind = if is_known layers at name then [] else template_made layers at name kind ∷ []

-- the template, where it is made, and then the question with its answer
abbrev pub preseed_batch : List LayerState → QuestionContext → List ℕ → List ℕ → Kind → List ℕ → Bool → List Write
preseed_batch layers at owner name kind value unseen =
    template_batch layers at name kind
    ++ write_beside layers at (template_batch layers at name kind) name (Put (answered (question layers at name) owner name value unseen)) ∷ []

-- the question is answered before it is asked
abbrev pub preseeded : StoreState → QuestionContext → List ℕ → List ℕ → Kind → List ℕ → Bool → Result StoreState QuestionError
preseeded store at owner name kind value unseen = batch_for store (name ∷ []) (preseed_batch store.layers at owner name kind value unseen)
