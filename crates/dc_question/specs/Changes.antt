-- What calls write to questions: the row of writes of each, and what it leaves.
use Rattle.std.specs.Prelude.{◌≡◌, ℕ, Bool, List, [], ◌∷◌, Option, Some, None, Result, Ok, Err, unwrap_or, codes, map as each}
use Rattle.std.specs.FinMap as map
use Rattle.dc_text.specs.Settled.{settled}
use Rattle.dc_item.specs.Item.{ItemParts}
use Rattle.dc_item.specs.declared.op.Op.{Op}
use Rattle.dc_item.specs.declared.op.Op.TheVariants.{Put, SetField, SetFlag, SetVar}
use Rattle.dc_layer.specs.State.{LayerState}
use Rattle.dc_store.specs.Plans.{StoreState}
use Rattle.dc_store.specs.Batches.{Write, commit, first_refused}
use Rattle.dc_question.specs.Readings.{kind_by}
use Rattle.dc_question.specs.Questions.{QuestionContext, question, template, kind, read}
use Rattle.dc_question.specs.declared.errors.QuestionError.{QuestionError}
use Rattle.dc_question.specs.declared.errors.QuestionError.TheVariants.{CantChange, OutOfMemory}

-- ---- one write to a question

-- a write to a question, whose kind is that of its template
abbrev pub question_write : List LayerState → QuestionContext → List ℕ → ItemParts → Op → Write
question_write layers at name item op = record { plan = at.config; name = name; kind = kind_by (template layers at item); op = op; reported_for = name ∷ [] }

-- what a row leaves of which a refused write is told as a question that can't be changed
abbrev pub done_or : List ℕ → Option StoreState → Result StoreState QuestionError
done_or name None = Err (CantChange name)
done_or name (Some store) = Ok store

-- what a row leaves, of which a refusal is told by a question
abbrev pub told_by : Option (List ℕ) → Option StoreState → Result StoreState QuestionError
told_by held (Some store) = Ok store
told_by held None = Err (CantChange (unwrap_or held []))

-- What a row of writes leaves that is done for some questions: a refusal is told by the first of them for which a write is refused.
abbrev pub batch_for : StoreState → List (List ℕ) → List Write → Result StoreState QuestionError
batch_for store names batch = told_by (first_refused store.layers names batch) (commit store batch)

-- the question takes the operation
abbrev pub changed : StoreState → QuestionContext → List ℕ → Op → Result StoreState QuestionError
changed store at name op =
    read name (question store.layers at name) (λ item. done_or name (commit store (question_write store.layers at name item op ∷ [])))

-- its value is the settled bytes
abbrev pub value_set : StoreState → QuestionContext → List ℕ → List ℕ → Result StoreState QuestionError
value_set store at name value = changed store at name (SetField (codes "value") (settled value))

-- a flag of it is true exactly where it is set on
abbrev pub flag_set : StoreState → QuestionContext → List ℕ → List ℕ → Bool → Result StoreState QuestionError
flag_set store at name key on = changed store at name (SetFlag key on)

-- a variable of it is the settled bytes
abbrev pub variable_set : StoreState → QuestionContext → List ℕ → List ℕ → List ℕ → Result StoreState QuestionError
variable_set store at name key value = changed store at name (SetVar key (settled value))

-- the item without its value, and not seen
abbrev pub without_answer : ItemParts → ItemParts
without_answer item = record item { fields = map.remove item.fields (codes "value"); flags = map.remove item.flags (codes "seen") }

-- it has no value of its own any more, and isn't seen
abbrev pub value_reset : StoreState → QuestionContext → List ℕ → Result StoreState QuestionError
value_reset store at name = read name (question store.layers at name) (λ item. changed store at name (Put (without_answer item)))

-- ---- values of several questions

-- the write that gives a question a value, which is settled
abbrev pub value_write : List LayerState → QuestionContext → List ℕ × List ℕ → Write
value_write layers at answer =
    record { plan = at.config; name = answer.0; kind = kind layers at answer.0; op = SetField (codes "value") (settled answer.1); reported_for = answer.0 ∷ [] }

-- Each of the questions gets its value, or none does: a refusal is told by the first of them that can't be changed. A question that isn't
-- there stays so.
abbrev pub values_set : StoreState → QuestionContext → List (List ℕ × List ℕ) → Result StoreState QuestionError
values_set store at answers = batch_for store (each (λ a. a.0) answers) (each (value_write store.layers at) answers)

-- ---- what a call does

-- A call that writes leaves what its row does. After a refusal nothing has changed, and want of memory may come in any place.
abbrev pub Does : {A : Type 0} → Result A QuestionError → Result StoreState QuestionError → StoreState → StoreState → Type 0
Does (Ok answer) batch old new = batch ≡ Ok new
Does (Err OutOfMemory) batch old new = Unit {0}
Does (Err error) batch old new = (batch ≡ Err error) × (new ≡ old)
