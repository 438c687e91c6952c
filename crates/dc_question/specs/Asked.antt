-- Questions in one word, and what a call on them reads and leaves.
use Rattle.std.specs.Prelude.{◌≡◌, ℕ, List, length, Result}
use Rattle.std.specs.Borrow.{GName}
use Rattle.dc_layer.specs.State.{LayerState}
use Rattle.dc_store.specs.Plans.{StoreState}
use Rattle.dc_store.specs.StoreLaws.{AreSameBut, AreSameButAll}
use Rattle.dc_store.specs.Views.{store_in}
use Rattle.dc_question.specs.Changes.{Does}
use Rattle.dc_question.specs.Questions.{QuestionContext, IsSetOver}
use Rattle.dc_question.specs.declared.errors.QuestionError.{QuestionError}
use Rattle.dc_question.specs.declared.questions.Questions.{Questions}

-- the store, where questions and templates stand in it, and which store of their maker they borrow
pub record QuestionsState : Type 0 where
  pub store : StoreState
  pub context : QuestionContext
  pub borrows : GName

-- the state of questions, by the states of the boxes of their store
abbrev pub asked : {X : Type 0} {F : X → Type 0} → ((x : X) × F x → LayerState) → Questions X F → QuestionsState
asked state questions =
    record { store = store_in state questions.store.now; context = questions.context; borrows = questions.store.ghost_name }

-- both plans speak of the layers of the store
abbrev pub HasPlans : {X : Type 0} {F : X → Type 0} → Questions X F → Type 0
HasPlans questions = IsSetOver questions.context (length questions.store.now.layers.items)

-- a reading of the questions
abbrev pub seen : {A : Type 0} → QuestionsState → (List LayerState → QuestionContext → A) → A
seen questions reading = reading questions.store.layers questions.context

-- A call leaves the store that a change gives. After a refusal nothing has changed, and want of memory may come in any place.
abbrev pub Leaves : {A : Type 0} → Result A QuestionError → (StoreState → QuestionContext → Result StoreState QuestionError) → QuestionsState → QuestionsState → Type 0
Leaves result change old new = Does result (change old.store old.context) old.store new.store

-- only the item of one name may have changed, in each layer, and what was told
pub record SameBut (name : List ℕ) (old new : QuestionsState) : Type 0 where
  pub others : AreSameBut name old.store.layers new.store.layers
  pub count : length new.store.layers ≡ length old.store.layers
  pub context : new.context ≡ old.context
  pub borrows : new.borrows ≡ old.borrows

-- only the items of some names
pub record SameButAll (names : List (List ℕ)) (old new : QuestionsState) : Type 0 where
  pub others : AreSameButAll names old.store.layers new.store.layers
  pub count : length new.store.layers ≡ length old.store.layers
  pub context : new.context ≡ old.context
  pub borrows : new.borrows ≡ old.borrows
