-- What one write to a question leaves.
use Rattle.std.proofs.Common.{◌≡◌, ℕ, false, not, List, [], ◌∷◌, Option, Some, None, is_some, true, Ok, Err, Result, refl, sym, ap, subst, ⊎_elim, ◌∙◌}
use Rattle.std.specs.Prelude.{◌||◌, ◌⊎◌, if◌then◌else◌}
use Rattle.dc_store.specs.declared.store.StoreError.{StoreError}
use Rattle.dc_store.specs.declared.store.StoreError.TheVariants as store
use Rattle.dc_item.specs.Item.{ItemParts}
use Rattle.dc_item.specs.declared.op.Op.{Op}
use Rattle.dc_template.specs.declared.kinds.Kind.{Kind}
use Rattle.dc_store.specs.Plans.{StoreState, write, would_take}
use Rattle.dc_store.specs.Batches.{commit, all_done}
use Rattle.dc_store.proofs.RowLemmas.{row_of_one}
use Rattle.dc_question.specs.Changes.{question_write, done_or, changed, Does}
use Rattle.dc_question.specs.Questions.{QuestionContext, question, template, read}
use Rattle.dc_question.specs.Readings.{kind_by}
use Rattle.dc_question.specs.declared.errors.QuestionError.{QuestionError}
use Rattle.dc_question.specs.declared.errors.QuestionError.TheVariants.{CantChange, OutOfMemory}

module _ (old : StoreState) (at : QuestionContext) (name : List ℕ) (item : ItemParts) (k : Option Kind) (op : Op)
    (found : Some item ≡ question old.layers at name) (typed : k ≡ kind_by (template old.layers at item)) where
  of_item : changed old at name op ≡ done_or name (commit old (question_write old.layers at name item op ∷ []))
  of_item = ap (λ q. read name q (λ i. done_or name (commit old (question_write old.layers at name i op ∷ [])))) (sym found)

  of_write : changed old at name op ≡ done_or name (write old at.config name k op)
  of_write = of_item ∙ ap (done_or name) (row_of_one old (question_write old.layers at name item op) ∙ ap (λ k. write old at.config name k op) (sym typed))

  pub taken_does : (new : StoreState) → write old at.config name k op ≡ Some new → changed old at name op ≡ Ok new
  taken_does new is = of_write ∙ ap (done_or name) is

  pub refused_does : would_take old.layers at.config name k op ≡ false → changed old at name op ≡ Err (CantChange name)
  refused_does is =
      of_item ∙ ap (λ k. done_or name (if not (would_take old.layers at.config name k op) || false then None else Some (all_done old (question_write old.layers at name item op ∷ [])))) (sym typed)
      ∙ ap (λ b. done_or name (if not b || false then None else Some (all_done old (question_write old.layers at name item op ∷ [])))) is

-- the write of an item of any kind
pub any_does : (old new : StoreState) (at : QuestionContext) (name : List ℕ) (op : Op) → is_some (question old.layers at name) ≡ true → ((k : Option Kind) → write old at.config name k op ≡ Some new)
    → changed old at name op ≡ Ok new
any_does old new at name op there is = by_item (question old.layers at name) refl there where
  by_item : (o : Option ItemParts) → question old.layers at name ≡ o → is_some o ≡ true → changed old at name op ≡ Ok new
  by_item None found some = cc
  by_item (Some item) found some = taken_does old at name item (kind_by (template old.layers at item)) op (sym found) refl new (is (kind_by (template old.layers at item)))

-- a refusal that comes of the store's
pub refusal_does : (A : Type 0) (batch : Result StoreState QuestionError) (old new : StoreState) (e : StoreError) (r : QuestionError) (name : List ℕ)
    → (e ≡ store.Refused → (r ≡ OutOfMemory) ⊎ (r ≡ CantChange name)) → (e ≡ store.OutOfMemory → r ≡ OutOfMemory)
    → (e ≡ store.Refused → batch ≡ Err (CantChange name)) → (e ≡ store.Refused → new ≡ old) → Does {A = A} (Err r) batch old new
refusal_does A batch old new store.OutOfMemory r name f m refused same = subst (λ r. Does {A = A} (Err r) batch old new) (sym (m refl)) tt
refusal_does A batch old new store.Refused r name f m refused same =
    ⊎_elim (λ none. subst (λ r. Does {A = A} (Err r) batch old new) (sym none) tt) (λ cant. subst (λ r. Does {A = A} (Err r) batch old new) (sym cant) (refused refl, same refl)) (f refl)
