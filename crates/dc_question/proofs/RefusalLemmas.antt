-- Rows of which a write is refused.
use Rattle.std.proofs.Common.{◌≡◌, ℕ, Bool, true, false, List, [], Option, Some, None, Ok, Err, refl, ap}
use Rattle.std.specs.Prelude.{unwrap_or, if◌then◌else◌}
use Rattle.std.specs.List.{list_any}
use Rattle.dc_store.specs.Plans.{StoreState}
use Rattle.dc_store.specs.Batches.{Write, is_refused, all_done, first_refused}
use Rattle.dc_question.specs.Changes.{told_by, batch_for}
use Rattle.dc_question.specs.declared.errors.QuestionError.{QuestionError}
use Rattle.dc_question.specs.declared.errors.QuestionError.TheVariants.{CantChange}

taken_by : (b : Bool) (held : Option (List ℕ)) (done new : StoreState) → told_by held (if b then None else Some done) ≡ Ok new → (b ≡ false) × (new ≡ done)
taken_by true held done new h = cc
taken_by false held done new h = (refl, cc)

refused_by : (b : Bool) (held : Option (List ℕ)) (done : StoreState) (error : QuestionError) → told_by held (if b then None else Some done) ≡ Err error
    → (b ≡ true) × (error ≡ CantChange (unwrap_or held []))
refused_by true held done error h = (refl, cc)
refused_by false held done error h = cc

module _ (store : StoreState) (names : List (List ℕ)) (batch : List Write) where
  pub row_taken : (new : StoreState) → batch_for store names batch ≡ Ok new → (list_any (is_refused store.layers) batch ≡ false) × (new ≡ all_done store batch)
  row_taken new h = taken_by (list_any (is_refused store.layers) batch) (first_refused store.layers names batch) (all_done store batch) new h

  pub row_left : list_any (is_refused store.layers) batch ≡ false → batch_for store names batch ≡ Ok (all_done store batch)
  row_left free = ap (λ b. told_by (first_refused store.layers names batch) (if b then None else Some (all_done store batch))) free

  pub row_refused : (error : QuestionError) → batch_for store names batch ≡ Err error
      → (list_any (is_refused store.layers) batch ≡ true) × (error ≡ CantChange (unwrap_or (first_refused store.layers names batch) []))
  row_refused error h = refused_by (list_any (is_refused store.layers) batch) (first_refused store.layers names batch) (all_done store batch) error h

  pub row_told : list_any (is_refused store.layers) batch ≡ true → batch_for store names batch ≡ Err (CantChange (unwrap_or (first_refused store.layers names batch) []))
  row_told refused = ap (λ b. told_by (first_refused store.layers names batch) (if b then None else Some (all_done store batch))) refused
