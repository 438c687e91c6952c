-- Questions that are bound to templates.
use Rattle.std.proofs.Common.{◌≡◌, ℕ, Bool, true, false, List, [], ◌∷◌, ◌++◌, Option, Some, None, Result, Err, refl, sym, ap, subst, ◌∙◌, inr, append_assoc}
use Rattle.std.specs.Prelude.{option_map, if◌then◌else◌}
use Rattle.std.specs.FinMap.{empty}
use Rattle.dc_text.specs.Maps.{Texts}
use Rattle.dc_item.specs.Item.{ItemParts}
use Rattle.dc_item.specs.declared.op.Op.{Op}
use Rattle.dc_template.specs.declared.kinds.Kind.{Kind}
use Rattle.dc_conf.specs.Plans.{IsOver, are_disjoint}
use Rattle.dc_layer.specs.State.{LayerState}
use Rattle.dc_store.specs.Plans.{StoreState}
use Rattle.dc_store.specs.Batches.{Write, AllDistinct}
use Rattle.dc_question.specs.Changes.{batch_for, Does}
use Rattle.dc_question.specs.KindsLeft.{with_kinds, write_by}
use Rattle.dc_question.specs.Ownership.{template_write, write_beside, binding, bind_batch, has_other_template, register_batch, registered}
use Rattle.dc_question.specs.Questions.{QuestionContext, IsSetOver, question, named_template, read_template}
use Rattle.dc_question.specs.declared.errors.QuestionError.{QuestionError}
use Rattle.dc_question.specs.declared.errors.QuestionError.TheVariants.{Twice}
use Rattle.dc_question.proofs.ApartLemmas.{apart_too, two_distinct}
use Rattle.dc_question.proofs.KindLemmas.{beside}

-- ---- two writes are added

module _ (ls : List LayerState) (at : QuestionContext) where
  pub as_written : (t : List ℕ) (op : Op) (questions : List (List ℕ)) (first : Write) → first ≡ template_write ls at t op questions → first ≡ template_write ls at first.name first.op questions
  as_written t op questions first f = f ∙ sym (λ i. template_write ls at (f i).name (f i).op questions)

  pub written_over : (questions : List (List ℕ)) (first : Write) (count : ℕ) → first ≡ template_write ls at first.name first.op questions → IsSetOver at count → IsOver first.plan count
  written_over questions first count f over = subst (λ p. IsOver p count) (sym (ap (λ (w : Write). w.plan) f)) over.templates

  -- a write by the kind that another leaves is the write beside it
  pub after_write : (n : List ℕ) (first : Write) (op : Op) (kinds : Texts (Option Kind)) → kinds ≡ with_kinds ls at empty (first ∷ []) → write_by ls at kinds n op ≡ write_beside ls at (first ∷ []) n op
  after_write n first op kinds is = ap (λ k. write_by ls at k n op) is ∙ beside ls at (first ∷ []) n op

  -- and beside no other
  pub lone_write : (n : List ℕ) (op : Op) (kinds : Texts (Option Kind)) → kinds ≡ empty → write_by ls at kinds n op ≡ write_beside ls at [] n op
  lone_write n op kinds is = ap (λ k. write_by ls at k n op) is ∙ beside ls at [] n op

  module _ (n o : List ℕ) (first : Write) where
    pub both_added : (second : Write) (old batch whole : List Write) → first ≡ template_write ls at first.name first.op (n ∷ [])
        → second ≡ write_beside ls at (first ∷ []) n (binding first.name o (question ls at n)) → batch ≡ old ++ first ∷ [] → whole ≡ batch ++ second ∷ []
        → whole ≡ old ++ bind_batch ls at first.name first.op n o
    both_added second old batch whole f s r w =
        let last : second ≡ write_beside ls at (template_write ls at first.name first.op (n ∷ []) ∷ []) n (binding first.name o (question ls at n))
        = s ∙ ap (λ x. write_beside ls at (x ∷ []) n (binding first.name o (question ls at n))) f in
        w ∙ ap (λ l. l ++ second ∷ []) r ∙ append_assoc old (first ∷ []) (second ∷ []) ∙ (λ i. old ++ f i ∷ last i ∷ [])

    pub added_for : (t : List ℕ) (op : Op) (old whole : List Write) → first ≡ template_write ls at t op (n ∷ []) → whole ≡ old ++ bind_batch ls at first.name first.op n o
        → whole ≡ old ++ bind_batch ls at t op n o
    added_for t op old whole f w = w ∙ (λ i. old ++ bind_batch ls at (f i).name (f i).op n o)

pub bound_distinct : (ls : List LayerState) (at : QuestionContext) (t n o : List ℕ) (op : Op) (batch : List Write) → are_disjoint at.config at.templates ≡ true → batch ≡ bind_batch ls at t op n o → AllDistinct batch
bound_distinct ls at t n o op batch h is = subst AllDistinct (sym is) (two_distinct _ _ (inr (apart_too at.config at.templates h)))

-- the same row for the same questions
pub does_row : {A : Type 0} (r : Result A QuestionError) (old new : StoreState) (names others : List (List ℕ)) (batch batches : List Write)
    → names ≡ others → batch ≡ batches → Does r (batch_for old names batch) old new → Does r (batch_for old others batches) old new
does_row r old new names others batch batches a b = subst (λ x. Does r x old new) (λ i. batch_for old (a i) (b i))

pub does_same : {A : Type 0} (r : Result A QuestionError) (old new : StoreState) (a b : Result StoreState QuestionError) → a ≡ b → Does r a old new → Does r b old new
does_same r old new a b is = subst (λ x. Does r x old new) is

-- a template that is there, under the name that it is asked for
there : {A : Type 0} (n t t' : List ℕ) (found : Option ItemParts) (answer : Result A QuestionError) → option_map (λ _. t) found ≡ Some t' → (t' ≡ t) × (answer ≡ read_template n found (λ _. answer))
there n t t' None answer h = absurd (cc)
there n t t' (Some item) answer h = (cc, refl)

pub registers : (old : StoreState) (at : QuestionContext) (t n o t' : List ℕ) (found : Option (List ℕ)) (item : Option ItemParts) (has : Bool)
    → found ≡ option_map (λ _. t) (named_template old.layers at t) → found ≡ Some t' → item ≡ question old.layers at n → has ≡ has_other_template t' item → has ≡ false
    → batch_for old (n ∷ []) (register_batch old.layers at t' n o) ≡ registered old at t n o
registers old at t n o t' found item has named some q other none =
    let answer : Result StoreState QuestionError
    = if has_other_template t (question old.layers at n) then Err (Twice n) else batch_for old (n ∷ []) (register_batch old.layers at t n o) in
    let is = there n t t' (named_template old.layers at t) answer (sym named ∙ some) in
    let bare : has_other_template t (question old.layers at n) ≡ false = (λ i. has_other_template (sym is.0 i) (sym q i)) ∙ sym other ∙ none in
    ap (λ x. batch_for old (n ∷ []) (register_batch old.layers at x n o)) is.0
    ∙ ap (λ b. if b then Err (Twice n) else batch_for old (n ∷ []) (register_batch old.layers at t n o)) (sym bare)
    ∙ is.1
