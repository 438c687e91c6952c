-- Values that several questions get at once.
use Rattle.std.proofs.Common.{◌≡◌, ◌≢◌, ℕ, true, false, not, ◌||◌, List, [], ◌∷◌, Option, Some, None, Ok, map as each, refl, sym, ap, inl, ◌∙◌}
use Rattle.std.specs.Prelude.{codes}
use Rattle.std.specs.List.{All, AllByRecursion, list_any}
use Rattle.std.proofs.lemmas.List.Elements.{All-nil, All-cons, All-head, All-tail, All-map}
use Rattle.std.proofs.lemmas.List.Kept.{AllPairs-cons}
use Rattle.dc_text.specs.Maps.{AreDistinct as AllDiffer}
use Rattle.dc_text.specs.Settled.{settled}
use Rattle.dc_conf.specs.Plans.{IsOver}
use Rattle.dc_item.specs.Item.{ItemParts}
use Rattle.dc_item.specs.After.{after_at}
use Rattle.dc_item.specs.declared.op.After.TheVariants.{Gone}
use Rattle.dc_item.specs.declared.op.Op.TheVariants.{SetField}
use Rattle.dc_item.proofs.AfterLemmas.{after_gone}
use Rattle.dc_layer.specs.State.{LayerState}
use Rattle.dc_store.specs.Plans.{StoreState, look}
use Rattle.dc_store.specs.Batches.{Write, AreDistinct, AllDistinct, AreOver, names_of, is_refused, all_done}
use Rattle.dc_store.proofs.Changeable.{changeable_taken}
use Rattle.dc_question.specs.Changes.{value_write, values_set}
use Rattle.dc_question.specs.Questions.{QuestionContext, IsSetOver, kind, can_change}
use Rattle.dc_question.proofs.ApartLemmas.{no_pairs}
use Rattle.dc_question.proofs.RefusalLemmas.{row_left}

module _ (ls : List LayerState) (at : QuestionContext) where
  pub values_over : (answers : List (List ℕ × List ℕ)) (count : ℕ) → IsSetOver at count → AreOver (each (value_write ls at) answers) count
  values_over answers count over = All-map (λ (w : Write). IsOver w.plan count) (value_write ls at) answers (λ k d h. over.config)

  others : (a : List ℕ × List ℕ) (answers : List (List ℕ × List ℕ)) → AllByRecursion (λ other. other ≢ a.0) (each (λ b. b.0) answers)
      → All (AreDistinct (value_write ls at a)) (each (value_write ls at) answers)
  others a [] h = All-nil (AreDistinct (value_write ls at a))
  others a (b ∷ answers) h =
      All-cons (AreDistinct (value_write ls at a)) (value_write ls at b) (each (value_write ls at) answers) (inl (λ e. h.0 (sym e))) (others a answers h.1)

  -- the writes that give questions of distinct names their values are on different items
  pub values_distinct : (answers : List (List ℕ × List ℕ)) → AllDiffer (each (λ a. a.0) answers) → AllDistinct (each (value_write ls at) answers)
  values_distinct [] d = no_pairs AreDistinct
  values_distinct (a ∷ answers) d =
      AllPairs-cons AreDistinct (value_write ls at a) (each (value_write ls at) answers) (others a answers d.0) (values_distinct answers d.1)

  pub names_written : (answers : List (List ℕ × List ℕ)) → names_of (each (value_write ls at) answers) ≡ each (λ a. a.0) answers
  names_written [] = refl
  names_written (a ∷ answers) = ap (λ l. a.0 ∷ l) (names_written answers)

-- ---- questions that can be changed

-- a field that is set leaves the item
set_stays : (key value : List ℕ) (item : Option ItemParts) → after_at (SetField key value) item ≡ Gone → ⊥
set_stays key value None e = cc
set_stays key value (Some parts) e = (after_gone (SetField key value) parts).0 e

-- the write that gives one its value isn't refused
value_taken : (ls : List LayerState) (at : QuestionContext) (a : List ℕ × List ℕ) → can_change ls at a.0 ≡ true → is_refused ls (value_write ls at a) ≡ false
value_taken ls at a h =
    ap not (changeable_taken ls at.config a.0 (kind ls at a.0) (SetField (codes "value") (settled a.1)) h (set_stays (codes "value") (settled a.1) (look ls at.config a.0)))

values_taken : (ls : List LayerState) (at : QuestionContext) (answers : List (List ℕ × List ℕ)) → All (λ a. can_change ls at a.0 ≡ true) answers
    → list_any (is_refused ls) (each (value_write ls at) answers) ≡ false
values_taken ls at [] all = refl
values_taken ls at (a ∷ answers) all =
    ap (λ b. b || list_any (is_refused ls) (each (value_write ls at) answers)) (value_taken ls at a (All-head (λ a. can_change ls at a.0 ≡ true) a answers all))
    ∙ values_taken ls at answers (All-tail (λ a. can_change ls at a.0 ≡ true) a answers all)

-- all of them get their values
pub values_left : (store : StoreState) (at : QuestionContext) (answers : List (List ℕ × List ℕ)) → All (λ a. can_change store.layers at a.0 ≡ true) answers
    → values_set store at answers ≡ Ok (all_done store (each (value_write store.layers at) answers))
values_left store at answers all = row_left store (each (λ a. a.0) answers) (each (value_write store.layers at) answers) (values_taken store.layers at answers all)
