-- A value that was set is told.
use Rattle.std.proofs.Common.{◌≡◌, ℕ, Bool, true, false, cond, List, [], ◌∷◌, Option, None, Some, refl, sym, ap, subst, ◌∙◌, inl, inr, arith}
use Rattle.std.specs.Prelude.{Result, Ok, Err, codes, ◌||◌, if◌then◌else◌}
use Rattle.std.specs.List.{list_any}
use Rattle.std.specs.FinMap as map
use Rattle.std.specs.FinMap.{get-insert}
use Rattle.std.specs.Cmp.Lexicographic.{nat_list_cmp_total}
use Rattle.std.proofs.lemmas.Map.Text.{is_eq-slice_cmp}
use Rattle.dc_text.specs.Names.{is_name}
use Rattle.dc_text.specs.Settled.{settled}
use Rattle.dc_item.specs.After.{after, after_at, asked, parts_eq}
use Rattle.dc_item.specs.Item.{ItemParts}
use Rattle.dc_item.specs.declared.op.Op.{Op}
use Rattle.dc_item.specs.declared.op.Op.TheVariants.{SetField}
use Rattle.dc_item.specs.declared.op.After.TheVariants.{Same, Changed, Gone}
use Rattle.dc_item.proofs.AfterLemmas.{parts_eq-Decides}
use Rattle.dc_proto.specs.Replies.{reply}
use Rattle.dc_proto.specs.declared.command.Command.TheVariants.{Get, Set}
use Rattle.dc_proto.specs.declared.reply.Reply.{Reply}
use Rattle.dc_store.specs.Plans.{StoreState, look, look_below, look_after, seen_after}
use Rattle.dc_store.specs.Batches.{Write, commit, all_done, is_refused}
use Rattle.dc_store.specs.StoreLaws.{KeepsApart}
use Rattle.dc_store.proofs.TakenLemmas.{row_seen}
use Rattle.dc_question.specs.Changes.{value_set, done_or, question_write}
use Rattle.dc_question.specs.Questions.{QuestionContext, value, template, read}
use Rattle.dc_question.specs.Readings.{value_of}
use Rattle.dc_question.specs.declared.errors.QuestionError.{QuestionError}
use Rattle.dc_question.specs.declared.errors.QuestionError.TheVariants as error
use Rattle.dc_session.specs.Answers.{nothing, answer, reply_write, for_question, reply_read, text_reply}
use Rattle.dc_session.specs.Machine.{HasDone}
use Rattle.dc_session.specs.Refusals.{refusal}
use Rattle.dc_session.specs.SessionState.{SessionState}
use Rattle.dc_session.specs.declared.stepped.Stepped.TheVariants.{Replied}

-- ---- the item that is left

abbrev value_op : List ℕ → Op
value_op text = SetField (codes "value") (settled text)

-- what is seen then has the value, where there was an item
abbrev HasValue : List ℕ → Option ItemParts → Type 0
HasValue text None = ⊥
HasValue text (Some item) = map.get item.fields (codes "value") ≡ Some (settled text)

asked_has : (text : List ℕ) (item : ItemParts) → map.get (asked (value_op text) item).fields (codes "value") ≡ Some (settled text)
asked_has text item = get-insert nat_list_cmp_total item.fields (codes "value") (settled text) (codes "value") ∙ ap (λ b. cond b (Some (settled text)) (map.get item.fields (codes "value"))) (is_eq-slice_cmp (codes "value") (codes "value"))

after_has : (text : List ℕ) (item : ItemParts) (below : Option ItemParts) → HasValue text (seen_after (Some item) below (after (value_op text) item))
after_has text item below = by_same (parts_eq (asked (value_op text) item) item) refl where
  by_same : (b : Bool) → parts_eq (asked (value_op text) item) item ≡ b → HasValue text (seen_after (Some item) below (after (value_op text) item))
  by_same true same = rw same (ap (λ (i : ItemParts). map.get i.fields (codes "value")) (sym ((parts_eq-Decides (asked (value_op text) item) item).0 same)) ∙ asked_has text item)
  by_same false other = rw other (asked_has text item)

never_gone : (text : List ℕ) (item : Option ItemParts) → after_at (value_op text) item ≡ Gone → ⊥
never_gone text None is = cc
never_gone text (Some item) is = by_same (parts_eq (asked (value_op text) item) item) refl where
  by_same : (b : Bool) → parts_eq (asked (value_op text) item) item ≡ b → ⊥
  by_same true same = let stays : after (value_op text) item ≡ Same = rw same refl in let both : Same ≡ Gone = sym stays ∙ is in cc
  by_same false other = let changes : after (value_op text) item ≡ Changed (asked (value_op text) item) = rw other refl in let both : Changed (asked (value_op text) item) ≡ Gone = sym changes ∙ is in cc

-- ---- what the write leaves

module _ (store : StoreState) (at : QuestionContext) (name text : List ℕ) (alone : KeepsApart at.config) (item : ItemParts) (there : look store.layers at.config name ≡ Some item) where
  abbrev the_write : Write
  the_write = question_write store.layers at name item (value_op text)

  seen_has : (seen : Option ItemParts) → seen ≡ look_after store.layers at.config name (value_op text) → HasValue text seen
  seen_has seen is = subst (HasValue text) (sym (is ∙ (λ i. seen_after (there i) (look_below store.layers at.config name) (after_at (value_op text) (there i))))) (after_has text item (look_below store.layers at.config name))

  left_has : is_refused store.layers the_write ≡ false → HasValue text (look (all_done store (the_write ∷ [])).layers at.config name)
  left_has taken = elim (row_seen store [] [] the_write alone taken (λ k d in'. absurd (omega (arith, in'))) (λ k d in'. absurd (omega (arith, in')))) [
    | inl seen ↦ seen_has (look (all_done store (the_write ∷ [])).layers at.config name) seen
    | inr itself ↦ absurd (never_gone text (look store.layers at.config name) itself.0)
  ]

-- ---- the reply

told_of : (state : SessionState) (name text : List ℕ) (seen : Option ItemParts) → HasValue text seen
    → (reply_read state [] (text_reply state) (read name seen (λ item. Ok (value_of state.at.lang item (template state.store.layers state.at item))))).stepped ≡ Replied (text_reply state (settled text))
told_of state name text None has = absurd has
told_of state name text (Some item) has = rw has refl

refused_code : (e : QuestionError) → (refusal [] e).code ≡ 10
refused_code (error.NoQuestion name) = refl
refused_code (error.NoTemplate name) = refl
refused_code error.NoField = refl
refused_code (error.CantChange name) = refl
refused_code (error.Twice name) = refl
refused_code error.OutOfMemory = refl

-- what a set leaves where it is confirmed
abbrev IsConfirmed : List ℕ → List ℕ → QuestionContext → Result StoreState QuestionError → Type 0
IsConfirmed name text at (Ok new) = HasValue text (look new.layers at.config name)
IsConfirmed name text at (Err e) = Unit {0}

first_false : (a : Bool) → (a || false) ≡ false → a ≡ false
first_false true is = cc
first_false false is = refl

confirmed : (store : StoreState) (at : QuestionContext) (name text : List ℕ) → KeepsApart at.config → (found : Option ItemParts) → look store.layers at.config name ≡ found
    → IsConfirmed name text at (read name found (λ item. done_or name (commit store (question_write store.layers at name item (value_op text) ∷ []))))
confirmed store at name text alone None is = tt
confirmed store at name text alone (Some item) is = by_test (list_any (is_refused store.layers) (the_write store at name text alone item is ∷ [])) refl where
  by_test : (b : Bool) → list_any (is_refused store.layers) (the_write store at name text alone item is ∷ []) ≡ b
      → IsConfirmed name text at (done_or name (commit store (question_write store.layers at name item (value_op text) ∷ [])))
  by_test true refused = rw refused tt
  by_test false free = rw free (left_has store at name text alone item is (first_false (is_refused store.layers (the_write store at name text alone item is)) free))

module _ (old mid : SessionState) (question_name text : List ℕ) (r : Reply) (alone : KeepsApart old.at.config) (done : HasDone (Set question_name text) old (Replied r) mid) (code : r.code ≡ 0) where
  not_refused : (e : QuestionError) → Replied r ≡ Replied (refusal [] e) → ⊥
  not_refused e same =
      let reply_is : r ≡ refusal [] e = cc in
      let ten : r.code ≡ 10 = ap (λ (x : Reply). x.code) reply_is ∙ refused_code e in
      let zero : r.code ≡ 0 = code in omega arith

  mid_at : mid.at ≡ old.at
  mid_at = ap (λ (s : SessionState). s.at) done.new_is

  by_row : (batch : Result StoreState QuestionError) → for_question question_name (λ name. value_set old.store old.at name text) ≡ batch → IsConfirmed question_name text old.at batch
      → HasValue text (look mid.store.layers mid.at.config question_name)
  by_row (Ok new) is has =
      let store_is : mid.store ≡ new = ap (λ (s : SessionState). s.store) done.new_is ∙ ap (λ (batch : Result StoreState QuestionError). (reply_write old (reply 0 (codes "value set")) batch).store) is in
      subst (λ (s : SessionState). HasValue text (look s.store.layers s.at.config question_name)) (λ i. record mid { store = sym store_is i; at = sym mid_at i }) has
  by_row (Err e) is has = absurd (not_refused e (done.stepped_is ∙ ap (λ (batch : Result StoreState QuestionError). (reply_write old (reply 0 (codes "value set")) batch).stepped) is))

  named : is_name question_name ≡ true
  named = by_name (is_name question_name) refl where
    by_name : (b : Bool) → is_name question_name ≡ b → is_name question_name ≡ true
    by_name true is = is
    by_name false none =
        absurd (not_refused (error.NoQuestion question_name)
        (done.stepped_is ∙ ap (λ (b : Bool). (reply_write old (reply 0 (codes "value set")) (if b then value_set old.store old.at question_name text else Err (error.NoQuestion question_name))).stepped) none))

  is_set : HasValue text (look mid.store.layers mid.at.config question_name)
  is_set =
      by_row (value_set old.store old.at question_name text) (ap (λ (b : Bool). if b then value_set old.store old.at question_name text else Err (error.NoQuestion question_name)) named)
      (confirmed old.store old.at question_name text alone (look old.store.layers old.at.config question_name) refl)

  pub set_told : (answer mid (Get question_name) nothing).stepped ≡ Replied (text_reply mid (settled text))
  set_told =
      ap (λ (b : Bool). (reply_read mid [] (text_reply mid) (if b then value mid.store.layers mid.at question_name else Err (error.NoQuestion question_name))).stepped) named
      ∙ told_of mid question_name text (look mid.store.layers mid.at.config question_name) is_set
