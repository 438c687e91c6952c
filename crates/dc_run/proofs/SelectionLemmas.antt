-- What selections keep: each layer stays one of its database.
use Rattle.std.proofs.Common.{◌≡◌, inl, inr, ℕ, Bool, true, false, List, [], ◌∷◌, ◌++◌, Option, Some, None, refl, sym, ap, subst, ◌∙◌}
use Rattle.std.specs.Prelude.{Result, Ok, Err, codes}
use Rattle.dc_text.specs.declared.memory.OutOfMemory.{OutOfMemory as NoMemory}
use Rattle.dc_words.specs.declared.stream.Line.{Line}
use Rattle.dc_words.specs.declared.stream.Line.TheVariants.{Whole, TooLong}
use Rattle.dc_item.specs.Item.{ItemParts}
use Rattle.dc_item.specs.declared.op.Op.{Op}
use Rattle.dc_item.specs.declared.op.Op.TheVariants.{SetFlag}
use Rattle.dc_outside.specs.State.{LinkState}
use Rattle.dc_outside.specs.declared.link.Piece.{Piece}
use Rattle.dc_serve.specs.Execution.{Transition, state_after, IsExecution}
use Rattle.dc_serve.specs.LinkRun.{Answered}
use Rattle.dc_serve.specs.declared.outcome.LinkEnd.{LinkEnd}
use Rattle.dc_serve.specs.declared.outcome.LinkEnd.TheVariants as link
use Rattle.dc_store.specs.Batches.{Write, commit, first_refused, names_of}
use Rattle.dc_store.specs.Plans.{StoreState}
use Rattle.dc_question.specs.Changes.{done_or, question_write, told_by}
use Rattle.dc_question.specs.Preseeding.{preseed_batch}
use Rattle.dc_question.specs.Questions.{QuestionContext, question, read}
use Rattle.dc_question.specs.declared.errors.QuestionError.{QuestionError}
use Rattle.dc_preseed.specs.Joiner.{taken}
use Rattle.dc_preseed.specs.Lines.{Outcome, done_by, done_or as done_with, line_set, reading_set, selected, selection_set}
use Rattle.dc_preseed.specs.Selections.{answer}
use Rattle.dc_preseed.specs.Selecting.{SelectorState, TakesSelection, LosesSelection, Finishes, FinishesLast, IsSelected, after_joined, after_line, after_outcome, taken_at_end}
use Rattle.dc_preseed.specs.declared.faults.SelectionError.{SelectionError}
use Rattle.dc_preseed.specs.declared.joining.Joined.{Joined}
use Rattle.dc_preseed.specs.declared.lines.LineDone.{LineDone}
use Rattle.dc_preseed.specs.declared.selections.Selection.{Selection}
use Rattle.dc_preseed.specs.declared.selections.Selection.TheVariants.{Value, Seen}
use Rattle.dc_session.proofs.FrameLaws.{row_keeps}
use Rattle.dc_run.specs.Ends.{IsEnded}
use Rattle.dc_run.specs.Jobs.{selections_end}
use Rattle.dc_run.proofs.KindLemmas.{specs_in, same_specs}

-- ---- one line

-- the row was done
committed_keeps : (store new : StoreState) (batch : List Write) → commit store batch ≡ Some new → specs_in new.layers ≡ specs_in store.layers
committed_keeps store new batch is = same_specs (names_of batch) store.layers new.layers (row_keeps store new batch is)

told_keeps : (store new : StoreState) (batch : List Write) (held : Option (List ℕ)) (done : Option StoreState) → commit store batch ≡ done → told_by held done ≡ Ok new → specs_in new.layers ≡ specs_in store.layers
told_keeps store new batch held None same is = cc
told_keeps store new batch held (Some left) same is =
    let here : left ≡ new = cc in
    ap (λ (s : StoreState). specs_in s.layers) (sym here) ∙ committed_keeps store left batch same

done_keeps : (store new : StoreState) (batch : List Write) (name : List ℕ) (done : Option StoreState) → commit store batch ≡ done → done_or name done ≡ Ok new → specs_in new.layers ≡ specs_in store.layers
done_keeps store new batch name None same is = cc
done_keeps store new batch name (Some left) same is =
    let here : left ≡ new = cc in
    ap (λ (s : StoreState). specs_in s.layers) (sym here) ∙ committed_keeps store left batch same

changed_keeps : (store new : StoreState) (at : QuestionContext) (name : List ℕ) (op : Op) (item : Option ItemParts)
    → read name item (λ i. done_or name (commit store (question_write store.layers at name i op ∷ []))) ≡ Ok new → specs_in new.layers ≡ specs_in store.layers
changed_keeps store new at name op None is = cc
changed_keeps store new at name op (Some item) is = done_keeps store new (question_write store.layers at name item op ∷ []) name (commit store (question_write store.layers at name item op ∷ [])) refl is

selected_keeps : (store new : StoreState) (at : QuestionContext) (said : Selection) (unseen : Bool) → selected store at said unseen ≡ Ok new → specs_in new.layers ≡ specs_in store.layers
selected_keeps store new at (Value owner name kind value) unseen is =
    let batch = preseed_batch store.layers at owner name kind value unseen in
    told_keeps store new batch (first_refused store.layers (name ∷ []) batch) (commit store batch) refl is
selected_keeps store new at (Seen name on) unseen is = changed_keeps store new at name (SetFlag (codes "seen") on) (question store.layers at name) is

-- the store of an outcome, or another
abbrev store_or : StoreState → Outcome → StoreState
store_or other (Ok (done, store)) = store
store_or other (Err error) = other

was_done_keeps : (store new : StoreState) (done other : LineDone) (made : Result StoreState QuestionError) → ((left : StoreState) → made ≡ Ok left → specs_in left.layers ≡ specs_in store.layers)
    → done_with done made ≡ Ok (other, new) → specs_in new.layers ≡ specs_in store.layers
was_done_keeps store new done other (Ok left) keeps is = ap (λ (o : Outcome). specs_in (store_or store o).layers) (sym is) ∙ keeps left refl
was_done_keeps store new done other (Err error) keeps is = cc

selection_keeps : (store new : StoreState) (at : QuestionContext) (said : Selection) (check unseen : Bool) (done : LineDone) → selection_set store at said check unseen ≡ Ok (done, new)
    → specs_in new.layers ≡ specs_in store.layers
selection_keeps store new at said true unseen done is = ap (λ (o : Outcome). specs_in (store_or store o).layers) (sym is)
selection_keeps store new at said false unseen done is = was_done_keeps store new (done_by said) done (selected store at said unseen) (λ left made. selected_keeps store left at said unseen made) is

reading_keeps : (store new : StoreState) (at : QuestionContext) (reading : Result (Option Selection) SelectionError) (check unseen : Bool) (done : LineDone) → reading_set store at reading check unseen ≡ Ok (done, new)
    → specs_in new.layers ≡ specs_in store.layers
reading_keeps store new at (Err error) check unseen done is = cc
reading_keeps store new at (Ok None) check unseen done is = ap (λ (o : Outcome). specs_in (store_or store o).layers) (sym is)
reading_keeps store new at (Ok (Some said)) check unseen done is = selection_keeps store new at said check unseen done is

outcome_keeps : (state : SelectorState) (number : ℕ) (line : List ℕ) (outcome : Outcome) → line_set state.store state.at line state.choices.check state.choices.unseen ≡ outcome
    → specs_in (after_outcome state number outcome).store.layers ≡ specs_in state.store.layers
outcome_keeps state number line (Ok (done, store)) is = reading_keeps state.store store state.at (answer line) state.choices.check state.choices.unseen done is
outcome_keeps state number line (Err error) is = refl

line_keeps : (state : SelectorState) (number : ℕ) (line : Line) → specs_in (after_line state number line).store.layers ≡ specs_in state.store.layers
line_keeps state number TooLong = refl
line_keeps state number (Whole line) = outcome_keeps state number line (line_set state.store state.at line state.choices.check state.choices.unseen) refl

joined_keeps : (state : SelectorState) (joined : Option Joined) → specs_in (after_joined state joined).store.layers ≡ specs_in state.store.layers
joined_keeps state None = refl
joined_keeps state (Some joined) = line_keeps state joined.first joined.whole

-- ---- all lines

takes_keep : (turns : List (Transition SelectorState)) (start : SelectorState) → IsExecution TakesSelection start turns → specs_in (state_after start turns).store.layers ≡ specs_in start.store.layers
takes_keep [] start course = refl
takes_keep (turn ∷ turns) start course =
    let takes = course.0 in
    let whole = taken start.joining turn.line in
    takes_keep turns turn.new course.2
    ∙ ap (λ (s : SelectorState). specs_in s.store.layers) takes.tells.new_is
    ∙ ap (λ (s : SelectorState). specs_in s.store.layers) takes.handled.1
    ∙ joined_keeps (record start { joining = whole.joining }) whole.whole

last_left : (start : SelectorState) (gone : List (Transition SelectorState)) (last : Transition SelectorState) → state_after start (gone ++ last ∷ []) ≡ last.new
last_left start [] last = refl
last_left start (turn ∷ gone) last = last_left turn.new gone last

module _ (start new : SelectorState) (turns : List (Transition SelectorState)) (rest : List Line) (talk : List Piece) (input : Option (List ℕ)) (before code : ℕ) where
  -- the state is the one that the turns leave, where the layers are saved
  turns_left : (served : LinkEnd NoMemory) → IsEnded (selections_end served) → Answered LosesSelection served start turns rest talk input before new code → new ≡ state_after start turns
  turns_left link.Done is answered = answered.are_said.state_is
  turns_left link.LinkFault is (inl lost) = lost.answered.are_said.state_is
  turns_left link.LinkFault is (inr cut) = cut.answered.state_is ∙ sym (last_left start cut.answered.gone cut.answered.last) ∙ ap (state_after start) (sym cut.answered.turns_are)
  turns_left link.TooLong is answered = answered.answered.are_said.state_is
  turns_left link.OutOfMemory is answered = absurd is
  turns_left (link.Broken error) is answered = absurd is

module _ (state left : SelectorState) (ended : LinkEnd NoMemory) (saved : IsEnded (selections_end ended)) where
  not_lost : ended ≡ link.OutOfMemory → ⊥
  not_lost is = subst (λ (e : LinkEnd NoMemory). IsEnded (selections_end e)) is saved

  at_last : FinishesLast state left ended → specs_in left.store.layers ≡ specs_in state.store.layers
  at_last (inl all) = ap (λ (s : SelectorState). specs_in s.store.layers) all.0.new_is ∙ joined_keeps (record state { joining = (taken_at_end state.joining).joining }) state.joining.held
  at_last (inr none) = absurd (not_lost none.1)

  -- what still went on keeps them too
  last_keeps : (served : LinkEnd NoMemory) → Finishes served state left ended → IsEnded (selections_end served) × (specs_in left.store.layers ≡ specs_in state.store.layers)
  last_keeps link.Done finishes = (tt, at_last finishes)
  last_keeps link.LinkFault finishes = (tt, ap (λ (s : SelectorState). specs_in s.store.layers) finishes.0)
  last_keeps link.TooLong finishes = (tt, ap (λ (s : SelectorState). specs_in s.store.layers) finishes.0)
  last_keeps link.OutOfMemory finishes = absurd (not_lost finishes.1)
  last_keeps (link.Broken error) finishes = absurd (not_lost finishes.1)

-- selections keep the layers those of their databases, where these are saved
pub selections_keep : (start left : SelectorState) (old new : LinkState) (ended : LinkEnd NoMemory) (before code : ℕ) → IsSelected start left old new ended before code → IsEnded (selections_end ended)
    → specs_in left.store.layers ≡ specs_in start.store.layers
selections_keep start left old new ended before code is saved =
    let run = is.serves.run in
    let last = last_keeps is.state left ended saved is.served is.finishes in
    last.1
    ∙ ap (λ (s : SelectorState). specs_in s.store.layers) (turns_left start is.state run.transitions run.rest run.pieces old.input before code is.served last.0 run.answered)
    ∙ takes_keep run.transitions start run.course
