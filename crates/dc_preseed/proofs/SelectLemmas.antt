-- What a line of selections leaves of the questions behind a link.
use Rattle.std.proofs.Common.{◌≡◌, ℕ, List, [], ◌∷◌, refl, sym, ap, subst, ◌∙◌, true, false, inl, arith}
use Rattle.std.specs.Prelude.{Bool, Option, Some, Result, Ok, Err, OnOk, OnErr, IfErr}
use Rattle.dc_text.specs.declared.memory.OutOfMemory.{OutOfMemory}
use Rattle.dc_words.specs.declared.stream.Line.TheVariants.{Whole}
use Rattle.dc_outside.specs.LinkCalls.{Tells}
use Rattle.dc_outside.specs.State.{LinkState}
use Rattle.dc_serve.specs.LinkRun.{ServesLink}
use Rattle.dc_serve.specs.declared.outcome.LinkEnd.{LinkEnd}
use Rattle.dc_serve.specs.declared.outcome.LinkEnd.TheVariants as link
use Rattle.dc_layer.specs.State.{LayerState}
use Rattle.dc_question.specs.Questions.{QuestionContext}
use Rattle.dc_store.specs.Plans.{StoreState, stored}
use Rattle.dc_store.specs.StoreLaws.{AreSameBut}
use Rattle.dc_store.proofs.RowLemmas.{same_all, same_all_refl}
use Rattle.dc_preseed.specs.Joiner.{Joining, Taken, at_start}
use Rattle.dc_preseed.specs.Lines.{Outcome, Sets, line_set, question_in}
use Rattle.dc_preseed.specs.Selecting.{SelectorState, Finishes, FinishesLast, HasSelected, IsSelected, Keeps, LosesJoined, LosesSelection, TakesSelection, TellsAll, selections_over, taken_at_end, after_joined, after_line, after_outcome, after_taken, done_text, fault_text, questions_in, refused_for}
use Rattle.dc_preseed.specs.declared.joining.Joined.{Joined}
use Rattle.dc_preseed.specs.declared.lines.LineDone.{LineDone}
use Rattle.dc_preseed.specs.declared.lines.LineFault.{LineFault}
use Rattle.dc_preseed.specs.declared.lines.LineFault.TheVariants as fault
use Rattle.dc_preseed.specs.declared.selected.Choices.{Choices}

-- ---- what a line came to

refused_so : (state new : SelectorState) (number : ℕ) (error : LineFault) (outcome : Outcome) (store : StoreState) (at : QuestionContext)
    → outcome ≡ Err error → store ≡ state.store → at ≡ state.at → new ≡ refused_for (record state { store = store; at = at }) number (fault_text error) → new ≡ after_outcome state number outcome
refused_so state new number error outcome store at is same stays keeps =
    keeps ∙ (λ i. refused_for (record state { store = same i; at = stays i }) number (fault_text error)) ∙ ap (after_outcome state number) (sym is)

kept_so : (state new : SelectorState) (number : ℕ) (done : Result LineDone LineFault) (outcome : Outcome) (store : StoreState) (at : QuestionContext)
    → Sets done outcome state.store store → at ≡ state.at → Keeps (record state { store = store; at = at }) number done new → new ≡ after_outcome state number outcome
kept_so state new number (Ok done) outcome store at sets stays keeps =
    keeps ∙ (λ i. record state { store = store; at = stays i; untold = done_text state.choices.verbose number done }) ∙ ap (after_outcome state number) (sym sets)
kept_so state new number (Err fault.TooFew) outcome store at sets stays keeps = refused_so state new number fault.TooFew outcome store at sets.0 sets.1 stays keeps
kept_so state new number (Err fault.BadName) outcome store at sets stays keeps = refused_so state new number fault.BadName outcome store at sets.0 sets.1 stays keeps
kept_so state new number (Err fault.BadType) outcome store at sets stays keeps = refused_so state new number fault.BadType outcome store at sets.0 sets.1 stays keeps
kept_so state new number (Err fault.BadFlagValue) outcome store at sets stays keeps = refused_so state new number fault.BadFlagValue outcome store at sets.0 sets.1 stays keeps
kept_so state new number (Err fault.NoQuestion) outcome store at sets stays keeps = refused_so state new number fault.NoQuestion outcome store at sets.0 sets.1 stays keeps
kept_so state new number (Err fault.CantChange) outcome store at sets stays keeps = refused_so state new number fault.CantChange outcome store at sets.0 sets.1 stays keeps
kept_so state new number (Err fault.OutOfMemory) outcome store at sets stays keeps = absurd keeps

-- a line that was set
pub line_so : {V E : Type 0} (result : Result V E) (state new : SelectorState) (number : ℕ) (line : List ℕ) (done : Result LineDone LineFault) (store : StoreState) (at : QuestionContext)
    → Sets done (line_set state.store state.at line state.choices.check state.choices.unseen) state.store store → at ≡ state.at
    → OnOk result (Keeps (record state { store = store; at = at }) number done new) → OnOk result (new ≡ after_line state number (Whole line))
line_so (Ok value) state new number line done store at sets stays keeps = kept_so state new number done _ store at sets stays keeps
line_so (Err error) state new number line done store at sets stays keeps = tt

-- ---- what want of memory leaves

-- a line was set, and there was no memory for what is to be told
pub line_lost : {V E : Type 0} (result : Result V E) (state new : SelectorState) (number : ℕ) (line : List ℕ) (store : StoreState) (at : QuestionContext)
    → AreSameBut (question_in line) state.store.layers store.layers → at ≡ state.at → (state.choices.check ≡ true → store ≡ state.store)
    → OnErr result (new ≡ record state { store = store; at = at }) → OnErr result (LosesJoined state (Some (record { first = number; whole = Whole line })) new)
line_lost (Ok value) state new number line store at others stays checked is = tt
line_lost (Err error) state new number line store at others stays checked is = rw is (record {
  at_is = stays;
  choices_are = refl;
  err_is = refl;
  refused_is = refl;
  others = same_all (question_in line ∷ []) (question_in line) state.store.layers store.layers (0, omega arith, refl) others;
  checked = checked;
})

-- nothing that counts was changed
pub lost_none : (state : SelectorState) (joining : Joining) (joined : Option Joined) → LosesJoined state joined (record state { joining = joining })
lost_none state joining joined = record {
  at_is = refl;
  choices_are = refl;
  err_is = refl;
  refused_is = refl;
  others = same_all_refl (questions_in joined) state.store.layers;
  checked = λ check. refl;
}

pub same_lost : {V E : Type 0} (result : Result V E) (state new : SelectorState) (joined : Option Joined) → OnErr result (new ≡ state) → OnErr result (LosesJoined state joined new)
same_lost (Ok value) state new joined is = tt
same_lost (Err error) state new joined is = rw is (lost_none state state.joining joined)

-- ---- a line ended a joined one

pub taken_so : {V E : Type 0} (result : Result V E) (state new : SelectorState) (joining : Joining) (joined : Option Joined) (taken : Taken) → record { joining = joining; whole = joined } ≡ taken
    → OnOk result (new ≡ after_joined (record state { joining = joining }) joined) → OnOk result (new ≡ after_taken state taken)
taken_so (Ok value) state new joining joined taken is done = done ∙ ap (after_taken state) is
taken_so (Err error) state new joining joined taken is done = tt

pub taken_lost : {V E : Type 0} (result : Result V E) (state new : SelectorState) (joining : Joining) (joined : Option Joined) (taken : Taken) → record { joining = joining; whole = joined } ≡ taken
    → OnErr result (LosesJoined (record state { joining = joining }) joined new) → OnErr result (LosesJoined state taken.whole new)
taken_lost (Ok value) state new joining joined taken is lost = tt
taken_lost (Err error) state new joining joined taken is lost = rw (← is) (record {
  at_is = lost.at_is;
  choices_are = lost.choices_are;
  err_is = lost.err_is;
  refused_is = lost.refused_is;
  others = lost.others;
  checked = lost.checked;
})

-- what doesn't look at the error
pub if_err : {V E : Type 0} (result : Result V E) (P : Type 0) → P → IfErr result (λ error. P)
if_err (Ok value) P p = tt
if_err (Err error) P p = p

-- the last line was done, and is told
pub last_told : (state mid left : SelectorState) → mid ≡ after_taken state (taken_at_end state.joining) → TellsAll mid left → FinishesLast state left link.Done
last_told state mid left is tells = inl (subst (λ (s : SelectorState). TellsAll s left) is tells, refl)

-- ---- what is told

-- what the line had to tell was told, and then what the layers told, which was forgotten
pub all_told : (old : SelectorState) (store : StoreState) (at : QuestionContext) (mid err : LinkState) (text told left : List ℕ) → store.layers ≡ old.store.layers → store.told ≡ [] → at ≡ old.at
    → text ≡ old.untold → Tells text old.err mid → told ≡ old.store.told → Tells told mid err → left ≡ [] → TellsAll old (record old { store = store; at = at; err = err; untold = left })
all_told old store at mid err text told left same forgot stays has first had second none = record {
  told = (mid, subst (λ t. Tells t old.err mid) has first, subst (λ t. Tells t mid err) had second);
  new_is = λ i. record old { store = stored (same i) (forgot i); at = stays i; err = err; untold = none i };
}

-- ---- the run

-- selections that began as these do, of equal parts
pub selected_as : (joining : Joining) (layers others : List LayerState) (told : List ℕ) (at other : QuestionContext) (choices chosen : Choices) (err : LinkState) (untold : List ℕ) (refused : Bool)
    (left : SelectorState) (old new : LinkState) (ended : LinkEnd OutOfMemory) (before code : ℕ)
    → IsSelected (record { joining = joining; store = stored layers told; at = at; choices = choices; err = err; untold = untold; refused = refused }) left old new ended before code
    → joining ≡ at_start → layers ≡ others → told ≡ [] → at ≡ other → choices ≡ chosen → untold ≡ [] → refused ≡ false
    → IsSelected (selections_over others other chosen err) left old new ended before code
selected_as joining layers others told at other choices chosen err untold refused left old new ended before code selected start are none same chooses nothing taken =
    let begun : ◌≡◌ {A = SelectorState} (record { joining = joining; store = stored layers told; at = at; choices = choices; err = err; untold = untold; refused = refused }) (selections_over others other chosen err) =
    λ i. record { joining = start i; store = stored (are i) (none i); at = same i; choices = chooses i; err = err; untold = nothing i; refused = taken i } in
    subst (λ (s : SelectorState). IsSelected s left old new ended before code) begun selected

pub served_so : (start state left : SelectorState) (old new : LinkState) (served ended : LinkEnd OutOfMemory) (before code : ℕ) → ServesLink TakesSelection LosesSelection old new start served state before code → Finishes served state left ended
    → IsSelected start left old new ended before code
served_so start state left old new served ended before code serves finishes = record { state = state; served = served; serves = serves; finishes = finishes }

pub handed_back : (start left : SelectorState) (layers : List LayerState) (err : LinkState) (refused : Bool) (old new : LinkState) (ended : LinkEnd OutOfMemory) (before code : ℕ)
    → IsSelected start left old new ended before code → layers ≡ left.store.layers → err ≡ left.err → refused ≡ left.refused → HasSelected start layers err refused old new ended before code
handed_back start left layers err refused old new ended before code selected are told same = record { left = left; selected = selected; layers_are = are; err_is = told; refused_is = same }
