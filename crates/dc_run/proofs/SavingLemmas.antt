-- What the lines of a session with its saves do: each is one of the session by itself, or a save of all its layers.
use Rattle.std.proofs.Common.{◌≡◌, ◌⊎◌, inl, inr, Bool, true, false, true≢false, if◌then◌else◌, List, [], ◌∷◌, map as each, refl, sym, ap, subst, ◌∙◌}
use Rattle.std.specs.List.{AllByRecursion}
use Rattle.std.specs.Prelude.{ℕ, Ok, Err}
use Rattle.dc_words.specs.declared.stream.Line.{Line}
use Rattle.dc_words.specs.declared.stream.Line.TheVariants.{Whole, TooLong}
use Rattle.dc_outside.specs.State.{FilesState, LinkState}
use Rattle.dc_proto.specs.Commands.{heard}
use Rattle.dc_proto.specs.declared.command.Heard.{Heard}
use Rattle.dc_proto.specs.declared.command.Heard.TheVariants.{Nothing, Known, Refused}
use Rattle.dc_question.specs.Questions.{QuestionContext}
use Rattle.dc_layer.specs.State.{LayerState, saved}
use Rattle.dc_save.specs.declared.saving.SaveError.{SaveError}
use Rattle.dc_store.specs.Plans.{stored}
use Rattle.dc_serve.specs.Execution.{Transition, state_after, IsExecution}
use Rattle.dc_serve.specs.declared.machine.Response.{Response}
use Rattle.dc_serve.specs.declared.outcome.LinkEnd.{LinkEnd}
use Rattle.dc_session.specs.Answers.{names_on}
use Rattle.dc_session.specs.Machine.{TakesLine, TellsStore, Steps, StepsHeard, asks_to_save, sent_in}
use Rattle.dc_session.specs.Serving.{IsServedBy, Resources}
use Rattle.dc_session.specs.SessionState.{SessionState, ScreenState}
use Rattle.dc_session.specs.declared.asking.Asking.{Asking}
use Rattle.dc_session.specs.declared.policy.AskPolicy.{AskPolicy}
use Rattle.dc_session.specs.declared.stepped.Stepped.{Stepped}
use Rattle.dc_session.specs.declared.stepped.Stepped.TheVariants.{Silent, Replied, Save as Saving, Stopped}
use Rattle.dc_session.proofs.DiskLaws.{takes_reads}
use Rattle.dc_session.proofs.FrameLaws.{others_stay}
use Rattle.dc_session.proofs.SaveLemmas.{saves_asked, saves_alone}
use Rattle.dc_session.proofs.TerminalLaws.{AsksNobody, CountsNothing, course_counts, takes_nobody}
use Rattle.dc_run.specs.Inside.{SavesAsked, is_saving}
use Rattle.dc_run.specs.Kills.{AllDone}
use Rattle.dc_run.specs.Saves.{IsSave, Save, AreSaves}
use Rattle.dc_run.specs.SavingSession.{HandlesBy, HandlesSaving, TakesSaving, SavesAll, FailsToSave, BreaksSaving, IsServedSaving, save_of, saves_in}
use Rattle.dc_run.specs.declared.saving_session.SavingBreak.{SavingBreak}
use Rattle.dc_run.proofs.KindLemmas.{Kind, kind_of, specs_in, same_specs}
use Rattle.dc_run.proofs.Kills.{saves_joined, done_joined, each_joined}

-- ---- one line

by_asked : (old mid new : SessionState) (line : Line) (did : Response) (asks : Bool) → HandlesBy asks old line did mid → TellsStore mid new → TakesLine old line did new ⊎ (SavesAll old did mid × TellsStore mid new)
by_asked old mid new line did true saves tells = inr (saves, tells)
by_asked old mid new line did false handled tells = inl (record { mid = mid; handled = handled; tells = tells })

-- a line is one of the session by itself, or all layers are saved at it
pub takes_saving : (old new : SessionState) (line : Line) (did : Response) → (takes : TakesSaving old line did new) → TakesLine old line did new ⊎ (SavesAll old did takes.mid × TellsStore takes.mid new)
takes_saving old new line did takes = by_asked old takes.mid new line did (asks_to_save old.asking.escape line) takes.handled takes.tells

-- by whether it asks for a save
pub saves_then : (old new : SessionState) (line : Line) (did : Response) → (takes : TakesSaving old line did new) → asks_to_save old.asking.escape line ≡ true → SavesAll old did takes.mid
saves_then old new line did takes asks = subst (λ (b : Bool). HandlesBy b old line did takes.mid) asks takes.handled

pub takes_then : (old new : SessionState) (line : Line) (did : Response) → TakesSaving old line did new → asks_to_save old.asking.escape line ≡ false → TakesLine old line did new
takes_then old new line did takes asks = record { mid = takes.mid; handled = subst (λ (b : Bool). HandlesBy b old line did takes.mid) asks takes.handled; tells = takes.tells }

-- ---- what a save leaves

saved_kinds : (layers : List LayerState) → specs_in (each saved layers) ≡ specs_in layers
saved_kinds [] = refl
saved_kinds (layer ∷ layers) = ap (λ (l : List Kind). kind_of layer ∷ l) (saved_kinds layers)

abbrev pub specs_of : SessionState → List Kind
specs_of state = specs_in state.store.layers

module _ (old new : SessionState) (did : Response) (saves : SavesAll old did new) where
  pub kept_terminal : new.terminal ≡ old.terminal
  kept_terminal = ap (λ (s : SessionState). s.terminal) saves.new_is

  pub kept_err : new.err ≡ old.err
  kept_err = ap (λ (s : SessionState). s.err) saves.new_is

  pub kept_at : new.at ≡ old.at
  kept_at = ap (λ (s : SessionState). s.at) saves.new_is

  pub kept_owner : new.owner ≡ old.owner
  kept_owner = ap (λ (s : SessionState). s.owner) saves.new_is

  pub kept_policy : new.policy ≡ old.policy
  kept_policy = ap (λ (s : SessionState). s.policy) saves.new_is

  pub kept_asking : new.asking ≡ old.asking
  kept_asking = ap (λ (s : SessionState). s.asking) saves.new_is

  pub kept_told : new.store.told ≡ old.store.told
  kept_told = ap (λ (s : SessionState). s.store.told) saves.new_is

  pub saved_layers : new.store.layers ≡ each saved old.store.layers
  saved_layers = ap (λ (s : SessionState). s.store.layers) saves.new_is

  -- each layer stays one of its database
  pub kept_specs : specs_of new ≡ specs_of old
  kept_specs = ap specs_in saved_layers ∙ saved_kinds old.store.layers

  -- no call of the files failed
  pub kept_counts : new.files.counts ≡ old.files.counts
  kept_counts = saves.is.counts

-- ---- what a line keeps

heard_kept : (said : Heard) (old new : SessionState) (did : Stepped) → StepsHeard said old did new → specs_of new ≡ specs_of old
heard_kept Nothing old new did steps = ap specs_of steps.1
heard_kept (Known command) old new did steps = same_specs (names_on old command steps.given) old.store.layers new.store.layers (others_stay command old new did steps)
heard_kept (Refused reply) old new did steps = ap specs_of steps.1

steps_kept : (old new : SessionState) (line : Line) (did : Stepped) → Steps old line did new → specs_of new ≡ specs_of old
steps_kept old new TooLong did steps = ap specs_of steps.1
steps_kept old new (Whole line) did steps = heard_kept (heard old.asking.escape line) old new did steps

takes_kept : (old new : SessionState) (line : Line) (did : Response) → TakesLine old line did new → specs_of new ≡ specs_of old
takes_kept old new line did takes = ap specs_of takes.tells.new_is ∙ steps_kept old takes.mid line takes.handled.stepped takes.handled.steps

-- each layer stays one of its database
pub line_keeps : (old new : SessionState) (line : Line) (did : Response) → TakesSaving old line did new → specs_of new ≡ specs_of old
line_keeps old new line did takes = elim (takes_saving old new line did takes) [
  | inl alone ↦ takes_kept old new line did alone
  | inr all ↦ ap specs_of all.1.new_is ∙ kept_specs old takes.mid did all.0
]

-- the terminal counts nothing
pub line_counts : (old new : SessionState) (line : Line) (did : Response) → TakesSaving old line did new → CountsNothing old new
line_counts old new line did takes = elim (takes_saving old new line did takes) [
  | inl alone ↦ course_counts old (record { line = line; did = did; new = new } ∷ []) (alone, (λ stop. refl), tt)
  | inr all ↦ ap (λ (s : SessionState). s.terminal.link.counts) all.1.new_is ∙ ap (λ (t : ScreenState). t.link.counts) (kept_terminal old takes.mid did all.0)
]

-- a session that asks nobody stays one
pub line_nobody : (old new : SessionState) (line : Line) (did : Response) → AsksNobody old → TakesSaving old line did new → AsksNobody new
line_nobody old new line did nobody takes = elim (takes_saving old new line did takes) [
  | inl alone ↦ takes_nobody line old new did nobody alone
  | inr all ↦ ap (λ (s : SessionState). s.policy.frontend) all.1.new_is ∙ ap (λ (p : AskPolicy). p.frontend) (kept_policy old takes.mid did all.0) ∙ nobody
]

-- ---- what all lines keep

pub lines_keep : (start : SessionState) (turns : List (Transition SessionState)) → IsExecution TakesSaving start turns → specs_of (state_after start turns) ≡ specs_of start
lines_keep start [] course = refl
lines_keep start (turn ∷ turns) course = lines_keep turn.new turns course.2 ∙ line_keeps start turn.new turn.line turn.did course.0

pub lines_count : (start : SessionState) (turns : List (Transition SessionState)) → IsExecution TakesSaving start turns → CountsNothing start (state_after start turns)
lines_count start [] course = refl
lines_count start (turn ∷ turns) course = lines_count turn.new turns course.2 ∙ line_counts start turn.new turn.line turn.did course.0

pub lines_nobody : (start : SessionState) (turns : List (Transition SessionState)) → AsksNobody start → IsExecution TakesSaving start turns → AsksNobody (state_after start turns)
lines_nobody start [] nobody course = nobody
lines_nobody start (turn ∷ turns) nobody course = lines_nobody turn.new turns (line_nobody start turn.new turn.line turn.did nobody course.0) course.2

-- ---- their saves

-- the save of a line, if it asks for one
abbrev made : Bool → SessionState → FilesState → List Save
made asks old files = if asks then save_of old files (Ok tt) ∷ [] else []

line_saves : (asks : Bool) (old mid new : SessionState) (line : Line) (did : Response) → HandlesBy asks old line did mid → TellsStore mid new → AreSaves old.files.view.disk (made asks old new.files) new.files.view.disk
line_saves true old mid new line did saves tells = (refl, subst (λ (f : FilesState). IsSave (save_of old f (Ok tt))) (sym (ap (λ (s : SessionState). s.files) tells.new_is)) saves.is, (λ failed. refl), refl)
line_saves false old mid new line did handled tells = takes_reads old new line did (record { mid = mid; handled = handled; tells = tells })

made_done : (asks : Bool) (old : SessionState) (files : FilesState) → AllDone (made asks old files)
made_done true old files = (refl, tt)
made_done false old files = tt

-- a save is of layers of these databases
abbrev pub IsOfKinds : List Kind → Save → Type 0
IsOfKinds kinds save = specs_in save.layers ≡ kinds

made_kept : (asks : Bool) (old : SessionState) (files : FilesState) (kinds : List Kind) → specs_of old ≡ kinds → AllByRecursion (IsOfKinds kinds) (made asks old files)
made_kept true old files kinds is = (is, tt)
made_kept false old files kinds is = tt

-- they are all done
pub saves_done : (start : SessionState) (turns : List (Transition SessionState)) → AllDone (saves_in start turns)
saves_done start [] = tt
saves_done start (turn ∷ turns) =
    let asks = asks_to_save start.asking.escape turn.line in
    done_joined (made asks start turn.new.files) (saves_in turn.new turns) (made_done asks start turn.new.files) (saves_done turn.new turns)

-- they alone change the disk
pub lines_save : (start : SessionState) (turns : List (Transition SessionState)) → IsExecution TakesSaving start turns → AreSaves start.files.view.disk (saves_in start turns) (state_after start turns).files.view.disk
lines_save start [] course = refl
lines_save start (turn ∷ turns) course =
    let asks = asks_to_save start.asking.escape turn.line in
    saves_joined start.files.view.disk turn.new.files.view.disk (state_after turn.new turns).files.view.disk (made asks start turn.new.files) (saves_in turn.new turns)
    (line_saves asks start course.0.mid turn.new turn.line turn.did course.0.handled course.0.tells) (inl (made_done asks start turn.new.files)) (lines_save turn.new turns course.2)

-- each is of layers of the same databases
pub saves_kept : (start : SessionState) (turns : List (Transition SessionState)) → IsExecution TakesSaving start turns → (kinds : List Kind) → specs_of start ≡ kinds → AllByRecursion (IsOfKinds kinds) (saves_in start turns)
saves_kept start [] course kinds is = tt
saves_kept start (turn ∷ turns) course kinds is =
    let asks = asks_to_save start.asking.escape turn.line in
    each_joined (IsOfKinds kinds) (made asks start turn.new.files) (saves_in turn.new turns) (made_kept asks start turn.new.files kinds is)
    (saves_kept turn.new turns course.2 kinds (line_keeps start turn.new turn.line turn.did course.0 ∙ is))

-- ---- how the machine handles a line

save_so : (stepped : Stepped) → is_saving stepped ≡ true → stepped ≡ Saving
save_so Saving is = refl
save_so Silent is = absurd (true≢false (sym is))
save_so (Replied reply) is = absurd (true≢false (sym is))
save_so Stopped is = absurd (true≢false (sym is))

-- a line that came to no save is handled by the session alone
module _ (old new : SessionState) (line : Line) (stepped : Stepped) (did : Response) (steps : Steps old line stepped new) (other : is_saving stepped ≡ false) (did_is : did ≡ sent_in old.asking.escape stepped) where
  by_asking : (asks : Bool) → asks_to_save old.asking.escape line ≡ asks → HandlesBy asks old line did new
  by_asking true is = absurd (true≢false (sym (ap is_saving (saves_asked old new stepped line steps is).0) ∙ other))
  by_asking false is = record { stepped = stepped; steps = steps; did_is = did_is }

  pub handled_alone : HandlesSaving old line did new
  handled_alone = by_asking (asks_to_save old.asking.escape line) refl

-- and one that came to a save by that
module _ (old mid new : SessionState) (line : Line) (stepped : Stepped) (steps : Steps old line stepped mid) (is : is_saving stepped ≡ true) where
  asked : asks_to_save old.asking.escape line ≡ true
  asked = saves_alone old mid line (subst (λ (s : Stepped). Steps old line s mid) (save_so stepped is) steps)

  unchanged : mid ≡ old
  unchanged = (saves_asked old mid stepped line steps asked).1

  pub handled_saving : (did : Response) → did ≡ sent_in old.asking.escape stepped → SavesAsked mid new (Ok tt) → HandlesSaving old line did new
  handled_saving did did_is saves =
      let all : SavesAsked old new (Ok tt) = subst (λ (s : SessionState). SavesAsked s new (Ok tt)) unchanged saves in
      subst (λ (b : Bool). HandlesBy b old line did new) (sym asked) (record { is = all.is; did_is = did_is ∙ ap (sent_in old.asking.escape) (save_so stepped is); new_is = all.new_is })

  pub failed_saving : (error : SaveError) → SavesAsked mid new (Err error) → FailsToSave old line error new
  failed_saving error saves =
      let none : SavesAsked old new (Err error) = subst (λ (s : SessionState). SavesAsked s new (Err error)) unchanged saves in
      record { asks = asked; is = none.is; new_is = none.new_is }

-- a session over the same, but for its layers and what they told
pub same_session : (layers others : List LayerState) (told tells : List ℕ) (files : FilesState) (terminal : ScreenState) (err : LinkState) (at other : QuestionContext) (owner name : List ℕ) (policy : AskPolicy) (asking : Asking)
    → others ≡ layers → tells ≡ told → other ≡ at → name ≡ owner
    → ◌≡◌ {A = SessionState} (record { store = stored others tells; files = files; terminal = terminal; err = err; at = other; owner = name; policy = policy; asking = asking })
    (record { store = stored layers told; files = files; terminal = terminal; err = err; at = at; owner = owner; policy = policy; asking = asking })
same_session layers others told tells files terminal err at other owner name policy asking are said same named =
    λ i. record { store = stored (are i) (said i); files = files; terminal = terminal; err = err; at = same i; owner = named i; policy = policy; asking = asking }

-- ---- a session that was served

-- its saves are those of its lines, and the one at which it broke off
pub saving_served : (start : SessionState) (left : Resources) (old new : LinkState) (ended : LinkEnd SavingBreak) (before code : ℕ) → IsServedBy TakesSaving BreaksSaving start left old new ended before code
    → (saves : List Save) × IsServedSaving start left old new ended before code saves
saving_served start left old new ended before code by = (_, record { by = by; saves_are = refl })
