-- What becomes of a command, from what the call on questions answered and what is said of it.
use Rattle.std.proofs.Common.{◌≡◌, ℕ, List, [], refl, sym, ap, subst, ◌∙◌, inr}
use Rattle.std.specs.Prelude.{Result, Ok, Err, IfOk}
use Rattle.dc_text.specs.declared.memory.OutOfMemory.{OutOfMemory}
use Rattle.dc_proto.specs.declared.command.Command.{Command}
use Rattle.dc_proto.specs.declared.reply.Reply.{Reply}
use Rattle.dc_store.specs.Plans.{StoreState}
use Rattle.dc_store.specs.StoreLaws.{AreSameButAll}
use Rattle.dc_store.proofs.RowLemmas.{same_all_refl}
use Rattle.dc_question.specs.Changes.{Does as DoesChange}
use Rattle.dc_question.specs.Questions.{Answers}
use Rattle.dc_question.specs.declared.errors.QuestionError.{QuestionError}
use Rattle.dc_question.specs.declared.errors.QuestionError.TheVariants as error
use Rattle.dc_session.specs.SessionState.{FilesState, ScreenState, SessionState}
use Rattle.dc_session.specs.Answers.{CommandInputs, CommandOutcome, answer, names_on, reply_write, reply_read}
use Rattle.dc_session.specs.Inside.{TellsRefusal, Tells, Comes, ComesAsking}
use Rattle.dc_session.specs.Machine.{Gives, Does}
use Rattle.dc_session.specs.Refusals.{refusal, no_template}
use Rattle.dc_session.specs.declared.stepped.Stepped.{Stepped}
use Rattle.dc_session.specs.declared.stepped.Stepped.TheVariants.{Replied}

-- ---- what is said of a refusal

pub no_template_told : (field name : List ℕ) (result : Result Stepped OutOfMemory) → IfOk result (λ did. did ≡ Replied (no_template name)) → TellsRefusal field (error.NoTemplate name) result
no_template_told field name (Ok did) told = told
no_template_told field name (Err memory) told = tt

-- ---- what a command comes to

module _ (names : List (List ℕ)) (old new : SessionState) (r : Reply) (batch : Result StoreState QuestionError) (same : new ≡ record old { store = new.store }) where
  not_done : (e : QuestionError) → (batch ≡ Err e) × (new.store ≡ old.store) → (did : Stepped) → did ≡ Replied (refusal [] e) → Comes (reply_write old r batch) names old new (Ok did)
  not_done e left did told = rw left.0 (told, same ∙ ap (λ (s : StoreState). record old { store = s }) left.1)

  -- a call that writes
  pub wrote : AreSameButAll names old.store.layers new.store.layers → (call : Result (Unit {0}) QuestionError) → DoesChange call batch old.store new.store → (result : Result Stepped OutOfMemory)
      → Tells [] (λ _. r) call result → Comes (reply_write old r batch) names old new result
  wrote others (Ok unit) left (Ok did) told = rw left (told, same)
  wrote others (Err (error.NoQuestion name)) left (Ok did) told = not_done (error.NoQuestion name) left did told
  wrote others (Err (error.NoTemplate name)) left (Ok did) told = not_done (error.NoTemplate name) left did told
  wrote others (Err error.NoField) left (Ok did) told = not_done error.NoField left did told
  wrote others (Err (error.CantChange name)) left (Ok did) told = not_done (error.CantChange name) left did told
  wrote others (Err (error.Twice name)) left (Ok did) told = not_done (error.Twice name) left did told
  wrote others (Err error.OutOfMemory) left (Ok did) told = absurd told
  wrote others call left (Err memory) told = (others, same)

module _ (names : List (List ℕ)) (old : SessionState) where
  -- a command that writes nothing
  pub unwritten : (outcome : CommandOutcome) → outcome.store ≡ old.store → outcome.asking ≡ old.asking → (result : Result Stepped OutOfMemory) → IfOk result (λ did. did ≡ outcome.stepped) → Comes outcome names old old result
  unwritten outcome same kept (Ok did) told = (told, λ i. record old { store = sym same i; asking = sym kept i })
  unwritten outcome same kept (Err memory) told = (same_all_refl names old.store.layers, refl)

  module _ {A : Type 0} (field : List ℕ) (reply : A → Reply) (reading : Result A QuestionError) where
    not_read : (e : QuestionError) → reading ≡ Err e → (did : Stepped) → did ≡ Replied (refusal field e) → Comes (reply_read old field reply reading) names old old (Ok did)
    not_read e answers did told = rw answers (told, refl)

    -- a call that reads
    pub read : (call : Result A QuestionError) → Answers call reading → (result : Result Stepped OutOfMemory) → Tells field reply call result → Comes (reply_read old field reply reading) names old old result
    read (Ok a) answers (Ok did) told = rw answers (told, refl)
    read (Err (error.NoQuestion name)) answers (Ok did) told = not_read (error.NoQuestion name) answers did told
    read (Err (error.NoTemplate name)) answers (Ok did) told = not_read (error.NoTemplate name) answers did told
    read (Err error.NoField) answers (Ok did) told = not_read error.NoField answers did told
    read (Err (error.CantChange name)) answers (Ok did) told = not_read (error.CantChange name) answers did told
    read (Err (error.Twice name)) answers (Ok did) told = not_read (error.Twice name) answers did told
    read (Err error.OutOfMemory) answers (Ok did) told = absurd told
    read call answers (Err memory) told = (same_all_refl names old.store.layers, refl)

-- ---- what the call of the session did

-- what it was given, then what the command came to
pub asking_does : (command : Command) (given : CommandInputs) (old new : SessionState) (files : FilesState) (terminal : ScreenState) (outcome : CommandOutcome) (names : List (List ℕ)) (result : Result Stepped OutOfMemory)
    → Gives command old given files terminal → outcome ≡ answer old command given → names ≡ names_on old command given
    → ComesAsking outcome names (record old { files = files; terminal = terminal }) new result → Does command old new result
asking_does command given old new files terminal outcome names (Ok did) gives alike same comes =
    let kept : files ≡ new.files = ap (λ (s : SessionState). s.files) (sym comes.1) in
    let left : terminal ≡ new.terminal = ap (λ (s : SessionState). s.terminal) (sym comes.1) in
    record {
      given = given;
      gives = subst (λ (f : FilesState). Gives command old given f new.terminal) kept (subst (λ (t : ScreenState). Gives command old given files t) left gives);
      stepped_is = comes.0 ∙ ap (λ (o : CommandOutcome). o.stepped) alike;
      new_is = comes.1 ∙ (λ i. record old { store = (alike i).store; files = kept i; terminal = left i; asking = (alike i).asking });
    }
asking_does command given old new files terminal outcome names (Err memory) gives alike same comes =
    let kept : files ≡ new.files = ap (λ (s : SessionState). s.files) (sym comes.1) in
    let left : terminal ≡ new.terminal = ap (λ (s : SessionState). s.terminal) (sym comes.1) in
    inr record {
      part = inr record {
        given = given;
        gives = subst (λ (f : FilesState). Gives command old given f new.terminal) kept (subst (λ (t : ScreenState). Gives command old given files t) left gives);
        others = subst (λ (ns : List (List ℕ)). AreSameButAll ns old.store.layers new.store.layers) same comes.0;
      };
      err = ap (λ (s : SessionState). s.err) comes.1;
      at = ap (λ (s : SessionState). s.at) comes.1;
      owner = ap (λ (s : SessionState). s.owner) comes.1;
      policy = ap (λ (s : SessionState). s.policy) comes.1;
    }

-- where memory ran out, no more is asked for
pub comes_asking : (outcome : CommandOutcome) (names : List (List ℕ)) (old new : SessionState) (result : Result Stepped OutOfMemory) → Comes outcome names old new result → ComesAsking outcome names old new result
comes_asking outcome names old new (Ok did) comes = comes
comes_asking outcome names old new (Err memory) comes = (comes.0, comes.1 ∙ (λ i. record old { store = new.store; asking = sym (ap (λ (s : SessionState). s.asking) comes.1) i }))

pub comes_does : (command : Command) (given : CommandInputs) (old new : SessionState) (files : FilesState) (terminal : ScreenState) (outcome : CommandOutcome) (names : List (List ℕ)) (result : Result Stepped OutOfMemory)
    → Gives command old given files terminal → outcome ≡ answer old command given → names ≡ names_on old command given
    → Comes outcome names (record old { files = files; terminal = terminal }) new result → Does command old new result
comes_does command given old new files terminal outcome names result gives alike same comes =
    asking_does command given old new files terminal outcome names result gives alike same (comes_asking outcome names (record old { files = files; terminal = terminal }) new result comes)
