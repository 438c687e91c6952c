-- A session that was served.
use Rattle.std.proofs.Common.{◌≡◌, ℕ, Bool, List, [], Option, None, refl, sym, ap, subst, ◌∙◌, inl, inr}
use Rattle.std.specs.Prelude.{Result, Ok, Err, IfOk, unwrap_or, option_and_then, codes}
use Rattle.std.specs.Result.{result_ok}
use Rattle.dc_text.specs.declared.memory.OutOfMemory.{OutOfMemory}
use Rattle.dc_layer.specs.State.{LayerState}
use Rattle.dc_words.specs.declared.stream.Line.{Line}
use Rattle.dc_serve.specs.declared.machine.Response.{Response}
use Rattle.dc_outside.specs.LinkCalls.{Tells}
use Rattle.dc_frontend.specs.Frontends.{frontend_of}
use Rattle.dc_frontend.specs.declared.frontend.Frontend.{Frontend}
use Rattle.dc_frontend.specs.declared.frontend.Frontend.TheVariants.{Teletype}
use Rattle.dc_proto.specs.Priorities.{priority_of}
use Rattle.dc_proto.specs.declared.priority.Priority.{Priority}
use Rattle.dc_proto.specs.declared.priority.Priority.TheVariants.{High}
use Rattle.dc_question.specs.Questions.{QuestionContext, value}
use Rattle.dc_question.specs.declared.errors.QuestionError.{QuestionError}
use Rattle.dc_serve.specs.LinkRun.{IsLinkRun, ServesLink}
use Rattle.dc_serve.specs.declared.outcome.LinkEnd.{LinkEnd}
use Rattle.dc_serve.specs.declared.outcome.LinkEnd.TheVariants as link
use Rattle.dc_serve.proofs.Progress.{run_unstarted}
use Rattle.dc_store.specs.Plans.{StoreState, stored}
use Rattle.dc_store.specs.StoreLaws.{AreSameButAll}
use Rattle.dc_session.specs.Asking.{finished, nothing_asked, threshold_by, frontend_by, policy_by}
use Rattle.dc_session.specs.declared.asking.Asking.{Asking}
use Rattle.dc_session.specs.declared.policy.AskPolicy.{AskPolicy}
use Rattle.dc_session.specs.Machine.{TellsStore}
use Rattle.dc_session.specs.Serving.{IsServedBy, IsFinished, Finishes, Resources, resources_of, resources_in, session_over}
use Rattle.dc_session.specs.SessionState.{FilesState, LinkState, ReadAhead, ScreenState, terminal_at, SessionState}

-- ---- the end of a session

module _ (state mid new : SessionState) (kept : mid ≡ record state { store = mid.store }) where
  -- it was finished, and what its layers told was told
  pub finished_told : {B : Type 0} (served : LinkEnd B) → mid.store ≡ finished state → TellsStore mid new → IsFinished state served (resources_in new) served
  finished_told served is tells = inl (
    ap (λ (s : SessionState). s.store.layers) tells.new_is ∙ ap (λ (t : StoreState). t.layers) is,
    subst (λ (t : StoreState). Tells t.told state.err new.err) is (subst (λ (l : LinkState). Tells mid.store.told l new.err) (ap (λ (s : SessionState). s.err) kept) tells.told),
    refl,
  )

  pub finished_rest : TellsStore mid new → new ≡ record state { store = new.store; err = new.err }
  finished_rest tells =
      tells.new_is ∙ ap (λ (s : SessionState). record s { store = stored mid.store.layers []; err = new.err }) kept
      ∙ ap (λ (t : StoreState). record state { store = t; err = new.err }) (sym (ap (λ (s : SessionState). s.store) tells.new_is))

-- there was no memory to finish it
pub unfinished : {B : Type 0} (state new : SessionState) (served : LinkEnd B) → AreSameButAll state.asking.asked state.store.layers new.store.layers → new ≡ record state { store = new.store } → IsFinished state served (resources_in new) link.OutOfMemory
unfinished state new served others kept = inr (others, ap (λ (s : SessionState). s.err) kept, refl)

-- ---- a session that was served

-- the state that a session begins in, of equal parts
pub begun_as : (layers others : List LayerState) (told : List ℕ) (files : FilesState) (terminal : ScreenState) (err : LinkState) (at other : QuestionContext) (owner name : List ℕ) (policy : AskPolicy) (frontend : Option Frontend) (threshold : Option Priority)
    (nonint : Bool) (asking : Asking)
    → layers ≡ others → told ≡ [] → at ≡ other → owner ≡ name → policy ≡ policy_by frontend threshold nonint layers at → asking ≡ nothing_asked
    → ◌≡◌ {A = SessionState} (record { store = stored layers told; files = files; terminal = terminal; err = err; at = at; owner = owner; policy = policy; asking = asking })
    (session_over (resources_of others files terminal err) other name frontend threshold nonint)
begun_as layers others told files terminal err at other owner name policy frontend threshold nonint asking same_layers none same_at same_owner same_manner nothing =
    let asks : policy ≡ policy_by frontend threshold nonint others other = same_manner ∙ (λ i. policy_by frontend threshold nonint (same_layers i) (same_at i)) in
    λ i. record { store = stored (same_layers i) (none i); files = files; terminal = terminal; err = err; at = same_at i; owner = same_owner i; policy = asks i; asking = nothing i }

module _ {B : Type 0} (steps : SessionState → Line → Response → SessionState → Type 0) (aborts : SessionState → Line → B → SessionState → Type 0) where
  -- a session that was served over a link, and then finished
  pub served_from : (start state kept : SessionState) (old new : LinkState) (served ended : LinkEnd B) (before code last : ℕ)
      → ServesLink steps aborts old new start served state before code → last ≡ code → kept ≡ record state { store = kept.store; err = kept.err } → Finishes served state (resources_in kept) ended
      → IsServedBy steps aborts start (resources_in kept) old new ended before last
  served_from start state kept old new served ended before code last serves last_is rest finishes = record {
    state = state;
    served = served;
    ran = subst (λ (n : ℕ). IsLinkRun steps aborts old.talk new.talk old.input new.input start served state before n) (sym last_is) serves.run;
    files_are = ap (λ (s : SessionState). s.files) rest;
    terminal_is = ap (λ (s : SessionState). s.terminal) rest;
    finishes = finishes;
    counts = serves.counts;
    program = serves.program;
  }

  -- the same, of what it began as and left
  pub served_as : (start begun : SessionState) (layers others : List LayerState) (files kept : FilesState) (link stays : LinkState) (ahead unused : ReadAhead) (err told old new : LinkState) (ended : LinkEnd B) (before code : ℕ)
      → IsServedBy steps aborts start (resources_of layers files (terminal_at link ahead) err) old new ended before code
      → start ≡ begun → others ≡ layers → kept ≡ files → stays ≡ link → unused ≡ ahead → told ≡ err → IsServedBy steps aborts begun (resources_of others kept (terminal_at stays unused) told) old new ended before code
  served_as start begun layers others files kept link stays ahead unused err told old new ended before code served same are looked shown typed said =
      subst (λ (s : SessionState). IsServedBy steps aborts s (resources_of others kept (terminal_at stays unused) told) old new ended before code) same
      (subst (λ (left : Resources). IsServedBy steps aborts start left old new ended before code)
      (λ i. resources_of (sym are i) (sym looked i) (terminal_at (sym shown i) (sym typed i)) (sym said i)) served)

  -- one that wasn't begun, for want of memory
  pub unserved : (start : SessionState) (left : Resources) (old : LinkState) (before : ℕ) → left.layers ≡ start.store.layers → left.files ≡ start.files → left.terminal ≡ start.terminal → left.err ≡ start.err
      → IsServedBy steps aborts start left old old link.OutOfMemory before before
  unserved start left old before are looked shown said = record {
    state = start;
    served = link.OutOfMemory;
    ran = run_unstarted steps aborts old.talk old.input start before;
    files_are = looked;
    terminal_is = shown;
    finishes = (are, said, refl);
    counts = inr refl;
    program = refl;
  }

-- ---- the threshold

module _ (layers : List LayerState) (at : QuestionContext) (name : List ℕ) (named : name ≡ codes "debconf/priority") where
  by_value : (reading : Result (List ℕ) QuestionError) → value layers at name ≡ reading → threshold_by None layers at ≡ unwrap_or (option_and_then priority_of (result_ok reading)) High
  by_value reading is = ap (λ (r : Result (List ℕ) QuestionError). unwrap_or (option_and_then priority_of (result_ok r)) High) (ap (value layers at) (sym named) ∙ is)

  -- what the question says
  pub threshold_read : (priority : Priority) → priority ≡ unwrap_or (option_and_then priority_of (result_ok (value layers at name))) High → priority ≡ threshold_by None layers at
  threshold_read priority is = is ∙ sym (by_value (value layers at name) refl)

  pub all_read : (result : Result Priority OutOfMemory) → IfOk result (λ priority. priority ≡ unwrap_or (option_and_then priority_of (result_ok (value layers at name))) High) → IfOk result (λ priority. priority ≡ threshold_by None layers at)
  all_read (Ok priority) is = threshold_read priority is
  all_read (Err error) is = tt

-- ---- the frontend

module _ (layers : List LayerState) (at : QuestionContext) (name : List ℕ) (named : name ≡ codes "debconf/frontend") where
  -- what the question says
  pub frontend_read : (result : Result Frontend OutOfMemory) → IfOk result (λ frontend. frontend ≡ unwrap_or (option_and_then frontend_of (result_ok (value layers at name))) Teletype) → IfOk result (λ frontend. frontend ≡ frontend_by None layers at)
  frontend_read (Ok frontend) is = is ∙ ap (λ (n : List ℕ). unwrap_or (option_and_then frontend_of (result_ok (value layers at n))) Teletype) named
  frontend_read (Err error) is = tt
