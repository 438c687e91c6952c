-- The session behind a link, over the layers of a store.
use Rattle.std.specs.Prelude.{◌≡◌, ◌⊎◌, ℕ, Bool, List, [], Option}
use Rattle.dc_conf.specs.Trees.{Tree}
use Rattle.dc_outside.specs.LinkCalls.{Tells}
use Rattle.dc_frontend.specs.declared.frontend.Frontend.{Frontend}
use Rattle.dc_words.specs.declared.stream.Line.{Line}
use Rattle.dc_serve.specs.declared.machine.Response.{Response}
use Rattle.dc_layer.specs.State.{LayerState}
use Rattle.dc_proto.specs.declared.priority.Priority.{Priority}
use Rattle.dc_question.specs.Questions.{QuestionContext}
use Rattle.dc_serve.specs.Ends.{LinkCounts}
use Rattle.dc_serve.specs.LinkRun.{IsLinkRun}
use Rattle.dc_serve.specs.declared.outcome.LinkEnd.{LinkEnd}
use Rattle.dc_serve.specs.declared.outcome.LinkEnd.TheVariants as link
use Rattle.dc_store.specs.Plans.{stored}
use Rattle.dc_store.specs.StoreLaws.{AreSameButAll}
use Rattle.dc_session.specs.Asking.{finished, nothing_asked, policy_by}
use Rattle.dc_session.specs.Machine.{TakesLine, Aborts}
use Rattle.dc_session.specs.SessionState.{FilesState, LinkState, ScreenState, SessionState}
use Rattle.dc_session.specs.declared.serving.SessionSetup.{SessionSetup}
use Rattle.dc_session.specs.declared.stepped.StepError.{StepError}

-- ---- what a session is begun over

-- what a session works on, and hands back: the layers, the files, the terminal with what was typed on it and isn't used yet, and standard error
pub record Resources : Type 0 where
  pub layers : List LayerState
  pub files : FilesState
  pub terminal : ScreenState
  pub err : LinkState

abbrev pub resources_of : List LayerState → FilesState → ScreenState → LinkState → Resources
resources_of layers files terminal err = record { layers = layers; files = files; terminal = terminal; err = err }

-- A session over these, for an owner, by the plans of questions and of templates and for the user's language, that asks by the frontend, from the least
-- priority on, that were chosen: nothing is asked for yet.
abbrev pub session_over : Resources → QuestionContext → List ℕ → Option Frontend → Option Priority → Bool → SessionState
session_over resources at owner frontend threshold nonint_seen = record {
  store = stored resources.layers [];
  files = resources.files;
  terminal = resources.terminal;
  err = resources.err;
  at = at;
  owner = owner;
  policy = policy_by frontend threshold nonint_seen resources.layers at;
  asking = nothing_asked;
}

-- a session that is set up so
abbrev pub session_by : SessionSetup → Tree → Tree → Resources → SessionState
session_by setup config templates resources =
    session_over resources (record { config = config; templates = templates; lang = setup.lang.now }) setup.owner.now setup.frontend setup.threshold setup.nonint_seen

-- what is left of a session
abbrev pub resources_in : SessionState → Resources
resources_in state = resources_of state.store.layers state.files state.terminal state.err

-- ---- how it ends

-- The session was finished, and what the layers told at that was told on standard error; or memory ran out at it, and at most the items of the
-- questions that were asked changed.
abbrev pub IsFinished : {B : Type 0} → SessionState → LinkEnd B → Resources → LinkEnd B → Type 0
IsFinished state served left ended =
    ((left.layers ≡ (finished state).layers) × Tells (finished state).told state.err left.err × (ended ≡ served))
    ⊎ (AreSameButAll state.asking.asked state.store.layers left.layers × (left.err ≡ state.err) × (ended ≡ link.OutOfMemory))

-- it stays as it was, and ends so
abbrev pub IsUnfinished : {B : Type 0} → SessionState → LinkEnd B → Resources → LinkEnd B → Type 0
IsUnfinished state served left ended = (left.layers ≡ state.store.layers) × (left.err ≡ state.err) × (ended ≡ served)

-- What becomes of a session whose link was served to this end: it is finished, unless memory ran out or a line wasn't heeded to its end.
abbrev pub Finishes : {B : Type 0} → LinkEnd B → SessionState → Resources → LinkEnd B → Type 0
Finishes link.Done state left ended = IsFinished state link.Done left ended
Finishes link.LinkFault state left ended = IsFinished state link.LinkFault left ended
Finishes link.TooLong state left ended = IsFinished state link.TooLong left ended
Finishes link.OutOfMemory state left ended = IsUnfinished state link.OutOfMemory left ended
Finishes (link.Broken error) state left ended = IsUnfinished state (link.Broken error) left ended

-- A session that began so was served, over a link and from the last code on, and finished, and left these. A line that came does what the steps of
-- the machine say that served it, which may stand around the session, and one that isn't heeded to its end what it says of that.
pub record IsServedBy {B : Type 0} (steps : SessionState → Line → Response → SessionState → Type 0) (aborts : SessionState → Line → B → SessionState → Type 0)
    (start : SessionState) (left : Resources) (old new : LinkState) (ended : LinkEnd B) (before code : ℕ) : Type 0 where
  pub state : SessionState
  pub served : LinkEnd B
  pub ran : IsLinkRun steps aborts old.talk new.talk old.input new.input start served state before code
  pub files_are : left.files ≡ state.files
  pub terminal_is : left.terminal ≡ state.terminal
  pub finishes : Finishes served state left ended
  pub counts : LinkCounts served old.counts new.counts
  pub program : new.program ≡ old.program

-- the same of a session by itself, which saves nothing
abbrev pub IsServed : SessionState → Resources → LinkState → LinkState → LinkEnd StepError → ℕ → ℕ → Type 0
IsServed = IsServedBy TakesLine Aborts
