-- What a session works on.
use Rattle.std.specs.Prelude.{ℕ, Bool, List, [], None}
use Rattle.std.specs.Borrow.{GName}
use Rattle.std.specs.declared.alloc.Global.{Global}
use Rattle.std.specs.declared.dyn_box.DynBox.{DynBox}
use Rattle.dc_outside.specs.Programs.{no_program}
pub use Rattle.dc_outside.specs.State.{FilesState, LinkState}
use Rattle.dc_layer.specs.State.{LayerState}
use Rattle.dc_store.specs.Plans.{StoreState, stored}
use Rattle.dc_store.specs.Views.{store_of}
use Rattle.dc_question.specs.Questions.{QuestionContext}
use Rattle.dc_teletype.specs.TerminalLines.{TerminalState}
pub use Rattle.dc_session.specs.ReadAhead.{ReadAhead, nothing_typed}
use Rattle.dc_session.specs.declared.asking.Asking.{Asking}
use Rattle.dc_session.specs.declared.policy.AskPolicy.{AskPolicy}
use Rattle.dc_session.specs.declared.session.Session.{Session}
use Rattle.dc_session.specs.declared.session_questions.SessionQuestions.{SessionQuestions}

-- where the user is: a terminal, or the wire to a program that asks there
pub record ScreenState : Type 0 where
  pub link : LinkState
  pub ahead : ReadAhead

-- it is behind a link, and this came from it and isn't used yet
abbrev pub terminal_at : LinkState → ReadAhead → ScreenState
terminal_at link ahead = record { link = link; ahead = ahead }

-- the lines of it, as a terminal has them
abbrev pub typed_at : ScreenState → TerminalState
typed_at screen = record { link = screen.link; ahead = screen.ahead.typed }

-- a link of which nothing is told, and nothing counted
abbrev pub nowhere : LinkState
nowhere = record {
  talk = None;
  input = None;
  counts = record { faults = 0; refusals = 0 };
  program = no_program;
}

-- the terminal of a session that asks nobody
abbrev pub no_terminal : ScreenState
no_terminal = terminal_at nowhere nothing_typed

-- the layers and what they told; the files; the terminal; standard error; where questions and templates stand in the layers, with the user's language;
-- the owner for whom questions are registered; how questions are asked; and what was asked for so far
pub record SessionState : Type 0 where
  pub store : StoreState
  pub files : FilesState
  pub terminal : ScreenState
  pub err : LinkState
  pub at : QuestionContext
  pub owner : List ℕ
  pub policy : AskPolicy
  pub asking : Asking

-- a session at a desk, by the states of its boxes, over these files, with this terminal and standard error, that asks so
abbrev pub session_at_desk : {X : Type 0} {F : X → Type 0} → (DynBox X Global F → LayerState) → SessionQuestions X F → FilesState → ScreenState → LinkState → AskPolicy → Asking → SessionState
session_at_desk state desk files terminal err policy asking = record {
  store = store_of state desk.questions.store.now;
  files = files;
  terminal = terminal;
  err = err;
  at = desk.questions.context;
  owner = desk.owner.now;
  policy = policy;
  asking = asking;
}

-- a session, by the states of its boxes, its files, its terminal and standard error
abbrev pub session_of : {A B C X : Type 0} {F : X → Type 0} → (DynBox X Global F → LayerState) → (A → FilesState) → (B → LinkState) → (C → LinkState) → Session A B C X F → SessionState
session_of state files link err s =
    session_at_desk state s.desk (files s.files.now) (terminal_at (link s.terminal.now) s.ahead.now) (err s.err.now) s.policy s.asking.now

-- which store, files, terminal, type-ahead and standard error of its maker it works on
abbrev pub borrows_of : {A B C X : Type 0} {F : X → Type 0} → Session A B C X F → GName × GName × GName × GName × GName
borrows_of s = (s.desk.questions.store.ghost_name, s.files.ghost_name, s.terminal.ghost_name, s.ahead.ghost_name, s.err.ghost_name)
