-- What the tools do that start a program and wait for it: `run` serves its commands (debconf(1)), and `answer` what it asks for over its wire.
use Rattle.std.specs.Prelude.{◌≡◌, ◌⊎◌, ℕ, Bool, true, false, List, [], Ok, Err}
use Rattle.dc_answer.specs.Answering.{IsAnswered}
use Rattle.dc_answer.specs.declared.answerer.AnswerBreak.{AnswerBreak}
use Rattle.dc_outside.specs.LinkCalls.{Starts, Waits}
use Rattle.dc_outside.specs.declared.link.LinkError.{LinkError}
use Rattle.dc_outside.specs.declared.link.LinkError.TheVariants.{Failed, OutOfMemory}
use Rattle.dc_serve.specs.declared.outcome.LinkEnd.{LinkEnd}
use Rattle.dc_session.specs.Serving.{Resources, resources_in}
use Rattle.dc_outside.specs.State.{LinkState}
use Rattle.dc_session.specs.SessionState.{SessionState}
use Rattle.dc_run.specs.declared.outcome.End.{End}
use Rattle.dc_run.specs.declared.outcome.ToolAnswer.{ToolAnswer}
use Rattle.dc_run.specs.declared.outcome.ToolEnd.{ToolEnd}
use Rattle.dc_run.specs.declared.outcome.ToolEnd.TheVariants as tool
use Rattle.dc_run.specs.Ends.{answer_end, tool_end_of, end_unwaited}
use Rattle.dc_run.specs.Saves.{Save}
use Rattle.dc_run.specs.SavingSession.{IsServedSaving}
use Rattle.dc_run.specs.declared.saving_session.SavingBreak.{SavingBreak}
use Rattle.dc_run.specs.World.{Links}

-- ---- the program is started and served

-- how the tool ends where the start isn't done
abbrev pub end_unstarted : LinkError → ToolEnd
end_unstarted Failed = tool.ChildFault
end_unstarted OutOfMemory = tool.OutOfMemory

-- the start failed, or found no memory, and nothing was done
pub record IsNotStarted (command : List (List ℕ)) (old new : Links) (before : ℕ) (answer : ToolAnswer) : Type 0 where
  pub error : LinkError
  pub ended_is : answer.ended ≡ end_unstarted error
  pub starts : Starts {T = Unit {0}} command old.child new.child (Err error)
  pub io : new.io ≡ old.io
  pub code_is : answer.last_code ≡ before
  pub waits : answer.is_started ≡ false

-- so a session that was to be served is left as it is, and nothing was saved
pub record IsUnserved (command : List (List ℕ)) (start : SessionState) (old new : Links)
    (before : ℕ) (answer : ToolAnswer) (left : Resources) (saves : List Save) : Type 0 where
  pub unstarted : IsNotStarted command old new before answer
  pub left_is : left ≡ resources_in start
  pub saves_are : saves ≡ []

-- the program was started with the command's words, its commands were served, with the user asked on the program's own link, and the session
-- was finished
pub record IsStarted (command : List (List ℕ)) (start : SessionState) (old new : Links)
    (before : ℕ) (answer : ToolAnswer) (left : Resources) (saves : List Save) : Type 0 where
  pub mid : LinkState
  pub starts : Starts {T = Unit {0}} command old.child mid (Ok tt)
  pub ended : LinkEnd SavingBreak
  pub ended_is : answer.ended ≡ tool_end_of ended
  pub served : IsServedSaving start left mid new.child ended before answer.last_code saves
  pub io : new.io ≡ left.terminal.link
  pub waits : answer.is_started ≡ true

abbrev pub HasRunProgram : List (List ℕ) → SessionState → Links → Links → ℕ → ToolAnswer → Resources → List Save → Type 0
HasRunProgram command start old new before answer left saves =
    IsUnserved command start old new before answer left saves ⊎ IsStarted command start old new before answer left saves

-- the program was started with the command's words, and what it asked for over its wire was asked on the program's own link
pub record IsAnswering (command : List (List ℕ)) (old new : Links) (before : ℕ) (answer : ToolAnswer) : Type 0 where
  pub mid : LinkState
  pub starts : Starts {T = Unit {0}} command old.child mid (Ok tt)
  pub ended : LinkEnd AnswerBreak
  pub ended_is : answer.ended ≡ answer_end ended
  pub answered : IsAnswered old.io new.io mid new.child ended
  pub code_is : answer.last_code ≡ before
  pub waits : answer.is_started ≡ true

abbrev pub HasAnswered : List (List ℕ) → Links → Links → ℕ → ToolAnswer → Type 0
HasAnswered command old new before answer = IsNotStarted command old new before answer ⊎ IsAnswering command old new before answer

-- ---- it is waited for, when all else is done

-- the program has ended, with all that was said on its link said before, and its status is the run's
pub record HasEnded (old new : LinkState) (how ended : End) (status : ℕ) : Type 0 where
  pub waits : Waits {E = Unit {0}} old new (Ok status)
  pub end_is : ended ≡ how

-- the wait failed, which is the end of a run that did all else
pub record IsUnwaited (old new : LinkState) (how ended : End) (before status : ℕ) : Type 0 where
  pub waits : Waits {E = Unit {0}} old new (Err tt)
  pub end_is : ended ≡ end_unwaited how
  pub status_is : status ≡ before

-- no program was started
pub record IsNotAwaited (old new : LinkState) (how ended : End) (before status : ℕ) : Type 0 where
  pub child : new ≡ old
  pub end_is : ended ≡ how
  pub status_is : status ≡ before

-- What becomes of the program, whether it was started or not, of the end of a run and of its tool's status.
abbrev pub Awaits : Bool → LinkState → LinkState → End → End → ℕ → ℕ → Type 0
Awaits true old new how ended before status = HasEnded old new how ended status ⊎ IsUnwaited old new how ended before status
Awaits false old new how ended before status = IsNotAwaited old new how ended before status
