-- How a session counts on its terminal.
use Rattle.std.proofs.Common.{◌≡◌, ◌⊎◌, ℕ, List, [], ◌∷◌, refl, ap, subst, ◌∙◌, inl, inr}
use Rattle.std.specs.Prelude.{Result, Ok, Err}
use Rattle.dc_outside.specs.Counts.{Counts, FaultRose, RefusalRose}
use Rattle.dc_outside.specs.declared.link.LinkError.TheVariants as link
use Rattle.dc_pass.specs.Passing.{Tells, WireCounts}
use Rattle.dc_pass.specs.declared.pass.PassError.{PassError}
use Rattle.dc_pass.specs.declared.pass.PassError.TheVariants as wire
use Rattle.dc_words.specs.declared.stream.Line.{Line}
use Rattle.dc_words.specs.declared.stream.Line.TheVariants.{Whole, TooLong}
use Rattle.dc_frontend.specs.declared.frontend.Frontend.{Frontend}
use Rattle.dc_frontend.specs.declared.frontend.Frontend.TheVariants.{Noninteractive}
use Rattle.dc_frontend.specs.declared.shown.Shown.{Shown}
use Rattle.dc_proto.specs.Commands.{heard}
use Rattle.dc_proto.specs.declared.command.Command.{Command}
use Rattle.dc_proto.specs.declared.command.Command.TheVariants.{Go, ProgressStart, ProgressSet, ProgressStep, ProgressInfo}
use Rattle.dc_proto.specs.declared.command.Heard.{Heard}
use Rattle.dc_proto.specs.declared.command.Heard.TheVariants.{Nothing, Known, Refused}
use Rattle.dc_serve.specs.Execution.{Transition, state_after, IsExecution}
use Rattle.dc_serve.specs.declared.machine.Response.{Response}
use Rattle.dc_teletype.specs.declared.teletype.Asked.{Asked}
use Rattle.dc_teletype.specs.declared.teletype.Asked.TheVariants.{Answers}
use Rattle.dc_session.specs.Displays.{Display, Blank, OneLine, Dialogue, Told, Request, displayed, where_asked, HasRequest, Shows}
use Rattle.dc_session.specs.Machine.{TakesLine, Steps, StepsHeard, Aborts, BreaksHeard, BreaksIdle, BreaksOff, GivesInPart, IsDoneInPart, FailsToShow}
use Rattle.dc_session.specs.SessionState.{LinkState, ScreenState, SessionState, typed_at}
use Rattle.dc_session.specs.declared.asking.Asking.{Asking}
use Rattle.dc_session.specs.declared.stepped.StepError.{StepError}
use Rattle.dc_session.specs.declared.stepped.StepError.TheVariants as step
use Rattle.dc_session.specs.declared.stepped.Stepped.{Stepped}
use Rattle.dc_pass.proofs.CountLemmas.{asks_counts}

-- ---- one use

no_error : {A E : Type 0} (a : A) (e : E) → ◌≡◌ {A = Result A E} (Err e) (Ok a) → ⊥
no_error a e is = cc

-- what a link counted on which a line was told
module _ (text : List ℕ) (old new : LinkState) where
  tells_stay : (asked : Asked) → Tells {T = Asked} text old new (Ok asked) → new.counts ≡ old.counts
  tells_stay asked (inl none) = ap (λ (k : LinkState). k.counts) none.1
  tells_stay asked (inr sent) = ap (λ (k : LinkState). k.counts) sent

  tells_no_memory : Tells {T = Asked} text old new (Err link.OutOfMemory) → (new.counts ≡ old.counts) ⊎ RefusalRose old.counts new.counts
  tells_no_memory (inl same) = inl (ap (λ (k : LinkState). k.counts) same)
  tells_no_memory (inr refused) = inr refused.rose

module _ (old new : ScreenState) where
  none_left : (before now : Counts) → RefusalRose before now ⊎ (now ≡ before) → (now ≡ before) ⊎ RefusalRose before now
  none_left before now counts = elim counts [ inl rose ↦ inr rose | inr same ↦ inl same ]

  -- what the wire counted
  wire_counts : (asking : Asking) (questions : List Shown) (result : Result Asked PassError) → HasRequest asking questions old new result → WireCounts result old.link.counts new.link.counts
  wire_counts asking questions result asks = asks_counts asking.backup asking.title questions old.ahead.got new.ahead.got (typed_at old) (typed_at new) result asks

  shows_stay : (asking : Asking) (display : Display) (asked : Asked) → Shows asking display old (Ok asked) new → new.link.counts ≡ old.link.counts
  shows_stay asking Blank asked shows = ap (λ (t : ScreenState). t.link.counts) shows.1
  shows_stay asking (OneLine text) asked shows = ap (λ (k : LinkState). k.counts) shows.said
  shows_stay asking (Dialogue questions) asked shows = shows.dialogue.counts
  shows_stay asking (Told text) asked shows = tells_stay text old.link new.link asked shows.tells
  shows_stay asking (Request questions) asked shows = wire_counts asking questions (Ok asked) shows

  shows_fail : (asking : Asking) (display : Display) → Shows asking display old (Err step.Term) new → FaultRose old.link.counts new.link.counts
  shows_fail asking Blank shows = absurd (no_error (Answers []) step.Term shows.0)
  shows_fail asking (OneLine text) shows = shows.said.rose
  shows_fail asking (Dialogue questions) shows = shows.dialogue.counts
  shows_fail asking (Told text) shows = shows.tells.rose
  shows_fail asking (Request questions) shows = wire_counts asking questions (Err wire.Failed) shows

  shows_unreadable : (asking : Asking) (display : Display) (line : ℕ) → Shows asking display old (Err (step.Wire line)) new → new.link.counts ≡ old.link.counts
  shows_unreadable asking Blank line shows = absurd (no_error (Answers []) (step.Wire line) shows.0)
  shows_unreadable asking (OneLine text) line shows = absurd shows
  shows_unreadable asking (Dialogue questions) line shows = absurd shows
  shows_unreadable asking (Told text) line shows = absurd shows
  shows_unreadable asking (Request questions) line shows = wire_counts asking questions (Err (wire.Bad line)) shows

  shows_no_memory : (asking : Asking) (display : Display) → Shows asking display old (Err step.OutOfMemory) new → (new.link.counts ≡ old.link.counts) ⊎ RefusalRose old.link.counts new.link.counts
  shows_no_memory asking Blank shows = absurd (no_error (Answers []) step.OutOfMemory shows.0)
  shows_no_memory asking (OneLine text) shows = none_left old.link.counts new.link.counts shows.said.1
  shows_no_memory asking (Dialogue questions) shows = none_left old.link.counts new.link.counts shows.dialogue.counts
  shows_no_memory asking (Told text) shows = tells_no_memory text old.link new.link shows.tells
  shows_no_memory asking (Request questions) shows = none_left old.link.counts new.link.counts (wire_counts asking questions (Err wire.OutOfMemory) shows)

-- ---- one line

-- the terminal counted nothing
abbrev pub CountsNothing : SessionState → SessionState → Type 0
CountsNothing old new = new.terminal.link.counts ≡ old.terminal.link.counts

same_state : (old new : SessionState) → new ≡ old → CountsNothing old new
same_state old new same = ap (λ (s : SessionState). s.terminal.link.counts) same

heard_count : (said : Heard) (old new : SessionState) (did : Stepped) → StepsHeard said old did new → CountsNothing old new
heard_count Nothing old new did steps = same_state old new steps.1
heard_count (Known command) old new did done = shows_stay old.terminal new.terminal old.asking (displayed old command) done.given.asked done.gives.shows
heard_count (Refused reply) old new did steps = same_state old new steps.1

steps_count : (line : Line) (old new : SessionState) (did : Stepped) → Steps old line did new → CountsNothing old new
steps_count TooLong old new did steps = same_state old new steps.1
steps_count (Whole line) old new did steps = heard_count (heard old.asking.escape line) old new did steps

-- what the terminal counted at a line that came to nothing
abbrev pub CountsBreak : StepError → Counts → Counts → Type 0
CountsBreak step.Term before now = FaultRose before now
CountsBreak (step.Wire line) before now = now ≡ before
CountsBreak step.OutOfMemory before now = (now ≡ before) ⊎ RefusalRose before now

part_counts : (command : Command) (old new : SessionState) → IsDoneInPart command old new → CountsBreak step.OutOfMemory old.terminal.link.counts new.terminal.link.counts
part_counts command old new done = elim done.part [
  | inl given ↦ given_counts given
  | inr left ↦ inl (shows_stay old.terminal new.terminal old.asking (displayed old command) left.given.asked left.gives.shows)
] where
  given_counts : GivesInPart command old new → CountsBreak step.OutOfMemory old.terminal.link.counts new.terminal.link.counts
  given_counts given = elim given.gives [
    | inl vain ↦ inl (ap (λ (t : ScreenState). t.link.counts) vain.1)
    | inr shown ↦ shows_no_memory old.terminal new.terminal old.asking (displayed old command) shown.0
  ]

idle_counts : (old new : SessionState) (error : StepError) → BreaksIdle old error new → CountsBreak error old.terminal.link.counts new.terminal.link.counts
idle_counts old new step.OutOfMemory same = inl (same_state old new same)
idle_counts old new step.Term none = absurd none
idle_counts old new (step.Wire line) none = absurd none

off_counts : (command : Command) (old new : SessionState) (error : StepError) → BreaksOff command old error new → CountsBreak error old.terminal.link.counts new.terminal.link.counts
off_counts command old new step.OutOfMemory (inl same) = inl (same_state old new same)
off_counts command old new step.OutOfMemory (inr part) = part_counts command old new part
off_counts command old new step.Term fails = shows_fail old.terminal new.terminal old.asking (displayed old command) fails.shows
off_counts command old new (step.Wire line) fails = shows_unreadable old.terminal new.terminal old.asking (displayed old command) line fails.shows

heard_breaks : (said : Heard) (old new : SessionState) (error : StepError) → BreaksHeard said old error new → CountsBreak error old.terminal.link.counts new.terminal.link.counts
heard_breaks Nothing old new error idle = idle_counts old new error idle
heard_breaks (Known command) old new error off = off_counts command old new error off
heard_breaks (Refused reply) old new error idle = idle_counts old new error idle

-- the terminal failed at a line, or found no memory at most
pub breaks_count : (old new : SessionState) (line : Line) (error : StepError) → Aborts old line error new → CountsBreak error old.terminal.link.counts new.terminal.link.counts
breaks_count old new TooLong error idle = idle_counts old new error idle
breaks_count old new (Whole line) error aborts = heard_breaks (heard old.asking.escape line) old new error aborts

-- at a line that is answered it counted nothing
takes_count : (line : Line) (old new : SessionState) (did : Response) → TakesLine old line did new → CountsNothing old new
takes_count line old new did takes = ap (λ (s : SessionState). s.terminal.link.counts) takes.tells.new_is ∙ steps_count line old takes.mid takes.handled.stepped takes.handled.steps

-- nor at more of them
pub course_counts : (start : SessionState) (transitions : List (Transition SessionState)) → IsExecution TakesLine start transitions → CountsNothing start (state_after start transitions)
course_counts start [] course = refl
course_counts start (transition ∷ transitions) course = course_counts transition.new transitions course.2 ∙ takes_count transition.line start transition.new transition.did course.0

-- ---- a session that asks nobody

where_none : (frontend : Frontend) (display : Display) → frontend ≡ Noninteractive → where_asked frontend display ≡ Blank
where_none frontend display is = ap (λ (f : Frontend). where_asked f display) is

-- the session asks nobody
abbrev pub AsksNobody : SessionState → Type 0
AsksNobody state = state.policy.frontend ≡ Noninteractive

-- it shows nothing
pub displays_none : (state : SessionState) → AsksNobody state → (command : Command) → displayed state command ≡ Blank
displays_none state nobody Go = where_none state.policy.frontend _ nobody
displays_none state nobody (ProgressStart low high word) = where_none state.policy.frontend _ nobody
displays_none state nobody (ProgressSet number) = where_none state.policy.frontend _ nobody
displays_none state nobody (ProgressStep number) = where_none state.policy.frontend _ nobody
displays_none state nobody (ProgressInfo word) = where_none state.policy.frontend _ nobody
displays_none state nobody command = refl

heard_nobody : (said : Heard) (old new : SessionState) (did : Stepped) → AsksNobody old → StepsHeard said old did new → AsksNobody new
heard_nobody Nothing old new did nobody steps = ap (λ (s : SessionState). s.policy.frontend) steps.1 ∙ nobody
heard_nobody (Known command) old new did nobody steps = ap (λ (s : SessionState). s.policy.frontend) steps.new_is ∙ nobody
heard_nobody (Refused reply) old new did nobody steps = ap (λ (s : SessionState). s.policy.frontend) steps.1 ∙ nobody

pub steps_nobody : (line : Line) (old new : SessionState) (did : Stepped) → AsksNobody old → Steps old line did new → AsksNobody new
steps_nobody TooLong old new did nobody steps = ap (λ (s : SessionState). s.policy.frontend) steps.1 ∙ nobody
steps_nobody (Whole line) old new did nobody steps = heard_nobody (heard old.asking.escape line) old new did nobody steps

pub takes_nobody : (line : Line) (old new : SessionState) (did : Response) → AsksNobody old → TakesLine old line did new → AsksNobody new
takes_nobody line old new did nobody takes =
    ap (λ (s : SessionState). s.policy.frontend) takes.tells.new_is ∙ steps_nobody line old takes.mid takes.handled.stepped nobody takes.handled.steps

pub course_nobody : (start : SessionState) (transitions : List (Transition SessionState)) → AsksNobody start → IsExecution TakesLine start transitions → AsksNobody (state_after start transitions)
course_nobody start [] nobody course = nobody
course_nobody start (transition ∷ transitions) nobody course = course_nobody transition.new transitions (takes_nobody transition.line start transition.new transition.did nobody course.0) course.2

nothing_fails : (old new : SessionState) (command : Command) (error : StepError) → AsksNobody old → FailsToShow command old error new → ⊥
nothing_fails old new command error nobody fails =
    no_error (Answers []) error (subst (λ (d : Display). Shows old.asking d old.terminal (Err error) new.terminal) (displays_none old nobody command) fails.shows).0

heard_unfailed : (said : Heard) (old new : SessionState) → AsksNobody old → BreaksHeard said old step.Term new → ⊥
heard_unfailed Nothing old new nobody none = none
heard_unfailed (Known command) old new nobody fails = nothing_fails old new command step.Term nobody fails
heard_unfailed (Refused reply) old new nobody none = none

-- so its terminal fails at no line
pub never_fails : (old new : SessionState) (line : Line) → AsksNobody old → Aborts old line step.Term new → ⊥
never_fails old new TooLong nobody none = none
never_fails old new (Whole line) nobody aborts = heard_unfailed (heard old.asking.escape line) old new nobody aborts

heard_readable : (said : Heard) (old new : SessionState) (place : ℕ) → AsksNobody old → BreaksHeard said old (step.Wire place) new → ⊥
heard_readable Nothing old new place nobody none = none
heard_readable (Known command) old new place nobody fails = nothing_fails old new command (step.Wire place) nobody fails
heard_readable (Refused reply) old new place nobody none = none

-- and no line comes on a wire
pub never_unreadable : (old new : SessionState) (line : Line) (place : ℕ) → AsksNobody old → Aborts old line (step.Wire place) new → ⊥
never_unreadable old new TooLong place nobody none = none
never_unreadable old new (Whole line) place nobody aborts = heard_readable (heard old.asking.escape line) old new place nobody aborts
