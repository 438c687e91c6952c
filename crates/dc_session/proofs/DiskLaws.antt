-- A session only reads files.
use Rattle.std.proofs.Common.{◌≡◌, List, [], ◌∷◌, refl, ap, ◌∙◌, inl, inr}
use Rattle.std.specs.Prelude.{ℕ, Option, Some, None}
use Rattle.dc_words.specs.declared.stream.Line.{Line}
use Rattle.dc_words.specs.declared.stream.Line.TheVariants.{Whole, TooLong}
use Rattle.dc_outside.specs.State.{FilesView}
use Rattle.dc_proto.specs.Commands.{heard}
use Rattle.dc_proto.specs.declared.command.Command.{Command}
use Rattle.dc_proto.specs.declared.command.Heard.{Heard}
use Rattle.dc_proto.specs.declared.command.Heard.TheVariants.{Nothing, Known, Refused}
use Rattle.dc_serve.specs.declared.machine.Response.{Response}
use Rattle.dc_serve.specs.Execution.{Transition, state_after, IsExecution}
use Rattle.dc_session.specs.Machine.{TakesLine, Steps, StepsHeard, Aborts, BreaksHeard, BreaksIdle, BreaksOff, GivesInPart, IsDoneInPart, Looks, LooksInVain, file_of}
use Rattle.dc_session.specs.SessionState.{FilesState, SessionState}
use Rattle.dc_session.specs.TemplateFiles.{Finds, FindsNoMemory}
use Rattle.dc_session.specs.declared.stepped.StepError.{StepError}
use Rattle.dc_session.specs.declared.stepped.StepError.TheVariants as step
use Rattle.dc_session.specs.declared.stepped.Stepped.{Stepped}
use Rattle.dc_session.specs.declared.template_files.Found.{Found}
use Rattle.dc_session.specs.declared.template_files.Found.TheVariants.{Unreadable, Missing, Faulty, Templates}

-- the disk is as it was
abbrev pub KeepsDisk : FilesState → FilesState → Type 0
KeepsDisk old new = new.view.disk ≡ old.view.disk

same_files : (old new : FilesState) → new ≡ old → KeepsDisk old new
same_files old new same = ap (λ (f : FilesState). f.view.disk) same

finds_keeps : (path : List ℕ) (old new : FilesState) (found : Found) → Finds path old found new → KeepsDisk old new
finds_keeps path old new Unreadable finds = ap (λ (t : FilesView). t.disk) finds.0
finds_keeps path old new Missing finds = ap (λ (t : FilesView). t.disk) finds.told_is
finds_keeps path old new (Faulty line) finds = ap (λ (t : FilesView). t.disk) finds.2.told_is
finds_keeps path old new (Templates templates) finds = ap (λ (t : FilesView). t.disk) finds.1.told_is

looks_keep : (path : Option (List ℕ)) (old new : FilesState) (found : Found) → Looks path old found new → KeepsDisk old new
looks_keep None old new found looks = same_files old new looks.1
looks_keep (Some path) old new found looks = finds_keeps path old new found looks

none_keeps : (path : List ℕ) (old new : FilesState) → FindsNoMemory path old new → KeepsDisk old new
none_keeps path old new (inl refused) = ap (λ (t : FilesView). t.disk) refused.0
none_keeps path old new (inr read) = ap (λ (t : FilesView). t.disk) read.0

vain_keeps : (path : Option (List ℕ)) (old new : FilesState) → LooksInVain path old new → KeepsDisk old new
vain_keeps None old new same = same_files old new same
vain_keeps (Some path) old new none = none_keeps path old new none

state_keeps : (old new : SessionState) → new ≡ old → KeepsDisk old.files new.files
state_keeps old new same = ap (λ (s : SessionState). s.files.view.disk) same

heard_keeps : (said : Heard) (old new : SessionState) (did : Stepped) → StepsHeard said old did new → KeepsDisk old.files new.files
heard_keeps Nothing old new did steps = state_keeps old new steps.1
heard_keeps (Known command) old new did steps = looks_keep (file_of command) old.files new.files steps.given.found steps.gives.looks
heard_keeps (Refused reply) old new did steps = state_keeps old new steps.1

steps_keep : (old new : SessionState) (line : Line) (did : Stepped) → Steps old line did new → KeepsDisk old.files new.files
steps_keep old new TooLong did steps = state_keeps old new steps.1
steps_keep old new (Whole line) did steps = heard_keeps (heard old.asking.escape line) old new did steps

-- a line leaves the disk as it was
pub takes_reads : (old new : SessionState) (line : Line) (did : Response) → TakesLine old line did new → KeepsDisk old.files new.files
takes_reads old new line did takes = ap (λ (s : SessionState). s.files.view.disk) takes.tells.new_is ∙ steps_keep old takes.mid line takes.handled.stepped takes.handled.steps

given_part_keeps : (command : Command) (old new : SessionState) → GivesInPart command old new → KeepsDisk old.files new.files
given_part_keeps command old new part = elim part.gives [
  | inl vain ↦ vain_keeps (file_of command) old.files new.files vain.0
  | inr shown ↦ same_files old.files new.files shown.1
]

part_keeps : (command : Command) (old new : SessionState) → IsDoneInPart command old new → KeepsDisk old.files new.files
part_keeps command old new done = elim done.part [
  | inl given ↦ given_part_keeps command old new given
  | inr left ↦ looks_keep (file_of command) old.files new.files left.given.found left.gives.looks
]

idle_keeps : (old new : SessionState) (error : StepError) → BreaksIdle old error new → KeepsDisk old.files new.files
idle_keeps old new step.OutOfMemory same = state_keeps old new same
idle_keeps old new step.Term none = absurd none
idle_keeps old new (step.Wire line) none = absurd none

off_keeps : (command : Command) (old new : SessionState) (error : StepError) → BreaksOff command old error new → KeepsDisk old.files new.files
off_keeps command old new step.OutOfMemory (inl same) = state_keeps old new same
off_keeps command old new step.OutOfMemory (inr part) = part_keeps command old new part
off_keeps command old new step.Term fails = ap (λ (s : SessionState). s.files.view.disk) fails.new_is
off_keeps command old new (step.Wire line) fails = ap (λ (s : SessionState). s.files.view.disk) fails.new_is

heard_breaks : (said : Heard) (old new : SessionState) (error : StepError) → BreaksHeard said old error new → KeepsDisk old.files new.files
heard_breaks Nothing old new error idle = idle_keeps old new error idle
heard_breaks (Known command) old new error off = off_keeps command old new error off
heard_breaks (Refused reply) old new error idle = idle_keeps old new error idle

-- and so does one that came to nothing
pub breaks_reads : (old new : SessionState) (line : Line) (error : StepError) → Aborts old line error new → KeepsDisk old.files new.files
breaks_reads old new TooLong error idle = idle_keeps old new error idle
breaks_reads old new (Whole line) error aborts = heard_breaks (heard old.asking.escape line) old new error aborts

pub course_reads : (start : SessionState) (transitions : List (Transition SessionState)) → IsExecution TakesLine start transitions → KeepsDisk start.files (state_after start transitions).files
course_reads start [] course = refl
course_reads start (transition ∷ transitions) course = course_reads transition.new transitions course.2 ∙ takes_reads start transition.new transition.line transition.did course.0
