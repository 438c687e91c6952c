-- What a line leaves of the files, where no failure of theirs is counted.
use Rattle.std.proofs.Common.{◌≡◌, inl, inr, ℕ, Bool, true, false, List, [], ◌∷◌, Option, None, Some, refl, ap, subst, ◌∙◌, sym, arith}
use Rattle.std.specs.Prelude.{◌-◌, ◌^◌, ◌<◌, ◌≤◌}
use Rattle.dc_outside.specs.State.{FilesState}
use Rattle.dc_outside.specs.Steps.{after_look}
use Rattle.dc_outside.specs.declared.files.FilesOp.TheVariants.{Read}
use Rattle.dc_words.specs.declared.stream.Line.{Line}
use Rattle.dc_words.specs.declared.stream.Line.TheVariants.{Whole, TooLong}
use Rattle.dc_proto.specs.Commands.{heard}
use Rattle.dc_proto.specs.declared.command.Heard.{Heard}
use Rattle.dc_proto.specs.declared.command.Heard.TheVariants.{Nothing, Known, Refused}
use Rattle.dc_serve.specs.declared.machine.Response.{Response}
use Rattle.dc_serve.specs.Execution.{Transition, state_after, IsExecution}
use Rattle.dc_layer.specs.State.{LayerState}
use Rattle.dc_session.specs.Machine.{TakesLine, Steps, StepsHeard, Looks, asks_to_save, file_of}
use Rattle.dc_session.specs.SessionState.{SessionState}
use Rattle.dc_session.specs.TemplateFiles.{Finds, HasRead}
use Rattle.dc_session.specs.declared.stepped.Stepped.{Stepped}
use Rattle.dc_session.specs.declared.template_files.Found.{Found}
use Rattle.dc_session.specs.declared.template_files.Found.TheVariants.{Unreadable, Missing, Faulty, Templates}
use Rattle.dc_run.specs.SavingSession.{TakesSaving}
use Rattle.dc_theorem.proofs.CountLemmas.{no_rise, still}
use Rattle.dc_theorem.proofs.SavingLines.{TakesBy, save_counts, save_files, saved_files, taken, line_or_save}

-- the files after a read that was answered
abbrev pub files_read : List ℕ → FilesState → FilesState
files_read path old = record { view = after_look old.view Read path true; counts = old.counts }

pub read_so : (path : List ℕ) (old new : FilesState) (text : Option (List ℕ)) → HasRead path old new text → new ≡ files_read path old
read_so path old new text read = λ i. record { view = read.told_is i; counts = read.counts i }

-- ---- a file is looked for

abbrev looked_for : Option (List ℕ) → FilesState → FilesState
looked_for None old = old
looked_for (Some path) old = files_read path old

module _ (old new : FilesState) where
  finds_later : (path : List ℕ) (found : Found) → Finds path old found new → old.counts.faults ≤ new.counts.faults
  finds_later path Unreadable finds = finds.1.faults.later
  finds_later path Missing finds = still old.counts new.counts finds.counts
  finds_later path (Faulty line) finds = still old.counts new.counts finds.2.counts
  finds_later path (Templates templates) finds = still old.counts new.counts finds.1.counts

  looks_later : (path : Option (List ℕ)) (found : Found) → Looks path old found new → old.counts.faults ≤ new.counts.faults
  looks_later None found looks = still old.counts new.counts (ap (λ (f : FilesState). f.counts) looks.1)
  looks_later (Some path) found looks = finds_later path found looks

  module _ (n : ℕ) (room : n < 2 ^ 64 - 1) (low : n ≤ old.counts.faults) (high : new.counts.faults ≤ n) where
    finds_so : (path : List ℕ) (found : Found) → Finds path old found new → new ≡ files_read path old
    finds_so path Unreadable finds = absurd (no_rise n old.counts new.counts room low high finds.1)
    finds_so path Missing finds = read_so path old new None finds
    finds_so path (Faulty line) finds = read_so path old new (Some finds.0) finds.2
    finds_so path (Templates templates) finds = read_so path old new (Some finds.0) finds.1

    looks_so : (path : Option (List ℕ)) (found : Found) → Looks path old found new → new ≡ looked_for path old
    looks_so None found looks = looks.1
    looks_so (Some path) found looks = finds_so path found looks

-- ---- a line

abbrev heard_files : Heard → FilesState → FilesState
heard_files Nothing old = old
heard_files (Known command) old = looked_for (file_of command) old
heard_files (Refused reply) old = old

-- the files that a line leaves
abbrev pub line_files : Line → Bool → FilesState → FilesState
line_files TooLong escape old = old
line_files (Whole line) escape old = heard_files (heard escape line) old

module _ (old new : SessionState) (did : Stepped) where
  same_later : new ≡ old → old.files.counts.faults ≤ new.files.counts.faults
  same_later same = still old.files.counts new.files.counts (ap (λ (s : SessionState). s.files.counts) same)

  heard_later : (said : Heard) → StepsHeard said old did new → old.files.counts.faults ≤ new.files.counts.faults
  heard_later Nothing steps = same_later steps.1
  heard_later (Known command) steps = looks_later old.files new.files (file_of command) steps.given.found steps.gives.looks
  heard_later (Refused reply) steps = same_later steps.1

  pub steps_later : (line : Line) → Steps old line did new → old.files.counts.faults ≤ new.files.counts.faults
  steps_later TooLong steps = same_later steps.1
  steps_later (Whole line) steps = heard_later (heard old.asking.escape line) steps

  module _ (n : ℕ) (room : n < 2 ^ 64 - 1) (low : n ≤ old.files.counts.faults) (high : new.files.counts.faults ≤ n) where
    heard_so : (said : Heard) → StepsHeard said old did new → new.files ≡ heard_files said old.files
    heard_so Nothing steps = ap (λ (s : SessionState). s.files) steps.1
    heard_so (Known command) steps = looks_so old.files new.files n room low high (file_of command) steps.given.found steps.gives.looks
    heard_so (Refused reply) steps = ap (λ (s : SessionState). s.files) steps.1

    pub steps_so : (line : Line) → Steps old line did new → new.files ≡ line_files line old.asking.escape old.files
    steps_so TooLong steps = ap (λ (s : SessionState). s.files) steps.1
    steps_so (Whole line) steps = heard_so (heard old.asking.escape line) steps

-- what the layers told is told behind it, which leaves the files
module _ (old new : SessionState) (line : Line) (did : Response) (takes : TakesLine old line did new) where
  told_files : new.files ≡ takes.mid.files
  told_files = ap (λ (s : SessionState). s.files) takes.tells.new_is

  pub takes_later : old.files.counts.faults ≤ new.files.counts.faults
  takes_later =
      subst (λ (f : FilesState). old.files.counts.faults ≤ f.counts.faults) (sym told_files) (steps_later old takes.mid takes.handled.stepped line takes.handled.steps)

  pub takes_so : (n : ℕ) → n < 2 ^ 64 - 1 → n ≤ old.files.counts.faults → new.files.counts.faults ≤ n → new.files ≡ line_files line old.asking.escape old.files
  takes_so n room low high =
      told_files ∙ steps_so old takes.mid takes.handled.stepped n room low (subst (λ (f : FilesState). f.counts.faults ≤ n) told_files high) line takes.handled.steps

-- ---- a line that may ask for a save

-- the files that it leaves
abbrev files_by : Bool → Line → Bool → FilesState → List LayerState → FilesState
files_by true line escape old layers = saved_files old layers
files_by false line escape old layers = line_files line escape old

abbrev pub session_files : Line → Bool → FilesState → List LayerState → FilesState
session_files line escape old layers = files_by (asks_to_save escape line) line escape old layers

module _ (old new : SessionState) (line : Line) (did : Response) (takes : TakesSaving old line did new) where
  pub saving_later : old.files.counts.faults ≤ new.files.counts.faults
  saving_later = elim (line_or_save old new line did takes) [
    | inl by_itself ↦ takes_later old new line did by_itself
    | inr save ↦ still old.files.counts new.files.counts (save_counts old new did save)
  ]

  module _ (n : ℕ) (room : n < 2 ^ 64 - 1) (low : n ≤ old.files.counts.faults) (high : new.files.counts.faults ≤ n) where
    so_by : (asks : Bool) → TakesBy asks old line did new → new.files ≡ files_by asks line old.asking.escape old.files old.store.layers
    so_by true save = save_files old new did save
    so_by false by_itself = takes_so old new line did by_itself n room low high

    pub saving_so : new.files ≡ session_files line old.asking.escape old.files old.store.layers
    saving_so = so_by (asks_to_save old.asking.escape line) (taken old new line did takes)

-- ---- lines

pub course_later : (start : SessionState) (transitions : List (Transition SessionState)) → IsExecution TakesSaving start transitions → start.files.counts.faults ≤ (state_after start transitions).files.counts.faults
course_later start [] course = still start.files.counts start.files.counts refl
course_later start (transition ∷ transitions) course =
    let here : start.files.counts.faults ≤ transition.new.files.counts.faults = saving_later start transition.new transition.line transition.did course.0 in
    let rest : transition.new.files.counts.faults ≤ (state_after transition.new transitions).files.counts.faults = course_later transition.new transitions course.2 in
    omega arith
