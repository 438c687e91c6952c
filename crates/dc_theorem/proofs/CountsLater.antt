-- The files count no less after a part of a run than before it.
use Rattle.std.proofs.Common.{◌≡◌, ◌⊎◌, ℕ, Bool, true, false, List, [], ◌∷◌, inl, inr, refl, ap, sym, subst, ◌∙◌, arith}
use Rattle.std.specs.Prelude.{◌≤◌, Option, Some, None, Result, Ok, Err}
use Rattle.dc_words.specs.declared.stream.Line.{Line}
use Rattle.dc_words.specs.declared.stream.Line.TheVariants.{Whole, TooLong}
use Rattle.dc_outside.specs.Counts.{Counts, Rose, FaultRose, RefusalRose}
use Rattle.dc_outside.specs.State.{FilesState, FilesView, LinkState}
use Rattle.dc_outside.specs.declared.link.Piece.{Piece}
use Rattle.dc_proto.specs.Commands.{heard}
use Rattle.dc_proto.specs.declared.command.Command.{Command}
use Rattle.dc_proto.specs.declared.command.Heard.{Heard}
use Rattle.dc_proto.specs.declared.command.Heard.TheVariants.{Nothing, Known, Refused}
use Rattle.dc_conf.specs.declared.spec.LayerSort.{LayerSort}
use Rattle.dc_conf.specs.declared.spec.LayerSort.TheVariants.{File, Tree, Pack, Pipe}
use Rattle.dc_conf.specs.declared.spec.LayerSpec.{LayerSpec}
use Rattle.dc_layer.specs.State.{LayerState}
use Rattle.dc_save.specs.Loading.{LoadCountsBy}
use Rattle.dc_save.specs.declared.loading.Loaded.{Loaded}
use Rattle.dc_save.specs.declared.loading.Loaded.TheVariants.{Here, LeftOut}
use Rattle.dc_save.specs.declared.saving.SaveError.TheVariants as save
use Rattle.dc_shelf.specs.Shelves.{GoesOn, LoadAnswer, LoadsAll, LoadsOne, Sources}
use Rattle.dc_shelf.specs.declared.loading.SourceError.{SourceError}
use Rattle.dc_shelf.specs.declared.loading.SourceError.TheVariants as source
use Rattle.dc_serve.specs.Execution.{Transition, state_after, IsExecution}
use Rattle.dc_serve.specs.LinkRun.{Answered}
use Rattle.dc_serve.specs.declared.machine.Response.{Response}
use Rattle.dc_serve.specs.declared.outcome.LinkEnd.{LinkEnd}
use Rattle.dc_serve.specs.declared.outcome.LinkEnd.TheVariants as link
use Rattle.dc_session.specs.Machine.{TakesLine, Steps, StepsHeard, Aborts, BreaksHeard, BreaksOff, GivesInPart, IsDoneInPart, Looks, LooksInVain, file_of}
use Rattle.dc_session.specs.Serving.{IsServedBy, Resources}
use Rattle.dc_session.specs.SessionState.{SessionState}
use Rattle.dc_session.specs.TemplateFiles.{Finds, FindsNoMemory}
use Rattle.dc_session.specs.declared.stepped.StepError.TheVariants as step
use Rattle.dc_session.specs.declared.stepped.Stepped.{Stepped}
use Rattle.dc_session.specs.declared.template_files.Found.{Found}
use Rattle.dc_session.specs.declared.template_files.Found.TheVariants.{Unreadable, Missing, Faulty, Templates}
use Rattle.dc_cli.specs.declared.tool.Tool.{Tool}
use Rattle.dc_cli.specs.declared.tool.Tool.TheVariants.{Communicate, LoadTemplate, Run, Show, CopyDb, SetSelections, GetSelections, Drill, Answer}
use Rattle.dc_run.specs.Finishing.{Finishes, FinishesWhere, IsBrokenOff, IsSaved, IsUnsaved, IsUnsent, IsWithoutMemory}
use Rattle.dc_run.specs.Jobs.{CopiesBy, Uses}
use Rattle.dc_run.specs.Saves.{Save}
use Rattle.dc_run.specs.SavingSession.{BreaksSaving, FailsToSave, TakesSaving}
use Rattle.dc_run.specs.Starting.{conf_read_in, HasStarted}
use Rattle.dc_run.specs.declared.saving_session.SavingBreak.{SavingBreak}
use Rattle.dc_run.specs.declared.saving_session.SavingBreak.TheVariants as saving
use Rattle.dc_run.specs.TemplateLoading.{FileTurn, IsFileCourse, EndsAt, state_after as file_state}
use Rattle.dc_run.specs.World.{Ground, Links}
use Rattle.dc_run.specs.Ends.{tool_end_of}
use Rattle.dc_run.specs.declared.outcome.End.{End}
use Rattle.dc_run.specs.declared.outcome.End.TheVariants as end
use Rattle.dc_run.specs.declared.outcome.ToolAnswer.{ToolAnswer}
use Rattle.dc_run.specs.declared.outcome.ToolEnd.{ToolEnd}
use Rattle.dc_run.specs.declared.outcome.ToolEnd.TheVariants as tool
use Rattle.dc_run.specs.Roots.{CopyRoots, Roots}
use Rattle.dc_run.proofs.CrashLemmas.{broken_off, state_left}
use Rattle.dc_run.proofs.RunLemmas.{ends_so}
use Rattle.dc_theorem.proofs.SavingLines.{save_counts, line_or_save}

-- ---- counts

-- a count that rose between two moments rose between an earlier one and a later one
pub rose_between : (a b c d : ℕ) → a ≤ b → Rose b c → c ≤ d → Rose a d
rose_between a b c d before rose after = record { later = omega (arith, before, rose.later, after); rose = omega (arith, before, rose.rose, after) }

pub rose_behind : (a b c : ℕ) → a ≤ b → Rose b c → Rose a c
rose_behind a b c before rose = record { later = omega (arith, before, rose.later); rose = omega (arith, before, rose.rose) }

equal : (a b : ℕ) → b ≡ a → a ≤ b
equal a b same = omega (arith, same)

through : (a b c : ℕ) → a ≤ b → b ≤ c → a ≤ c
through a b c first second = omega (arith, first, second)

-- no count fell
abbrev pub Later : Counts → Counts → Type 0
Later before now = (before.faults ≤ now.faults) × (before.refusals ≤ now.refusals)

-- that of faults didn't fall, and nothing was refused for want of memory
abbrev pub Kept : Counts → Counts → Type 0
Kept before now = (before.faults ≤ now.faults) × (now.refusals ≡ before.refusals)

module _ (before now : Counts) where
  pub unmoved : now ≡ before → Kept before now
  unmoved same = (equal before.faults now.faults (ap (λ (c : Counts). c.faults) same), ap (λ (c : Counts). c.refusals) same)

  pub failed : FaultRose before now → Kept before now
  failed rose = (rose.faults.later, rose.refusals)

  pub refused : RefusalRose before now → Later before now
  refused rose = (equal before.faults now.faults rose.faults, rose.refusals.later)

  pub later_so : Kept before now → Later before now
  later_so kept = (kept.0, equal before.refusals now.refusals kept.1)

pub later_then : (before mid now : Counts) → Later before mid → Later mid now → Later before now
later_then before mid now first second = (through before.faults mid.faults now.faults first.0 second.0, through before.refusals mid.refusals now.refusals first.1 second.1)

pub kept_then : (before mid now : Counts) → Kept before mid → Kept mid now → Kept before now
kept_then before mid now first second = (through before.faults mid.faults now.faults first.0 second.0, second.1 ∙ first.1)

-- ---- lines of a session

module _ (old new : FilesState) where
  finds_kept : (path : List ℕ) (found : Found) → Finds path old found new → Kept old.counts new.counts
  finds_kept path Unreadable finds = failed old.counts new.counts finds.1
  finds_kept path Missing finds = unmoved old.counts new.counts finds.counts
  finds_kept path (Faulty line) finds = unmoved old.counts new.counts finds.2.counts
  finds_kept path (Templates templates) finds = unmoved old.counts new.counts finds.1.counts

  files_kept : new ≡ old → Kept old.counts new.counts
  files_kept same = unmoved old.counts new.counts (ap (λ (f : FilesState). f.counts) same)

  looks_kept : (path : Option (List ℕ)) (found : Found) → Looks path old found new → Kept old.counts new.counts
  looks_kept None found looks = files_kept looks.1
  looks_kept (Some path) found looks = finds_kept path found looks

  none_later : (path : List ℕ) → FindsNoMemory path old new → Later old.counts new.counts
  none_later path (inl (told, inl same)) = later_so old.counts new.counts (unmoved old.counts new.counts same)
  none_later path (inl (told, inr rose)) = refused old.counts new.counts rose
  none_later path (inr read) = later_so old.counts new.counts (unmoved old.counts new.counts read.1)

  vain_later : (path : Option (List ℕ)) → LooksInVain path old new → Later old.counts new.counts
  vain_later None same = later_so old.counts new.counts (files_kept same)
  vain_later (Some path) none = none_later path none

module _ (old new : SessionState) where
  state_kept : new ≡ old → Kept old.files.counts new.files.counts
  state_kept same = files_kept old.files new.files (ap (λ (s : SessionState). s.files) same)

  heard_kept : (said : Heard) (did : Stepped) → StepsHeard said old did new → Kept old.files.counts new.files.counts
  heard_kept Nothing did steps = state_kept steps.1
  heard_kept (Known command) did steps = looks_kept old.files new.files (file_of command) steps.given.found steps.gives.looks
  heard_kept (Refused reply) did steps = state_kept steps.1

  pub steps_kept : (line : Line) (did : Stepped) → Steps old line did new → Kept old.files.counts new.files.counts
  steps_kept TooLong did steps = state_kept steps.1
  steps_kept (Whole line) did steps = heard_kept (heard old.asking.escape line) did steps

  -- memory ran out at a line
  given_later : (command : Command) → GivesInPart command old new → Later old.files.counts new.files.counts
  given_later command part = elim part.gives [
    | inl vain ↦ vain_later old.files new.files (file_of command) vain.0
    | inr shown ↦ later_so old.files.counts new.files.counts (files_kept old.files new.files shown.1)
  ]

  part_later : (command : Command) → IsDoneInPart command old new → Later old.files.counts new.files.counts
  part_later command done = elim done.part [
    | inl given ↦ given_later command given
    | inr left ↦ later_so old.files.counts new.files.counts (looks_kept old.files new.files (file_of command) left.given.found left.gives.looks)
  ]

  same_later : new ≡ old → Later old.files.counts new.files.counts
  same_later same = later_so old.files.counts new.files.counts (state_kept same)

  off_later : (command : Command) → BreaksOff command old step.OutOfMemory new → Later old.files.counts new.files.counts
  off_later command (inl same) = same_later same
  off_later command (inr part) = part_later command part

  heard_later : (said : Heard) → BreaksHeard said old step.OutOfMemory new → Later old.files.counts new.files.counts
  heard_later Nothing same = same_later same
  heard_later (Known command) off = off_later command off
  heard_later (Refused reply) same = same_later same

  line_later : (line : Line) → Aborts old line step.OutOfMemory new → Later old.files.counts new.files.counts
  line_later TooLong same = same_later same
  line_later (Whole line) aborts = heard_later (heard old.asking.escape line) aborts

  -- the terminal failed there
  heard_shown : (said : Heard) → BreaksHeard said old step.Term new → Kept old.files.counts new.files.counts
  heard_shown Nothing none = absurd none
  heard_shown (Known command) fails = files_kept old.files new.files (ap (λ (s : SessionState). s.files) fails.new_is)
  heard_shown (Refused reply) none = absurd none

  line_shown : (line : Line) → Aborts old line step.Term new → Kept old.files.counts new.files.counts
  line_shown TooLong none = absurd none
  line_shown (Whole line) aborts = heard_shown (heard old.asking.escape line) aborts

  -- or a line of the wire was unreadable
  heard_wired : (number : ℕ) (said : Heard) → BreaksHeard said old (step.Wire number) new → Kept old.files.counts new.files.counts
  heard_wired number Nothing none = absurd none
  heard_wired number (Known command) fails = files_kept old.files new.files (ap (λ (s : SessionState). s.files) fails.new_is)
  heard_wired number (Refused reply) none = absurd none

  line_wired : (number : ℕ) (line : Line) → Aborts old line (step.Wire number) new → Kept old.files.counts new.files.counts
  line_wired number TooLong none = absurd none
  line_wired number (Whole line) aborts = heard_wired number (heard old.asking.escape line) aborts

-- what the layers told is told behind a line, which leaves the files
pub takes_kept : (old new : SessionState) (line : Line) (did : Response) → TakesLine old line did new → Kept old.files.counts new.files.counts
takes_kept old new line did takes =
    subst (λ (s : SessionState). Kept old.files.counts s.files.counts) (sym takes.tells.new_is) (steps_kept old takes.mid line takes.handled.stepped takes.handled.steps)

-- a save that is done counts nothing
pub saving_kept : (old new : SessionState) (line : Line) (did : Response) → TakesSaving old line did new → Kept old.files.counts new.files.counts
saving_kept old new line did takes = elim (line_or_save old new line did takes) [
  | inl by_itself ↦ takes_kept old new line did by_itself
  | inr save ↦ unmoved old.files.counts new.files.counts (save_counts old new did save)
]

pub course_kept : (start : SessionState) (turns : List (Transition SessionState)) → IsExecution TakesSaving start turns → Kept start.files.counts (state_after start turns).files.counts
course_kept start [] course = unmoved start.files.counts start.files.counts refl
course_kept start (turn ∷ turns) course =
    kept_then start.files.counts turn.new.files.counts (state_after turn.new turns).files.counts (saving_kept start turn.new turn.line turn.did course.0) (course_kept turn.new turns course.2)

-- a line wasn't heeded to its end for want of memory
abbrev IsForMemory : SavingBreak → Type 0
IsForMemory (saving.Step step.OutOfMemory) = Unit {0}
IsForMemory (saving.Step step.Term) = ⊥
IsForMemory (saving.Step (step.Wire line)) = ⊥
IsForMemory (saving.Save save.OutOfMemory) = Unit {0}
IsForMemory (saving.Save (save.Failed path)) = ⊥

for_memory : (error : SavingBreak) → IsForMemory error ⊎ (IsForMemory error → ⊥)
for_memory (saving.Step step.OutOfMemory) = inl tt
for_memory (saving.Step step.Term) = inr (λ none. none)
for_memory (saving.Step (step.Wire line)) = inr (λ none. none)
for_memory (saving.Save save.OutOfMemory) = inl tt
for_memory (saving.Save (save.Failed path)) = inr (λ none. none)

-- that ended the session at such a line
abbrev BreaksForMemory : LinkEnd SavingBreak → Type 0
BreaksForMemory link.Done = ⊥
BreaksForMemory link.LinkFault = ⊥
BreaksForMemory link.TooLong = ⊥
BreaksForMemory link.OutOfMemory = ⊥
BreaksForMemory (link.Broken error) = IsForMemory error

broken_tool : (error : SavingBreak) → IsForMemory error → tool_end_of (link.Broken error) ≡ tool.OutOfMemory
broken_tool (saving.Step step.OutOfMemory) memory = refl
broken_tool (saving.Step step.Term) none = absurd none
broken_tool (saving.Step (step.Wire line)) none = absurd none
broken_tool (saving.Save save.OutOfMemory) memory = refl
broken_tool (saving.Save (save.Failed path)) none = absurd none

memory_tool : (ended : LinkEnd SavingBreak) → BreaksForMemory ended → tool_end_of ended ≡ tool.OutOfMemory
memory_tool link.Done none = absurd none
memory_tool link.LinkFault none = absurd none
memory_tool link.TooLong none = absurd none
memory_tool link.OutOfMemory none = absurd none
memory_tool (link.Broken error) memory = broken_tool error memory

-- one that isn't done counts a failure, or at most a refusal
module _ (old new : SessionState) (line : Line) where
  unsaved_later : FailsToSave old line save.OutOfMemory new → Later old.files.counts new.files.counts
  unsaved_later fails = elim fails.is.counts [
    | inl rose ↦ refused old.files.counts new.files.counts rose
    | inr same ↦ later_so old.files.counts new.files.counts (unmoved old.files.counts new.files.counts same.0)
  ]

  -- memory ran out at a line, in it or in the save that it asks for
  breaks_later : (error : SavingBreak) → IsForMemory error → BreaksSaving old line error new → Later old.files.counts new.files.counts
  breaks_later (saving.Step step.OutOfMemory) memory aborts = line_later old new line aborts
  breaks_later (saving.Step step.Term) memory aborts = absurd memory
  breaks_later (saving.Step (step.Wire number)) memory aborts = absurd memory
  breaks_later (saving.Save save.OutOfMemory) memory fails = unsaved_later fails
  breaks_later (saving.Save (save.Failed path)) memory fails = absurd memory

  -- at another break
  breaks_kept : (error : SavingBreak) → (IsForMemory error → ⊥) → BreaksSaving old line error new → Kept old.files.counts new.files.counts
  breaks_kept (saving.Step step.OutOfMemory) other aborts = absurd (other tt)
  breaks_kept (saving.Step step.Term) other aborts = line_shown old new line aborts
  breaks_kept (saving.Step (step.Wire number)) other aborts = line_wired old new number line aborts
  breaks_kept (saving.Save save.OutOfMemory) other fails = absurd (other tt)
  breaks_kept (saving.Save (save.Failed path)) other fails = failed old.files.counts new.files.counts fails.is.counts

module _ (start new : SessionState) (turns : List (Transition SessionState)) (rest : List Line) (talk : List Piece) (input : Option (List ℕ)) (before code : ℕ) (course : IsExecution TakesSaving start turns) where
  left_by : new ≡ state_after start turns → Kept start.files.counts new.files.counts
  left_by is = subst (λ (s : SessionState). Kept start.files.counts s.files.counts) (sym is) (course_kept start turns course)

  session_kept : (ended : LinkEnd SavingBreak) → (BreaksForMemory ended → ⊥) → Answered BreaksSaving ended start turns rest talk input before new code → Kept start.files.counts new.files.counts
  session_kept link.Done other answered = left_by (state_left start new turns rest talk input before code link.Done tt answered)
  session_kept link.LinkFault other answered = left_by (state_left start new turns rest talk input before code link.LinkFault tt answered)
  session_kept link.TooLong other answered = left_by (state_left start new turns rest talk input before code link.TooLong tt answered)
  session_kept link.OutOfMemory other answered = left_by (broken_off start new turns rest talk input before code answered)
  session_kept (link.Broken error) other answered =
      let after : SessionState = state_after start turns in
      kept_then start.files.counts after.files.counts new.files.counts (course_kept start turns course) (breaks_kept after new answered.line error other answered.broke)

  session_later : (ended : LinkEnd SavingBreak) → Answered BreaksSaving ended start turns rest talk input before new code → Later start.files.counts new.files.counts
  session_later link.Done answered = later_so start.files.counts new.files.counts (session_kept link.Done (λ is. is) answered)
  session_later link.LinkFault answered = later_so start.files.counts new.files.counts (session_kept link.LinkFault (λ is. is) answered)
  session_later link.TooLong answered = later_so start.files.counts new.files.counts (session_kept link.TooLong (λ is. is) answered)
  session_later link.OutOfMemory answered = later_so start.files.counts new.files.counts (session_kept link.OutOfMemory (λ is. is) answered)
  session_later (link.Broken error) answered =
      let after : SessionState = state_after start turns in
      later_then start.files.counts after.files.counts new.files.counts (later_so start.files.counts after.files.counts (course_kept start turns course))
      (elim (for_memory error) [
        | inl memory ↦ breaks_later after new answered.line error memory answered.broke
        | inr other ↦ later_so after.files.counts new.files.counts (breaks_kept after new answered.line error other answered.broke)
      ])

module _ (start : SessionState) (left : Resources) (old new : LinkState) (ended : LinkEnd SavingBreak) (before code : ℕ) (is : IsServedBy TakesSaving BreaksSaving start left old new ended before code) where
  served_later : Later start.files.counts left.files.counts
  served_later =
      let ran = is.ran in
      subst (λ (f : FilesState). Later start.files.counts f.counts) (sym is.files_are)
      (session_later start is.state ran.transitions ran.rest ran.pieces old.input before code ran.course is.served ran.answered)

  -- at another end than for want of memory
  served_kept : (tool_end_of ended ≡ tool.OutOfMemory → ⊥) → Kept start.files.counts left.files.counts
  served_kept other =
      let ran = is.ran in
      subst (λ (f : FilesState). Kept start.files.counts f.counts) (sym is.files_are)
      (session_kept start is.state ran.transitions ran.rest ran.pieces old.input before code ran.course is.served (no_break (ends_so is.served is.state left ended is.finishes)) ran.answered) where
        no_break : (ended ≡ is.served) ⊎ (ended ≡ link.OutOfMemory) → BreaksForMemory is.served → ⊥
        no_break (inl same) memory = other (ap (λ (e : LinkEnd SavingBreak). tool_end_of e) same ∙ memory_tool is.served memory)
        no_break (inr none) memory = other (ap (λ (e : LinkEnd SavingBreak). tool_end_of e) none)

-- ---- template files

pub turns_kept : (start : SessionState) (turns : List FileTurn) → IsFileCourse start turns → Kept start.files.counts (file_state start turns).files.counts
turns_kept start [] course = unmoved start.files.counts start.files.counts refl
turns_kept start (turn ∷ turns) course =
    kept_then start.files.counts turn.new.files.counts (file_state turn.new turns).files.counts (finds_kept start.files turn.new.files turn.path turn.found course.0.finds) (turns_kept turn.new turns course.1)

end_kept : (ended : ToolEnd) (state : SessionState) (rest : List (List ℕ)) (new : SessionState) → (ended ≡ tool.OutOfMemory → ⊥) → EndsAt ended state rest new → Kept state.files.counts new.files.counts
end_kept tool.Done state rest new other ends = state_kept state new ends.1
end_kept (tool.FilesFault path) state rest new other ends = failed state.files.counts new.files.counts ends.2.1
end_kept tool.OutOfMemory state rest new other ends = absurd (other refl)
end_kept tool.LinkFault state rest new other none = absurd none
end_kept tool.TooLong state rest new other none = absurd none
end_kept tool.PrintFault state rest new other none = absurd none
end_kept tool.TermFault state rest new other none = absurd none
end_kept tool.ChildFault state rest new other none = absurd none
end_kept (tool.BadWire line) state rest new other none = absurd none

end_later : (ended : ToolEnd) (state : SessionState) (rest : List (List ℕ)) (new : SessionState) → EndsAt ended state rest new → Later state.files.counts new.files.counts
end_later tool.Done state rest new ends = same_later state new ends.1
end_later (tool.FilesFault path) state rest new ends = later_so state.files.counts new.files.counts (failed state.files.counts new.files.counts ends.2.1)
end_later tool.OutOfMemory state rest new (path, more, is, inl same) = same_later state new same
end_later tool.OutOfMemory state rest new (path, more, is, inr part) = part_later state new _ part
end_later tool.LinkFault state rest new none = absurd none
end_later tool.TooLong state rest new none = absurd none
end_later tool.PrintFault state rest new none = absurd none
end_later tool.TermFault state rest new none = absurd none
end_later tool.ChildFault state rest new none = absurd none
end_later (tool.BadWire line) state rest new none = absurd none

-- ---- tools

module _ (start : SessionState) (left : Resources) where
  left_kept : left.files ≡ start.files → Kept start.files.counts left.files.counts
  left_kept same = files_kept start.files left.files same

  left_later : left.files ≡ start.files → Later start.files.counts left.files.counts
  left_later same = later_so start.files.counts left.files.counts (left_kept same)

-- what is copied isn't read of files
pub copied_files : (found : Option CopyRoots) (start : SessionState) (old new : Links) (before : ℕ) (answer : ToolAnswer) (told : List ℕ) (left : Resources) → CopiesBy found start old new before answer told left → left.files ≡ start.files
copied_files None start old new before answer told left none = absurd none
copied_files (Some copy) start old new before answer told left is = ap (λ (l : Resources). l.files) is.left_is

module _ (roots : Roots) (start : SessionState) (old new : Links) (before : ℕ) (answer : ToolAnswer) (told : List ℕ) (left : Resources) (saves : List Save) where
  pub tool_later : (used : Tool) → Uses used roots start old new before answer told left saves → Later start.files.counts left.files.counts
  tool_later (Communicate owner) uses = served_later start left old.io new.io uses.0.ended before answer.last_code uses.0.served.by
  tool_later (LoadTemplate owner paths) uses =
      let loads = uses.0.loaded in
      let after = file_state start loads.turns in
      subst (λ (l : Resources). Later start.files.counts l.files.counts) (sym uses.0.left_is)
      (later_then start.files.counts after.files.counts uses.0.state.files.counts (later_so start.files.counts after.files.counts (turns_kept start loads.turns loads.course))
      (end_later answer.ended after loads.rest uses.0.state loads.ends))
  tool_later (Run owner frontend priority command) uses = elim uses.0 [
    | inl none ↦ left_later start left (ap (λ (l : Resources). l.files) none.left_is)
    | inr started ↦ served_later start left started.mid new.child started.ended before answer.last_code started.served.by
  ]
  tool_later (Show database shown) uses = left_later start left (ap (λ (l : Resources). l.files) uses.0.left_is)
  tool_later (CopyDb copy) uses = left_later start left (copied_files roots.copy start old new before answer told left uses.0)
  tool_later (SetSelections verbose check unseen) uses = left_later start left (ap (λ (l : Resources). l.files) uses.0.left_is)
  tool_later GetSelections uses = left_later start left (ap (λ (l : Resources). l.files) uses.0.left_is)
  tool_later (Answer command) uses = left_later start left (ap (λ (l : Resources). l.files) uses.1)
  tool_later (Drill count) uses = left_later start left (ap (λ (l : Resources). l.files) uses.0.left_is)

  -- at another end than for want of memory
  pub tool_kept : (used : Tool) → (answer.ended ≡ tool.OutOfMemory → ⊥) → Uses used roots start old new before answer told left saves → Kept start.files.counts left.files.counts
  tool_kept (Communicate owner) other uses = served_kept start left old.io new.io uses.0.ended before answer.last_code uses.0.served.by (λ is. other (uses.0.ended_is ∙ is))
  tool_kept (LoadTemplate owner paths) other uses =
      let loads = uses.0.loaded in
      let after = file_state start loads.turns in
      subst (λ (l : Resources). Kept start.files.counts l.files.counts) (sym uses.0.left_is)
      (kept_then start.files.counts after.files.counts uses.0.state.files.counts (turns_kept start loads.turns loads.course) (end_kept answer.ended after loads.rest uses.0.state other loads.ends))
  tool_kept (Run owner frontend priority command) other uses = elim uses.0 [
    | inl none ↦ left_kept start left (ap (λ (l : Resources). l.files) none.left_is)
    | inr started ↦ served_kept start left started.mid new.child started.ended before answer.last_code started.served.by (λ is. other (started.ended_is ∙ is))
  ]
  tool_kept (Show database shown) other uses = left_kept start left (ap (λ (l : Resources). l.files) uses.0.left_is)
  tool_kept (CopyDb copy) other uses = left_kept start left (copied_files roots.copy start old new before answer told left uses.0)
  tool_kept (SetSelections verbose check unseen) other uses = left_kept start left (ap (λ (l : Resources). l.files) uses.0.left_is)
  tool_kept GetSelections other uses = left_kept start left (ap (λ (l : Resources). l.files) uses.0.left_is)
  tool_kept (Answer command) other uses = left_kept start left (ap (λ (l : Resources). l.files) uses.1)
  tool_kept (Drill count) other uses = left_kept start left (ap (λ (l : Resources). l.files) uses.0.left_is)

-- ---- loads

no_error : (error : SourceError) → ◌≡◌ {A = Result (Unit {0}) SourceError} (Ok tt) (Err error) → ⊥
no_error error is = cc

pub load_kept : (sort : LayerSort) (files mid : FilesView) (before now : Counts) (loaded : Loaded) → LoadCountsBy sort files mid (Ok loaded) before now → Kept before now
load_kept File files mid before now Here counted = unmoved before now counted
load_kept Tree files mid before now Here counted = unmoved before now counted
load_kept Pack files mid before now Here counted = unmoved before now counted
load_kept File files mid before now LeftOut counted = failed before now counted
load_kept Tree files mid before now LeftOut counted = failed before now counted
load_kept Pack files mid before now LeftOut counted = failed before now counted
load_kept Pipe files mid before now loaded counted = absurd counted

goes_kept : (spec : LayerSpec) (layer made : LayerState) (from mid : Sources) (now : Counts) (more last : Type 0) → (more → Kept mid.files.counts now) → (first : LoadAnswer) → LoadsOne spec layer made from mid first → GoesOn first (Ok tt) more last → Kept from.files.counts now
goes_kept spec layer made from mid now more last rest (LoadAnswer.OfFiles (Ok loaded)) is goes =
    kept_then from.files.counts mid.files.counts now (load_kept spec.sort from.files.view mid.files.view from.files.counts mid.files.counts loaded is.2) (rest goes)
goes_kept spec layer made from mid now more last rest (LoadAnswer.OfFiles (Err error)) is goes = absurd (no_error (source.Files error) goes.0)
goes_kept spec layer made from mid now more last rest (LoadAnswer.OfPipe (Ok loaded)) is goes = subst (λ (f : FilesState). Kept f.counts now) is.2 (rest goes)
goes_kept spec layer made from mid now more last rest (LoadAnswer.OfPipe (Err error)) is goes = absurd (no_error (source.Pipe error) goes.0)

loads_kept : (specs : List LayerSpec) (old new : List LayerState) (from left : Sources) → LoadsAll specs old new from left (Ok tt) → Kept from.files.counts left.files.counts
loads_kept [] old new from left loads = unmoved from.files.counts left.files.counts (ap (λ (s : Sources). s.files.counts) loads.2)
loads_kept (spec ∷ specs) [] new from left loads = absurd loads
loads_kept (spec ∷ specs) (layer ∷ old) [] from left loads = absurd loads
loads_kept (spec ∷ specs) (layer ∷ old) (made ∷ new) from left loads =
    goes_kept spec layer made from loads.1 left.files.counts _ _ (loads_kept specs old new loads.1 left) loads.0 loads.2 loads.3

pub start_kept : (used : Tool) (path : List ℕ) (from : Sources) (mid : Ground) (roots : Roots) → HasStarted used path from mid roots → Kept from.files.counts mid.sources.files.counts
start_kept used path from mid roots started = loads_kept _ _ _ (conf_read_in used path from) mid.sources started.loaded.loads

pub start_later : (used : Tool) (path : List ℕ) (from : Sources) (mid : Ground) (roots : Roots) → HasStarted used path from mid roots → Later from.files.counts mid.sources.files.counts
start_later used path from mid roots started = later_so from.files.counts mid.sources.files.counts (start_kept used path from mid roots started)

-- ---- the save

module _ (left new : Ground) (how : End) where
  abbrev before : Counts
  before = left.sources.files.counts

  abbrev now : Counts
  now = new.sources.files.counts

  broken_kept : (ended : ToolEnd) → IsBrokenOff left new ended how → Kept before now
  broken_kept ended is = unmoved before now (ap (λ (g : Ground). g.sources.files.counts) is.stays)

  abbrev IsAtSave : ToolEnd → Type 0
  IsAtSave ended = IsSaved left new ended how ⊎ IsUnsaved left new ended how ⊎ IsWithoutMemory left new ended how ⊎ IsUnsent left new ended how

  saved_kept : (ended : ToolEnd) → (how ≡ end.OutOfMemory → ⊥) → IsAtSave ended → Kept before now
  saved_kept ended other (inl saved) = unmoved before now saved.counts
  saved_kept ended other (inr (inl unsaved)) = failed before now unsaved.counts
  saved_kept ended other (inr (inr (inl none))) = absurd (other none.end_is)
  saved_kept ended other (inr (inr (inr unsent))) = unmoved before now (ap (λ (f : FilesState). f.counts) unsent.files_are)

  finish_kept : (ended : ToolEnd) → (how ≡ end.OutOfMemory → ⊥) → Finishes left new ended how → Kept before now
  finish_kept tool.Done other save = saved_kept tool.Done other save
  finish_kept tool.LinkFault other save = saved_kept tool.LinkFault other save
  finish_kept tool.TooLong other save = saved_kept tool.TooLong other save
  finish_kept tool.PrintFault other broken = broken_kept tool.PrintFault broken
  finish_kept tool.TermFault other broken = broken_kept tool.TermFault broken
  finish_kept tool.ChildFault other broken = broken_kept tool.ChildFault broken
  finish_kept tool.OutOfMemory other broken = broken_kept tool.OutOfMemory broken
  finish_kept (tool.FilesFault path) other broken = broken_kept (tool.FilesFault path) broken
  finish_kept (tool.BadWire line) other broken = broken_kept (tool.BadWire line) broken

  pub finished_kept : (keeps : Bool) (ended : ToolEnd) → (how ≡ end.OutOfMemory → ⊥) → FinishesWhere keeps left new ended how → Kept before now
  finished_kept true ended other finishes = finish_kept ended other finishes
  finished_kept false ended other broken = broken_kept ended broken

  -- at any end
  saved_later : (ended : ToolEnd) → IsAtSave ended → Later before now
  saved_later ended (inl saved) = later_so before now (unmoved before now saved.counts)
  saved_later ended (inr (inl unsaved)) = later_so before now (failed before now unsaved.counts)
  saved_later ended (inr (inr (inl none))) = elim none.counts [
    | inl rose ↦ refused before now rose
    | inr same ↦ later_so before now (unmoved before now (ap (λ (f : FilesState). f.counts) same))
  ]
  saved_later ended (inr (inr (inr unsent))) = later_so before now (unmoved before now (ap (λ (f : FilesState). f.counts) unsent.files_are))

  broken_later : (ended : ToolEnd) → IsBrokenOff left new ended how → Later before now
  broken_later ended is = later_so before now (broken_kept ended is)

  finish_later : (ended : ToolEnd) → Finishes left new ended how → Later before now
  finish_later tool.Done save = saved_later tool.Done save
  finish_later tool.LinkFault save = saved_later tool.LinkFault save
  finish_later tool.TooLong save = saved_later tool.TooLong save
  finish_later tool.PrintFault broken = broken_later tool.PrintFault broken
  finish_later tool.TermFault broken = broken_later tool.TermFault broken
  finish_later tool.ChildFault broken = broken_later tool.ChildFault broken
  finish_later tool.OutOfMemory broken = broken_later tool.OutOfMemory broken
  finish_later (tool.FilesFault path) broken = broken_later (tool.FilesFault path) broken
  finish_later (tool.BadWire line) broken = broken_later (tool.BadWire line) broken

  pub end_of_later : (keeps : Bool) (ended : ToolEnd) → FinishesWhere keeps left new ended how → Later before now
  end_of_later true ended finishes = finish_later ended finishes
  end_of_later false ended broken = broken_later ended broken
