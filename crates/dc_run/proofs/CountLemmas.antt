-- The counts of the links and of the program by the end of a run.
use Rattle.std.proofs.Common.{◌≡◌, ◌⊎◌, inl, inr, ℕ, Bool, true, false, List, [], ◌∷◌, refl, sym, subst, ap, ◌∙◌, arith}
use Rattle.std.specs.Prelude.{Ok, Err, Option, Some, None, Result}
use Rattle.dc_words.specs.declared.stream.Line.{Line}
use Rattle.dc_outside.specs.Counts.{Counts, Rose, FaultRose, RefusalRose}
use Rattle.dc_outside.specs.declared.link.LinkError.{LinkError}
use Rattle.dc_outside.specs.declared.link.LinkError.TheVariants.{Failed, OutOfMemory}
use Rattle.dc_outside.specs.declared.link.Piece.{Piece}
use Rattle.dc_outside.specs.LinkCalls.{Starts}
use Rattle.dc_outside.specs.Programs.{Program}
use Rattle.dc_conf.specs.declared.faults.ConfError.{ConfError}
use Rattle.dc_conf.specs.declared.faults.ConfError.TheVariants as conf
use Rattle.dc_layer.specs.State.{LayerState}
use Rattle.dc_layer.specs.declared.pattern.PatternError.{PatternError}
use Rattle.dc_layer.specs.declared.pattern.PatternError.TheVariants as pattern
use Rattle.dc_conf.specs.declared.spec.LayerSpec.{LayerSpec}
use Rattle.dc_save.specs.PipeLoading.{HasCome, IsReadBroken, IsReadShort, IsReadWhole, LoadsWhere, ReadsPipe}
use Rattle.dc_save.specs.declared.loading.LoadError.TheVariants as load
use Rattle.dc_save.specs.declared.pipe_loading.PipeError.{PipeError}
use Rattle.dc_save.specs.declared.pipe_loading.PipeError.TheVariants as pipe
use Rattle.dc_save.specs.declared.pipe_loading.PipeLoaded.{PipeLoaded}
use Rattle.dc_save.specs.declared.pipe_loading.PipeLoaded.TheVariants as piped
use Rattle.dc_shelf.specs.Shelves.{GoesOn, LoadAnswer, LoadsAll, LoadsOne, Sources}
use Rattle.dc_shelf.specs.declared.loading.SourceError.{SourceError}
use Rattle.dc_shelf.specs.declared.loading.SourceError.TheVariants as source
use Rattle.dc_serve.specs.Execution.{Transition, state_after, IsExecution}
use Rattle.dc_serve.specs.Ends.{LinkCounts}
use Rattle.dc_serve.specs.LinkRun.{Answered}
use Rattle.dc_serve.specs.declared.outcome.LinkEnd.{LinkEnd}
use Rattle.dc_serve.specs.declared.outcome.LinkEnd.TheVariants as link
use Rattle.dc_save.specs.declared.saving.SaveError.TheVariants as save
use Rattle.dc_session.specs.Serving.{Resources}
use Rattle.dc_outside.specs.State.{FilesState, LinkState}
use Rattle.dc_session.specs.SessionState.{ScreenState, SessionState}
use Rattle.dc_session.specs.declared.stepped.StepError.{StepError}
use Rattle.dc_session.specs.declared.stepped.StepError.TheVariants as step
use Rattle.dc_session.proofs.TerminalLaws.{CountsBreak, AsksNobody, breaks_count, never_fails}
use Rattle.dc_cli.specs.declared.tool.Tool.{Tool}
use Rattle.dc_cli.specs.declared.tool.Tool.TheVariants.{Communicate, LoadTemplate, Run, Show, CopyDb, SetSelections, GetSelections, Drill, Answer}
use Rattle.dc_answer.specs.declared.answerer.AnswerBreak.{AnswerBreak}
use Rattle.dc_answer.specs.declared.answerer.AnswerBreak.TheVariants as broken
use Rattle.dc_run.specs.declared.outcome.End.{End}
use Rattle.dc_run.specs.declared.outcome.End.TheVariants as end
use Rattle.dc_run.specs.declared.outcome.Outcome.{Outcome}
use Rattle.dc_run.specs.declared.outcome.ToolAnswer.{ToolAnswer}
use Rattle.dc_run.specs.declared.outcome.ToolEnd.{ToolEnd}
use Rattle.dc_run.specs.declared.outcome.ToolEnd.TheVariants as tool
use Rattle.dc_run.specs.declared.settings.Settings.{Settings}
use Rattle.dc_run.specs.Roots.{CopyRoots, Roots}
use Rattle.dc_run.specs.Ends.{answer_end, tool_end_of, end_of, end_of_conf, end_of_pattern, end_of_load, end_unsent, end_unwaited, Both, Stays, MayRise, LinksCount, CountsLoads, CountsCalls, ProgramCounts}
use Rattle.dc_run.specs.Finishing.{Finishes, FinishesWhere, IsUnsent, SendsOf, SendsPiped, outgoing}
use Rattle.dc_run.specs.Headline.{HasRunTool}
use Rattle.dc_run.specs.OneRound.{HasUsed}
use Rattle.dc_run.specs.Jobs.{HasCommunicated, HasTaken, Prints, PrintsMade, Copies, CopiesBy, copying, selections_end, Uses}
use Rattle.dc_preseed.specs.Selecting.{SelectorState, FinishesLast, Finishes as FinishesSelections}
use Rattle.dc_preseed.specs.declared.selected.Choices.{Choices}
use Rattle.dc_text.specs.declared.memory.OutOfMemory.{OutOfMemory as NoMemory}
use Rattle.dc_run.specs.declared.outcome.PatternAt.{PatternAt}
use Rattle.dc_run.specs.declared.outcome.PatternAt.TheVariants.{Database, Word}
use Rattle.dc_tools.specs.Copying.{Copying}
use Rattle.dc_run.specs.Saves.{Save}
use Rattle.dc_run.specs.SavingSession.{TakesSaving, BreaksSaving, IsServedSaving}
use Rattle.dc_run.specs.declared.saving_session.SavingBreak.{SavingBreak}
use Rattle.dc_run.specs.declared.saving_session.SavingBreak.TheVariants as saving
use Rattle.dc_run.specs.Running.{IsAnswering, IsNotStarted, IsStarted, end_unstarted, Awaits}
use Rattle.dc_run.specs.Starting.{EndsBefore, EndsUnloaded, HasLoaded, begun, keeps_changes}
use Rattle.dc_run.specs.TemplateLoading.{EndsAt}
use Rattle.dc_run.specs.World.{Ground, Links, World, RunState, before_rounds, ground_in, ground_of, on_ground}
use Rattle.dc_run.proofs.CrashLemmas.{state_left, broken_off}
use Rattle.dc_run.proofs.WireLemmas.{WireCounts, wire_counts}
use Rattle.dc_run.proofs.SavingLemmas.{lines_count, lines_nobody}
use Rattle.dc_run.proofs.UsedLemmas.{as_used}
use Rattle.dc_run.proofs.LoadCounts.{LastCounts, load_counts, loads_counted}
use Rattle.dc_run.proofs.RunLemmas.{ends_so}

-- ---- ends before the tool

module _ (links : Links) where
  all_stay : Both Stays Stays links links
  all_stay = record { on_io = refl; on_child = refl }

  none_rose : Both MayRise MayRise links links
  none_rose = record { on_io = inl refl; on_child = inl refl }

  at_conf : (error : ConfError) → LinksCount (end_of_conf error) links links
  at_conf (conf.Refused line kind) = all_stay
  at_conf conf.OutOfMemory = none_rose

  at_pattern : (place : PatternAt) (error : PatternError) → LinksCount (end_of_pattern place error) links links
  at_pattern place pattern.Bad = all_stay
  at_pattern place pattern.TooLarge = all_stay
  at_pattern place pattern.OutOfMemory = none_rose

  -- no link counts anything before the first load
  unloaded_links : (used : Tool) (path : List ℕ) (old new : FilesState) (how : End) → EndsUnloaded used path old new how → LinksCount how links links
  unloaded_links used path old new how (inl none) = rw none.end_is none_rose
  unloaded_links used path old new how (inr (inl unread)) = rw unread.end_is all_stay
  unloaded_links used path old new how (inr (inr (inl refused))) = rw refused.end_is (at_conf refused.error)
  unloaded_links used path old new how (inr (inr (inr (inl wrong)))) = rw wrong.end_is all_stay
  unloaded_links used path old new how (inr (inr (inr (inr (inl misused))))) = rw misused.end_is all_stay
  unloaded_links used path old new how (inr (inr (inr (inr (inr (inl at)))))) = rw at.end_is (at_pattern (Word at.word.place) at.error)
  unloaded_links used path old new how (inr (inr (inr (inr (inr (inr at)))))) = rw at.end_is (at_pattern (Database at.refused.place) at.refused.error)

-- ---- loads

-- by the end of a run of which a layer isn't loaded
at_load : (error : SourceError) (before now : Links) → now.child.counts ≡ before.child.counts → LastCounts (Err error) before.io.counts now.io.counts → LinksCount (end_of_load error) before now
at_load (source.Files (load.Failed path)) before now child last = record { on_io = last; on_child = child }
at_load (source.Files (load.Damaged path line)) before now child last = record { on_io = last; on_child = child }
at_load (source.Files load.OutOfMemory) before now child last = record { on_io = inl last; on_child = inl child }
at_load (source.Pipe pipe.Failed) before now child last = inl (record { on_io = last; on_child = child })
at_load (source.Pipe (pipe.Damaged line)) before now child last = record { on_io = last; on_child = child }
at_load (source.Pipe pipe.TooLong) before now child last = record { on_io = last; on_child = child }
at_load (source.Pipe pipe.OutOfMemory) before now child last = record { on_io = last; on_child = inl child }

-- how the links count the calls of a run that ends before its tool
before_calls : (used : Tool) (path : List ℕ) (old : World) (sources : Sources) (new : Ground) (how : End) (now : Links) → sources.link ≡ old.links.io → now ≡ record { io = new.sources.link; child = old.links.child } → EndsBefore used path sources new how
    → CountsCalls how old.links now
before_calls used path old sources new how now at is (inl before) = subst (λ (l : Links). CountsCalls how old.links l) (sym is) (record {
  mid = old.links.io;
  loads = inl refl;
  behind = subst (λ (l : LinkState). LinksCount how old.links (record { io = l; child = old.links.child })) (sym (before.1 ∙ at)) (unloaded_links old.links used path sources.files new.sources.files how before.0);
})
before_calls used path old sources new how now at is (inr unloaded) =
    let counted = load_counts _ _ _ _ _ _ unloaded.loaded.loads in
    subst (λ (l : Links). CountsCalls how old.links l) (sym is) (record {
      mid = counted.mid;
      loads = subst (λ (l : LinkState). CountsLoads l.counts counted.mid.counts) at counted.loads;
      behind = rw unloaded.end_is (at_load unloaded.error (record { io = counted.mid; child = old.links.child }) (record { io = new.sources.link; child = old.links.child }) refl counted.last);
    })

module _ (failures : ℕ) where
  program_conf : (error : ConfError) → ProgramCounts (end_of_conf error) failures failures
  program_conf (conf.Refused line kind) = inl refl
  program_conf conf.OutOfMemory = inl refl

  program_pattern : (place : PatternAt) (error : PatternError) → ProgramCounts (end_of_pattern place error) failures failures
  program_pattern place pattern.Bad = inl refl
  program_pattern place pattern.TooLarge = inl refl
  program_pattern place pattern.OutOfMemory = inl refl

  program_load : (error : SourceError) → ProgramCounts (end_of_load error) failures failures
  program_load (source.Files (load.Failed path)) = inl refl
  program_load (source.Files (load.Damaged path line)) = inl refl
  program_load (source.Files load.OutOfMemory) = inl refl
  program_load (source.Pipe pipe.Failed) = inl refl
  program_load (source.Pipe (pipe.Damaged line)) = inl refl
  program_load (source.Pipe pipe.TooLong) = inl refl
  program_load (source.Pipe pipe.OutOfMemory) = inl refl

  unloaded_program : (used : Tool) (path : List ℕ) (old new : FilesState) (how : End) → EndsUnloaded used path old new how → ProgramCounts how failures failures
  unloaded_program used path old new how (inl none) = rw none.end_is (inl refl)
  unloaded_program used path old new how (inr (inl unread)) = rw unread.end_is (inl refl)
  unloaded_program used path old new how (inr (inr (inl refused))) = rw refused.end_is (program_conf refused.error)
  unloaded_program used path old new how (inr (inr (inr (inl wrong)))) = rw wrong.end_is (inl refl)
  unloaded_program used path old new how (inr (inr (inr (inr (inl misused))))) = rw misused.end_is (inl refl)
  unloaded_program used path old new how (inr (inr (inr (inr (inr (inl at)))))) = rw at.end_is (program_pattern (Word at.word.place) at.error)
  unloaded_program used path old new how (inr (inr (inr (inr (inr (inr at)))))) = rw at.end_is (program_pattern (Database at.refused.place) at.refused.error)

  -- and no start or wait was done
  pub before_program : (used : Tool) (path : List ℕ) (old : Sources) (new : Ground) (how : End) → EndsBefore used path old new how → ProgramCounts how failures failures
  before_program used path old new how (inl before) = unloaded_program used path old.files new.sources.files how before.0
  before_program used path old new how (inr at) = rw at.end_is (program_load at.error)

-- ---- a link that was served

-- what it counted, by the end of the tool
abbrev ServedCounts : ToolEnd → Counts → Counts → Type 0
ServedCounts tool.LinkFault before now = FaultRose before now
ServedCounts tool.PrintFault before now = FaultRose before now
ServedCounts tool.OutOfMemory before now = MayRise before now
ServedCounts ended before now = Stays before now

module _ (before now : Counts) where
  by_link : (served : LinkEnd SavingBreak) → LinkCounts served before now → ServedCounts (tool_end_of served) before now
  by_link link.Done same = same
  by_link link.TooLong same = same
  by_link link.LinkFault rose = rose
  by_link link.OutOfMemory (inl rose) = inr (inr rose)
  by_link link.OutOfMemory (inr same) = inl same
  by_link (link.Broken (saving.Step step.Term)) same = same
  by_link (link.Broken (saving.Step (step.Wire line))) same = same
  by_link (link.Broken (saving.Step step.OutOfMemory)) same = inl same
  by_link (link.Broken (saving.Save (save.Failed path))) same = same
  by_link (link.Broken (saving.Save save.OutOfMemory)) same = inl same

  -- where memory ran out as the session was finished
  may_rise : (ended : ToolEnd) → ServedCounts ended before now → MayRise before now
  may_rise tool.Done same = inl same
  may_rise tool.LinkFault rose = inr (inl rose)
  may_rise tool.PrintFault rose = inr (inl rose)
  may_rise tool.TermFault same = inl same
  may_rise tool.ChildFault same = inl same
  may_rise tool.TooLong same = inl same
  may_rise tool.OutOfMemory may = may
  may_rise (tool.FilesFault path) same = inl same
  may_rise (tool.BadWire line) same = inl same

  by_session : (served ended : LinkEnd SavingBreak) → (ended ≡ served) ⊎ (ended ≡ link.OutOfMemory) → LinkCounts served before now → ServedCounts (tool_end_of ended) before now
  by_session served ended (inl same) counts = rw same (by_link served counts)
  by_session served ended (inr none) counts = rw none (may_rise (tool_end_of served) (by_link served counts))

served_counts : (start : SessionState) (left : Resources) (old new : LinkState) (ended : LinkEnd SavingBreak) (before code : ℕ) (saves : List Save) → IsServedSaving start left old new ended before code saves
    → ServedCounts (tool_end_of ended) old.counts new.counts
served_counts start left old new ended before code saves is =
    let served = is.by in
    by_session old.counts new.counts served.served ended (ends_so served.served served.state left ended served.finishes) served.counts

-- ---- its terminal

-- what it counted, by the end of the link
abbrev TerminalCounts : LinkEnd SavingBreak → Counts → Counts → Type 0
TerminalCounts (link.Broken (saving.Step error)) before now = CountsBreak error before now
TerminalCounts ended before now = Stays before now

module _ (start new : SessionState) (turns : List (Transition SessionState)) (rest : List Line) (talk : List Piece) (input : Option (List ℕ)) (code_before code : ℕ) (course : IsExecution TakesSaving start turns) where
  unused : new ≡ state_after start turns → new.terminal.link.counts ≡ start.terminal.link.counts
  unused is = ap (λ (s : SessionState). s.terminal.link.counts) is ∙ lines_count start turns course

  moved : (error : StepError) (before mid now : Counts) → mid ≡ before → CountsBreak error mid now → CountsBreak error before now
  moved error before mid now same counts = subst (λ (c : Counts). CountsBreak error c now) same counts

  terminal_counts : (ended : LinkEnd SavingBreak) → Answered BreaksSaving ended start turns rest talk input code_before new code → TerminalCounts ended start.terminal.link.counts new.terminal.link.counts
  terminal_counts link.Done answered = unused (state_left start new turns rest talk input code_before code link.Done tt answered)
  terminal_counts link.LinkFault answered = unused (state_left start new turns rest talk input code_before code link.LinkFault tt answered)
  terminal_counts link.TooLong answered = unused (state_left start new turns rest talk input code_before code link.TooLong tt answered)
  terminal_counts link.OutOfMemory answered = unused (broken_off start new turns rest talk input code_before code answered)
  terminal_counts (link.Broken (saving.Step error)) answered =
      moved error start.terminal.link.counts (state_after start turns).terminal.link.counts new.terminal.link.counts (lines_count start turns course)
      (breaks_count (state_after start turns) new answered.line error answered.broke)
  terminal_counts (link.Broken (saving.Save error)) answered = ap (λ (s : SessionState). s.terminal.link.counts) answered.broke.new_is ∙ lines_count start turns course

  -- a session that asks nobody doesn't break off at its terminal
  unbroken : AsksNobody start → (error : StepError) → error ≡ step.Term → Answered BreaksSaving (link.Broken (saving.Step error)) start turns rest talk input code_before new code → ⊥
  unbroken nobody step.Term is answered = never_fails (state_after start turns) new answered.line (lines_nobody start turns nobody course) answered.broke
  unbroken nobody step.OutOfMemory is answered = cc
  unbroken nobody (step.Wire line) is answered = cc

-- ---- tools

-- what both links counted, by the end of the tool
abbrev ToolLinks : ToolEnd → Links → Links → Type 0
ToolLinks tool.LinkFault before now = Both FaultRose Stays before now ⊎ Both Stays FaultRose before now
ToolLinks tool.PrintFault before now = Both FaultRose Stays before now
ToolLinks tool.TermFault before now = Both FaultRose Stays before now
ToolLinks tool.OutOfMemory before now = Both MayRise MayRise before now
ToolLinks ended before now = Both Stays Stays before now

module _ (before now : Links) (child : now.child ≡ before.child) where
  unserved : now.child.counts ≡ before.child.counts
  unserved = ap (λ (c : LinkState). c.counts) child

  -- the program's own link was served
  own_links : (ended : ToolEnd) → (ended ≡ tool.TermFault → ⊥) → ServedCounts ended before.io.counts now.io.counts → ToolLinks ended before now
  own_links tool.Done other same = record { on_io = same; on_child = unserved }
  own_links tool.LinkFault other rose = inl (record { on_io = rose; on_child = unserved })
  own_links tool.PrintFault other rose = record { on_io = rose; on_child = unserved }
  own_links tool.TermFault other same = absurd (other refl)
  own_links tool.ChildFault other same = record { on_io = same; on_child = unserved }
  own_links tool.TooLong other same = record { on_io = same; on_child = unserved }
  own_links tool.OutOfMemory other may = record { on_io = may; on_child = inl unserved }
  own_links (tool.FilesFault path) other same = record { on_io = same; on_child = unserved }
  own_links (tool.BadWire line) other same = record { on_io = same; on_child = unserved }

no_term : (served ended : LinkEnd SavingBreak) → (ended ≡ served) ⊎ (ended ≡ link.OutOfMemory) → (served ≡ link.Broken (saving.Step step.Term) → ⊥) → tool_end_of ended ≡ tool.TermFault → ⊥
no_term served link.Done by other is = cc
no_term served link.LinkFault by other is = cc
no_term served link.TooLong by other is = cc
no_term served link.OutOfMemory by other is = cc
no_term served (link.Broken (saving.Step step.OutOfMemory)) by other is = cc
no_term served (link.Broken (saving.Step (step.Wire line))) by other is = cc
no_term served (link.Broken (saving.Save (save.Failed path))) by other is = cc
no_term served (link.Broken (saving.Save save.OutOfMemory)) by other is = cc
no_term served (link.Broken (saving.Step step.Term)) (inl same) other is = other (sym same)
no_term served (link.Broken (saving.Step step.Term)) (inr none) other is = cc

communicated_links : (start : SessionState) (before now : Links) (code : ℕ) (answer : ToolAnswer) (left : Resources) (saves : List Save) → AsksNobody start → HasCommunicated start before.io now.io code answer left saves
    → now.child ≡ before.child → ToolLinks answer.ended before now
communicated_links start before now code answer left saves nobody is child =
    let served = is.served.by in
    let ran = served.ran in
    rw is.ended_is
    (own_links before now child (tool_end_of is.ended)
    (no_term served.served is.ended (ends_so served.served served.state left is.ended served.finishes)
    (λ broken. unbroken start served.state ran.transitions ran.rest ran.pieces before.io.input code answer.last_code ran.course nobody step.Term refl
    (subst (λ (e : LinkEnd SavingBreak). Answered BreaksSaving e start ran.transitions ran.rest ran.pieces before.io.input code served.state answer.last_code) broken ran.answered)))
    (served_counts start left before.io now.io is.ended code answer.last_code saves is.served))

silent_links : (ended : ToolEnd) (state : SessionState) (rest : List (List ℕ)) (new : SessionState) (links : Links) → EndsAt ended state rest new → ToolLinks ended links links
silent_links tool.Done state rest new links ends = all_stay links
silent_links (tool.FilesFault path) state rest new links ends = all_stay links
silent_links tool.OutOfMemory state rest new links ends = none_rose links
silent_links tool.LinkFault state rest new links ends = absurd ends
silent_links tool.TooLong state rest new links ends = absurd ends
silent_links tool.PrintFault state rest new links ends = absurd ends
silent_links tool.TermFault state rest new links ends = absurd ends
silent_links tool.ChildFault state rest new links ends = absurd ends
silent_links (tool.BadWire line) state rest new links ends = absurd ends

-- the program was served, and the user asked on the program's own link
module _ (before now : Links) where
  both_links : (served : LinkEnd SavingBreak) → ServedCounts (tool_end_of served) before.child.counts now.child.counts → TerminalCounts served before.io.counts now.io.counts → ToolLinks (tool_end_of served) before now
  both_links link.Done child io = record { on_io = io; on_child = child }
  both_links link.TooLong child io = record { on_io = io; on_child = child }
  both_links link.LinkFault child io = inr (record { on_io = io; on_child = child })
  both_links link.OutOfMemory child io = record { on_io = inl io; on_child = child }
  both_links (link.Broken (saving.Step step.Term)) child io = record { on_io = io; on_child = child }
  both_links (link.Broken (saving.Step (step.Wire line))) child io = record { on_io = io; on_child = child }
  both_links (link.Broken (saving.Step step.OutOfMemory)) child (inl same) = record { on_io = inl same; on_child = child }
  both_links (link.Broken (saving.Step step.OutOfMemory)) child (inr rose) = record { on_io = inr (inr rose); on_child = child }
  both_links (link.Broken (saving.Save (save.Failed path))) child io = record { on_io = io; on_child = child }
  both_links (link.Broken (saving.Save save.OutOfMemory)) child io = record { on_io = inl io; on_child = child }

  any_io : (served : LinkEnd SavingBreak) → TerminalCounts served before.io.counts now.io.counts → MayRise before.io.counts now.io.counts
  any_io link.Done io = inl io
  any_io link.TooLong io = inl io
  any_io link.LinkFault io = inl io
  any_io link.OutOfMemory io = inl io
  any_io (link.Broken (saving.Step step.Term)) io = inr (inl io)
  any_io (link.Broken (saving.Step (step.Wire line))) io = inl io
  any_io (link.Broken (saving.Step step.OutOfMemory)) (inl same) = inl same
  any_io (link.Broken (saving.Step step.OutOfMemory)) (inr rose) = inr (inr rose)
  any_io (link.Broken (saving.Save error)) io = inl io

  program_links : (served ended : LinkEnd SavingBreak) → (ended ≡ served) ⊎ (ended ≡ link.OutOfMemory) → ServedCounts (tool_end_of ended) before.child.counts now.child.counts
      → TerminalCounts served before.io.counts now.io.counts → ToolLinks (tool_end_of ended) before now
  program_links served ended (inl same) child io = both_links ended child (subst (λ (e : LinkEnd SavingBreak). TerminalCounts e before.io.counts now.io.counts) (sym same) io)
  program_links served ended (inr none) child io =
      rw none (record { on_io = any_io served io; on_child = subst (λ (e : LinkEnd SavingBreak). ServedCounts (tool_end_of e) before.child.counts now.child.counts) none child })

started_links : (command : List (List ℕ)) (start : SessionState) (before now : Links) (code : ℕ) (answer : ToolAnswer) (left : Resources) (saves : List Save) → start.terminal.link ≡ before.io
    → IsStarted command start before now code answer left saves → ToolLinks answer.ended before now
started_links command start before now code answer left saves asks is =
    let served = is.served.by in
    let ran = served.ran in
    let shown = terminal_counts start served.state ran.transitions ran.rest ran.pieces is.mid.input code answer.last_code ran.course served.served ran.answered in
    rw is.ended_is
    (program_links before now served.served is.ended (ends_so served.served served.state left is.ended served.finishes)
    (subst (λ (c : Counts). ServedCounts (tool_end_of is.ended) c now.child.counts) (ap (λ (l : LinkState). l.counts) is.starts.state)
    (served_counts start left is.mid now.child is.ended code answer.last_code saves is.served))
    (subst (λ (c : Counts). TerminalCounts served.served c now.io.counts) (ap (λ (l : LinkState). l.counts) asks)
    (subst (λ (c : Counts). TerminalCounts served.served start.terminal.link.counts c) (ap (λ (l : LinkState). l.counts) (sym (is.io ∙ ap (λ (t : ScreenState). t.link) served.terminal_is))) shown)))

unstarted_links : (command : List (List ℕ)) (before now : Links) (code : ℕ) (answer : ToolAnswer) → IsNotStarted command before now code answer → ToolLinks answer.ended before now
unstarted_links command before now code answer is = rw is.ended_is (by_error is.error is.starts) where
  io : now.io.counts ≡ before.io.counts
  io = ap (λ (l : LinkState). l.counts) is.io

  by_error : (error : LinkError) → Starts {T = Unit {0}} command before.child now.child (Err error) → ToolLinks (end_unstarted error) before now
  by_error Failed failed = record { on_io = io; on_child = ap (λ (l : LinkState). l.counts) failed.state }
  by_error OutOfMemory refused = record { on_io = inl io; on_child = inr (inr refused.rose) }

-- a program was started, and its requests were asked on the program's own link
answered_by : (before now : Links) (ended : LinkEnd AnswerBreak) → LinkCounts ended before.child.counts now.child.counts → WireCounts ended before.io.counts now.io.counts → ToolLinks (answer_end ended) before now
answered_by before now link.Done child io = record { on_io = io; on_child = child }
answered_by before now link.TooLong child io = record { on_io = io; on_child = child }
answered_by before now link.LinkFault child io = inr (record { on_io = io; on_child = child })
answered_by before now link.OutOfMemory (inl rose) io = record { on_io = inl io; on_child = inr (inr rose) }
answered_by before now link.OutOfMemory (inr same) io = record { on_io = inl io; on_child = inl same }
answered_by before now (link.Broken (broken.Wire line)) child io = record { on_io = io; on_child = child }
answered_by before now (link.Broken broken.Term) child io = record { on_io = io; on_child = child }
answered_by before now (link.Broken broken.OutOfMemory) child (inl rose) = record { on_io = inr (inr rose); on_child = inl child }
answered_by before now (link.Broken broken.OutOfMemory) child (inr same) = record { on_io = inl same; on_child = inl child }

answering_links : (command : List (List ℕ)) (before now : Links) (code : ℕ) (answer : ToolAnswer) → IsAnswering command before now code answer → ToolLinks answer.ended before now
answering_links command before now code answer is =
    rw is.ended_is
    (answered_by before now is.ended
    (subst (λ (c : Counts). LinkCounts is.ended c now.child.counts) (ap (λ (l : LinkState). l.counts) is.starts.state) is.answered.serves.counts)
    (wire_counts before.io now.io is.mid now.child is.ended is.answered))

-- a text was printed
printed_links : (text : List ℕ) (ended : ToolEnd) (before now : Links) → Prints text before.io now.io ended → now.child ≡ before.child → ToolLinks ended before now
printed_links text tool.Done before now sent child = record { on_io = ap (λ (l : LinkState). l.counts) sent; on_child = ap (λ (l : LinkState). l.counts) child }
printed_links text tool.PrintFault before now cut child = record { on_io = cut.rose; on_child = ap (λ (l : LinkState). l.counts) child }
printed_links text tool.OutOfMemory before now (inl refused) child = record { on_io = inr (inr refused.rose); on_child = inl (ap (λ (l : LinkState). l.counts) child) }
printed_links text tool.OutOfMemory before now (inr same) child = record { on_io = inl (ap (λ (l : LinkState). l.counts) same); on_child = inl (ap (λ (l : LinkState). l.counts) child) }
printed_links text tool.LinkFault before now none child = absurd none
printed_links text tool.TermFault before now none child = absurd none
printed_links text tool.ChildFault before now none child = absurd none
printed_links text tool.TooLong before now none child = absurd none
printed_links text (tool.FilesFault path) before now none child = absurd none
printed_links text (tool.BadWire line) before now none child = absurd none

-- items were copied
copied_links : (copy : Copying) (old new : List LayerState) (ended : ToolEnd) (said : List ℕ) (status : ℕ) (links : Links) → Copies copy old new ended said status → ToolLinks ended links links
copied_links copy old new tool.Done said status links copies = all_stay links
copied_links copy old new tool.OutOfMemory said status links copies = none_rose links
copied_links copy old new tool.PrintFault said status links none = absurd none
copied_links copy old new tool.LinkFault said status links none = absurd none
copied_links copy old new tool.TermFault said status links none = absurd none
copied_links copy old new tool.ChildFault said status links none = absurd none
copied_links copy old new tool.TooLong said status links none = absurd none
copied_links copy old new (tool.FilesFault path) said status links none = absurd none
copied_links copy old new (tool.BadWire line) said status links none = absurd none

copy_links : (found : Option CopyRoots) (start : SessionState) (before now : Links) (code : ℕ) (answer : ToolAnswer) (said : List ℕ) (left : Resources) → CopiesBy found start before now code answer said left → ToolLinks answer.ended before now
copy_links None start before now code answer said left none = absurd none
copy_links (Some copy) start before now code answer said left is =
    rw is.links_are (copied_links (copying start copy) start.store.layers left.layers answer.ended said answer.status before is.copies)

-- selections were taken, from the program's own link
module _ (before now : Links) (child : now.child ≡ before.child) (state left : SelectorState) where
  at_last : (ended : LinkEnd NoMemory) → FinishesLast state left ended → now.io.counts ≡ before.io.counts → ToolLinks (selections_end ended) before now
  at_last ended (inl all) same = rw all.1 (record { on_io = same; on_child = unserved before now child })
  at_last ended (inr none) same = rw none.1 (record { on_io = inl same; on_child = inl (unserved before now child) })

  without_memory : (ended : LinkEnd NoMemory) → ended ≡ link.OutOfMemory → MayRise before.io.counts now.io.counts → ToolLinks (selections_end ended) before now
  without_memory ended is may = rw is (record { on_io = may; on_child = inl (unserved before now child) })

  taken_by : (served ended : LinkEnd NoMemory) → FinishesSelections served state left ended → LinkCounts served before.io.counts now.io.counts → ToolLinks (selections_end ended) before now
  taken_by link.Done ended finishes same = at_last ended finishes same
  taken_by link.LinkFault ended finishes rose = rw finishes.1 (inl (record { on_io = rose; on_child = unserved before now child }))
  taken_by link.TooLong ended finishes same = rw finishes.1 (record { on_io = same; on_child = unserved before now child })
  taken_by link.OutOfMemory ended finishes (inl rose) = without_memory ended finishes.1 (inr (inr rose))
  taken_by link.OutOfMemory ended finishes (inr same) = without_memory ended finishes.1 (inl same)
  taken_by (link.Broken error) ended finishes same = without_memory ended finishes.1 (inl same)

taken_links : (choices : Choices) (start : SessionState) (before now : Links) (code : ℕ) (answer : ToolAnswer) (left : Resources) → HasTaken choices start before.io now.io code answer left → now.child ≡ before.child
    → ToolLinks answer.ended before now
taken_links choices start before now code answer left is child =
    rw is.ended_is (taken_by before now child is.selected.state is.state is.selected.served is.ended is.selected.finishes is.selected.serves.counts)

-- the numbers of a drill were printed
made_links : {E : Type 0} (made : Result (List ℕ) E) (ended : ToolEnd) (before now : Links) → PrintsMade made before.io now.io ended → now.child ≡ before.child → ToolLinks ended before now
made_links (Ok text) ended before now prints child = printed_links text ended before now prints child
made_links (Err error) ended before now none child =
    rw none.0 (record { on_io = inl (ap (λ (l : LinkState). l.counts) none.1); on_child = inl (ap (λ (l : LinkState). l.counts) child) })

tool_links : (used : Tool) (state : RunState) (roots : Roots) (settings : Settings) (now : Links) (answer : ToolAnswer) (said : List ℕ) (left : Resources) (saves : List Save)
    → Uses used roots (begun used state roots settings) state.world.links now state.code answer said left saves → ToolLinks answer.ended state.world.links now
tool_links (Communicate owner) state roots settings now answer said left saves uses =
    communicated_links (begun (Communicate owner) state roots settings) state.world.links now state.code answer left saves refl uses.0 uses.1
tool_links (LoadTemplate owner paths) state roots settings now answer said left saves uses =
    rw uses.0.links_are (silent_links answer.ended _ uses.0.loaded.rest uses.0.state state.world.links uses.0.loaded.ends)
tool_links (Run owner frontend priority command) state roots settings now answer said left saves uses = elim uses.0 [
  | inl none ↦ unstarted_links command state.world.links now state.code answer none.unstarted
  | inr started ↦ started_links command (begun (Run owner frontend priority command) state roots settings) state.world.links now state.code answer left saves refl started
]
tool_links (Show database shown) state roots settings now answer said left saves uses = printed_links _ answer.ended state.world.links now uses.0.prints uses.0.child_is
tool_links (CopyDb copy) state roots settings now answer said left saves uses =
    copy_links roots.copy (begun (CopyDb copy) state roots settings) state.world.links now state.code answer said left uses.0
tool_links (SetSelections verbose check unseen) state roots settings now answer said left saves uses =
    taken_links (record { verbose = verbose; check = check; unseen = unseen }) (begun (SetSelections verbose check unseen) state roots settings) state.world.links now state.code answer left uses.0 uses.1
tool_links GetSelections state roots settings now answer said left saves uses = printed_links _ answer.ended state.world.links now uses.0.prints uses.0.child_is
tool_links (Drill count) state roots settings now answer said left saves uses = made_links uses.0.result answer.ended state.world.links now uses.0.prints uses.0.child_is
tool_links (Answer command) state roots settings now answer said left saves uses = elim uses.0 [
  | inl none ↦ unstarted_links command state.world.links now state.code answer none
  | inr answering ↦ answering_links command state.world.links now state.code answer answering
]

-- ---- the end of the run

module _ (before mid now : Links) (io : now.io.counts ≡ mid.io.counts) where
  module _ (child : now.child.counts ≡ mid.child.counts) where
    both : (one other : Counts → Counts → Type 0) → Both one other before mid → Both one other before now
    both one other counts = record {
      on_io = subst (λ (c : Counts). one before.io.counts c) (sym io) counts.on_io;
      on_child = subst (λ (c : Counts). other before.child.counts c) (sym child) counts.on_child;
    }

    same_links : (how : End) → LinksCount how before mid → LinksCount how before now
    same_links end.Done counts = both Stays Stays counts
    same_links (end.Usage word) counts = both Stays Stays counts
    same_links (end.ConfRefused line kind) counts = both Stays Stays counts
    same_links (end.BadPattern place) counts = both Stays Stays counts
    same_links (end.PatternTooLarge place) counts = both Stays Stays counts
    same_links (end.Damaged path line) counts = both Stays Stays counts
    same_links end.OutOfMemory counts = both MayRise MayRise counts
    same_links (end.FilesFault path) counts = both Stays Stays counts
    same_links (end.BadWire line) counts = both Stays Stays counts
    same_links end.LinkFault (inl counts) = inl (both FaultRose Stays counts)
    same_links end.LinkFault (inr counts) = inr (both Stays FaultRose counts)
    same_links end.TermFault counts = both FaultRose Stays counts
    same_links end.ChildFault counts = both Stays Stays counts
    same_links end.TooLong counts = both Stays Stays counts

module _ (left new : Ground) (before : Links) (child : LinkState) where
  -- the links as the tool left them, and as the run does
  abbrev mid_links : Links
  mid_links = record { io = left.sources.link; child = child }

  abbrev now_links : Links
  now_links = record { io = new.sources.link; child = child }

  piped_counts : (text : Option (List ℕ)) → SendsPiped text left.sources.link new.sources.link (Ok tt) → new.sources.link.counts ≡ left.sources.link.counts
  piped_counts None is = ap (λ (l : LinkState). l.counts) is.1
  piped_counts (Some text) is = ap (λ (l : LinkState). l.counts) is

  sent_links : (ended : ToolEnd) (how : End) → SendsOf ended left new (Ok tt) → LinksCount how before mid_links → LinksCount how before now_links
  sent_links ended how sent = same_links before mid_links now_links (piped_counts (outgoing ended left.used) sent) refl how

  stayed_links : (how : End) → new ≡ left → LinksCount how before mid_links → LinksCount how before now_links
  stayed_links how stays = same_links before mid_links now_links (ap (λ (g : Ground). g.sources.link.counts) stays) refl how

  -- the text was sent, or nothing was done
  may_links : (ended : ToolEnd) → SendsOf ended left new (Ok tt) ⊎ (new ≡ left) → LinksCount end.OutOfMemory before mid_links → LinksCount end.OutOfMemory before now_links
  may_links ended (inl sent) links = sent_links ended end.OutOfMemory sent links
  may_links ended (inr stays) links = stayed_links end.OutOfMemory stays links

  unsent_links : (text : Option (List ℕ)) (error : LinkError) → SendsPiped text left.sources.link new.sources.link (Err error) → Both Stays Stays before mid_links → LinksCount (end_unsent error) before now_links
  unsent_links None error is links = absurd (let wrong = is.0 in cc)
  unsent_links (Some text) Failed cut links = inl (record { on_io = subst (λ (c : Counts). FaultRose c new.sources.link.counts) links.on_io cut.rose; on_child = links.on_child })
  unsent_links (Some text) OutOfMemory refused links = record { on_io = inr (inr (subst (λ (c : Counts). RefusalRose c new.sources.link.counts) links.on_io refused.rose)); on_child = inl links.on_child }

  -- behind a tool that didn't do all nothing goes out
  all_sent : (error : LinkError) → SendsPiped None left.sources.link new.sources.link (Err error) → ⊥
  all_sent error is = let wrong = is.0 in cc

  run_links : (ended : ToolEnd) (how : End) → Finishes left new ended how → ToolLinks ended before mid_links → LinksCount how before now_links
  run_links tool.Done how (inl saved) links = rw saved.end_is (sent_links tool.Done end.Done saved.sent links)
  run_links tool.Done how (inr (inl unsaved)) links = rw unsaved.end_is (sent_links tool.Done (end.FilesFault unsaved.path) unsaved.sent links)
  run_links tool.Done how (inr (inr (inl none))) links = rw none.end_is (may_links tool.Done none.sent (record { on_io = inl links.on_io; on_child = inl links.on_child }))
  run_links tool.Done how (inr (inr (inr unsent))) links = rw unsent.end_is (unsent_links (outgoing tool.Done left.used) unsent.error unsent.sends links)
  run_links tool.TooLong how (inl saved) links = rw saved.end_is (sent_links tool.TooLong end.TooLong saved.sent links)
  run_links tool.TooLong how (inr (inl unsaved)) links = rw unsaved.end_is (sent_links tool.TooLong end.TooLong unsaved.sent links)
  run_links tool.TooLong how (inr (inr (inl none))) links = rw none.end_is (may_links tool.TooLong none.sent (record { on_io = inl links.on_io; on_child = inl links.on_child }))
  run_links tool.TooLong how (inr (inr (inr unsent))) links = absurd (all_sent unsent.error unsent.sends)
  run_links tool.LinkFault how (inl saved) links = rw saved.end_is (sent_links tool.LinkFault end.LinkFault saved.sent links)
  run_links tool.LinkFault how (inr (inl unsaved)) links = rw unsaved.end_is (sent_links tool.LinkFault end.LinkFault unsaved.sent links)
  run_links tool.LinkFault how (inr (inr (inl none))) (inl own) = rw none.end_is (may_links tool.LinkFault none.sent (record { on_io = inr (inl own.on_io); on_child = inl own.on_child }))
  run_links tool.LinkFault how (inr (inr (inl none))) (inr other) = rw none.end_is (may_links tool.LinkFault none.sent (record { on_io = inl other.on_io; on_child = inr (inl other.on_child) }))
  run_links tool.LinkFault how (inr (inr (inr unsent))) links = absurd (all_sent unsent.error unsent.sends)
  run_links tool.PrintFault how broken links = rw broken.end_is (stayed_links end.LinkFault broken.stays (inl links))
  run_links tool.TermFault how broken links = rw broken.end_is (stayed_links end.TermFault broken.stays links)
  run_links tool.ChildFault how broken links = rw broken.end_is (stayed_links end.ChildFault broken.stays links)
  run_links tool.OutOfMemory how broken links = rw broken.end_is (stayed_links end.OutOfMemory broken.stays links)
  run_links (tool.FilesFault path) how broken links = rw broken.end_is (stayed_links (end.FilesFault path) broken.stays links)
  run_links (tool.BadWire line) how broken links = rw broken.end_is (stayed_links (end.BadWire line) broken.stays links)

  -- how it ends where nothing is saved
  unsaved_links : (ended : ToolEnd) → ToolLinks ended before mid_links → LinksCount (end_of ended) before mid_links
  unsaved_links tool.Done links = links
  unsaved_links tool.TooLong links = links
  unsaved_links tool.LinkFault links = links
  unsaved_links tool.PrintFault links = inl links
  unsaved_links tool.TermFault links = links
  unsaved_links tool.ChildFault links = links
  unsaved_links tool.OutOfMemory links = links
  unsaved_links (tool.FilesFault path) links = links
  unsaved_links (tool.BadWire line) links = links

  ended_links : (keeps : Bool) (ended : ToolEnd) (how : End) → FinishesWhere keeps left new ended how → ToolLinks ended before mid_links → LinksCount how before now_links
  ended_links true ended how finished links = run_links ended how finished links
  ended_links false ended how broken links = rw broken.end_is (stayed_links (end_of ended) broken.stays (unsaved_links ended links))

-- a wait that failed leaves the links
unwaited_links : (how : End) (before now : Links) → LinksCount how before now → LinksCount (end_unwaited how) before now
unwaited_links end.Done before now links = links
unwaited_links (end.Usage word) before now links = links
unwaited_links (end.ConfRefused line kind) before now links = links
unwaited_links (end.BadPattern place) before now links = links
unwaited_links (end.PatternTooLarge place) before now links = links
unwaited_links (end.Damaged path line) before now links = links
unwaited_links end.OutOfMemory before now links = links
unwaited_links (end.FilesFault path) before now links = links
unwaited_links (end.BadWire line) before now links = links
unwaited_links end.LinkFault before now links = links
unwaited_links end.TermFault before now links = links
unwaited_links end.ChildFault before now links = links
unwaited_links end.TooLong before now links = links

module _ (before mid now : Links) (io : now.io.counts ≡ mid.io.counts) where
  awaited_links : (started : Bool) (how ended : End) (status left : ℕ) → Awaits started mid.child now.child how ended status left → LinksCount how before mid → LinksCount ended before now
  awaited_links true how ended status left (inl done) counts = rw done.end_is (same_links before mid now io (ap (λ (l : LinkState). l.counts) done.waits) how counts)
  awaited_links true how ended status left (inr failed) counts = rw failed.end_is (unwaited_links how before now (same_links before mid now io (ap (λ (l : LinkState). l.counts) failed.waits.state) how counts))
  awaited_links false how ended status left none counts = rw none.end_is (same_links before mid now io (ap (λ (l : LinkState). l.counts) none.child) how counts)

-- ---- the program

-- how often a start failed, by the end of the tool
abbrev StartCounts : ToolEnd → ℕ → ℕ → Type 0
StartCounts tool.ChildFault before now = Rose before now
StartCounts ended before now = now ≡ before

served_start : (served : LinkEnd SavingBreak) (before now : ℕ) → now ≡ before → StartCounts (tool_end_of served) before now
served_start link.Done before now same = same
served_start link.LinkFault before now same = same
served_start link.TooLong before now same = same
served_start link.OutOfMemory before now same = same
served_start (link.Broken (saving.Step step.Term)) before now same = same
served_start (link.Broken (saving.Step (step.Wire line))) before now same = same
served_start (link.Broken (saving.Step step.OutOfMemory)) before now same = same
served_start (link.Broken (saving.Save (save.Failed path))) before now same = same
served_start (link.Broken (saving.Save save.OutOfMemory)) before now same = same

answered_start : (ended : LinkEnd AnswerBreak) (before now : ℕ) → now ≡ before → StartCounts (answer_end ended) before now
answered_start link.Done before now same = same
answered_start link.LinkFault before now same = same
answered_start link.TooLong before now same = same
answered_start link.OutOfMemory before now same = same
answered_start (link.Broken (broken.Wire line)) before now same = same
answered_start (link.Broken broken.Term) before now same = same
answered_start (link.Broken broken.OutOfMemory) before now same = same

silent_start : (ended : ToolEnd) (state : SessionState) (rest : List (List ℕ)) (new : SessionState) (count : ℕ) → EndsAt ended state rest new → StartCounts ended count count
silent_start tool.Done state rest new count ends = refl
silent_start (tool.FilesFault path) state rest new count ends = refl
silent_start tool.OutOfMemory state rest new count ends = refl
silent_start tool.LinkFault state rest new count ends = absurd ends
silent_start tool.TooLong state rest new count ends = absurd ends
silent_start tool.PrintFault state rest new count ends = absurd ends
silent_start tool.TermFault state rest new count ends = absurd ends
silent_start tool.ChildFault state rest new count ends = absurd ends
silent_start (tool.BadWire line) state rest new count ends = absurd ends

unstarted_program : (command : List (List ℕ)) (error : LinkError) (before now : LinkState) → Starts {T = Unit {0}} command before now (Err error) → StartCounts (end_unstarted error) before.program.failures now.program.failures
unstarted_program command Failed before now failed = failed.rose.failures
unstarted_program command OutOfMemory before now refused = ap (λ (l : LinkState). l.program.failures) refused.state

printed_start : (text : List ℕ) (ended : ToolEnd) (old new : LinkState) (count : ℕ) → Prints text old new ended → StartCounts ended count count
printed_start text tool.Done old new count prints = refl
printed_start text tool.PrintFault old new count prints = refl
printed_start text tool.OutOfMemory old new count prints = refl
printed_start text tool.LinkFault old new count none = absurd none
printed_start text tool.TermFault old new count none = absurd none
printed_start text tool.ChildFault old new count none = absurd none
printed_start text tool.TooLong old new count none = absurd none
printed_start text (tool.FilesFault path) old new count none = absurd none
printed_start text (tool.BadWire line) old new count none = absurd none

copied_start : (copy : Copying) (old new : List LayerState) (ended : ToolEnd) (said : List ℕ) (status count : ℕ) → Copies copy old new ended said status → StartCounts ended count count
copied_start copy old new tool.Done said status count copies = refl
copied_start copy old new tool.OutOfMemory said status count copies = refl
copied_start copy old new tool.PrintFault said status count none = absurd none
copied_start copy old new tool.LinkFault said status count none = absurd none
copied_start copy old new tool.TermFault said status count none = absurd none
copied_start copy old new tool.ChildFault said status count none = absurd none
copied_start copy old new tool.TooLong said status count none = absurd none
copied_start copy old new (tool.FilesFault path) said status count none = absurd none
copied_start copy old new (tool.BadWire line) said status count none = absurd none

copy_program : (found : Option CopyRoots) (start : SessionState) (before now : Links) (code : ℕ) (answer : ToolAnswer) (said : List ℕ) (left : Resources) → CopiesBy found start before now code answer said left
    → StartCounts answer.ended before.child.program.failures now.child.program.failures
copy_program None start before now code answer said left none = absurd none
copy_program (Some copy) start before now code answer said left is =
    rw is.links_are (copied_start (copying start copy) start.store.layers left.layers answer.ended said answer.status before.child.program.failures is.copies)

taken_start : (ended : LinkEnd NoMemory) (before now : ℕ) → now ≡ before → StartCounts (selections_end ended) before now
taken_start link.Done before now same = same
taken_start link.LinkFault before now same = same
taken_start link.TooLong before now same = same
taken_start link.OutOfMemory before now same = same
taken_start (link.Broken error) before now same = same

made_start : {E : Type 0} (made : Result (List ℕ) E) (ended : ToolEnd) (old new : LinkState) (count : ℕ) → PrintsMade made old new ended → StartCounts ended count count
made_start (Ok text) ended old new count prints = printed_start text ended old new count prints
made_start (Err error) ended old new count none = rw none.0 refl

tool_program : (used : Tool) (roots : Roots) (start : SessionState) (before now : Links) (code : ℕ) (answer : ToolAnswer) (said : List ℕ) (left : Resources) (saves : List Save)
    → Uses used roots start before now code answer said left saves → StartCounts answer.ended before.child.program.failures now.child.program.failures
tool_program (Communicate owner) roots start before now code answer said left saves uses = rw uses.0.ended_is (served_start uses.0.ended _ _ (ap (λ (c : LinkState). c.program.failures) uses.1))
tool_program (LoadTemplate owner paths) roots start before now code answer said left saves uses =
    rw uses.0.links_are (silent_start answer.ended _ uses.0.loaded.rest uses.0.state before.child.program.failures uses.0.loaded.ends)
tool_program (Run owner frontend priority command) roots start before now code answer said left saves uses = elim uses.0 [
  | inl none ↦ rw none.unstarted.ended_is (unstarted_program command none.unstarted.error before.child now.child none.unstarted.starts)
  | inr started ↦ rw started.ended_is (served_start started.ended before.child.program.failures now.child.program.failures (ap (λ (p : Program). p.failures) started.served.by.program ∙ started.starts.began.failures))
]
tool_program (Show database shown) roots start before now code answer said left saves uses =
    subst (λ (c : LinkState). StartCounts answer.ended before.child.program.failures c.program.failures) (sym uses.0.child_is) (printed_start _ answer.ended before.io now.io before.child.program.failures uses.0.prints)
tool_program (CopyDb copy) roots start before now code answer said left saves uses = copy_program roots.copy start before now code answer said left uses.0
tool_program (SetSelections verbose check unseen) roots start before now code answer said left saves uses =
    rw uses.0.ended_is (taken_start uses.0.ended _ _ (ap (λ (c : LinkState). c.program.failures) uses.1))
tool_program GetSelections roots start before now code answer said left saves uses =
    subst (λ (c : LinkState). StartCounts answer.ended before.child.program.failures c.program.failures) (sym uses.0.child_is) (printed_start _ answer.ended before.io now.io before.child.program.failures uses.0.prints)
tool_program (Drill count) roots start before now code answer said left saves uses =
    subst (λ (c : LinkState). StartCounts answer.ended before.child.program.failures c.program.failures) (sym uses.0.child_is) (made_start uses.0.result answer.ended before.io now.io before.child.program.failures uses.0.prints)
tool_program (Answer command) roots start before now code answer said left saves uses = elim uses.0 [
  | inl none ↦ rw none.ended_is (unstarted_program command none.error before.child now.child none.starts)
  | inr answering ↦ rw answering.ended_is (answered_start answering.ended before.child.program.failures now.child.program.failures
      (ap (λ (p : Program). p.failures) answering.answered.serves.program ∙ answering.starts.began.failures))
]

module _ (left new : Ground) (before now : ℕ) where
  unsent_program : (error : LinkError) → now ≡ before → ProgramCounts (end_unsent error) before now
  unsent_program Failed same = inl same
  unsent_program OutOfMemory same = inl same

  run_program : (ended : ToolEnd) (how : End) → Finishes left new ended how → StartCounts ended before now → ProgramCounts how before now
  run_program tool.Done how (inl saved) same = rw saved.end_is same
  run_program tool.Done how (inr (inl unsaved)) same = rw unsaved.end_is (inl same)
  run_program tool.Done how (inr (inr (inl none))) same = rw none.end_is (inl same)
  run_program tool.Done how (inr (inr (inr unsent))) same = rw unsent.end_is (unsent_program unsent.error same)
  run_program tool.TooLong how (inl saved) same = rw saved.end_is (inl same)
  run_program tool.TooLong how (inr (inl unsaved)) same = rw unsaved.end_is (inl same)
  run_program tool.TooLong how (inr (inr (inl none))) same = rw none.end_is (inl same)
  run_program tool.TooLong how (inr (inr (inr unsent))) same = rw unsent.end_is (unsent_program unsent.error same)
  run_program tool.LinkFault how (inl saved) same = rw saved.end_is (inl same)
  run_program tool.LinkFault how (inr (inl unsaved)) same = rw unsaved.end_is (inl same)
  run_program tool.LinkFault how (inr (inr (inl none))) same = rw none.end_is (inl same)
  run_program tool.LinkFault how (inr (inr (inr unsent))) same = rw unsent.end_is (unsent_program unsent.error same)
  run_program tool.PrintFault how broken same = rw broken.end_is (inl same)
  run_program tool.TermFault how broken same = rw broken.end_is (inl same)
  run_program tool.ChildFault how broken rose = rw broken.end_is rose
  run_program tool.OutOfMemory how broken same = rw broken.end_is (inl same)
  run_program (tool.FilesFault path) how broken same = rw broken.end_is (inl same)
  run_program (tool.BadWire line) how broken same = rw broken.end_is (inl same)

  unsaved_program : (ended : ToolEnd) → StartCounts ended before now → ProgramCounts (end_of ended) before now
  unsaved_program tool.Done same = same
  unsaved_program tool.TooLong same = inl same
  unsaved_program tool.LinkFault same = inl same
  unsaved_program tool.PrintFault same = inl same
  unsaved_program tool.TermFault same = inl same
  unsaved_program tool.ChildFault rose = rose
  unsaved_program tool.OutOfMemory same = inl same
  unsaved_program (tool.FilesFault path) same = inl same
  unsaved_program (tool.BadWire line) same = inl same

  ended_program : (keeps : Bool) (ended : ToolEnd) (how : End) → FinishesWhere keeps left new ended how → StartCounts ended before now → ProgramCounts how before now
  ended_program true ended how finished counts = run_program ended how finished counts
  ended_program false ended how broken counts = rw broken.end_is (unsaved_program ended counts)

-- a failed wait behind all that
later_rose : (before mid now : ℕ) → Rose before mid → Rose mid now → Rose before now
later_rose before mid now first second = record { later = omega (arith, first.later, second.later); rose = omega (arith, first.rose, second.later) }

rose_after : (before mid now : ℕ) → (mid ≡ before) ⊎ Rose before mid → Rose mid now → Rose before now
rose_after before mid now (inl same) rose = subst (λ (n : ℕ). Rose n now) same rose
rose_after before mid now (inr first) rose = later_rose before mid now first rose

unwaited_program : (how : End) (before mid now : ℕ) → ProgramCounts how before mid → Rose mid now → ProgramCounts (end_unwaited how) before now
unwaited_program end.Done before mid now same rose = subst (λ (n : ℕ). Rose n now) same rose
unwaited_program (end.Usage word) before mid now counts rose = inr (rose_after before mid now counts rose)
unwaited_program (end.ConfRefused line kind) before mid now counts rose = inr (rose_after before mid now counts rose)
unwaited_program (end.BadPattern place) before mid now counts rose = inr (rose_after before mid now counts rose)
unwaited_program (end.PatternTooLarge place) before mid now counts rose = inr (rose_after before mid now counts rose)
unwaited_program (end.Damaged path line) before mid now counts rose = inr (rose_after before mid now counts rose)
unwaited_program end.OutOfMemory before mid now counts rose = inr (rose_after before mid now counts rose)
unwaited_program (end.FilesFault path) before mid now counts rose = inr (rose_after before mid now counts rose)
unwaited_program (end.BadWire line) before mid now counts rose = inr (rose_after before mid now counts rose)
unwaited_program end.LinkFault before mid now counts rose = inr (rose_after before mid now counts rose)
unwaited_program end.TermFault before mid now counts rose = inr (rose_after before mid now counts rose)
unwaited_program end.ChildFault before mid now first rose = later_rose before mid now first rose
unwaited_program end.TooLong before mid now counts rose = inr (rose_after before mid now counts rose)

awaited_program : (started : Bool) (before : ℕ) (mid now : LinkState) (how ended : End) (status left : ℕ) → Awaits started mid now how ended status left → ProgramCounts how before mid.program.failures
    → ProgramCounts ended before now.program.failures
awaited_program true before mid now how ended status left (inl done) counts = rw done.end_is (subst (λ (n : ℕ). ProgramCounts how before n) (ap (λ (l : LinkState). l.program.failures) (sym done.waits)) counts)
awaited_program true before mid now how ended status left (inr failed) counts = rw failed.end_is (unwaited_program how before mid.program.failures now.program.failures counts failed.waits.rose.failures)
awaited_program false before mid now how ended status left none counts = rw none.end_is (subst (λ (c : LinkState). ProgramCounts how before c.program.failures) (sym none.child) counts)

-- ---- the whole run

module _ (used : Tool) (settings : Settings) (old new : World) (outcome : Outcome) where
  -- behind the loads
  pub used_links : (run : HasUsed used settings old new outcome) → LinksCount outcome.end (on_ground old run.mid).links new.links
  used_links run =
      let started : World = on_ground old run.mid in
      awaited_links started.links (record { io = new.links.io; child = run.links.child }) new.links refl run.answer.is_started run.how outcome.end run.answer.status run.status
      run.awaits
      (ended_links (ground_of run.left.files run.links.io run.left.layers) (ground_in new) started.links run.links.child (keeps_changes used) run.answer.ended run.how run.finishes
      (tool_links used (before_rounds started) run.roots settings run.links run.answer run.told run.left run.inner run.uses))

  pub links_counted : (saves : List Save) → HasRunTool used settings old new outcome saves → CountsCalls outcome.end old.links new.links
  links_counted saves (inl before) =
      before_calls used settings.conf_path old (ground_in old).sources (ground_in new) outcome.end new.links refl (λ i. record { io = new.links.io; child = before.1.child_is i }) before.0
  links_counted saves (inr worked) =
      let run = as_used used settings old new outcome saves worked in
      record {
        mid = run.mid.sources.link;
        loads = loads_counted old.links.io run.mid.sources.link (load_counts _ _ _ _ _ _ run.started.loaded.loads);
        behind = used_links run;
      }

  pub program_counted : (saves : List Save) → HasRunTool used settings old new outcome saves → ProgramCounts outcome.end old.links.child.program.failures new.links.child.program.failures
  program_counted saves (inl before) = subst (λ (l : LinkState). ProgramCounts outcome.end old.links.child.program.failures l.program.failures) (sym before.1.child_is)
      (before_program old.links.child.program.failures used settings.conf_path (ground_in old).sources (ground_in new) outcome.end before.0)
  program_counted saves (inr worked) =
      let run = as_used used settings old new outcome saves worked in
      let started : World = on_ground old run.mid in
      awaited_program run.answer.is_started old.links.child.program.failures run.links.child new.links.child run.how outcome.end run.answer.status run.status run.awaits
      (ended_program (ground_of run.left.files run.links.io run.left.layers) (ground_in new) old.links.child.program.failures run.links.child.program.failures (keeps_changes used) run.answer.ended run.how run.finishes
      (tool_program used run.roots (begun used (before_rounds started) run.roots settings) started.links run.links 0 run.answer run.told run.left run.inner run.uses))
