-- A run that did all: it used its tool, which was done, and what was left is saved.
use Rattle.std.proofs.Common.{◌≡◌, inl, inr, ℕ, Bool, true, false, if◌then◌else◌, List, refl, sym, ap, subst, ◌∙◌}
use Rattle.std.specs.Prelude.{map as each, Ok}
use Rattle.dc_outside.specs.State.{FilesState, LinkState}
use Rattle.dc_conf.specs.declared.faults.ConfError.{ConfError}
use Rattle.dc_conf.specs.declared.faults.ConfError.TheVariants as conf
use Rattle.dc_layer.specs.State.{LayerState, saved}
use Rattle.dc_layer.specs.declared.pattern.PatternError.{PatternError}
use Rattle.dc_layer.specs.declared.pattern.PatternError.TheVariants as pattern
use Rattle.dc_save.specs.Saving.{after_images}
use Rattle.dc_save.specs.declared.pipe_loading.PipeError.TheVariants as pipe
use Rattle.dc_shelf.specs.Shelves.{Sources}
use Rattle.dc_shelf.specs.declared.loading.SourceError.{SourceError}
use Rattle.dc_shelf.specs.declared.loading.SourceError.TheVariants as source
use Rattle.dc_save.specs.declared.saving.SaveError.TheVariants as save
use Rattle.dc_save.specs.declared.loading.LoadError.TheVariants as load
use Rattle.dc_serve.specs.LinkRun.{IsLinkRun}
use Rattle.dc_serve.specs.declared.outcome.LinkEnd.{LinkEnd}
use Rattle.dc_serve.specs.declared.outcome.LinkEnd.TheVariants as link
use Rattle.dc_session.specs.Asking.{finished}
use Rattle.dc_session.specs.Serving.{IsFinished, Finishes as FinishesSession, IsServedBy, Resources}
use Rattle.dc_session.specs.SessionState.{SessionState}
use Rattle.dc_session.specs.declared.stepped.StepError.TheVariants as step
use Rattle.dc_run.specs.Ends.{end_of, end_of_conf, end_of_pattern, end_of_load, end_unsent, tool_end_of, end_unwaited}
use Rattle.dc_run.specs.Finishing.{images_of, IsSaved, IsUnsent, Finishes, FinishesWhere, SendsOf}
use Rattle.dc_run.specs.Headline.{HasRunTool, HasRunWords}
use Rattle.dc_run.specs.declared.outcome.PatternAt.{PatternAt}
use Rattle.dc_run.specs.declared.outcome.PatternAt.TheVariants.{Database, Word}
use Rattle.dc_run.specs.OneRound.{HasUsed}
use Rattle.dc_run.specs.Saves.{Save}
use Rattle.dc_run.specs.SavingSession.{BreaksSaving, TakesSaving}
use Rattle.dc_run.specs.declared.saving_session.SavingBreak.{SavingBreak}
use Rattle.dc_run.specs.declared.saving_session.SavingBreak.TheVariants as saving
use Rattle.dc_run.proofs.UsedLemmas.{as_used}
use Rattle.dc_run.specs.Running.{Awaits, end_unstarted}
use Rattle.dc_run.specs.Starting.{EndsBefore, EndsUnloaded}
use Rattle.dc_run.specs.World.{Ground, World, ground_in}
use Rattle.dc_run.specs.declared.outcome.End.{End}
use Rattle.dc_run.specs.declared.outcome.End.TheVariants as end
use Rattle.dc_run.specs.declared.outcome.Outcome.{Outcome}
use Rattle.dc_run.specs.declared.outcome.ToolEnd.{ToolEnd}
use Rattle.dc_run.specs.declared.outcome.ToolEnd.TheVariants as tool
use Rattle.dc_run.specs.declared.settings.Settings.{Settings}
use Rattle.dc_outside.specs.Disk.{Disk}
use Rattle.dc_outside.specs.declared.files.FilesCall.{FilesCall}
use Rattle.dc_outside.specs.LinkCalls.{Tells}
use Rattle.dc_outside.specs.declared.link.LinkError.{LinkError}
use Rattle.dc_outside.specs.declared.link.LinkError.TheVariants.{Failed, OutOfMemory}
use Rattle.dc_cli.specs.Tools.{Names}
use Rattle.dc_cli.specs.declared.tool.Tool.{Tool}
use Rattle.dc_cli.proofs.AnswerLemmas.{one_tool}
use Rattle.dc_theorem.specs.Runs.{IsClean}

-- ---- an end before the tool is another

-- ends that a run has only where its tool was used
abbrev pub IsOfTool : End → Type 0
IsOfTool end.Done = Unit {0}
IsOfTool end.TermFault = Unit {0}
IsOfTool (end.BadWire line) = Unit {0}
IsOfTool how = ⊥

conf_other : (error : ConfError) → IsOfTool (end_of_conf error) → ⊥
conf_other (conf.Refused line kind) is = is
conf_other conf.OutOfMemory is = is

pattern_other : (place : PatternAt) (error : PatternError) → IsOfTool (end_of_pattern place error) → ⊥
pattern_other place pattern.Bad is = is
pattern_other place pattern.TooLarge is = is
pattern_other place pattern.OutOfMemory is = is

load_other : (error : SourceError) → IsOfTool (end_of_load error) → ⊥
load_other (source.Files (load.Failed path)) is = is
load_other (source.Files (load.Damaged path line)) is = is
load_other (source.Files load.OutOfMemory) is = is
load_other (source.Pipe pipe.Failed) is = is
load_other (source.Pipe (pipe.Damaged line)) is = is
load_other (source.Pipe pipe.TooLong) is = is
load_other (source.Pipe pipe.OutOfMemory) is = is

not_unloaded : (used : Tool) (path : List ℕ) (old new : FilesState) (how : End) → IsOfTool how → EndsUnloaded used path old new how → ⊥
not_unloaded used path old new how is (inl none) = subst IsOfTool none.end_is is
not_unloaded used path old new how is (inr (inl unread)) = subst IsOfTool unread.end_is is
not_unloaded used path old new how is (inr (inr (inl refused))) = conf_other refused.error (subst IsOfTool refused.end_is is)
not_unloaded used path old new how is (inr (inr (inr (inl wrong)))) = subst IsOfTool wrong.end_is is
not_unloaded used path old new how is (inr (inr (inr (inr (inl misused))))) = subst IsOfTool misused.end_is is
not_unloaded used path old new how is (inr (inr (inr (inr (inr (inl unbuilt)))))) = pattern_other (Word unbuilt.word.place) unbuilt.error (subst IsOfTool unbuilt.end_is is)
not_unloaded used path old new how is (inr (inr (inr (inr (inr (inr patterns)))))) = pattern_other (Database patterns.refused.place) patterns.refused.error (subst IsOfTool patterns.end_is is)

pub not_before : (used : Tool) (path : List ℕ) (old : Sources) (new : Ground) (how : End) → IsOfTool how → EndsBefore used path old new how → ⊥
not_before used path old new how is (inl before) = not_unloaded used path old.files new.sources.files how is before.0
not_before used path old new how is (inr loads) = load_other loads.error (subst IsOfTool loads.end_is is)

no_memory : end.OutOfMemory ≡ end.Done → ⊥
no_memory is = cc

no_fault : (path : List ℕ) → end.FilesFault path ≡ end.Done → ⊥
no_fault path is = cc

no_usage : (word : ℕ) → end.Usage word ≡ end.Done → ⊥
no_usage word is = cc

-- ---- the tool was used

used_tool : (words : List (List ℕ)) (settings : Settings) (old new : World) (outcome : Outcome) (saves : List Save) (used : Tool) → outcome.end ≡ end.Done → Names words used → HasRunWords words settings old new outcome saves → HasUsed used settings old new outcome
used_tool words settings old new outcome saves used done named (inl refused) = absurd (no_usage refused.0.word (sym refused.0.end_is ∙ done))
used_tool words settings old new outcome saves used done named (inr ran) = elim (subst (λ (t : Tool). HasRunTool t settings old new outcome saves) (one_tool words ran.0 used ran.1 named) ran.2) [
  | inl before ↦ absurd (not_before used settings.conf_path (ground_in old).sources (ground_in new) outcome.end (subst IsOfTool (sym done) tt) before.0)
  | inr worked ↦ as_used used settings old new outcome saves worked
]

pub was_used : (words : List (List ℕ)) (settings : Settings) (disk : Disk) (calls : List FilesCall) (old new : World) (outcome : Outcome) (used : Tool) → Names words used → IsClean words settings disk calls old new outcome → HasUsed used settings old new outcome
was_used words settings disk calls old new outcome used named clean = used_tool words settings old new outcome clean.saves used clean.done named clean.ran

-- ---- how the run ended, but for the wait

unwaited_other : (how : End) → end_unwaited how ≡ end.Done → ⊥
unwaited_other end.Done is = cc
unwaited_other (end.Usage word) is = cc
unwaited_other (end.ConfRefused line kind) is = cc
unwaited_other (end.BadPattern place) is = cc
unwaited_other (end.PatternTooLarge place) is = cc
unwaited_other (end.Damaged path line) is = cc
unwaited_other end.OutOfMemory is = cc
unwaited_other (end.FilesFault path) is = cc
unwaited_other end.LinkFault is = cc
unwaited_other end.TermFault is = cc
unwaited_other end.ChildFault is = cc
unwaited_other end.TooLong is = cc
unwaited_other (end.BadWire line) is = cc

-- no wait failed, and nothing more was said on the link to the program
pub waited : (started : Bool) (old new : LinkState) (how ended : End) (before status : ℕ) → ended ≡ end.Done → Awaits started old new how ended before status → (how ≡ end.Done) × (new.talk ≡ old.talk)
waited true old new how ended before status done (inl has) = (sym has.end_is ∙ done, ap (λ (l : LinkState). l.talk) has.waits)
waited true old new how ended before status done (inr failed) = absurd (unwaited_other how (sym failed.end_is ∙ done))
waited false old new how ended before status done none = (sym none.end_is ∙ done, ap (λ (l : LinkState). l.talk) none.child)

-- without a program there is no wait
pub unwaited : (started : Bool) (old new : LinkState) (how ended : End) (before status : ℕ) → started ≡ false → Awaits started old new how ended before status → status ≡ before
unwaited started old new how ended before status none awaits = (subst (λ (b : Bool). Awaits b old new how ended before status) none awaits).status_is

-- ---- what it left is saved

-- all is saved: what the files tell then, and the layers
pub record HasSaved (layers used : List LayerState) (files new : FilesState) : Type 0 where
  pub files_are : new.view ≡ after_images files.view (images_of layers)
  pub counts : new.counts ≡ files.counts
  pub used_are : used ≡ each saved layers

unsent_other : (error : LinkError) → end_unsent error ≡ end.Done → ⊥
unsent_other Failed is = cc
unsent_other OutOfMemory is = cc

module _ (left new : Ground) (how : End) (done : how ≡ end.Done) where
  was_saved : (ended : ToolEnd) → IsSaved left new ended how → HasSaved left.used new.used left.sources.files new.sources.files
  was_saved ended is = record { files_are = is.files_are; counts = is.counts; used_are = is.used_are }

  was_sent : (ended : ToolEnd) → IsUnsent left new ended how → ⊥
  was_sent ended unsent = unsent_other unsent.error (sym unsent.end_is ∙ done)

  -- what goes out through a pipe was sent
  pub sent_so : Finishes left new tool.Done how → SendsOf tool.Done left new (Ok tt)
  sent_so (inl is) = is.sent
  sent_so (inr (inl failed)) = failed.sent
  sent_so (inr (inr (inl none))) = absurd (no_memory (sym none.end_is ∙ done))
  sent_so (inr (inr (inr unsent))) = absurd (was_sent tool.Done unsent)

  pub saved_so : (ended : ToolEnd) → Finishes left new ended how → (ended ≡ tool.Done) × HasSaved left.used new.used left.sources.files new.sources.files
  saved_so tool.Done (inl is) = (refl, was_saved tool.Done is)
  saved_so tool.Done (inr (inl failed)) = absurd (no_fault failed.path (sym failed.end_is ∙ done))
  saved_so tool.Done (inr (inr (inl none))) = absurd (no_memory (sym none.end_is ∙ done))
  saved_so tool.Done (inr (inr (inr unsent))) = absurd (was_sent tool.Done unsent)
  saved_so tool.LinkFault (inl is) = absurd (let e : end.LinkFault ≡ end.Done = sym is.end_is ∙ done in cc)
  saved_so tool.LinkFault (inr (inl failed)) = absurd (let e : end.LinkFault ≡ end.Done = sym failed.end_is ∙ done in cc)
  saved_so tool.LinkFault (inr (inr (inl none))) = absurd (no_memory (sym none.end_is ∙ done))
  saved_so tool.LinkFault (inr (inr (inr unsent))) = absurd (was_sent tool.LinkFault unsent)
  saved_so tool.TooLong (inl is) = absurd (let e : end.TooLong ≡ end.Done = sym is.end_is ∙ done in cc)
  saved_so tool.TooLong (inr (inl failed)) = absurd (let e : end.TooLong ≡ end.Done = sym failed.end_is ∙ done in cc)
  saved_so tool.TooLong (inr (inr (inl none))) = absurd (no_memory (sym none.end_is ∙ done))
  saved_so tool.TooLong (inr (inr (inr unsent))) = absurd (was_sent tool.TooLong unsent)
  saved_so tool.PrintFault broken = absurd (let e : end.LinkFault ≡ end.Done = sym broken.end_is ∙ done in cc)
  saved_so tool.TermFault broken = absurd (let e : end.TermFault ≡ end.Done = sym broken.end_is ∙ done in cc)
  saved_so tool.ChildFault broken = absurd (let e : end.ChildFault ≡ end.Done = sym broken.end_is ∙ done in cc)
  saved_so tool.OutOfMemory broken = absurd (no_memory (sym broken.end_is ∙ done))
  saved_so (tool.FilesFault path) broken = absurd (no_fault path (sym broken.end_is ∙ done))
  saved_so (tool.BadWire line) broken = absurd (let e : end.BadWire line ≡ end.Done = sym broken.end_is ∙ done in cc)

-- what is kept of a run that did all: all is saved, or nothing where a tool's changes aren't kept
pub record HasKept (keeps : Bool) (layers used : List LayerState) (files new : FilesState) : Type 0 where
  pub files_are : new.view ≡ (if keeps then after_images files.view (images_of layers) else files.view)
  pub counts : new.counts ≡ files.counts
  pub used_are : used ≡ (if keeps then each saved layers else layers)

module _ (left new : Ground) (how : End) (done : how ≡ end.Done) where
  done_unsaved : (ended : ToolEnd) → how ≡ end_of ended → ended ≡ tool.Done
  done_unsaved tool.Done is = refl
  done_unsaved tool.LinkFault is = absurd (let e : end.LinkFault ≡ end.Done = sym is ∙ done in cc)
  done_unsaved tool.TooLong is = absurd (let e : end.TooLong ≡ end.Done = sym is ∙ done in cc)
  done_unsaved tool.PrintFault is = absurd (let e : end.LinkFault ≡ end.Done = sym is ∙ done in cc)
  done_unsaved tool.TermFault is = absurd (let e : end.TermFault ≡ end.Done = sym is ∙ done in cc)
  done_unsaved tool.ChildFault is = absurd (let e : end.ChildFault ≡ end.Done = sym is ∙ done in cc)
  done_unsaved tool.OutOfMemory is = absurd (no_memory (sym is ∙ done))
  done_unsaved (tool.FilesFault path) is = absurd (no_fault path (sym is ∙ done))
  done_unsaved (tool.BadWire line) is = absurd (let e : end.BadWire line ≡ end.Done = sym is ∙ done in cc)

  pub kept_so : (keeps : Bool) (ended : ToolEnd) → FinishesWhere keeps left new ended how → (ended ≡ tool.Done) × HasKept keeps left.used new.used left.sources.files new.sources.files
  kept_so true ended finishes =
      let so = saved_so left new how done ended finishes in
      (so.0, record { files_are = so.1.files_are; counts = so.1.counts; used_are = so.1.used_are })
  kept_so false ended broken = (
    done_unsaved ended broken.end_is,
    record {
      files_are = ap (λ (g : Ground). g.sources.files.view) broken.stays;
      counts = ap (λ (g : Ground). g.sources.files.counts) broken.stays;
      used_are = ap (λ (g : Ground). g.used) broken.stays;
    },
  )

-- ---- a session that was done

pub unstarted_other : (error : LinkError) → end_unstarted error ≡ tool.Done → ⊥
unstarted_other Failed is = cc
unstarted_other OutOfMemory is = cc

broke_other : (error : SavingBreak) → tool_end_of (link.Broken error) ≡ tool.Done → ⊥
broke_other (saving.Step step.Term) is = cc
broke_other (saving.Step (step.Wire line)) is = cc
broke_other (saving.Step step.OutOfMemory) is = cc
broke_other (saving.Save (save.Failed path)) is = cc
broke_other (saving.Save save.OutOfMemory) is = cc

link_done : (ended : LinkEnd SavingBreak) → tool_end_of ended ≡ tool.Done → ended ≡ link.Done
link_done link.Done is = refl
link_done link.LinkFault is = absurd (cc)
link_done link.TooLong is = absurd (cc)
link_done link.OutOfMemory is = absurd (cc)
link_done (link.Broken error) is = absurd (broke_other error is)

no_link_memory : ◌≡◌ {A = LinkEnd SavingBreak} link.OutOfMemory link.Done → ⊥
no_link_memory is = cc

no_broken : (error : SavingBreak) → ◌≡◌ {A = LinkEnd SavingBreak} (link.Broken error) link.Done → ⊥
no_broken error is = cc

-- it was finished, and what the layers told at that was told
pub record HasFinished (state : SessionState) (left : Resources) : Type 0 where
  pub layers_are : left.layers ≡ (finished state).layers
  pub tells : Tells (finished state).told state.err left.err

finished_by : (state : SessionState) (left : Resources) (served ended : LinkEnd SavingBreak) → ended ≡ link.Done → IsFinished state served left ended → (served ≡ link.Done) × HasFinished state left
finished_by state left served ended done (inl is) = (sym is.2 ∙ done, record { layers_are = is.0; tells = is.1 })
finished_by state left served ended done (inr none) = absurd (no_link_memory (sym none.2 ∙ done))

finished_so : (state : SessionState) (left : Resources) (served ended : LinkEnd SavingBreak) → ended ≡ link.Done → FinishesSession served state left ended → (served ≡ link.Done) × HasFinished state left
finished_so state left link.Done ended done finishes = finished_by state left link.Done ended done finishes
finished_so state left link.LinkFault ended done finishes = finished_by state left link.LinkFault ended done finishes
finished_so state left link.TooLong ended done finishes = finished_by state left link.TooLong ended done finishes
finished_so state left link.OutOfMemory ended done finishes = absurd (no_link_memory (sym finishes.2 ∙ done))
finished_so state left (link.Broken error) ended done finishes = absurd (no_broken error (sym finishes.2 ∙ done))

-- it was served to its end, and finished
pub record WasServed (start : SessionState) (left : Resources) (old new : LinkState) (before code : ℕ) : Type 0 where
  pub state : SessionState
  pub ran : IsLinkRun TakesSaving BreaksSaving old.talk new.talk old.input new.input start link.Done state before code
  pub files_are : left.files ≡ state.files
  pub terminal_is : left.terminal ≡ state.terminal
  pub layers_are : left.layers ≡ (finished state).layers
  pub tells : Tells (finished state).told state.err left.err

pub was_served : (start : SessionState) (left : Resources) (old new : LinkState) (ended : LinkEnd SavingBreak) (before code : ℕ) → tool_end_of ended ≡ tool.Done → IsServedBy TakesSaving BreaksSaving start left old new ended before code → WasServed start left old new before code
was_served start left old new ended before code done is =
    let so = finished_so is.state left is.served ended (link_done ended done) is.finishes in
    record {
      state = is.state;
      ran = subst (λ (e : LinkEnd SavingBreak). IsLinkRun TakesSaving BreaksSaving old.talk new.talk old.input new.input start e is.state before code) so.0 is.ran;
      files_are = is.files_are;
      terminal_is = is.terminal_is;
      layers_are = so.1.layers_are;
      tells = so.1.tells;
    }
