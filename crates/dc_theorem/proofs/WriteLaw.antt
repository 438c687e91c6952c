-- What a run leaves on the disk where memory ran out or no save was begun, and what it counted where it did all.
use Rattle.std.proofs.Common.{◌≡◌, ◌⊎◌, ◌&&◌, inl, inr, ℕ, Bool, true, false, List, [], ◌∷◌, ◌++◌, refl, ap, sym, subst, ◌∙◌, append-nil}
use Rattle.std.specs.Prelude.{◌≢◌, Option, Result, Ok, Err}
use Rattle.std.specs.List.{AllByRecursion}
use Rattle.dc_outside.specs.Counts.{Counts, Rose, RefusalRose}
use Rattle.dc_outside.specs.Disk.{Disk}
use Rattle.dc_outside.specs.State.{FilesState, FilesView, LinkState}
use Rattle.dc_conf.specs.declared.spec.LayerSort.{LayerSort}
use Rattle.dc_conf.specs.declared.spec.LayerSort.TheVariants.{File, Tree, Pack, Pipe}
use Rattle.dc_conf.specs.declared.spec.LayerSpec.{LayerSpec}
use Rattle.dc_layer.specs.State.{LayerState}
use Rattle.dc_save.specs.Loading.{LoadCountsBy}
use Rattle.dc_save.specs.Saving.{SaveCounts}
use Rattle.dc_save.specs.declared.loading.LoadError.{LoadError}
use Rattle.dc_save.specs.declared.loading.LoadError.TheVariants as load
use Rattle.dc_shelf.specs.Shelves.{GoesOn, LoadAnswer, LoadsAll, LoadsOne, Sources}
use Rattle.dc_shelf.specs.declared.loading.SourceError.{SourceError}
use Rattle.dc_shelf.specs.declared.loading.SourceError.TheVariants as source
use Rattle.dc_outside.specs.declared.link.LinkError.{LinkError}
use Rattle.dc_outside.specs.declared.link.LinkError.TheVariants.{Failed, OutOfMemory}
use Rattle.dc_save.specs.declared.saving.SaveError.{SaveError}
use Rattle.dc_save.specs.declared.saving.SaveError.TheVariants as save
use Rattle.dc_serve.specs.Execution.{state_after}
use Rattle.dc_serve.specs.LinkRun.{Answered}
use Rattle.dc_serve.specs.declared.outcome.LinkEnd.{LinkEnd}
use Rattle.dc_serve.specs.declared.outcome.LinkEnd.TheVariants as link
use Rattle.dc_session.specs.Serving.{Finishes as FinishesSession, Resources}
use Rattle.dc_session.specs.SessionState.{SessionState}
use Rattle.dc_cli.specs.declared.tool.Tool.{Tool}
use Rattle.dc_cli.specs.declared.tool.Tool.TheVariants.{Communicate, LoadTemplate, Run, Show, CopyDb, SetSelections, GetSelections, Drill, Answer}
use Rattle.dc_run.specs.Ends.{CountsLoads, LinksCount, ProgramCounts, end_unsent, comes_to_save, end_by, end_of, end_of_load, end_unsaved, end_unwaited, tool_end_of}
use Rattle.dc_run.specs.Finishing.{Finishes, FinishesWhere}
use Rattle.dc_run.specs.Headline.{HasRunTool, HasRunWords, HasWorked}
use Rattle.dc_run.specs.Jobs.{Uses}
use Rattle.dc_run.specs.Kills.{AllDone}
use Rattle.dc_run.specs.OneRound.{HasUsed}
use Rattle.dc_run.specs.Roots.{Roots}
use Rattle.dc_run.specs.Rounds.{Job, Whole, HasDone, IsOneRound, Works, is_saved_at}
use Rattle.dc_run.specs.Running.{Awaits}
use Rattle.dc_run.specs.Saves.{AreSaves, Commits, IsSave, Save}
use Rattle.dc_run.specs.SavingSession.{BreaksSaving, FailsToSave, IsServedSaving, broken_save, save_of, saves_in}
use Rattle.dc_run.specs.Starting.{EndsBefore, EndsUnloaded, begun, conf_read_in, keeps_changes}
use Rattle.dc_run.specs.World.{Links, RunState, Stock, World, before_rounds, ground_in, ground_of, on_ground, Ground}
use Rattle.dc_run.specs.declared.outcome.End.{End}
use Rattle.dc_run.specs.declared.outcome.End.TheVariants as end
use Rattle.dc_run.specs.declared.outcome.Outcome.{Outcome}
use Rattle.dc_run.specs.declared.outcome.ToolAnswer.{ToolAnswer}
use Rattle.dc_run.specs.declared.outcome.ToolEnd.{ToolEnd}
use Rattle.dc_run.specs.declared.outcome.ToolEnd.TheVariants as tool
use Rattle.dc_run.specs.declared.saving_session.SavingBreak.{SavingBreak}
use Rattle.dc_run.specs.declared.saving_session.SavingBreak.TheVariants as saving
use Rattle.dc_run.specs.declared.settings.Settings.{Settings}
use Rattle.dc_run.proofs.ProgramLemmas.{is_run}
use Rattle.dc_run.proofs.RoundLemmas.{jobs_had, one_round}
use Rattle.dc_run.proofs.RunSaves.{words_keep}
use Rattle.dc_run.proofs.SavingLemmas.{saves_done}
use Rattle.dc_run.proofs.UsedLemmas.{as_used}
use Rattle.dc_theorem.specs.Completeness.{AreAsked, IsBeforeSaves, MetNoFault, StandsBehindDone}
use Rattle.dc_theorem.proofs.CountsLater.{Kept, Later, course_kept, failed, refused, rose_behind, rose_between, later_so, later_then, kept_then, unmoved, load_kept, tool_later, tool_kept, start_later, start_kept, finished_kept}
use Rattle.dc_theorem.proofs.EndLemmas.{IsOfTool, not_before}

-- ---- a wait that failed

-- it leaves each end but that of a run that did all
unwaited_so : (goal : End) → (end.ChildFault ≡ goal → ⊥) → (how : End) → end_unwaited how ≡ goal → how ≡ goal
unwaited_so goal other end.Done is = absurd (other is)
unwaited_so goal other (end.Usage word) is = is
unwaited_so goal other (end.ConfRefused line kind) is = is
unwaited_so goal other (end.BadPattern at) is = is
unwaited_so goal other (end.PatternTooLarge at) is = is
unwaited_so goal other (end.Damaged path line) is = is
unwaited_so goal other end.OutOfMemory is = is
unwaited_so goal other (end.FilesFault path) is = is
unwaited_so goal other end.LinkFault is = is
unwaited_so goal other end.TermFault is = is
unwaited_so goal other end.ChildFault is = is
unwaited_so goal other end.TooLong is = is
unwaited_so goal other (end.BadWire line) is = is

awaited_so : (goal : End) → (end.ChildFault ≡ goal → ⊥) → (started : Bool) (old new : LinkState) (how ended : End) (status left : ℕ) → Awaits started old new how ended status left → ended ≡ goal → how ≡ goal
awaited_so goal other true old new how ended status left (inl has) is = sym has.end_is ∙ is
awaited_so goal other true old new how ended status left (inr failed) is = unwaited_so goal other how (sym failed.end_is ∙ is)
awaited_so goal other false old new how ended status left none is = sym none.end_is ∙ is

-- ---- the tool's one round

module _ (used : Tool) (settings : Settings) (old new : World) (outcome : Outcome) (saves : List Save) (worked : HasWorked used settings old new outcome saves) where
  abbrev ready : RunState
  ready = before_rounds (on_ground old worked.mid)

  -- the session that it begins with, where it has one
  abbrev begins : SessionState
  begins = begun used ready worked.roots settings

  one : IsOneRound worked.roots settings (Whole used) ready worked.left outcome.end worked.status saves
  one = one_round worked.roots settings (Whole used) ready worked.left outcome.end worked.status saves (jobs_had used worked.roots settings ready worked.left outcome.end worked.status saves worked.does)

  works : HasDone used worked.roots settings ready one.round.left one.round.answer one.round.inner
  works = subst (λ (j : Job). Works j worked.roots settings ready one.round.left one.round.answer one.round.inner) one.job_is one.is.works

  abbrev ended : ToolEnd
  ended = one.round.answer.ended

  -- whether it comes to its save
  abbrev saved_last : Bool
  saved_last = keeps_changes used && comes_to_save ended

  world_is : new ≡ record one.round.new.world { err = new.err }
  world_is = worked.rest_is ∙ ap (λ (s : RunState). record s.world { err = new.err }) one.new_is

  -- what the tool left
  abbrev tool_left : Ground
  tool_left = ground_of works.left.files one.round.left.world.links.io works.left.layers

  commits : Commits saved_last ended tool_left (ground_in new) one.round.last one.round.finish
  commits = subst (λ (w : World). Commits saved_last ended tool_left (ground_in w) one.round.last one.round.finish) (sym world_is)
      (subst (λ (s : Stock). Commits saved_last ended (ground_of s.files one.round.left.world.links.io s.used) (ground_in one.round.new.world) one.round.last one.round.finish) works.stock_is
      (subst (λ (j : Job). Commits (is_saved_at j ended) ended (ground_in one.round.left.world) (ground_in one.round.new.world) one.round.last one.round.finish) one.job_is one.is.commits))

  -- how it ended before the wait
  finish_so : (goal : End) → (end.ChildFault ≡ goal → ⊥) → outcome.end ≡ goal → one.round.finish ≡ goal
  finish_so goal other is =
      awaited_so goal other one.round.answer.is_started one.round.left.world.links.child one.round.new.world.links.child one.round.finish one.round.how one.round.answer.status one.round.status one.is.awaits (sym one.how_is ∙ is)

both_so : (a b : Bool) → a && b ≡ true → b ≡ true
both_so true b is = is
both_so false b is = cc

-- ---- memory ran out

-- a save was done, or it has changed nothing on the disk
abbrev IsDoneOrNot : Save → Type 0
IsDoneOrNot save = (save.answer ≡ Ok tt) ⊎ (save.after.view.disk ≡ save.before.view.disk)

or_done : (answer : Result (Unit {0}) SaveError) → (answer ≡ Ok tt) ⊎ (answer ≢ Ok tt)
or_done (Ok done) = inl refl
or_done (Err error) = inr (λ is. cc)

stands : (old : Option Disk) (saves : List Save) (new : Option Disk) → AllByRecursion IsDoneOrNot saves → AreSaves old saves new → StandsBehindDone saves old new
stands old [] new all are = record { over = []; later = []; saves_are = refl; done = tt; disk_is = are }
stands old (save ∷ saves) new all are = elim (or_done save.answer) [
  | inl done ↦
      let rest = stands save.after.view.disk saves new all.1 are.3 in
      record { over = save ∷ rest.over; later = rest.later; saves_are = ap (λ (l : List Save). save ∷ l) rest.saves_are; done = (done, rest.done); disk_is = rest.disk_is }
  | inr other ↦ unchanged save saves old new other all.0 are
] where
  unchanged : (save : Save) (saves : List Save) (old new : Option Disk) → save.answer ≢ Ok tt → IsDoneOrNot save → AreSaves old (save ∷ saves) new → StandsBehindDone (save ∷ saves) old new
  unchanged save saves old new other (inl done) are = absurd (other done)
  unchanged save saves old new other (inr same) are = record {
    over = [];
    later = save ∷ saves;
    saves_are = refl;
    done = tt;
    disk_is = subst (λ (l : List Save). AreSaves save.after.view.disk l new) (are.2 other) are.3 ∙ same ∙ are.0;
  }

all_both : (first second : List Save) → AllByRecursion IsDoneOrNot first → AllByRecursion IsDoneOrNot second → AllByRecursion IsDoneOrNot (first ++ second)
all_both [] second a b = b
all_both (save ∷ first) second a b = (a.0, all_both first second a.1 b)

each_done : (saves : List Save) → AllDone saves → AllByRecursion IsDoneOrNot saves
each_done [] done = tt
each_done (save ∷ saves) done = (inl done.0, each_done saves done.1)

-- one for which there was no memory changed nothing, unless the files refused a call
module _ (begun_at : Save) (is : IsSave begun_at) (none_refused : ¬ RefusalRose begun_at.before.counts begun_at.after.counts) where
  without_memory : begun_at.answer ≡ Err save.OutOfMemory → begun_at.after.view.disk ≡ begun_at.before.view.disk
  without_memory answer =
      elim (subst (λ (a : Result (Unit {0}) SaveError). SaveCounts begun_at.before.view begun_at.after.view a begun_at.before.counts begun_at.after.counts) answer is.counts) [
        | inl rose ↦ absurd (none_refused rose)
        | inr same ↦ ap (λ (v : FilesView). v.disk) same.1
      ]

module _ (start : SessionState) (left : Resources) (old new : LinkState) (link_end : LinkEnd SavingBreak) (before code : ℕ) (saves : List Save) (is : IsServedSaving start left old new link_end before code saves) where
  abbrev after : SessionState
  after = state_after start is.by.ran.transitions

  broken_done : (served : LinkEnd SavingBreak) → ((path : List ℕ) → served ≡ link.Broken (saving.Save (save.Failed path)) → ⊥)
      → Answered BreaksSaving served start is.by.ran.transitions is.by.ran.rest is.by.ran.pieces old.input before is.by.state code
      → ¬ Rose start.files.counts.refusals is.by.state.files.counts.refusals → AllByRecursion IsDoneOrNot (broken_save served after is.by.state)
  broken_done link.Done never answered none = tt
  broken_done link.LinkFault never answered none = tt
  broken_done link.TooLong never answered none = tt
  broken_done link.OutOfMemory never answered none = tt
  broken_done (link.Broken (saving.Step error)) never answered none = tt
  broken_done (link.Broken (saving.Save (save.Failed path))) never answered none = absurd (never path refl)
  broken_done (link.Broken (saving.Save save.OutOfMemory)) never answered none =
      let fails : FailsToSave after answered.line save.OutOfMemory is.by.state = answered.broke in
      let kept : Kept start.files.counts after.files.counts = course_kept start is.by.ran.transitions is.by.ran.course in (
        inr (without_memory (save_of after is.by.state.files (Err save.OutOfMemory)) fails.is
            (λ rose. none (rose_behind start.files.counts.refusals after.files.counts.refusals is.by.state.files.counts.refusals (later_so start.files.counts after.files.counts kept).1 rose.refusals)) refl),
        tt,
      )

  -- the tool ends so where a save failed
  ends_failed : (path : List ℕ) → is.by.served ≡ link.Broken (saving.Save (save.Failed path)) → tool_end_of link_end ≡ tool.FilesFault path
  ends_failed path broken =
      let finishes : FinishesSession (link.Broken (saving.Save (save.Failed path))) is.by.state left link_end
      = subst (λ (e : LinkEnd SavingBreak). FinishesSession e is.by.state left link_end) broken is.by.finishes in
      ap (λ (e : LinkEnd SavingBreak). tool_end_of e) finishes.2

  served_done : ((path : List ℕ) → tool_end_of link_end ≡ tool.FilesFault path → ⊥) → ¬ Rose start.files.counts.refusals left.files.counts.refusals → AllByRecursion IsDoneOrNot saves
  served_done never none = subst (AllByRecursion IsDoneOrNot) (sym is.saves_are)
      (all_both (saves_in start is.by.ran.transitions) (broken_save is.by.served after is.by.state) (each_done (saves_in start is.by.ran.transitions) (saves_done start is.by.ran.transitions))
      (broken_done is.by.served (λ path broken. never path (ends_failed path broken)) is.by.ran.answered
      (subst (λ (f : FilesState). ¬ Rose start.files.counts.refusals f.counts.refusals) is.by.files_are none)))

no_saves : (saves : List Save) → saves ≡ [] → AllByRecursion IsDoneOrNot saves
no_saves saves none = subst (AllByRecursion IsDoneOrNot) (sym none) tt

module _ (roots : Roots) (start : SessionState) (old new : Links) (before : ℕ) (answer : ToolAnswer) (told : List ℕ) (left : Resources) (saves : List Save)
    (never : (path : List ℕ) → answer.ended ≡ tool.FilesFault path → ⊥) (none : ¬ Rose start.files.counts.refusals left.files.counts.refusals) where
  inner_done : (used : Tool) → Uses used roots start old new before answer told left saves → AllByRecursion IsDoneOrNot saves
  inner_done (Communicate owner) uses = served_done start left old.io new.io uses.0.ended before answer.last_code saves uses.0.served (λ path is. never path (uses.0.ended_is ∙ is)) none
  inner_done (LoadTemplate owner paths) uses = no_saves saves uses.1
  inner_done (Run owner frontend priority command) uses = elim uses.0 [
    | inl not ↦ no_saves saves not.saves_are
    | inr started ↦ served_done start left started.mid new.child started.ended before answer.last_code saves started.served (λ path is. never path (started.ended_is ∙ is)) none
  ]
  inner_done (Show database shown) uses = no_saves saves uses.2
  inner_done (CopyDb copy) uses = no_saves saves uses.1
  inner_done (SetSelections verbose check unseen) uses = no_saves saves uses.3
  inner_done GetSelections uses = no_saves saves uses.1
  inner_done (Answer command) uses = no_saves saves uses.3
  inner_done (Drill count) uses = no_saves saves uses.2

no_files : (path : List ℕ) → end.FilesFault path ≡ end.OutOfMemory → ⊥
no_files path is = cc

no_child : end.ChildFault ≡ end.OutOfMemory → ⊥
no_child is = cc

not_saved : (path : List ℕ) → comes_to_save (tool.FilesFault path) ≡ true → ⊥
not_saved path is = cc

failed_otherwise : (ended : ToolEnd) (path : List ℕ) → comes_to_save ended ≡ true → end_unsaved ended (save.Failed path) ≡ end.OutOfMemory → ⊥
failed_otherwise tool.Done path comes is = cc
failed_otherwise tool.LinkFault path comes is = cc
failed_otherwise tool.TooLong path comes is = cc
failed_otherwise tool.PrintFault path comes is = cc
failed_otherwise tool.TermFault path comes is = cc
failed_otherwise tool.ChildFault path comes is = cc
failed_otherwise tool.OutOfMemory path comes is = cc
failed_otherwise (tool.FilesFault fault) path comes is = cc
failed_otherwise (tool.BadWire line) path comes is = cc

module _ (left new : Ground) (last : List Save) (how : End) (ended : ToolEnd) where
  -- the tool didn't fail to save where the run ends for want of memory
  never_failed : (keeps saves : Bool) → saves ≡ keeps && comes_to_save ended → Commits saves ended left new last how → how ≡ end.OutOfMemory → (path : List ℕ) → ended ≡ tool.FilesFault path → ⊥
  never_failed keeps true is commits memory path failed = not_saved path (subst (λ (e : ToolEnd). comes_to_save e ≡ true) failed (both_so keeps (comes_to_save ended) (sym is)))
  never_failed keeps false is commits memory path failed = no_files path (sym (commits.end_is ∙ ap (λ (e : ToolEnd). end_of e) failed) ∙ memory)

  abbrev made : Result (Unit {0}) SaveError → Save
  made answer = record { layers = left.used; before = left.sources.files; after = new.sources.files; answer = answer }

  by_answer : (answer : Result (Unit {0}) SaveError) → comes_to_save ended ≡ true → end_by ended answer ≡ end.OutOfMemory → ¬ RefusalRose left.sources.files.counts new.sources.files.counts → IsSave (made answer) → IsDoneOrNot (made answer)
  by_answer (Ok done) comes memory none is = inl refl
  by_answer (Err (save.Failed path)) comes memory none is = absurd (failed_otherwise ended path comes memory)
  by_answer (Err save.OutOfMemory) comes memory none is = inr (without_memory (made (Err save.OutOfMemory)) is none refl)

  last_done : (keeps saves : Bool) → saves ≡ keeps && comes_to_save ended → Commits saves ended left new last how → how ≡ end.OutOfMemory → ¬ RefusalRose left.sources.files.counts new.sources.files.counts → AllByRecursion IsDoneOrNot last
  last_done keeps true is (inl saved) memory none = subst (AllByRecursion IsDoneOrNot) (sym saved.saves_are)
      (by_answer saved.answer (both_so keeps (comes_to_save ended) (sym is)) (sym saved.end_is ∙ memory) none saved.is, tt)
  last_done keeps true is (inr (inl unsent)) memory none = no_saves last unsent.saves_are
  last_done keeps true is (inr (inr bare)) memory none = no_saves last bare.saves_are
  last_done keeps false is commits memory none = no_saves last commits.saves_are

  answer_later : (answer : Result (Unit {0}) SaveError) → IsSave (made answer) → Later left.sources.files.counts new.sources.files.counts
  answer_later (Ok done) is = later_so left.sources.files.counts new.sources.files.counts (unmoved left.sources.files.counts new.sources.files.counts is.counts)
  answer_later (Err (save.Failed path)) is = later_so left.sources.files.counts new.sources.files.counts (failed left.sources.files.counts new.sources.files.counts is.counts)
  answer_later (Err save.OutOfMemory) is = elim is.counts [
    | inl rose ↦ refused left.sources.files.counts new.sources.files.counts rose
    | inr same ↦ later_so left.sources.files.counts new.sources.files.counts (unmoved left.sources.files.counts new.sources.files.counts same.0)
  ]

  commit_later : (saves : Bool) → Commits saves ended left new last how → Later left.sources.files.counts new.sources.files.counts
  commit_later true (inl saved) = answer_later saved.answer saved.is
  commit_later true (inr (inl not)) =
      later_so left.sources.files.counts new.sources.files.counts (unmoved left.sources.files.counts new.sources.files.counts (ap (λ (f : FilesState). f.counts) not.unsent.files_are))
  commit_later true (inr (inr bare)) =
      later_so left.sources.files.counts new.sources.files.counts (unmoved left.sources.files.counts new.sources.files.counts (ap (λ (g : Ground). g.sources.files.counts) bare.stays))
  commit_later false commits = later_so left.sources.files.counts new.sources.files.counts (unmoved left.sources.files.counts new.sources.files.counts (ap (λ (g : Ground). g.sources.files.counts) commits.stays))

module _ (used : Tool) (settings : Settings) (old new : World) (outcome : Outcome) (saves : List Save) (memory : outcome.end ≡ end.OutOfMemory) (none_refused : ¬ Rose old.stock.files.counts.refusals new.stock.files.counts.refusals) where
  worked_done : HasWorked used settings old new outcome saves → AllByRecursion IsDoneOrNot saves
  worked_done worked =
      let r = (one used settings old new outcome saves worked).round in
      let has = works used settings old new outcome saves worked in
      let start : SessionState = begins used settings old new outcome saves worked in
      let commit = commits used settings old new outcome saves worked in
      let saved_last : Bool = keeps_changes used && comes_to_save r.answer.ended in
      let left : Ground = ground_of has.left.files r.left.world.links.io has.left.layers in
      let finish : r.finish ≡ end.OutOfMemory = finish_so used settings old new outcome saves worked end.OutOfMemory no_child memory in
      let first : Later old.stock.files.counts worked.mid.sources.files.counts = start_later used settings.conf_path (ground_in old).sources worked.mid worked.roots worked.started in
      let second : Later worked.mid.sources.files.counts has.left.files.counts
      = tool_later worked.roots start (on_ground old worked.mid).links r.left.world.links 0 r.answer has.told has.left r.inner used has.uses in
      let third : Later has.left.files.counts new.stock.files.counts = commit_later left (ground_in new) r.last r.finish r.answer.ended saved_last commit in
      let to_left : Later old.stock.files.counts has.left.files.counts = later_then old.stock.files.counts worked.mid.sources.files.counts has.left.files.counts first second in
      subst (AllByRecursion IsDoneOrNot) (sym (one used settings old new outcome saves worked).saves_are)
      (all_both r.inner r.last
      (inner_done worked.roots start (on_ground old worked.mid).links r.left.world.links 0 r.answer has.told has.left r.inner
      (never_failed left (ground_in new) r.last r.finish r.answer.ended (keeps_changes used) saved_last refl commit finish)
      (λ rose. none_refused (rose_between old.stock.files.counts.refusals worked.mid.sources.files.counts.refusals has.left.files.counts.refusals new.stock.files.counts.refusals first.1 rose third.1)) used has.uses)
      (last_done left (ground_in new) r.last r.finish r.answer.ended (keeps_changes used) saved_last refl commit finish
      (λ rose. none_refused (rose_behind old.stock.files.counts.refusals has.left.files.counts.refusals new.stock.files.counts.refusals to_left.1 rose.refusals))))

  tool_done : HasRunTool used settings old new outcome saves → AllByRecursion IsDoneOrNot saves
  tool_done (inl before) = no_saves saves before.2
  tool_done (inr worked) = worked_done worked

words_done : (words : List (List ℕ)) (settings : Settings) (old new : World) (outcome : Outcome) (saves : List Save) → HasRunWords words settings old new outcome saves → outcome.end ≡ end.OutOfMemory
    → ¬ Rose old.stock.files.counts.refusals new.stock.files.counts.refusals → AllByRecursion IsDoneOrNot saves
words_done words settings old new outcome saves (inl refused) memory none_refused = no_saves saves refused.1
words_done words settings old new outcome saves (inr ran) memory none_refused = tool_done ran.0 settings old new outcome saves memory none_refused ran.2

pub memory_stands : (words : List (List ℕ)) (settings : Settings) (old new : World) (outcome : Outcome) (saves : List Save) → HasRunWords words settings old new outcome saves → outcome.end ≡ end.OutOfMemory
    → ¬ Rose old.stock.files.counts.refusals new.stock.files.counts.refusals → StandsBehindDone saves old.stock.files.view.disk new.stock.files.view.disk
memory_stands words settings old new outcome saves ran memory none_refused =
    stands old.stock.files.view.disk saves new.stock.files.view.disk (words_done words settings old new outcome saves ran memory none_refused) (words_keep words settings old new outcome saves ran).are_saves

-- ---- no memory was refused by the files

other_result : (error : SourceError) → ◌≡◌ {A = Result (Unit {0}) SourceError} (Err error) (Ok tt) → ⊥
other_result error is = cc

fault_kept : (sort : LayerSort) (files mid : FilesView) (before now : Counts) (fault : LoadError) → (fault ≡ load.OutOfMemory → ⊥) → LoadCountsBy sort files mid (Err fault) before now → Kept before now
fault_kept File files mid before now (load.Failed path) other counted = failed before now counted
fault_kept Tree files mid before now (load.Failed path) other counted = failed before now counted
fault_kept Pack files mid before now (load.Failed path) other counted = failed before now counted
fault_kept File files mid before now (load.Damaged path line) other counted = unmoved before now counted
fault_kept Tree files mid before now (load.Damaged path line) other counted = unmoved before now counted
fault_kept Pack files mid before now (load.Damaged path line) other counted = unmoved before now counted
fault_kept Pipe files mid before now (load.Failed path) other counted = absurd counted
fault_kept Pipe files mid before now (load.Damaged path line) other counted = absurd counted
fault_kept sort files mid before now load.OutOfMemory other counted = absurd (other refl)

module _ (spec : LayerSpec) (layer made : LayerState) (from mid left : Sources) (error : SourceError) (more last : Type 0) (other : error ≡ source.Files load.OutOfMemory → ⊥)
    (rest : more → Kept mid.files.counts left.files.counts) (stays : last → left ≡ mid) where
  kept_here : last → Kept from.files.counts mid.files.counts → Kept from.files.counts left.files.counts
  kept_here at kept = subst (λ (s : Sources). Kept from.files.counts s.files.counts) (sym (stays at)) kept

  piped_kept : mid.files ≡ from.files → Kept from.files.counts mid.files.counts
  piped_kept same = unmoved from.files.counts mid.files.counts (ap (λ (f : FilesState). f.counts) same)

  load_refused : (first : LoadAnswer) → LoadsOne spec layer made from mid first → GoesOn first (Err error) more last → Kept from.files.counts left.files.counts
  load_refused (LoadAnswer.OfFiles (Ok loaded)) is goes =
      kept_then from.files.counts mid.files.counts left.files.counts (load_kept spec.sort from.files.view mid.files.view from.files.counts mid.files.counts loaded is.2) (rest goes)
  load_refused (LoadAnswer.OfPipe (Ok loaded)) is goes = kept_then from.files.counts mid.files.counts left.files.counts (piped_kept is.2) (rest goes)
  load_refused (LoadAnswer.OfFiles (Err fault)) is goes =
      let same : error ≡ source.Files fault = cc in
      kept_here goes.1 (fault_kept spec.sort from.files.view mid.files.view from.files.counts mid.files.counts fault (λ none. other (same ∙ ap (λ (e : LoadError). source.Files e) none)) is.2)
  load_refused (LoadAnswer.OfPipe (Err fault)) is goes = kept_here goes.1 (piped_kept is.2)

loads_refused : (specs : List LayerSpec) (old new : List LayerState) (from left : Sources) (error : SourceError) → (error ≡ source.Files load.OutOfMemory → ⊥) → LoadsAll specs old new from left (Err error) → Kept from.files.counts left.files.counts
loads_refused [] old new from left error other loads = absurd (other_result error loads.0)
loads_refused (spec ∷ specs) [] new from left error other loads = absurd loads
loads_refused (spec ∷ specs) (layer ∷ old) [] from left error other loads = absurd loads
loads_refused (spec ∷ specs) (layer ∷ old) (made ∷ new) from left error other loads =
    load_refused spec layer made from loads.1 left error (LoadsAll specs old new loads.1 left (Err error)) ((new ≡ old) × (left ≡ loads.1)) other
    (loads_refused specs old new loads.1 left error other) (λ last. last.1) loads.0 loads.2 loads.3

-- an end that isn't for want of memory
abbrev IsOther : End → Type 0
IsOther how = how ≡ end.OutOfMemory → ⊥

unloaded_kept : (used : Tool) (path : List ℕ) (old new : FilesState) (how : End) → IsOther how → EndsUnloaded used path old new how → Kept old.counts new.counts
unloaded_kept used path old new how other (inl none) = absurd (other none.end_is)
unloaded_kept used path old new how other (inr (inl unread)) = failed old.counts new.counts unread.counts
unloaded_kept used path old new how other (inr (inr (inl refused))) = unmoved old.counts new.counts refused.read.counts
unloaded_kept used path old new how other (inr (inr (inr (inl wrong)))) = unmoved old.counts new.counts wrong.read.counts
unloaded_kept used path old new how other (inr (inr (inr (inr (inl misused))))) = unmoved old.counts new.counts misused.read.counts
unloaded_kept used path old new how other (inr (inr (inr (inr (inr (inl unbuilt)))))) = unmoved old.counts new.counts unbuilt.read.counts
unloaded_kept used path old new how other (inr (inr (inr (inr (inr (inr unset)))))) = unmoved old.counts new.counts unset.read.counts

before_kept : (used : Tool) (path : List ℕ) (old : Sources) (new : Ground) (how : End) → IsOther how → EndsBefore used path old new how → Kept old.files.counts new.sources.files.counts
before_kept used path old new how other (inl unloaded) = unloaded_kept used path old.files new.sources.files how other unloaded.0
before_kept used path old new how other (inr unloaded) =
    loads_refused _ _ _ (conf_read_in used path old) new.sources unloaded.error (λ is. other (unloaded.end_is ∙ ap (λ (e : SourceError). end_of_load e) is)) unloaded.loaded.loads

module _ (left new : Ground) (how : End) where
  -- want of memory in the tool is that of the run
  tool_memory : (keeps : Bool) (ended : ToolEnd) → ended ≡ tool.OutOfMemory → FinishesWhere keeps left new ended how → how ≡ end.OutOfMemory
  tool_memory true ended is finishes = (subst (λ (e : ToolEnd). Finishes left new e how) is finishes).end_is
  tool_memory false ended is broken = broken.end_is ∙ ap (λ (e : ToolEnd). end_of e) is

memory_awaited : (started : Bool) (old new : LinkState) (how ended : End) (status left : ℕ) → Awaits started old new how ended status left → how ≡ end.OutOfMemory → ended ≡ end.OutOfMemory
memory_awaited true old new how ended status left (inl has) is = has.end_is ∙ is
memory_awaited true old new how ended status left (inr failed) is = failed.end_is ∙ ap (λ (e : End). end_unwaited e) is
memory_awaited false old new how ended status left none is = none.end_is ∙ is

module _ (used : Tool) (settings : Settings) (old new : World) (outcome : Outcome) (other : IsOther outcome.end) where
  used_kept : HasUsed used settings old new outcome → Kept old.stock.files.counts new.stock.files.counts
  used_kept run =
      let start = begun used (before_rounds (on_ground old run.mid)) run.roots settings in
      let finish : IsOther run.how
      = λ is. other (memory_awaited run.answer.is_started run.links.child new.links.child run.how outcome.end run.answer.status run.status run.awaits is) in
      kept_then old.stock.files.counts run.mid.sources.files.counts new.stock.files.counts (start_kept used settings.conf_path (ground_in old).sources run.mid run.roots run.started)
      (kept_then run.mid.sources.files.counts run.left.files.counts new.stock.files.counts
      (tool_kept run.roots start (on_ground old run.mid).links run.links 0 run.answer run.told run.left run.inner used
      (λ is. finish (tool_memory (ground_of run.left.files run.links.io run.left.layers) (ground_in new) run.how (keeps_changes used) run.answer.ended is run.finishes)) run.uses)
      (finished_kept (ground_of run.left.files run.links.io run.left.layers) (ground_in new) run.how (keeps_changes used) run.answer.ended finish run.finishes))

  ran_kept : (saves : List Save) → HasRunTool used settings old new outcome saves → Kept old.stock.files.counts new.stock.files.counts
  ran_kept saves (inl before) = before_kept used settings.conf_path (ground_in old).sources (ground_in new) outcome.end other before.0
  ran_kept saves (inr worked) = used_kept (as_used used settings old new outcome saves worked)

words_kept : (words : List (List ℕ)) (settings : Settings) (old new : World) (outcome : Outcome) (saves : List Save) → HasRunWords words settings old new outcome saves → IsOther outcome.end → Kept old.stock.files.counts new.stock.files.counts
words_kept words settings old new outcome saves (inl refused) other = unmoved old.stock.files.counts new.stock.files.counts (ap (λ (g : Ground). g.sources.files.counts) refused.0.untouched)
words_kept words settings old new outcome saves (inr ran) other = ran_kept ran.0 settings old new outcome other saves ran.2

pub none_refused : (words : List (List ℕ)) (settings : Settings) (old new : World) (outcome : Outcome) (saves : List Save) → HasRunWords words settings old new outcome saves → outcome.end ≢ end.OutOfMemory
    → new.stock.files.counts.refusals ≡ old.stock.files.counts.refusals
none_refused words settings old new outcome saves ran other = (words_kept words settings old new outcome saves ran other).1

-- ---- no save was begun

pub unsaved_unwritten : (words : List (List ℕ)) (settings : Settings) (old new : World) (outcome : Outcome) → HasRunWords words settings old new outcome [] → new.stock.files.view.disk ≡ old.stock.files.view.disk
unsaved_unwritten words settings old new outcome ran = (words_keep words settings old new outcome [] ran).are_saves

-- ---- the ends before a save

-- such an end isn't one of a tool
tool_other : (ended : ToolEnd) → IsBeforeSaves (end_of ended) → ⊥
tool_other tool.Done is = is
tool_other tool.LinkFault is = is
tool_other tool.TooLong is = is
tool_other tool.PrintFault is = is
tool_other tool.TermFault is = is
tool_other tool.ChildFault is = is
tool_other tool.OutOfMemory is = is
tool_other (tool.FilesFault path) is = is
tool_other (tool.BadWire line) is = is

-- nor of a save
unsaved_other : (ended : ToolEnd) (path : List ℕ) → IsBeforeSaves (end_unsaved ended (save.Failed path)) → ⊥
unsaved_other tool.Done path is = is
unsaved_other tool.LinkFault path is = is
unsaved_other tool.TooLong path is = is
unsaved_other tool.PrintFault path is = is
unsaved_other tool.TermFault path is = is
unsaved_other tool.ChildFault path is = is
unsaved_other tool.OutOfMemory path is = is
unsaved_other (tool.FilesFault fault) path is = is
unsaved_other (tool.BadWire line) path is = is

save_other : (ended : ToolEnd) (answer : Result (Unit {0}) SaveError) → IsBeforeSaves (end_by ended answer) → ⊥
save_other ended (Ok done) is = tool_other ended is
save_other ended (Err (save.Failed path)) is = unsaved_other ended path is
save_other ended (Err save.OutOfMemory) is = is

unwaited_before : (how : End) → IsBeforeSaves (end_unwaited how) → IsBeforeSaves how
unwaited_before end.Done is = is
unwaited_before (end.Usage word) is = is
unwaited_before (end.ConfRefused line kind) is = is
unwaited_before (end.BadPattern at) is = is
unwaited_before (end.PatternTooLarge at) is = is
unwaited_before (end.Damaged path line) is = is
unwaited_before end.OutOfMemory is = is
unwaited_before (end.FilesFault path) is = is
unwaited_before end.LinkFault is = is
unwaited_before end.TermFault is = is
unwaited_before end.ChildFault is = is
unwaited_before end.TooLong is = is
unwaited_before (end.BadWire line) is = is

awaited_before : (started : Bool) (old new : LinkState) (how ended : End) (status left : ℕ) → Awaits started old new how ended status left → IsBeforeSaves ended → IsBeforeSaves how
awaited_before true old new how ended status left (inl has) is = subst IsBeforeSaves has.end_is is
awaited_before true old new how ended status left (inr failed) is = unwaited_before how (subst IsBeforeSaves failed.end_is is)
awaited_before false old new how ended status left none is = subst IsBeforeSaves none.end_is is

unsent_before : (error : LinkError) → IsBeforeSaves (end_unsent error) → ⊥
unsent_before Failed is = is
unsent_before OutOfMemory is = is

committed_other : (saves : Bool) (ended : ToolEnd) (left new : Ground) (last : List Save) (how : End) → Commits saves ended left new last how → IsBeforeSaves how → ⊥
committed_other true ended left new last how (inl saved) before = save_other ended saved.answer (subst IsBeforeSaves saved.end_is before)
committed_other true ended left new last how (inr (inl not)) before = unsent_before not.unsent.error (subst IsBeforeSaves not.unsent.end_is before)
committed_other true ended left new last how (inr (inr bare)) before = subst IsBeforeSaves bare.end_is before
committed_other false ended left new last how commits before = tool_other ended (subst IsBeforeSaves commits.end_is before)

module _ (used : Tool) (settings : Settings) (old new : World) (outcome : Outcome) (saves : List Save) where
  worked_other : HasWorked used settings old new outcome saves → IsBeforeSaves outcome.end → ⊥
  worked_other worked before =
      let has_one = one used settings old new outcome saves worked in
      let r = has_one.round in
      let has = works used settings old new outcome saves worked in
      committed_other (keeps_changes used && comes_to_save r.answer.ended) r.answer.ended (ground_of has.left.files r.left.world.links.io has.left.layers) (ground_in new) r.last r.finish (commits used settings old new outcome saves worked)
      (awaited_before r.answer.is_started r.left.world.links.child r.new.world.links.child r.finish r.how r.answer.status r.status has_one.is.awaits (subst IsBeforeSaves has_one.how_is before))

  tool_unsaved : HasRunTool used settings old new outcome saves → IsBeforeSaves outcome.end → saves ≡ []
  tool_unsaved (inl ended) before = ended.2
  tool_unsaved (inr worked) before = absurd (worked_other worked before)

pub before_saves : (words : List (List ℕ)) (settings : Settings) (old new : World) (outcome : Outcome) (saves : List Save) → HasRunWords words settings old new outcome saves → IsBeforeSaves outcome.end → saves ≡ []
before_saves words settings old new outcome saves (inl refused) before = refused.1
before_saves words settings old new outcome saves (inr ran) before = tool_unsaved ran.0 settings old new outcome saves ran.2 before

-- ---- the terminal failed, or a line of the wire was unreadable

-- the run ends so
abbrev pub IsUserFault : End → Type 0
IsUserFault end.TermFault = Unit {0}
IsUserFault (end.BadWire line) = Unit {0}
IsUserFault how = ⊥

-- and its tool did
abbrev StopsTool : ToolEnd → Type 0
StopsTool tool.TermFault = Unit {0}
StopsTool (tool.BadWire line) = Unit {0}
StopsTool ended = ⊥

ended_fault : (ended : ToolEnd) → IsUserFault (end_of ended) → StopsTool ended
ended_fault tool.Done none = none
ended_fault tool.LinkFault none = none
ended_fault tool.TooLong none = none
ended_fault tool.PrintFault none = none
ended_fault tool.TermFault is = tt
ended_fault tool.ChildFault none = none
ended_fault tool.OutOfMemory none = none
ended_fault (tool.FilesFault path) none = none
ended_fault (tool.BadWire line) is = tt

-- then no save is come to
never_saved : (ended : ToolEnd) → comes_to_save ended ≡ true → StopsTool ended → ⊥
never_saved tool.Done comes none = none
never_saved tool.LinkFault comes none = none
never_saved tool.TooLong comes none = none
never_saved tool.PrintFault comes none = none
never_saved tool.TermFault comes is = cc
never_saved tool.ChildFault comes none = none
never_saved tool.OutOfMemory comes none = none
never_saved (tool.FilesFault path) comes none = none
never_saved (tool.BadWire line) comes is = cc

unsaved_fault : (ended : ToolEnd) (path : List ℕ) → comes_to_save ended ≡ true → IsUserFault (end_unsaved ended (save.Failed path)) → ⊥
unsaved_fault tool.Done path comes none = none
unsaved_fault tool.LinkFault path comes none = none
unsaved_fault tool.TooLong path comes none = none
unsaved_fault tool.PrintFault path comes none = none
unsaved_fault tool.TermFault path comes is = cc
unsaved_fault tool.ChildFault path comes none = none
unsaved_fault tool.OutOfMemory path comes none = none
unsaved_fault (tool.FilesFault fault) path comes none = none
unsaved_fault (tool.BadWire line) path comes is = cc

saved_fault : (ended : ToolEnd) (answer : Result (Unit {0}) SaveError) → comes_to_save ended ≡ true → IsUserFault (end_by ended answer) → ⊥
saved_fault ended (Ok done) comes is = never_saved ended comes (ended_fault ended is)
saved_fault ended (Err (save.Failed path)) comes is = unsaved_fault ended path comes is
saved_fault ended (Err save.OutOfMemory) comes none = none

unsent_fault : (error : LinkError) → IsUserFault (end_unsent error) → ⊥
unsent_fault Failed none = none
unsent_fault OutOfMemory none = none

committed_fault : (keeps saves : Bool) (ended : ToolEnd) (left new : Ground) (last : List Save) (how : End) → saves ≡ keeps && comes_to_save ended → Commits saves ended left new last how → IsUserFault how
    → StopsTool ended × (last ≡ [])
committed_fault keeps true ended left new last how is (inl saved) fault = absurd (saved_fault ended saved.answer (both_so keeps (comes_to_save ended) (sym is)) (subst IsUserFault saved.end_is fault))
committed_fault keeps true ended left new last how is (inr (inl not)) fault = absurd (unsent_fault not.unsent.error (subst IsUserFault not.unsent.end_is fault))
committed_fault keeps true ended left new last how is (inr (inr bare)) fault = absurd (subst IsUserFault bare.end_is fault)
committed_fault keeps false ended left new last how is commits fault = (ended_fault ended (subst IsUserFault commits.end_is fault), commits.saves_are)

broken_fault : (error : SaveError) → StopsTool (tool_end_of (link.Broken (saving.Save error))) → ⊥
broken_fault (save.Failed path) none = none
broken_fault save.OutOfMemory none = none

-- nor did one break off
none_broken : (served ended : LinkEnd SavingBreak) (state after : SessionState) (left : Resources) → FinishesSession served state left ended → StopsTool (tool_end_of ended) → broken_save served after state ≡ []
none_broken link.Done ended state after left finishes fault = refl
none_broken link.LinkFault ended state after left finishes fault = refl
none_broken link.TooLong ended state after left finishes fault = refl
none_broken link.OutOfMemory ended state after left finishes fault = refl
none_broken (link.Broken (saving.Step error)) ended state after left finishes fault = refl
none_broken (link.Broken (saving.Save error)) ended state after left finishes fault = absurd (broken_fault error (subst (λ (e : LinkEnd SavingBreak). StopsTool (tool_end_of e)) finishes.2 fault))

served_asked : (start : SessionState) (left : Resources) (old new : LinkState) (ended : LinkEnd SavingBreak) (before code : ℕ) (saves : List Save) → IsServedSaving start left old new ended before code saves
    → StopsTool (tool_end_of ended) → AreAsked saves
served_asked start left old new ended before code saves is fault =
    let turns = is.by.ran.transitions in (
      start,
      turns,
      is.by.ran.course,
      is.saves_are ∙ ap (λ (l : List Save). saves_in start turns ++ l) (none_broken is.by.served ended is.by.state (state_after start turns) left is.by.finishes fault) ∙ append-nil (saves_in start turns),
    )

none_asked : (start : SessionState) (saves : List Save) → saves ≡ [] → AreAsked saves
none_asked start saves none = (start, [], tt, none)

module _ (roots : Roots) (start : SessionState) (old new : Links) (before : ℕ) (answer : ToolAnswer) (told : List ℕ) (left : Resources) (saves : List Save) (fault : StopsTool answer.ended) where
  inner_asked : (used : Tool) → Uses used roots start old new before answer told left saves → AreAsked saves
  inner_asked (Communicate owner) uses = served_asked start left old.io new.io uses.0.ended before answer.last_code saves uses.0.served (subst StopsTool uses.0.ended_is fault)
  inner_asked (LoadTemplate owner paths) uses = none_asked start saves uses.1
  inner_asked (Run owner frontend priority command) uses = elim uses.0 [
    | inl none ↦ none_asked start saves none.saves_are
    | inr started ↦ served_asked start left started.mid new.child started.ended before answer.last_code saves started.served (subst StopsTool started.ended_is fault)
  ]
  inner_asked (Show database shown) uses = none_asked start saves uses.2
  inner_asked (CopyDb copy) uses = none_asked start saves uses.1
  inner_asked (SetSelections verbose check unseen) uses = none_asked start saves uses.3
  inner_asked GetSelections uses = none_asked start saves uses.1
  inner_asked (Drill count) uses = none_asked start saves uses.2
  inner_asked (Answer command) uses = none_asked start saves uses.3

-- such an end comes of a tool
is_of_tool : (how : End) → IsUserFault how → IsOfTool how
is_of_tool end.Done none = absurd none
is_of_tool (end.Usage word) none = none
is_of_tool (end.ConfRefused line kind) none = none
is_of_tool (end.BadPattern at) none = none
is_of_tool (end.PatternTooLarge at) none = none
is_of_tool (end.Damaged path line) none = none
is_of_tool end.OutOfMemory none = none
is_of_tool (end.FilesFault path) none = none
is_of_tool end.LinkFault none = none
is_of_tool end.TermFault is = tt
is_of_tool end.ChildFault none = none
is_of_tool end.TooLong none = none
is_of_tool (end.BadWire line) is = tt

module _ (used : Tool) (settings : Settings) (old new : World) (outcome : Outcome) (saves : List Save) (fault : IsUserFault outcome.end) where
  worked_asked : HasWorked used settings old new outcome saves → AreAsked saves
  worked_asked worked =
      let has_one = one used settings old new outcome saves worked in
      let r = has_one.round in
      let has = works used settings old new outcome saves worked in
      let start : SessionState = begins used settings old new outcome saves worked in
      let so = committed_fault (keeps_changes used) (keeps_changes used && comes_to_save r.answer.ended) r.answer.ended (ground_of has.left.files r.left.world.links.io has.left.layers) (ground_in new) r.last r.finish refl (commits used settings old new outcome saves worked)
      (subst IsUserFault (sym (finish_so used settings old new outcome saves worked outcome.end (λ same. subst IsUserFault (sym same) fault) refl)) fault) in
      subst AreAsked (sym (has_one.saves_are ∙ ap (λ (l : List Save). r.inner ++ l) so.1 ∙ append-nil r.inner))
      (inner_asked worked.roots start (on_ground old worked.mid).links r.left.world.links 0 r.answer has.told has.left r.inner so.0 used has.uses)

  tool_asked : HasRunTool used settings old new outcome saves → AreAsked saves
  tool_asked (inl before) = absurd (not_before used settings.conf_path (ground_in old).sources (ground_in new) outcome.end (is_of_tool outcome.end fault) before.0)
  tool_asked (inr worked) = worked_asked worked

pub asked_saves : (words : List (List ℕ)) (settings : Settings) (old new : World) (outcome : Outcome) (saves : List Save) → HasRunWords words settings old new outcome saves → IsUserFault outcome.end → AreAsked saves
asked_saves words settings old new outcome saves (inl refused) fault = absurd (subst IsUserFault refused.0.end_is fault)
asked_saves words settings old new outcome saves (inr ran) fault = tool_asked ran.0 settings old new outcome saves fault ran.2

-- ---- a run that did all

pub met_none : (words : List (List ℕ)) (settings : Settings) (old new : World) (outcome : Outcome) (saves : List Save) → HasRunWords words settings old new outcome saves → outcome.end ≡ end.Done → MetNoFault old.links new.links
met_none words settings old new outcome saves ran done =
    let run = is_run words settings old new outcome saves ran in
    let counts = run.links_count in
    let behind : LinksCount end.Done (record old.links { io = counts.mid }) new.links = subst (λ (e : End). LinksCount e (record old.links { io = counts.mid }) new.links) done counts.behind in
    record {
      io = subst (λ (c : Counts). CountsLoads old.links.io.counts c) (sym behind.on_io) counts.loads;
      child = behind.on_child;
      program = subst (λ (e : End). ProgramCounts e old.links.child.program.failures new.links.child.program.failures) done run.program_counts;
    }
