-- Nothing changes on the disk in a run but what its saves do, and these save layers of its databases.
use Rattle.std.proofs.Common.{◌≡◌, ◌⊎◌, ◌&&◌, inl, inr, Bool, true, false, List, [], ◌++◌, ℕ, Option, Some, Ok, refl, sym, ap, subst, ◌∙◌}
use Rattle.std.specs.List.{AllByRecursion}
use Rattle.dc_outside.specs.Disk.{Disk}
use Rattle.dc_layer.specs.State.{LayerState}
use Rattle.dc_cli.specs.Tools.{Names}
use Rattle.dc_cli.specs.declared.tool.Tool.{Tool}
use Rattle.dc_outside.specs.State.{FilesState}
use Rattle.dc_run.specs.Crashes.{AreOfConfiguration, KeepsDatabases}
use Rattle.dc_run.specs.Ends.{comes_to_save}
use Rattle.dc_run.specs.Headline.{HasWorked, HasRunTool, HasRunWords}
use Rattle.dc_run.specs.Kills.{AllDone}
use Rattle.dc_run.specs.Rounds.{Job, Whole, HasDone, IsOneRound, Works, is_saved_at}
use Rattle.dc_run.specs.Saves.{Save, AreSaves, Commits, HasNoImages, HasNotSent}
use Rattle.dc_run.specs.Starting.{begun, databases_of, keeps_changes}
use Rattle.dc_run.specs.World.{Ground, Stock, World, RunState, before_rounds, ground_in, on_ground}
use Rattle.dc_run.specs.declared.outcome.End.{End}
use Rattle.dc_run.specs.declared.outcome.End.TheVariants as end
use Rattle.dc_run.specs.declared.outcome.Outcome.{Outcome}
use Rattle.dc_run.specs.declared.outcome.ToolEnd.{ToolEnd}
use Rattle.dc_run.specs.declared.settings.Settings.{Settings}
use Rattle.dc_run.proofs.CrashLemmas.{KeepsAll, loads_read, before_reads, loads_keep, set_up_specs, set_for, tool_keeps, ended_then, ended_all, each_save, all_saved_then, done_before, of_configuration}
use Rattle.dc_run.proofs.KindLemmas.{specs_in}
use Rattle.dc_run.proofs.Kills.{keeps_saves, saves_joined, done_joined, each_joined, each_mapped}
use Rattle.dc_run.proofs.RoundLemmas.{one_round, jobs_had}
use Rattle.dc_run.proofs.SavingLemmas.{IsOfKinds, specs_of}

both_true : (one other : Bool) → one && other ≡ true → (one ≡ true) × (other ≡ true)
both_true true other is = (refl, is)
both_true false other is = absurd (cc)

unsaved_between : (ended : ToolEnd) (left new : Ground) (last : List Save) (how : End) → HasNotSent ended left new last how ⊎ HasNoImages left new last how → (last ≡ []) × (new.sources.files.view.disk ≡ left.sources.files.view.disk)
unsaved_between ended left new last how (inl unsent) = (unsent.saves_are, ap (λ (f : FilesState). f.view.disk) unsent.unsent.files_are)
unsaved_between ended left new last how (inr none) = (none.saves_are, ap (λ (g : Ground). g.sources.files.view.disk) none.stays)

none_between : (left new : Ground) (last : List Save) → last ≡ [] → new.sources.files.view.disk ≡ left.sources.files.view.disk → AreSaves left.sources.files.view.disk last new.sources.files.view.disk
none_between left new last none same = subst (λ (l : List Save). AreSaves left.sources.files.view.disk l new.sources.files.view.disk) (sym none) same

saved_between : (saves : Bool) (ended : ToolEnd) (left new : Ground) (last : List Save) (how : End) → Commits saves ended left new last how → AreSaves left.sources.files.view.disk last new.sources.files.view.disk
saved_between true ended left new last how (inl has) = subst (λ (l : List Save). AreSaves left.sources.files.view.disk l new.sources.files.view.disk) (sym has.saves_are) (refl, has.is, (λ failed. refl), refl)
saved_between true ended left new last how (inr none) = let is = unsaved_between ended left new last how none in none_between left new last is.0 is.1
saved_between false ended left new last how has = none_between left new last has.saves_are (ap (λ (g : Ground). g.sources.files.view.disk) has.stays)

-- a save at the end follows those in the middle only where they are done
inner_first : (saves : Bool) (ended : ToolEnd) (left new : Ground) (inner last : List Save) (how : End) → Commits saves ended left new last how → (saves ≡ true → AllDone inner) → AllDone inner ⊎ (last ≡ [])
inner_first true ended left new inner last how has done = inl (done refl)
inner_first false ended left new inner last how has done = inr has.saves_are

-- what is killed is said by the saves
keeps_by : (words : List (List ℕ)) (path : List ℕ) (old new : FilesState) (how : End) (saves : List Save) → AreSaves old.view.disk saves new.view.disk → AllByRecursion (λ save. AreOfConfiguration words old.view.disk path save.layers) saves
    → (how ≡ end.Done → AllDone saves) → KeepsDatabases words path old new how saves
keeps_by words path old new how saves are of done = record {
  are_saves = are;
  are_of = of;
  killed = λ before after at to durable.
      keeps_saves saves before after (subst (λ (d : Option Disk). AreSaves (Some before) saves d) to (subst (λ (d : Option Disk). AreSaves d saves new.view.disk) at are)) durable;
  all_done = done;
}

-- no save was begun, and the disk is as it was
none_kept : (words : List (List ℕ)) (path : List ℕ) (old new : FilesState) (how : End) (saves : List Save) → saves ≡ [] → new.view.disk ≡ old.view.disk → KeepsDatabases words path old new how saves
none_kept words path old new how saves none same = subst (KeepsDatabases words path old new how) (sym none) (keeps_by words path old new how [] same tt (λ done. tt))

-- ---- the tool's one round

module _ (used : Tool) (settings : Settings) (old new : World) (outcome : Outcome) (saves : List Save) (worked : HasWorked used settings old new outcome saves) where
  abbrev start : RunState
  start = before_rounds (on_ground old worked.mid)

  one : IsOneRound worked.roots settings (Whole used) start worked.left outcome.end worked.status saves
  one = one_round worked.roots settings (Whole used) start worked.left outcome.end worked.status saves (jobs_had used worked.roots settings start worked.left outcome.end worked.status saves worked.does)

  works : HasDone used worked.roots settings start one.round.left one.round.answer one.round.inner
  works = subst (λ (j : Job). Works j worked.roots settings start one.round.left one.round.answer one.round.inner) one.job_is one.is.works

  commits : Commits (keeps_changes used && comes_to_save one.round.answer.ended) one.round.answer.ended (ground_in one.round.left.world) (ground_in one.round.new.world) one.round.last one.round.finish
  commits = subst (λ (j : Job). Commits (is_saved_at j one.round.answer.ended) one.round.answer.ended (ground_in one.round.left.world) (ground_in one.round.new.world) one.round.last one.round.finish) one.job_is one.is.commits

  keeps : KeepsAll (keeps_changes used) (begun used start worked.roots settings) one.round.answer.ended one.round.left.world.stock.used one.round.left.world.stock.files one.round.inner
  keeps = subst (λ (s : Stock). KeepsAll (keeps_changes used) (begun used start worked.roots settings) one.round.answer.ended s.used s.files one.round.inner) (sym works.stock_is)
      (tool_keeps used worked.roots (begun used start worked.roots settings) (on_ground old worked.mid).links one.round.left.world.links 0 one.round.answer works.told works.left one.round.inner works.uses)

  inner_done : AllDone one.round.inner ⊎ (one.round.last ≡ [])
  inner_done = inner_first (keeps_changes used && comes_to_save one.round.answer.ended) one.round.answer.ended (ground_in one.round.left.world) (ground_in one.round.new.world) one.round.inner one.round.last one.round.finish commits
      (λ is. keeps.done (ended_then one.round.answer.ended (both_true _ _ is).1))

  stock_is : new.stock ≡ one.round.new.world.stock
  stock_is = ap (λ (w : World). w.stock) (worked.rest_is ∙ ap (λ (s : RunState). record s.world { err = new.err }) one.new_is)

  pub run_saves : AreSaves old.stock.files.view.disk saves new.stock.files.view.disk
  run_saves =
      subst (λ (d : Option Disk). AreSaves d saves new.stock.files.view.disk) (loads_read used settings.conf_path worked.roots.conf (ground_in old).sources worked.mid (Ok tt) worked.started.loaded)
      (subst (λ (l : List Save). AreSaves worked.mid.sources.files.view.disk l new.stock.files.view.disk) (sym one.saves_are)
      (subst (λ (s : Stock). AreSaves worked.mid.sources.files.view.disk (one.round.inner ++ one.round.last) s.files.view.disk) (sym stock_is)
      (saves_joined worked.mid.sources.files.view.disk one.round.left.world.stock.files.view.disk one.round.new.world.stock.files.view.disk one.round.inner one.round.last keeps.are inner_done
      (saved_between (keeps_changes used && comes_to_save one.round.answer.ended) one.round.answer.ended (ground_in one.round.left.world) (ground_in one.round.new.world) one.round.last one.round.finish commits))))

  -- the layers that the tool began with
  first_specs : specs_of (begun used start worked.roots settings) ≡ set_for (databases_of used worked.roots.conf)
  first_specs = loads_keep _ _ _ _ _ _ worked.started.loaded.loads ∙ set_up_specs (databases_of used worked.roots.conf)

  specs : keeps_changes used && comes_to_save one.round.answer.ended ≡ true → specs_in one.round.left.world.stock.used ≡ set_for (databases_of used worked.roots.conf)
  specs is = keeps.specs (both_true _ _ is).0 (ended_then one.round.answer.ended (both_true _ _ is).1) ∙ first_specs

  saves_done : outcome.end ≡ end.Done → AllDone saves
  saves_done done =
      let finish : one.round.finish ≡ end.Done = done_before one.round.answer.is_started one.round.left.world.links.child one.round.new.world.links.child one.round.finish one.round.how one.round.answer.status one.round.status one.is.awaits (sym one.how_is ∙ done) in
      subst AllDone (sym one.saves_are)
      (done_joined one.round.inner one.round.last
      (keeps.done (ended_all (ground_in one.round.left.world) (ground_in one.round.new.world) one.round.last one.round.finish one.round.answer.ended (keeps_changes used && comes_to_save one.round.answer.ended) commits finish))
      (all_saved_then (ground_in one.round.left.world) (ground_in one.round.new.world) one.round.last one.round.finish one.round.answer.ended (keeps_changes used && comes_to_save one.round.answer.ended) commits finish))

  module _ (words : List (List ℕ)) (named : Names words used) where
    abbrev IsOfRun : Save → Type 0
    IsOfRun save = AreOfConfiguration words old.stock.files.view.disk settings.conf_path save.layers

    of_run : (layers : List LayerState) → specs_in layers ≡ set_for (databases_of used worked.roots.conf) → AreOfConfiguration words old.stock.files.view.disk settings.conf_path layers
    of_run layers is = of_configuration words used named old.stock.files.view.disk settings.conf_path worked.roots.conf worked.started.loaded.conf_is.conf_is.conf_is layers is

    saves_of_databases : AllByRecursion IsOfRun saves
    saves_of_databases = subst (AllByRecursion IsOfRun) (sym one.saves_are)
        (each_joined IsOfRun one.round.inner one.round.last
        (each_mapped (IsOfKinds (specs_of (begun used start worked.roots settings))) IsOfRun (λ save is. of_run save.layers (is ∙ first_specs)) one.round.inner keeps.kept)
        (each_save (ground_in one.round.left.world) (ground_in one.round.new.world) one.round.last one.round.finish one.round.answer.ended (AreOfConfiguration words old.stock.files.view.disk settings.conf_path) (keeps_changes used && comes_to_save one.round.answer.ended) commits
        (λ is. of_run one.round.left.world.stock.used (specs is))))

    worked_keeps : KeepsDatabases words settings.conf_path old.stock.files new.stock.files outcome.end saves
    worked_keeps = keeps_by words settings.conf_path old.stock.files new.stock.files outcome.end saves run_saves saves_of_databases saves_done

-- ---- the whole run

-- a run of a tool
run_keeps : (words : List (List ℕ)) (used : Tool) → Names words used → (settings : Settings) (old new : World) (outcome : Outcome) (saves : List Save) → HasRunTool used settings old new outcome saves
    → KeepsDatabases words settings.conf_path old.stock.files new.stock.files outcome.end saves
run_keeps words used named settings old new outcome saves (inl ends) =
    none_kept words settings.conf_path old.stock.files new.stock.files outcome.end saves ends.2 (before_reads used settings.conf_path (ground_in old).sources (ground_in new) outcome.end ends.0)
run_keeps words used named settings old new outcome saves (inr worked) = worked_keeps used settings old new outcome saves worked words named

-- a run with these words
pub words_keep : (words : List (List ℕ)) (settings : Settings) (old new : World) (outcome : Outcome) (saves : List Save) → HasRunWords words settings old new outcome saves → KeepsDatabases words settings.conf_path old.stock.files new.stock.files outcome.end saves
words_keep words settings old new outcome saves (inl refused) = none_kept words settings.conf_path old.stock.files new.stock.files outcome.end saves refused.1 (ap (λ (g : Ground). g.sources.files.view.disk) refused.0.untouched)
words_keep words settings old new outcome saves (inr ran) = run_keeps words ran.0 ran.1 settings old new outcome saves ran.2

-- the saves alone changed the disk
pub tool_saves : (used : Tool) (settings : Settings) (old new : World) (outcome : Outcome) (saves : List Save) → HasRunTool used settings old new outcome saves → AreSaves old.stock.files.view.disk saves new.stock.files.view.disk
tool_saves used settings old new outcome saves (inl ends) =
    subst (λ (l : List Save). AreSaves old.stock.files.view.disk l new.stock.files.view.disk) (sym ends.2) (before_reads used settings.conf_path (ground_in old).sources (ground_in new) outcome.end ends.0)
tool_saves used settings old new outcome saves (inr worked) = run_saves used settings old new outcome saves worked
