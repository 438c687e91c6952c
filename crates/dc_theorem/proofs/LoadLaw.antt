-- What comes in determines a run of `loadtemplate`.
use Rattle.std.proofs.Common.{◌≡◌, ℕ, List, ◌++◌, ap, sym, subst, ◌∙◌, append-nil, arith}
use Rattle.std.specs.Prelude.{◌≤◌}
use Rattle.dc_outside.specs.Counts.{Counts}
use Rattle.dc_outside.specs.State.{FilesState, LinkState}
use Rattle.dc_session.specs.Serving.{Resources}
use Rattle.dc_session.specs.SessionState.{SessionState}
use Rattle.dc_run.specs.Ends.{status_of}
use Rattle.dc_run.specs.OneRound.{HasUsed}
use Rattle.dc_run.specs.Starting.{begun}
use Rattle.dc_run.specs.TemplateLoading.{FileTurn, IsFileCourse, paths_of, state_after, lines_of, load_status, HasLoadedFiles}
use Rattle.dc_run.specs.World.{World, before_rounds, ground_of, on_ground}
use Rattle.dc_run.specs.declared.outcome.Outcome.{Outcome}
use Rattle.dc_run.specs.declared.outcome.ToolEnd.{ToolEnd}
use Rattle.dc_run.specs.declared.outcome.ToolEnd.TheVariants as tool
use Rattle.dc_run.specs.declared.settings.Settings.{Settings}
use Rattle.dc_cli.specs.Tools.{Names}
use Rattle.dc_cli.specs.declared.tool.Tool.TheVariants.{LoadTemplate}
use Rattle.dc_theorem.specs.Runs.{IsClean, LoadAlike}
use Rattle.dc_theorem.proofs.EndLemmas.{was_used, unwaited}
use Rattle.dc_outside.specs.Disk.{Disk}
use Rattle.dc_outside.specs.declared.files.FilesCall.{FilesCall}
use Rattle.dc_theorem.proofs.FileCourses.{files_silent, loads_later, one_course, files_with_counts, course_with, paths_with, state_with, told_with, status_with}
use Rattle.dc_theorem.proofs.Recount.{with_outside}
use Rattle.dc_theorem.proofs.TellLaws.{tell_nothing}
use Rattle.dc_theorem.proofs.UsedLemmas.{tool_done, left_sound, starts_told, same_start, leave_alike}

-- all files were loaded
record LoadsEach (start : SessionState) (paths : List (List ℕ)) (said : List ℕ) (status : ℕ) (new : SessionState) : Type 0 where
  transitions : List FileTurn
  paths_are : paths ≡ paths_of transitions
  course : IsFileCourse start transitions
  new_is : new ≡ state_after start transitions
  said_is : said ≡ lines_of start transitions
  status_is : status ≡ load_status start transitions

loads_each : (start : SessionState) (paths : List (List ℕ)) (said : List ℕ) (status : ℕ) (new : SessionState) → HasLoadedFiles start paths tool.Done said status new → LoadsEach start paths said status new
loads_each start paths said status new loaded = record {
  transitions = loaded.turns;
  paths_are = loaded.paths_are ∙ ap (λ (ps : List (List ℕ)). paths_of loaded.turns ++ ps) loaded.ends.0 ∙ append-nil (paths_of loaded.turns);
  course = loaded.course;
  new_is = loaded.ends.1;
  said_is = loaded.said_is;
  status_is = loaded.status_is;
}

loads_with : (counts : Counts) (err : LinkState) (start : SessionState) (paths : List (List ℕ)) (said : List ℕ) (status : ℕ) (new : SessionState) → LoadsEach start paths said status new → LoadsEach (with_outside counts err start) paths said status (with_outside counts err new)
loads_with counts err start paths said status new loads = record {
  transitions = files_with_counts counts err loads.transitions;
  paths_are = loads.paths_are ∙ sym (paths_with counts err loads.transitions);
  course = course_with counts err start loads.transitions loads.course;
  new_is = ap (with_outside counts err) loads.new_is ∙ sym (state_with counts err start loads.transitions);
  said_is = loads.said_is ∙ sym (told_with counts err start loads.transitions);
  status_is = loads.status_is ∙ sym (status_with counts err start loads.transitions);
}

module _ (words : List (List ℕ)) (owner : List ℕ) (paths : List (List ℕ)) (settings : Settings) (disk : Disk) (calls : List FilesCall) where
  -- ---- one run

  module _ (old new : World) (outcome : Outcome) (clean : IsClean words settings disk calls old new outcome) (has : HasUsed (LoadTemplate owner paths) settings old new outcome) where
    abbrev start : SessionState
    start = begun (LoadTemplate owner paths) (before_rounds (on_ground old has.mid)) has.roots settings

    loads : LoadsEach start paths has.told has.answer.status has.uses.0.state
    loads =
        loads_each start paths has.told has.answer.status has.uses.0.state
        (subst (λ (e : ToolEnd). HasLoadedFiles start paths e has.told has.answer.status has.uses.0.state) (tool_done words (LoadTemplate owner paths) settings disk calls old new outcome clean has) has.uses.0.loaded)

    err_is : has.left.err ≡ old.err
    err_is = ap (λ (l : Resources). l.err) has.uses.0.left_is ∙ ap (λ (s : SessionState). s.err) loads.new_is ∙ files_silent start loads.transitions loads.course

    mid_high : has.mid.sources.files.counts.faults ≤ old.stock.files.counts.faults
    mid_high =
        let later : has.mid.sources.files.counts.faults ≤ (state_after start loads.transitions).files.counts.faults = loads_later start loads.transitions loads.course in
        let high : (state_after start loads.transitions).files.counts.faults ≤ old.stock.files.counts.faults
        = subst (λ (f : FilesState). f.counts.faults ≤ old.stock.files.counts.faults) (ap (λ (l : Resources). l.files) has.uses.0.left_is ∙ ap (λ (s : SessionState). s.files) loads.new_is) (left_sound words (LoadTemplate owner paths) settings disk calls old new outcome clean has) in
        omega arith

    status_is : outcome.status ≡ has.answer.status
    status_is =
        has.status_is ∙ (λ i. status_of (clean.done i) has.status)
        ∙ unwaited has.answer.is_started has.links.child new.links.child has.how outcome.end has.answer.status has.status has.uses.0.waits has.awaits

  -- ---- both

  module _ (one new other last : World) (outcome again : Outcome) (clean : IsClean words settings disk calls one new outcome) (other_clean : IsClean words settings disk calls other last again)
      (has : HasUsed (LoadTemplate owner paths) settings one new outcome) (other_has : HasUsed (LoadTemplate owner paths) settings other last again) where
    both_alike : LoadAlike one new outcome other last again
    both_alike =
        let starts = same_start words (LoadTemplate owner paths) settings disk calls one new other last outcome again clean other_clean has other_has tt (mid_high one new outcome clean has) (mid_high other last again other_clean other_has) in
        let begins = begun (LoadTemplate owner paths) (before_rounds (on_ground one has.mid)) has.roots settings in
        let other_begins = begun (LoadTemplate owner paths) (before_rounds (on_ground other other_has.mid)) other_has.roots settings in
        let counts = has.mid.sources.files.counts in
        let err = one.err in
        let begin : with_outside counts err other_begins ≡ begins
        = λ i. begun (LoadTemplate owner paths) (before_rounds (on_ground one (ground_of (record { view = sym starts.told i; counts = counts }) has.mid.sources.link (sym starts.used i)))) (sym starts.roots_are i) settings in
        let first = loads one new outcome clean has in
        let second : LoadsEach begins paths other_has.told other_has.answer.status (with_outside counts err other_has.uses.0.state)
        = subst (λ (s : SessionState). LoadsEach s paths other_has.told other_has.answer.status (with_outside counts err other_has.uses.0.state)) begin
        (loads_with counts err other_begins paths other_has.told other_has.answer.status other_has.uses.0.state (loads other last again other_clean other_has)) in
        let disk_told = starts_told words (LoadTemplate owner paths) settings disk calls one new outcome clean has in
        let transitions : first.transitions ≡ second.transitions
        = one_course disk begins first.transitions second.transitions disk_told first.course second.course (sym first.paths_are ∙ second.paths_are) in
        let state : has.uses.0.state ≡ with_outside counts err other_has.uses.0.state
        = first.new_is ∙ ap (λ (ts : List FileTurn). state_after begins ts) transitions ∙ sym second.new_is in
        let said : has.told ≡ other_has.told
        = first.said_is ∙ ap (λ (ts : List FileTurn). lines_of begins ts) transitions ∙ sym second.said_is in
        let status : has.answer.status ≡ other_has.answer.status
        = first.status_is ∙ ap (λ (ts : List FileTurn). load_status begins ts) transitions ∙ sym second.status_is in
        record {
          leave = leave_alike words (LoadTemplate owner paths) settings disk calls one new other last outcome again clean other_clean has other_has
              (ap (λ (l : Resources). l.layers) has.uses.0.left_is ∙ ap (λ (s : SessionState). s.store.layers) state ∙ sym (ap (λ (l : Resources). l.layers) other_has.uses.0.left_is)) (ap (λ (l : Resources). l.files.view) has.uses.0.left_is ∙ ap (λ (s : SessionState). s.files.view) state ∙ sym (ap (λ (l : Resources). l.files.view) other_has.uses.0.left_is))
              (tell_nothing one.err has.left.err other.err other_has.left.err (err_is one new outcome clean has) (err_is other last again other_clean other_has)) said
              (has.uses.0.last_code_is ∙ sym other_has.uses.0.last_code_is);
          status = status_is other last again other_clean other_has ∙ sym status ∙ sym (status_is one new outcome clean has);
        }

  pub load_alike : (one new other last : World) (outcome again : Outcome) → Names words (LoadTemplate owner paths)
      → IsClean words settings disk calls one new outcome → IsClean words settings disk calls other last again → LoadAlike one new outcome other last again
  load_alike one new other last outcome again named clean other_clean =
      both_alike one new other last outcome again clean other_clean
      (was_used words settings disk calls one new outcome (LoadTemplate owner paths) named clean) (was_used words settings disk calls other last again (LoadTemplate owner paths) named other_clean)
