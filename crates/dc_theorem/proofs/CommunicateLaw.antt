-- What comes in determines a run of `communicate`.
use Rattle.dc_run.proofs.PipeLemmas.{io_stays, io_unused}
use Rattle.std.proofs.Common.{◌≡◌, ℕ, List, Option, Some, refl, ap, sym, subst, ◌∙◌, arith}
use Rattle.std.specs.Prelude.{◌≤◌}
use Rattle.dc_outside.specs.State.{FilesState, LinkState}
use Rattle.dc_serve.specs.LinkRun.{IsLinkRun}
use Rattle.dc_serve.specs.declared.outcome.LinkEnd.TheVariants as link
use Rattle.dc_session.specs.Asking.{finished}
use Rattle.dc_session.specs.SessionState.{SessionState}
use Rattle.dc_run.specs.Ends.{status_of}
use Rattle.dc_run.specs.OneRound.{HasUsed}
use Rattle.dc_run.specs.SavingSession.{BreaksSaving, TakesSaving}
use Rattle.dc_run.specs.Starting.{begun}
use Rattle.dc_run.specs.World.{World, before_rounds, ground_of, on_ground}
use Rattle.dc_run.specs.declared.outcome.Outcome.{Outcome}
use Rattle.dc_run.specs.declared.settings.Settings.{Settings}
use Rattle.dc_cli.specs.Tools.{Names}
use Rattle.dc_cli.specs.declared.tool.Tool.TheVariants.{Communicate}
use Rattle.dc_theorem.specs.Runs.{IsClean, CommunicateAlike}
use Rattle.dc_theorem.proofs.EndLemmas.{was_used, unwaited, WasServed, was_served}
use Rattle.dc_outside.specs.Disk.{Disk}
use Rattle.dc_outside.specs.declared.files.FilesCall.{FilesCall}
use Rattle.dc_theorem.proofs.Recount.{with_counts, run_with}
use Rattle.dc_theorem.proofs.StartLaws.{StartAlike}
use Rattle.dc_theorem.proofs.SameRuns.{run_later, run_same}
use Rattle.dc_theorem.proofs.TellLaws.{tell_last}
use Rattle.dc_theorem.proofs.UsedLemmas.{tool_done, left_sound, starts_low, starts_told, same_start, leave_alike}

-- ---- one run

module _ (words : List (List ℕ)) (owner : List ℕ) (settings : Settings) (disk : Disk) (calls : List FilesCall) (old new : World) (outcome : Outcome) (input : List ℕ) (clean : IsClean words settings disk calls old new outcome)
    (has : HasUsed (Communicate owner) settings old new outcome) (input_is : old.links.io.input ≡ Some input) where
  abbrev start : SessionState
  start = begun (Communicate owner) (before_rounds (on_ground old has.mid)) has.roots settings

  served : WasServed start has.left old.links.io has.links.io 0 has.answer.last_code
  served = subst (λ (l : LinkState). WasServed start has.left l has.links.io 0 has.answer.last_code) (io_unused (Communicate owner) tt settings old new outcome has)
      (was_served start has.left has.mid.sources.link has.links.io has.uses.0.ended 0 has.answer.last_code (sym has.uses.0.ended_is ∙ tool_done words (Communicate owner) settings disk calls old new outcome clean has) has.uses.0.served.by)

  ran : IsLinkRun TakesSaving BreaksSaving old.links.io.talk has.links.io.talk (Some input) has.links.io.input start link.Done served.state 0 has.answer.last_code
  ran = subst (λ (k : Option (List ℕ)). IsLinkRun TakesSaving BreaksSaving old.links.io.talk has.links.io.talk k has.links.io.input start link.Done served.state 0 has.answer.last_code) input_is served.ran

  high : served.state.files.counts.faults ≤ old.stock.files.counts.faults
  high = subst (λ (f : FilesState). f.counts.faults ≤ old.stock.files.counts.faults) served.files_are (left_sound words (Communicate owner) settings disk calls old new outcome clean has)

  mid_high : has.mid.sources.files.counts.faults ≤ old.stock.files.counts.faults
  mid_high =
      let later : has.mid.sources.files.counts.faults ≤ served.state.files.counts.faults
      = run_later input old.links.io.talk has.links.io.talk has.links.io.input start served.state 0 has.answer.last_code ran in
      let low : served.state.files.counts.faults ≤ old.stock.files.counts.faults = high in
      omega arith

  status_is : outcome.status ≡ has.answer.last_code
  status_is =
      has.status_is ∙ (λ i. status_of (clean.done i) has.status)
      ∙ unwaited has.answer.is_started has.links.child new.links.child has.how outcome.end has.answer.status has.status has.uses.0.waits has.awaits ∙ has.uses.0.status_is

-- ---- both

module _ (words : List (List ℕ)) (owner : List ℕ) (settings : Settings) (disk : Disk) (calls : List FilesCall) (one new other last : World) (outcome again : Outcome) (input : List ℕ)
    (clean : IsClean words settings disk calls one new outcome) (other_clean : IsClean words settings disk calls other last again)
    (has : HasUsed (Communicate owner) settings one new outcome) (other_has : HasUsed (Communicate owner) settings other last again)
    (input_is : one.links.io.input ≡ Some input) (other_input_is : other.links.io.input ≡ Some input) where
  starts : StartAlike has.mid other_has.mid has.roots other_has.roots
  starts =
      same_start words (Communicate owner) settings disk calls one new other last outcome again clean other_clean has other_has tt (mid_high words owner settings disk calls one new outcome input clean has input_is)
      (mid_high words owner settings disk calls other last again input other_clean other_has other_input_is)

  both_alike : CommunicateAlike one new outcome other last again
  both_alike =
      let first = served words owner settings disk calls one new outcome input clean has input_is in
      let second = served words owner settings disk calls other last again input other_clean other_has other_input_is in
      let one_ran = ran words owner settings disk calls one new outcome input clean has input_is in
      let begins = begun (Communicate owner) (before_rounds (on_ground one has.mid)) has.roots settings in
      let there = begun (Communicate owner) (before_rounds (on_ground other has.mid)) has.roots settings in
      let other_begins = begun (Communicate owner) (before_rounds (on_ground other other_has.mid)) other_has.roots settings in
      let counts = has.mid.sources.files.counts in
      let recounted = run_with counts other.stock.files.counts.faults other_clean.none_failed.room other.links.io.talk other_has.links.io.talk (Some input) other_has.links.io.input other_begins second.state 0 other_has.answer.last_code
      (starts_low words (Communicate owner) settings disk calls other last again other_clean other_has) (high words owner settings disk calls other last again input other_clean other_has other_input_is)
      (ran words owner settings disk calls other last again input other_clean other_has other_input_is) in
      let begin : with_counts counts other_begins ≡ there
      = λ i. begun (Communicate owner) (before_rounds (on_ground other (ground_of (record { view = sym starts.told i; counts = counts }) has.mid.sources.link (sym starts.used i)))) (sym starts.roots_are i) settings in
      let other_ran : IsLinkRun TakesSaving BreaksSaving other.links.io.talk other_has.links.io.talk (Some input) other_has.links.io.input there link.Done (with_counts counts second.state) 0 other_has.answer.last_code
      = subst (λ (s : SessionState). IsLinkRun TakesSaving BreaksSaving other.links.io.talk other_has.links.io.talk (Some input) other_has.links.io.input s link.Done (with_counts counts second.state) 0 other_has.answer.last_code) begin recounted in
      let disk_told = starts_told words (Communicate owner) settings disk calls one new outcome clean has in
      let same = run_same one.stock.files.counts.faults clean.none_failed.room disk disk_told.0 input one.links.io.talk has.links.io.talk other.links.io.talk other_has.links.io.talk has.links.io.input other_has.links.io.input
      begins there first.state (with_counts counts second.state) 0 has.answer.last_code other_has.answer.last_code disk_told.1 refl refl (starts_low words (Communicate owner) settings disk calls one new outcome clean has)
      (high words owner settings disk calls one new outcome input clean has input_is) (mid_high words owner settings disk calls one new outcome input clean has input_is) one_ran other_ran in
      let layers : has.left.layers ≡ other_has.left.layers = first.layers_are ∙ ap (λ (s : SessionState). (finished s).layers) (sym same.states) ∙ sym second.layers_are in
      let left : has.left.files.view ≡ other_has.left.files.view
      = ap (λ (f : FilesState). f.view) first.files_are ∙ ap (λ (s : SessionState). s.files.view) (sym same.states) ∙ sym (ap (λ (f : FilesState). f.view) second.files_are) in
      let told = tell_last (finished first.state).told (finished second.state).told one.err first.state.err has.left.err other.err second.state.err other_has.left.err same.told
      (ap (λ (s : SessionState). (finished s).told) (sym same.states)) first.tells second.tells in
      record {
        leave = leave_alike words (Communicate owner) settings disk calls one new other last outcome again clean other_clean has other_has layers left told (has.uses.2 ∙ sym other_has.uses.2) same.code_is;
        replies = record {
          pieces = one_ran.pieces;
          other_pieces = other_ran.pieces;
          one_is = ap (λ (l : LinkState). l.talk) (io_stays (Communicate owner) tt settings one new outcome has) ∙ one_ran.told_is;
          other_is = ap (λ (l : LinkState). l.talk) (io_stays (Communicate owner) tt settings other last again other_has) ∙ other_ran.told_is;
          same = same.replies_are;
        };
        status = status_is words owner settings disk calls other last again input other_clean other_has other_input_is ∙ sym same.code_is ∙ sym (status_is words owner settings disk calls one new outcome input clean has input_is);
      }

pub communicate_alike : (words : List (List ℕ)) (owner : List ℕ) (settings : Settings) (disk : Disk) (calls : List FilesCall) (one new other last : World) (outcome again : Outcome) (input : List ℕ) → Names words (Communicate owner)
    → IsClean words settings disk calls one new outcome → IsClean words settings disk calls other last again → one.links.io.input ≡ Some input → other.links.io.input ≡ Some input
    → CommunicateAlike one new outcome other last again
communicate_alike words owner settings disk calls one new other last outcome again input named clean other_clean input_is other_input_is =
    both_alike words owner settings disk calls one new other last outcome again input clean other_clean
    (was_used words settings disk calls one new outcome (Communicate owner) named clean) (was_used words settings disk calls other last again (Communicate owner) named other_clean) input_is other_input_is
