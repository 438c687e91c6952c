-- What comes in determines a run of `run`.
use Rattle.dc_run.proofs.PipeLemmas.{io_stays, io_unused}
use Rattle.std.proofs.Common.{◌≡◌, ℕ, false, true, List, [], Option, Some, inl, inr, refl, ap, sym, subst, ◌∙◌, arith}
use Rattle.std.specs.Prelude.{◌≤◌}
use Rattle.dc_outside.specs.State.{FilesState, LinkState}
use Rattle.dc_frontend.specs.declared.frontend.Frontend.{Frontend}
use Rattle.dc_proto.specs.declared.priority.Priority.{Priority}
use Rattle.dc_serve.specs.LinkRun.{IsLinkRun}
use Rattle.dc_serve.specs.declared.outcome.LinkEnd.TheVariants as link
use Rattle.dc_session.specs.Alike.{AreAlike}
use Rattle.dc_session.specs.Asking.{finished}
use Rattle.dc_session.specs.SessionState.{SessionState, ScreenState, nothing_typed}
use Rattle.dc_run.specs.OneRound.{HasUsed}
use Rattle.dc_run.specs.Running.{IsStarted}
use Rattle.dc_run.specs.SavingSession.{BreaksSaving, TakesSaving}
use Rattle.dc_run.specs.Starting.{begun}
use Rattle.dc_run.specs.World.{World, before_rounds, on_ground, Ground, ground_of}
use Rattle.dc_run.specs.declared.outcome.Outcome.{Outcome}
use Rattle.dc_run.specs.declared.settings.Settings.{Settings}
use Rattle.dc_cli.specs.Tools.{Names}
use Rattle.dc_cli.specs.declared.tool.Tool.TheVariants.{Run}
use Rattle.dc_theorem.specs.Runs.{IsClean, AreTypedAlike, RunAlike}
use Rattle.dc_theorem.proofs.EndLemmas.{was_used, unstarted_other, WasServed, was_served}
use Rattle.dc_outside.specs.Disk.{Disk}
use Rattle.dc_outside.specs.declared.files.FilesCall.{FilesCall}
use Rattle.dc_theorem.proofs.Recount.{with_counts, run_with}
use Rattle.dc_theorem.proofs.StartLaws.{StartAlike}
use Rattle.dc_theorem.proofs.SameRuns.{run_later, run_alike}
use Rattle.dc_theorem.proofs.TellLaws.{tell_last}
use Rattle.dc_theorem.proofs.UsedLemmas.{wait_is, tool_done, left_sound, starts_low, starts_told, same_start, leave_alike}

module _ (words : List (List ℕ)) (owner : List ℕ) (frontend : Option Frontend) (priority : Option Priority) (command : List (List ℕ)) (settings : Settings) (disk : Disk) (calls : List FilesCall) where
  -- ---- one run

  module _ (old new : World) (outcome : Outcome) (input : List ℕ) (clean : IsClean words settings disk calls old new outcome) (has : HasUsed (Run owner frontend priority command) settings old new outcome) (input_is : old.links.child.input ≡ Some input) where
    abbrev start : SessionState
    start = begun (Run owner frontend priority command) (before_rounds (on_ground old has.mid)) has.roots settings

    -- its program was started
    started : IsStarted command start (on_ground old has.mid).links has.links 0 has.answer has.left has.inner
    started = elim has.uses.0 [
      | inl none ↦ absurd (unstarted_other none.unstarted.error (sym none.unstarted.ended_is ∙ tool_done words (Run owner frontend priority command) settings disk calls old new outcome clean has))
      | inr is ↦ is
    ]

    served : WasServed start has.left (record old.links.child { program = started.mid.program }) has.links.child 0 has.answer.last_code
    served = subst (λ (l : LinkState). WasServed start has.left l has.links.child 0 has.answer.last_code) started.starts.state
        (was_served start has.left started.mid has.links.child started.ended 0 has.answer.last_code
        (sym started.ended_is ∙ tool_done words (Run owner frontend priority command) settings disk calls old new outcome clean has) started.served.by)

    ran : IsLinkRun TakesSaving BreaksSaving old.links.child.talk has.links.child.talk (Some input) has.links.child.input start link.Done served.state 0 has.answer.last_code
    ran = subst (λ (k : Option (List ℕ)). IsLinkRun TakesSaving BreaksSaving old.links.child.talk has.links.child.talk k has.links.child.input start link.Done served.state 0 has.answer.last_code) input_is served.ran

    high : served.state.files.counts.faults ≤ old.stock.files.counts.faults
    high = subst (λ (f : FilesState). f.counts.faults ≤ old.stock.files.counts.faults) served.files_are (left_sound words (Run owner frontend priority command) settings disk calls old new outcome clean has)

    mid_high : has.mid.sources.files.counts.faults ≤ old.stock.files.counts.faults
    mid_high =
        let later : has.mid.sources.files.counts.faults ≤ served.state.files.counts.faults
        = run_later input old.links.child.talk has.links.child.talk has.links.child.input start served.state 0 has.answer.last_code ran in
        let low : served.state.files.counts.faults ≤ old.stock.files.counts.faults = high in
        omega arith

    link_is : new.links.child.talk ≡ has.links.child.talk
    link_is = (wait_is words (Run owner frontend priority command) settings disk calls old new outcome clean has).1

  -- ---- both

  module _ (one new other last : World) (outcome again : Outcome) (input : List ℕ)
      (clean : IsClean words settings disk calls one new outcome) (other_clean : IsClean words settings disk calls other last again)
      (has : HasUsed (Run owner frontend priority command) settings one new outcome) (other_has : HasUsed (Run owner frontend priority command) settings other last again)
      (input_is : one.links.child.input ≡ Some input) (other_input_is : other.links.child.input ≡ Some input) (terminals : AreTypedAlike one.links.io other.links.io) where
    starts : StartAlike has.mid other_has.mid has.roots other_has.roots
    starts =
        same_start words (Run owner frontend priority command) settings disk calls one new other last outcome again clean other_clean has other_has tt (mid_high one new outcome input clean has input_is)
        (mid_high other last again input other_clean other_has other_input_is)

    unused : has.mid.sources.link ≡ one.links.io
    unused = io_unused (Run owner frontend priority command) tt settings one new outcome has

    other_unused : other_has.mid.sources.link ≡ other.links.io
    other_unused = io_unused (Run owner frontend priority command) tt settings other last again other_has

    never : (bytes : List ℕ) → false ≡ true → bytes ≡ []
    never bytes is = absurd (cc)

    -- what the one began with, but for the link, which is the other's
    abbrev there : Ground
    there = record has.mid { sources = record has.mid.sources { link = other_has.mid.sources.link } }

    -- the sessions began alike
    starts_alike : AreAlike (begun (Run owner frontend priority command) (before_rounds (on_ground one has.mid)) has.roots settings) (begun (Run owner frontend priority command) (before_rounds (on_ground other there)) has.roots settings)
    starts_alike = record {
      rest = refl;
      terminals = record {
        got = refl;
        terminals = record {
          first = record { ahead = nothing_typed.typed; talk = terminals.talk; input = terminals.input };
          second = record { ahead = nothing_typed.typed; talk = terminals.other_talk; input = terminals.input };
          one_is = record { ahead = refl; talk = ap (λ (l : LinkState). l.talk) unused ∙ terminals.one_talk_is; input = ap (λ (l : LinkState). l.input) unused ∙ terminals.one_input_is; used_up = never terminals.input };
          other_is = record { ahead = refl; talk = ap (λ (l : LinkState). l.talk) other_unused ∙ terminals.other_talk_is; input = ap (λ (l : LinkState). l.input) other_unused ∙ terminals.other_input_is; used_up = never terminals.input };
          said = terminals.said;
          same = refl;
        };
      };
    }

    both_alike : RunAlike one new outcome other last again
    both_alike =
        let first = served one new outcome input clean has input_is in
        let second = served other last again input other_clean other_has other_input_is in
        let one_ran = ran one new outcome input clean has input_is in
        let begins = begun (Run owner frontend priority command) (before_rounds (on_ground other there)) has.roots settings in
        let other_begins = begun (Run owner frontend priority command) (before_rounds (on_ground other other_has.mid)) other_has.roots settings in
        let counts = has.mid.sources.files.counts in
        let recounted = run_with counts other.stock.files.counts.faults other_clean.none_failed.room other.links.child.talk other_has.links.child.talk (Some input) other_has.links.child.input other_begins second.state 0 other_has.answer.last_code
        (starts_low words (Run owner frontend priority command) settings disk calls other last again other_clean other_has) (high other last again input other_clean other_has other_input_is) (ran other last again input other_clean other_has other_input_is) in
        let begin : with_counts counts other_begins ≡ begins
        = λ i. begun (Run owner frontend priority command) (before_rounds (on_ground other (ground_of (record { view = sym starts.told i; counts = counts }) other_has.mid.sources.link (sym starts.used i)))) (sym starts.roots_are i) settings in
        let other_ran : IsLinkRun TakesSaving BreaksSaving other.links.child.talk other_has.links.child.talk (Some input) other_has.links.child.input begins link.Done (with_counts counts second.state) 0 other_has.answer.last_code
        = subst (λ (s : SessionState). IsLinkRun TakesSaving BreaksSaving other.links.child.talk other_has.links.child.talk (Some input) other_has.links.child.input s link.Done (with_counts counts second.state) 0 other_has.answer.last_code) begin recounted in
        let disk_told = starts_told words (Run owner frontend priority command) settings disk calls one new outcome clean has in
        let same = run_alike one.stock.files.counts.faults clean.none_failed.room disk disk_told.0 input one.links.child.talk has.links.child.talk other.links.child.talk other_has.links.child.talk has.links.child.input other_has.links.child.input
        (begun (Run owner frontend priority command) (before_rounds (on_ground one has.mid)) has.roots settings) begins first.state (with_counts counts second.state) 0 has.answer.last_code other_has.answer.last_code
        disk_told.1 starts_alike (starts_low words (Run owner frontend priority command) settings disk calls one new outcome clean has)
        (high one new outcome input clean has input_is) (mid_high one new outcome input clean has input_is) one_ran other_ran in
        let layers : has.left.layers ≡ other_has.left.layers = first.layers_are ∙ ap (λ (s : SessionState). (finished s).layers) (sym same.0.states.rest) ∙ sym second.layers_are in
        let left : has.left.files.view ≡ other_has.left.files.view
        = ap (λ (f : FilesState). f.view) first.files_are ∙ ap (λ (s : SessionState). s.files.view) (sym same.0.states.rest) ∙ sym (ap (λ (f : FilesState). f.view) second.files_are) in
        let told = tell_last (finished first.state).told (finished second.state).told one.err first.state.err has.left.err other.err second.state.err other_has.left.err same.1
        (ap (λ (s : SessionState). (finished s).told) (sym same.0.states.rest)) first.tells second.tells in
        record {
          leave = leave_alike words (Run owner frontend priority command) settings disk calls one new other last outcome again clean other_clean has other_has layers left told (has.uses.1 ∙ sym other_has.uses.1) same.0.code_is;
          replies = record {
            pieces = one_ran.pieces;
            other_pieces = other_ran.pieces;
            one_is = link_is one new outcome input clean has input_is ∙ one_ran.told_is;
            other_is = link_is other last again input other_clean other_has other_input_is ∙ other_ran.told_is;
            same = same.0.replies;
          };
          shown = record {
            talk = same.0.states.terminals.terminals.first.talk;
            other_talk = same.0.states.terminals.terminals.second.talk;
            one_is = ap (λ (l : LinkState). l.talk) (io_stays (Run owner frontend priority command) tt settings one new outcome has ∙ (started one new outcome input clean has input_is).io ∙ ap (λ (t : ScreenState). t.link) first.terminal_is) ∙ same.0.states.terminals.terminals.one_is.talk;
            other_is = ap (λ (l : LinkState). l.talk) (io_stays (Run owner frontend priority command) tt settings other last again other_has ∙ (started other last again input other_clean other_has other_input_is).io ∙ ap (λ (t : ScreenState). t.link) second.terminal_is) ∙ same.0.states.terminals.terminals.other_is.talk;
            said = same.0.states.terminals.terminals.said;
          };
        }

  pub program_alike : (one new other last : World) (outcome again : Outcome) (input : List ℕ) → Names words (Run owner frontend priority command)
      → IsClean words settings disk calls one new outcome → IsClean words settings disk calls other last again → one.links.child.input ≡ Some input → other.links.child.input ≡ Some input
      → AreTypedAlike one.links.io other.links.io → RunAlike one new outcome other last again
  program_alike one new other last outcome again input named clean other_clean input_is other_input_is terminals =
      both_alike one new other last outcome again input clean other_clean
      (was_used words settings disk calls one new outcome (Run owner frontend priority command) named clean) (was_used words settings disk calls other last again (Run owner frontend priority command) named other_clean) input_is other_input_is terminals
