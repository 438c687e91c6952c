-- What comes in determines a run of `answer`.
use Rattle.dc_run.proofs.PipeLemmas.{io_stays, io_unused}
use Rattle.std.proofs.Common.{◌≡◌, ℕ, false, true, List, [], ◌∷◌, Option, Some, inl, inr, refl, ap, sym, subst, ◌∙◌}
use Rattle.std.specs.Prelude.{◌≤◌}
use Rattle.dc_outside.specs.Disk.{Disk}
use Rattle.dc_outside.specs.State.{FilesState, LinkState}
use Rattle.dc_outside.specs.declared.files.FilesCall.{FilesCall}
use Rattle.dc_serve.specs.LinkRun.{IsLinkRun}
use Rattle.dc_serve.specs.declared.outcome.LinkEnd.{LinkEnd}
use Rattle.dc_serve.specs.declared.outcome.LinkEnd.TheVariants as link
use Rattle.dc_session.specs.Serving.{Resources}
use Rattle.dc_answer.specs.Alike.{AreAlike}
use Rattle.dc_answer.specs.Answering.{LosesWireLine, TakesWireLine, answerer_at}
use Rattle.dc_answer.specs.declared.answerer.AnswerBreak.{AnswerBreak}
use Rattle.dc_answer.specs.declared.answerer.AnswerBreak.TheVariants as broken
use Rattle.dc_answer.proofs.ServedLemmas.{served_alike}
use Rattle.dc_run.specs.Ends.{answer_end}
use Rattle.dc_run.specs.OneRound.{HasUsed}
use Rattle.dc_run.specs.Running.{IsAnswering}
use Rattle.dc_run.specs.World.{World, on_ground}
use Rattle.dc_run.specs.declared.outcome.Outcome.{Outcome}
use Rattle.dc_run.specs.declared.outcome.ToolEnd.TheVariants as tool
use Rattle.dc_run.specs.declared.settings.Settings.{Settings}
use Rattle.dc_cli.specs.Tools.{Names}
use Rattle.dc_cli.specs.declared.tool.Tool.{Tool}
use Rattle.dc_cli.specs.declared.tool.Tool.TheVariants.{Answer}
use Rattle.dc_theorem.specs.Runs.{IsClean, AreTypedAlike, RunAlike}
use Rattle.dc_theorem.proofs.EndLemmas.{was_used, unstarted_other}
use Rattle.dc_theorem.proofs.TellLaws.{tell_nothing}
use Rattle.dc_theorem.proofs.UsedLemmas.{wait_is, tool_done, left_sound, same_start, leave_alike}

answer_done : (ended : LinkEnd AnswerBreak) → answer_end ended ≡ tool.Done → ended ≡ link.Done
answer_done link.Done is = refl
answer_done link.LinkFault is = absurd (cc)
answer_done link.TooLong is = absurd (cc)
answer_done link.OutOfMemory is = absurd (cc)
answer_done (link.Broken (broken.Wire line)) is = absurd (cc)
answer_done (link.Broken broken.Term) is = absurd (cc)
answer_done (link.Broken broken.OutOfMemory) is = absurd (cc)

module _ (words : List (List ℕ)) (command : List (List ℕ)) (settings : Settings) (disk : Disk) (calls : List FilesCall) where
  abbrev Used : Tool
  Used = Answer command

  -- ---- one run

  module _ (old new : World) (outcome : Outcome) (input : List ℕ) (clean : IsClean words settings disk calls old new outcome) (has : HasUsed Used settings old new outcome) (input_is : old.links.child.input ≡ Some input) where
    -- its program was started
    answering : IsAnswering command (on_ground old has.mid).links has.links 0 has.answer
    answering = elim has.uses.0 [
      | inl none ↦ absurd (unstarted_other none.error (sym none.ended_is ∙ tool_done words Used settings disk calls old new outcome clean has))
      | inr is ↦ is
    ]

    ended : answering.ended ≡ link.Done
    ended = answer_done answering.ended (sym answering.ended_is ∙ tool_done words Used settings disk calls old new outcome clean has)

    ran : IsLinkRun TakesWireLine LosesWireLine old.links.child.talk has.links.child.talk (Some input) has.links.child.input (answerer_at has.mid.sources.link) link.Done answering.answered.state 0 answering.answered.code
    ran =
        let served = answering.answered.serves.run in
        let by_end : IsLinkRun TakesWireLine LosesWireLine answering.mid.talk has.links.child.talk answering.mid.input has.links.child.input (answerer_at has.mid.sources.link) link.Done answering.answered.state 0 answering.answered.code
        = subst (λ (e : LinkEnd AnswerBreak). IsLinkRun TakesWireLine LosesWireLine answering.mid.talk has.links.child.talk answering.mid.input has.links.child.input (answerer_at has.mid.sources.link) e answering.answered.state 0 answering.answered.code)
        ended served in
        let by_link : IsLinkRun TakesWireLine LosesWireLine old.links.child.talk has.links.child.talk old.links.child.input has.links.child.input (answerer_at has.mid.sources.link) link.Done answering.answered.state 0 answering.answered.code
        = subst (λ (l : LinkState). IsLinkRun TakesWireLine LosesWireLine l.talk has.links.child.talk l.input has.links.child.input (answerer_at has.mid.sources.link) link.Done answering.answered.state 0 answering.answered.code)
        answering.starts.state by_end in
        subst (λ (k : Option (List ℕ)). IsLinkRun TakesWireLine LosesWireLine old.links.child.talk has.links.child.talk k has.links.child.input (answerer_at has.mid.sources.link) link.Done answering.answered.state 0 answering.answered.code)
        input_is by_link

    high : has.mid.sources.files.counts.faults ≤ old.stock.files.counts.faults
    high = subst (λ (f : FilesState). f.counts.faults ≤ old.stock.files.counts.faults) (ap (λ (l : Resources). l.files) has.uses.1)
        (left_sound words Used settings disk calls old new outcome clean has)

    link_is : new.links.child.talk ≡ has.links.child.talk
    link_is = (wait_is words Used settings disk calls old new outcome clean has).1

    -- what stands on the terminal is what the answerer left there
    shown : new.links.io ≡ answering.answered.state.terminal.link
    shown = io_stays Used tt settings old new outcome has ∙ answering.answered.terminal_is

  -- ---- both

  module _ (one new other last : World) (outcome again : Outcome) (input : List ℕ)
      (clean : IsClean words settings disk calls one new outcome) (other_clean : IsClean words settings disk calls other last again)
      (has : HasUsed Used settings one new outcome) (other_has : HasUsed Used settings other last again)
      (input_is : one.links.child.input ≡ Some input) (other_input_is : other.links.child.input ≡ Some input) (terminals : AreTypedAlike one.links.io other.links.io) where
    never : (bytes : List ℕ) → false ≡ true → bytes ≡ []
    never bytes is = absurd (cc)

    unused : has.mid.sources.link ≡ one.links.io
    unused = io_unused Used tt settings one new outcome has

    other_unused : other_has.mid.sources.link ≡ other.links.io
    other_unused = io_unused Used tt settings other last again other_has

    -- both began with nothing typed, on terminals that are alike
    begin_alike : AreAlike (answerer_at has.mid.sources.link) (answerer_at other_has.mid.sources.link)
    begin_alike = record {
      lines = refl;
      got = refl;
      terminals = record {
        first = record { ahead = record { held = []; has_ended = false }; talk = terminals.talk; input = terminals.input };
        second = record { ahead = record { held = []; has_ended = false }; talk = terminals.other_talk; input = terminals.input };
        one_is = record { ahead = refl; talk = ap (λ (l : LinkState). l.talk) unused ∙ terminals.one_talk_is; input = ap (λ (l : LinkState). l.input) unused ∙ terminals.one_input_is; used_up = never terminals.input };
        other_is = record { ahead = refl; talk = ap (λ (l : LinkState). l.talk) other_unused ∙ terminals.other_talk_is; input = ap (λ (l : LinkState). l.input) other_unused ∙ terminals.other_input_is; used_up = never terminals.input };
        said = terminals.said;
        same = refl;
      };
    }

    both_alike : RunAlike one new outcome other last again
    both_alike =
        let first = answering one new outcome input clean has input_is in
        let second = answering other last again input other_clean other_has other_input_is in
        let one_ran = ran one new outcome input clean has input_is in
        let other_ran = ran other last again input other_clean other_has other_input_is in
        let same = served_alike input one.links.child.talk has.links.child.talk other.links.child.talk other_has.links.child.talk has.links.child.input other_has.links.child.input
        (answerer_at has.mid.sources.link) (answerer_at other_has.mid.sources.link) first.answered.state second.answered.state 0 first.answered.code 0 second.answered.code begin_alike one_ran other_ran in
        let starts = same_start words Used settings disk calls one new other last outcome again clean other_clean has other_has tt
        (high one new outcome input clean has input_is) (high other last again input other_clean other_has other_input_is) in
        record {
          leave = leave_alike words Used settings disk calls one new other last outcome again clean other_clean has other_has
              (ap (λ (l : Resources). l.layers) has.uses.1 ∙ starts.used ∙ sym (ap (λ (l : Resources). l.layers) other_has.uses.1))
              (ap (λ (l : Resources). l.files.view) has.uses.1 ∙ starts.told ∙ sym (ap (λ (l : Resources). l.files.view) other_has.uses.1))
              (tell_nothing one.err has.left.err other.err other_has.left.err (ap (λ (l : Resources). l.err) has.uses.1) (ap (λ (l : Resources). l.err) other_has.uses.1))
              (has.uses.2 ∙ sym other_has.uses.2)
              (first.code_is ∙ sym second.code_is);
          replies = record {
            pieces = one_ran.pieces;
            other_pieces = other_ran.pieces;
            one_is = link_is one new outcome input clean has input_is ∙ one_ran.told_is;
            other_is = link_is other last again input other_clean other_has other_input_is ∙ other_ran.told_is;
            same = same.replies;
          };
          shown = record {
            talk = same.states.terminals.first.talk;
            other_talk = same.states.terminals.second.talk;
            one_is = ap (λ (l : LinkState). l.talk) (shown one new outcome input clean has input_is) ∙ same.states.terminals.one_is.talk;
            other_is = ap (λ (l : LinkState). l.talk) (shown other last again input other_clean other_has other_input_is) ∙ same.states.terminals.other_is.talk;
            said = same.states.terminals.said;
          };
        }

  pub answerer_alike : (one new other last : World) (outcome again : Outcome) (input : List ℕ) → Names words Used
      → IsClean words settings disk calls one new outcome → IsClean words settings disk calls other last again → one.links.child.input ≡ Some input → other.links.child.input ≡ Some input
      → AreTypedAlike one.links.io other.links.io → RunAlike one new outcome other last again
  answerer_alike one new other last outcome again input named clean other_clean input_is other_input_is terminals =
      both_alike one new other last outcome again input clean other_clean
      (was_used words settings disk calls one new outcome Used named clean) (was_used words settings disk calls other last again Used named other_clean) input_is other_input_is terminals
