-- What comes in determines a run of `show` and one of `get-selections`.
use Rattle.dc_run.proofs.PipeLemmas.{io_stays, io_unused}
use Rattle.std.proofs.Common.{◌≡◌, ℕ, List, [], ◌∷◌, ap, sym, subst, ◌∙◌, Option}
use Rattle.std.specs.Prelude.{◌≤◌}
use Rattle.dc_layer.specs.State.{LayerState}
use Rattle.dc_outside.specs.Disk.{Disk}
use Rattle.dc_outside.specs.State.{FilesState, LinkState}
use Rattle.dc_outside.specs.Talk.{then_pieces}
use Rattle.dc_outside.specs.declared.files.FilesCall.{FilesCall}
use Rattle.dc_outside.specs.declared.link.Piece.TheVariants.{Sent}
use Rattle.dc_session.specs.Serving.{Resources}
use Rattle.dc_dump.specs.declared.saying.Said.{Said}
use Rattle.dc_run.specs.Ends.{status_of}
use Rattle.dc_run.specs.Jobs.{Prints, TellsUnsaid, answers_said, told_status, shown_text, unsaid_lines}
use Rattle.dc_run.specs.OneRound.{HasUsed}
use Rattle.dc_run.specs.Starting.{context_of}
use Rattle.dc_run.specs.World.{World}
use Rattle.dc_run.specs.declared.outcome.Outcome.{Outcome}
use Rattle.dc_run.specs.declared.outcome.ToolEnd.{ToolEnd}
use Rattle.dc_run.specs.declared.settings.Settings.{Settings}
use Rattle.dc_run.specs.Roots.{Roots}
use Rattle.dc_cli.specs.Tools.{Names}
use Rattle.dc_cli.specs.declared.tool.PlacedWord.{PlacedWord}
use Rattle.dc_cli.specs.declared.tool.Shown.{Shown}
use Rattle.dc_cli.specs.declared.tool.Tool.TheVariants.{Show, GetSelections}
use Rattle.dc_serve.specs.Said.{said}
use Rattle.dc_theorem.specs.Runs.{IsClean, ShowAlike}
use Rattle.dc_theorem.proofs.EndLemmas.{was_used, unwaited}
use Rattle.dc_theorem.proofs.TellLaws.{tell_nothing}
use Rattle.dc_theorem.proofs.UsedLemmas.{tool_done, left_sound, same_start, leave_alike}

-- ---- show

module _ (words : List (List ℕ)) (database : Option PlacedWord) (shown : Shown) (settings : Settings) (disk : Disk) (calls : List FilesCall) where
  -- what is shown of layers by these roots
  abbrev text : List LayerState → Roots → List ℕ
  text layers roots = shown_text shown roots.conf layers (context_of roots settings)

  module _ (old new : World) (outcome : Outcome) (clean : IsClean words settings disk calls old new outcome) (has : HasUsed (Show database shown) settings old new outcome) where
    printed : new.links.io.talk ≡ then_pieces old.links.io.talk (Sent (text has.mid.used has.roots) ∷ [])
    printed =
        ap (λ (l : LinkState). l.talk) (io_stays (Show database shown) tt settings old new outcome has ∙ subst (λ (e : ToolEnd). Prints (text has.mid.used has.roots) has.mid.sources.link has.links.io e)
        (tool_done words (Show database shown) settings disk calls old new outcome clean has) has.uses.0.prints)
        ∙ ap (λ (l : LinkState). then_pieces l.talk (Sent (text has.mid.used has.roots) ∷ [])) (io_unused (Show database shown) tt settings old new outcome has)

    shown_high : has.mid.sources.files.counts.faults ≤ old.stock.files.counts.faults
    shown_high = subst (λ (f : FilesState). f.counts.faults ≤ old.stock.files.counts.faults) (ap (λ (l : Resources). l.files) has.uses.0.left_is)
        (left_sound words (Show database shown) settings disk calls old new outcome clean has)

    shown_status : outcome.status ≡ 0
    shown_status =
        has.status_is ∙ (λ i. status_of (clean.done i) has.status)
        ∙ unwaited has.answer.is_started has.links.child new.links.child has.how outcome.end has.answer.status has.status has.uses.0.waits has.awaits ∙ has.uses.0.status_is

  pub show_alike : (one new other last : World) (outcome again : Outcome) → Names words (Show database shown)
      → IsClean words settings disk calls one new outcome → IsClean words settings disk calls other last again → ShowAlike one new outcome other last again
  show_alike one new other last outcome again named clean other_clean =
      let has = was_used words settings disk calls one new outcome (Show database shown) named clean in
      let other_has = was_used words settings disk calls other last again (Show database shown) named other_clean in
      let starts = same_start words (Show database shown) settings disk calls one new other last outcome again clean other_clean has other_has tt (shown_high one new outcome clean has) (shown_high other last again other_clean other_has) in
      record {
        leave = leave_alike words (Show database shown) settings disk calls one new other last outcome again clean other_clean has other_has
            (ap (λ (l : Resources). l.layers) has.uses.0.left_is ∙ starts.used ∙ sym (ap (λ (l : Resources). l.layers) other_has.uses.0.left_is))
            (ap (λ (l : Resources). l.files.view) has.uses.0.left_is ∙ starts.told ∙ sym (ap (λ (l : Resources). l.files.view) other_has.uses.0.left_is))
            (tell_nothing one.err has.left.err other.err other_has.left.err (ap (λ (l : Resources). l.err) has.uses.0.left_is) (ap (λ (l : Resources). l.err) other_has.uses.0.left_is))
            (has.uses.1 ∙ sym other_has.uses.1)
            (has.uses.0.code_is ∙ sym other_has.uses.0.code_is);
        printed = record {
          pieces = Sent (text has.mid.used has.roots) ∷ [];
          other_pieces = Sent (text other_has.mid.used other_has.roots) ∷ [];
          one_is = printed one new outcome clean has;
          other_is = printed other last again other_clean other_has;
          same = λ i. said (Sent (text (starts.used i) (starts.roots_are i)) ∷ []);
        };
        status = shown_status other last again other_clean other_has ∙ sym (shown_status one new outcome clean has);
      }

-- ---- get-selections

module _ (words : List (List ℕ)) (settings : Settings) (disk : Disk) (calls : List FilesCall) where
  -- what is said of layers by these roots
  abbrev answers : List LayerState → Roots → Said
  answers layers roots = answers_said layers (context_of roots settings)

  module _ (old new : World) (outcome : Outcome) (clean : IsClean words settings disk calls old new outcome) (has : HasUsed GetSelections settings old new outcome) where
    answers_printed : new.links.io.talk ≡ then_pieces old.links.io.talk (Sent (answers has.mid.used has.roots).text ∷ [])
    answers_printed =
        ap (λ (l : LinkState). l.talk) (io_stays GetSelections tt settings old new outcome has ∙ subst (λ (e : ToolEnd). Prints (answers has.mid.used has.roots).text has.mid.sources.link has.links.io e)
        (tool_done words GetSelections settings disk calls old new outcome clean has) has.uses.0.prints)
        ∙ ap (λ (l : LinkState). then_pieces l.talk (Sent (answers has.mid.used has.roots).text ∷ [])) (io_unused GetSelections tt settings old new outcome has)

    unsaid_told : (has.told ≡ unsaid_lines (answers has.mid.used has.roots).left_out) × (has.answer.status ≡ told_status (answers has.mid.used has.roots).left_out)
    unsaid_told = subst (λ (e : ToolEnd). TellsUnsaid (answers has.mid.used has.roots).left_out e has.told has.answer.status)
        (tool_done words GetSelections settings disk calls old new outcome clean has) has.uses.0.tells

    answers_high : has.mid.sources.files.counts.faults ≤ old.stock.files.counts.faults
    answers_high = subst (λ (f : FilesState). f.counts.faults ≤ old.stock.files.counts.faults) (ap (λ (l : Resources). l.files) has.uses.0.left_is)
        (left_sound words GetSelections settings disk calls old new outcome clean has)

    answers_status : outcome.status ≡ told_status (answers has.mid.used has.roots).left_out
    answers_status =
        has.status_is ∙ (λ i. status_of (clean.done i) has.status)
        ∙ unwaited has.answer.is_started has.links.child new.links.child has.how outcome.end has.answer.status has.status has.uses.0.waits has.awaits ∙ unsaid_told.1

  pub answers_alike : (one new other last : World) (outcome again : Outcome) → Names words GetSelections
      → IsClean words settings disk calls one new outcome → IsClean words settings disk calls other last again → ShowAlike one new outcome other last again
  answers_alike one new other last outcome again named clean other_clean =
      let has = was_used words settings disk calls one new outcome GetSelections named clean in
      let other_has = was_used words settings disk calls other last again GetSelections named other_clean in
      let starts = same_start words GetSelections settings disk calls one new other last outcome again clean other_clean has other_has tt (answers_high one new outcome clean has) (answers_high other last again other_clean other_has) in
      let same : answers has.mid.used has.roots ≡ answers other_has.mid.used other_has.roots = λ i. answers (starts.used i) (starts.roots_are i) in
      record {
        leave = leave_alike words GetSelections settings disk calls one new other last outcome again clean other_clean has other_has
            (ap (λ (l : Resources). l.layers) has.uses.0.left_is ∙ starts.used ∙ sym (ap (λ (l : Resources). l.layers) other_has.uses.0.left_is))
            (ap (λ (l : Resources). l.files.view) has.uses.0.left_is ∙ starts.told ∙ sym (ap (λ (l : Resources). l.files.view) other_has.uses.0.left_is))
            (tell_nothing one.err has.left.err other.err other_has.left.err (ap (λ (l : Resources). l.err) has.uses.0.left_is) (ap (λ (l : Resources). l.err) other_has.uses.0.left_is))
            ((unsaid_told one new outcome clean has).0 ∙ ap (λ (s : Said). unsaid_lines s.left_out) same ∙ sym (unsaid_told other last again other_clean other_has).0)
            (has.uses.0.code_is ∙ sym other_has.uses.0.code_is);
        printed = record {
          pieces = Sent (answers has.mid.used has.roots).text ∷ [];
          other_pieces = Sent (answers other_has.mid.used other_has.roots).text ∷ [];
          one_is = answers_printed one new outcome clean has;
          other_is = answers_printed other last again other_clean other_has;
          same = ap (λ (s : Said). said (Sent s.text ∷ [])) same;
        };
        status = answers_status other last again other_clean other_has ∙ sym (ap (λ (s : Said). told_status s.left_out) same) ∙ sym (answers_status one new outcome clean has);
      }
