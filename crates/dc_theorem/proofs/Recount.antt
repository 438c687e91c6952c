-- A session goes on in the same way whatever its files had counted before it, where no failure of theirs is counted in it.
use Rattle.std.proofs.Common.{◌≡◌, ℕ, Bool, true, false, List, [], ◌∷◌, ◌++◌, Option, None, Some, inl, inr, refl, ap, sym, subst, ◌∙◌, arith}
use Rattle.std.specs.Prelude.{◌-◌, ◌^◌, ◌<◌, ◌≤◌, ◌||◌, Ok, map as each}
use Rattle.dc_outside.specs.Counts.{Counts}
use Rattle.dc_outside.specs.State.{FilesState, LinkState}
use Rattle.dc_outside.specs.declared.link.Piece.{Piece}
use Rattle.dc_words.specs.declared.stream.Line.{Line}
use Rattle.dc_words.specs.declared.stream.Line.TheVariants.{Whole, TooLong}
use Rattle.dc_proto.specs.Commands.{heard}
use Rattle.dc_proto.specs.declared.command.Command.{Command}
use Rattle.dc_proto.specs.declared.command.Heard.{Heard}
use Rattle.dc_proto.specs.declared.command.Heard.TheVariants.{Nothing, Known, Refused}
use Rattle.dc_serve.specs.Execution.{Transition, lines_of, state_after, is_stop, stops, replies, add_reply, last_code_from, code_after, IsExecution}
use Rattle.dc_serve.specs.LinkRun.{IsLinkRun, AreServed}
use Rattle.dc_serve.specs.Answering.{IsCaughtUp}
use Rattle.dc_serve.specs.declared.machine.Response.{Response}
use Rattle.dc_serve.specs.declared.outcome.LinkEnd.TheVariants.{Done}
use Rattle.dc_session.specs.Answers.{answer}
use Rattle.dc_session.specs.Displays.{Display, Shows}
use Rattle.dc_session.specs.Machine.{Handles, Steps, StepsHeard, HasDone, Looks, asks_to_save, file_of}
use Rattle.dc_session.specs.SessionState.{SessionState}
use Rattle.dc_session.specs.TemplateFiles.{Finds, HasRead}
use Rattle.dc_session.specs.declared.stepped.Stepped.{Stepped}
use Rattle.dc_session.specs.declared.template_files.Found.{Found}
use Rattle.dc_session.specs.declared.template_files.Found.TheVariants.{Unreadable, Missing, Faulty, Templates}
use Rattle.dc_run.specs.SavingSession.{BreaksSaving, HandlesBy, SavesAll, TakesSaving}
use Rattle.dc_theorem.proofs.CountLemmas.{no_rise}
use Rattle.dc_theorem.proofs.LineFiles.{saving_later, course_later}
use Rattle.dc_theorem.proofs.SameAnswers.{same_answer, same_display}

-- the files, with these counts
abbrev pub files_with : Counts → FilesState → FilesState
files_with counts files = record { view = files.view; counts = counts }

-- the session, whose files have these counts
abbrev pub with_counts : Counts → SessionState → SessionState
with_counts counts state = record state { files = files_with counts state.files }

-- and with this standard error
abbrev pub with_outside : Counts → LinkState → SessionState → SessionState
with_outside counts err state = record state { files = files_with counts state.files; err = err }

abbrev turn_with : Counts → Transition SessionState → Transition SessionState
turn_with counts transition = record { line = transition.line; did = transition.did; new = with_counts counts transition.new }

abbrev turns_with : Counts → List (Transition SessionState) → List (Transition SessionState)
turns_with counts transitions = each (turn_with counts) transitions

pub read_with : (counts : Counts) (path : List ℕ) (old new : FilesState) (text : Option (List ℕ)) → HasRead path old new text → HasRead path (files_with counts old) (files_with counts new) text
read_with counts path old new text read = record { told_is = read.told_is; counts = refl; found_is = read.found_is }

module _ (counts : Counts) (n : ℕ) (room : n < 2 ^ 64 - 1) where
  -- ---- one line

  module _ (old new : SessionState) (low : n ≤ old.files.counts.faults) (high : new.files.counts.faults ≤ n) where
    finds_with : (path : List ℕ) (found : Found) → Finds path old.files found new.files → Finds path (files_with counts old.files) found (files_with counts new.files)
    finds_with path Unreadable finds = absurd (no_rise n old.files.counts new.files.counts room low high finds.1)
    finds_with path Missing finds = read_with counts path old.files new.files None finds
    finds_with path (Faulty line) finds = (finds.0, finds.1, read_with counts path old.files new.files (Some finds.0) finds.2, finds.3)
    finds_with path (Templates templates) finds = (finds.0, read_with counts path old.files new.files (Some finds.0) finds.1, finds.2)

    looks_with : (path : Option (List ℕ)) (found : Found) → Looks path old.files found new.files → Looks path (files_with counts old.files) found (files_with counts new.files)
    looks_with None found looks = (looks.0, ap (files_with counts) looks.1)
    looks_with (Some path) found looks = finds_with path found looks

    done_with : (command : Command) (did : Stepped) → HasDone command old did new → HasDone command (with_counts counts old) did (with_counts counts new)
    done_with command did done =
        let same : answer (with_counts counts old) command done.given ≡ answer old command done.given = same_answer old (files_with counts old.files) old.err command done.given in
        record {
          given = done.given;
          gives = record {
            looks = looks_with (file_of command) done.given.found done.gives.looks;
            shows = subst (λ (d : Display). Shows old.asking d old.terminal (Ok done.given.asked) new.terminal) (sym (same_display old (files_with counts old.files) old.err command)) done.gives.shows;
          };
          stepped_is = done.stepped_is ∙ sym (ap (λ o. o.stepped) same);
          new_is = ap (with_counts counts) done.new_is ∙ (λ i. record old { store = (sym same i).store; files = files_with counts new.files; terminal = new.terminal; asking = (sym same i).asking });
        }

    heard_with : (said : Heard) (did : Stepped) → StepsHeard said old did new → StepsHeard said (with_counts counts old) did (with_counts counts new)
    heard_with Nothing did steps = (steps.0, ap (with_counts counts) steps.1)
    heard_with (Known command) did steps = done_with command did steps
    heard_with (Refused reply) did steps = (steps.0, ap (with_counts counts) steps.1)

    steps_with : (line : Line) (did : Stepped) → Steps old line did new → Steps (with_counts counts old) line did (with_counts counts new)
    steps_with TooLong did steps = (steps.0, ap (with_counts counts) steps.1)
    steps_with (Whole line) did steps = heard_with (heard old.asking.escape line) did steps

    heeds_with : (line : Line) (did : Response) → Handles old line did new → Handles (with_counts counts old) line did (with_counts counts new)
    heeds_with line did steps = record { stepped = steps.stepped; steps = steps_with line steps.stepped steps.steps; did_is = steps.did_is }

    -- all layers are saved
    saves_with : (did : Response) → SavesAll old did new → SavesAll (with_counts counts old) did (with_counts counts new)
    saves_with did saves = record { is = record { saves = saves.is.saves; counts = refl }; did_is = saves.did_is; new_is = ap (with_counts counts) saves.new_is }

    handled_with : (asks : Bool) (line : Line) (did : Response) → HandlesBy asks old line did new → HandlesBy asks (with_counts counts old) line did (with_counts counts new)
    handled_with true line did saves = saves_with did saves
    handled_with false line did handles = heeds_with line did handles

  -- and what the layers told is told behind it
  takes_with : (old new : SessionState) → n ≤ old.files.counts.faults → new.files.counts.faults ≤ n → (line : Line) (did : Response) → TakesSaving old line did new → TakesSaving (with_counts counts old) line did (with_counts counts new)
  takes_with old new low high line did takes = record {
    mid = with_counts counts takes.mid;
    handled = handled_with old takes.mid low (subst (λ (s : SessionState). s.files.counts.faults ≤ n) takes.tells.new_is high) (asks_to_save old.asking.escape line) line did takes.handled;
    tells = record { told = takes.tells.told; new_is = ap (with_counts counts) takes.tells.new_is };
  }

  -- ---- turns

  course_with : (start : SessionState) (transitions : List (Transition SessionState)) → n ≤ start.files.counts.faults → (state_after start transitions).files.counts.faults ≤ n → IsExecution TakesSaving start transitions
      → IsExecution TakesSaving (with_counts counts start) (turns_with counts transitions)
  course_with start [] low high course = tt
  course_with start (transition ∷ transitions) low high course =
      let here : start.files.counts.faults ≤ transition.new.files.counts.faults = saving_later start transition.new transition.line transition.did course.0 in
      let rest : transition.new.files.counts.faults ≤ (state_after transition.new transitions).files.counts.faults = course_later transition.new transitions course.2 in (
        takes_with start transition.new low (omega arith) transition.line transition.did course.0,
        (λ stop. ap (turns_with counts) (course.1 stop)),
        course_with transition.new transitions (omega arith) high course.2,
      )

  turns_append : (a b : List (Transition SessionState)) → turns_with counts (a ++ b) ≡ turns_with counts a ++ turns_with counts b
  turns_append [] b = refl
  turns_append (transition ∷ a) b = ap (λ (ts : List (Transition SessionState)). turn_with counts transition ∷ ts) (turns_append a b)

  lines_with : (transitions : List (Transition SessionState)) → lines_of (turns_with counts transitions) ≡ lines_of transitions
  lines_with [] = refl
  lines_with (transition ∷ transitions) = ap (λ (ls : List Line). transition.line ∷ ls) (lines_with transitions)

  stops_with : (transitions : List (Transition SessionState)) → stops (turns_with counts transitions) ≡ stops transitions
  stops_with [] = refl
  stops_with (transition ∷ transitions) = ap (λ (b : Bool). is_stop transition.did || b) (stops_with transitions)

  replies_with : (transitions : List (Transition SessionState)) → replies (turns_with counts transitions) ≡ replies transitions
  replies_with [] = refl
  replies_with (transition ∷ transitions) = ap (add_reply transition.did) (replies_with transitions)

  code_with : (code : ℕ) (transitions : List (Transition SessionState)) → last_code_from code (turns_with counts transitions) ≡ last_code_from code transitions
  code_with code [] = refl
  code_with code (transition ∷ transitions) = code_with (code_after code transition.did) transitions

  state_with : (start : SessionState) (transitions : List (Transition SessionState)) → state_after (with_counts counts start) (turns_with counts transitions) ≡ with_counts counts (state_after start transitions)
  state_with start [] = refl
  state_with start (transition ∷ transitions) = state_with transition.new transitions

  caught_with : (transitions : List (Transition SessionState)) (talk : List Piece) → IsCaughtUp transitions talk → IsCaughtUp (turns_with counts transitions) talk
  caught_with transitions talk caught = record {
    gone = turns_with counts caught.gone;
    later = turns_with counts caught.later;
    turns_are = ap (turns_with counts) caught.turns_are ∙ turns_append caught.gone caught.later;
    lines_are = lines_with caught.gone ∙ caught.lines_are;
    all_sent = caught.all_sent ∙ sym (replies_with caught.gone);
    none_stops = stops_with caught.gone ∙ caught.none_stops;
  }

  -- ---- a run

  pub run_with : (talk new_talk : Option (List Piece)) (input left : Option (List ℕ)) (start new : SessionState) (before code : ℕ) → n ≤ start.files.counts.faults → new.files.counts.faults ≤ n
      → IsLinkRun TakesSaving BreaksSaving talk new_talk input left start Done new before code → IsLinkRun TakesSaving BreaksSaving talk new_talk input left (with_counts counts start) Done (with_counts counts new) before code
  run_with talk new_talk input left start new before code low high run =
      let are_said = run.answered.are_said in
      record {
        pieces = run.pieces;
        told_is = run.told_is;
        took = run.took;
        transitions = turns_with counts run.transitions;
        rest = run.rest;
        course = course_with start run.transitions low (subst (λ (s : SessionState). s.files.counts.faults ≤ n) are_said.state_is high) run.course;
        served = subst (λ (ls : List Line). AreServed run.pieces input (ls ++ run.rest)) (sym (lines_with run.transitions)) run.served;
        in_step = λ front piece later is read. caught_with run.transitions front (run.in_step front piece later is read);
        calls = run.calls;
        answered = record {
          are_said = record {
            pieces_are = are_said.pieces_are ∙ sym (replies_with run.transitions);
            state_is = ap (with_counts counts) are_said.state_is ∙ sym (state_with start run.transitions);
            code_is = are_said.code_is ∙ sym (code_with before run.transitions);
          };
          read = elim run.answered.read [
            | inl stop ↦ inl (stops_with run.transitions ∙ stop)
            | inr read ↦ inr (lines_with run.transitions ∙ read.0, read.1)
          ];
        };
      }
