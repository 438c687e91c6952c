-- Where no failure of the files was counted and a run did all, each line has the reply of its row.
use Rattle.dc_run.proofs.PipeLemmas.{io_stays, io_unused}
use Rattle.std.proofs.Common.{◌≡◌, ℕ, Bool, true, false, inl, inr, List, [], ◌∷◌, ap, sym, subst, ◌∙◌, arith}
use Rattle.std.specs.Prelude.{◌≤◌, ◌≢◌, Option, Some, None}
use Rattle.std.specs.Io.KnownBytes.{prepend_known}
use Rattle.dc_words.specs.declared.stream.Line.{Line}
use Rattle.dc_words.specs.declared.stream.Line.TheVariants.{Whole, TooLong}
use Rattle.dc_outside.specs.Counts.{Rose}
use Rattle.dc_outside.specs.State.{FilesState, LinkState}
use Rattle.dc_outside.specs.Talk.{then_pieces, got}
use Rattle.dc_outside.specs.declared.link.Piece.{Piece}
use Rattle.dc_proto.specs.Commands.{heard}
use Rattle.dc_proto.specs.declared.command.Heard.{Heard}
use Rattle.dc_proto.specs.declared.command.Heard.TheVariants.{Nothing, Known, Refused}
use Rattle.dc_frontend.specs.declared.frontend.Frontend.{Frontend}
use Rattle.dc_proto.specs.declared.priority.Priority.{Priority}
use Rattle.dc_serve.specs.Execution.{Transition, IsExecution, state_after}
use Rattle.dc_serve.specs.LinkRun.{IsWhole}
use Rattle.dc_serve.specs.declared.machine.Response.{Response}
use Rattle.dc_session.specs.Machine.{Looks, Steps, StepsHeard, asks_to_save, file_of}
use Rattle.dc_session.specs.Serving.{Resources}
use Rattle.dc_session.specs.SessionState.{SessionState}
use Rattle.dc_session.specs.TemplateFiles.{Finds}
use Rattle.dc_session.specs.declared.stepped.Stepped.{Stepped}
use Rattle.dc_session.specs.declared.template_files.Found.{Found}
use Rattle.dc_session.specs.declared.template_files.Found.TheVariants.{Unreadable, Missing}
use Rattle.dc_cli.specs.declared.tool.Tool.{Tool}
use Rattle.dc_cli.specs.declared.tool.Tool.TheVariants.{Communicate, Run}
use Rattle.dc_run.specs.OneRound.{HasUsed}
use Rattle.dc_run.specs.Running.{IsStarted}
use Rattle.dc_run.specs.SavingSession.{HandlesBy, TakesSaving}
use Rattle.dc_run.specs.Starting.{begun, keeps_changes}
use Rattle.dc_run.specs.World.{World, before_rounds, ground_in, ground_of, on_ground}
use Rattle.dc_run.specs.declared.outcome.End.TheVariants as end
use Rattle.dc_run.specs.declared.outcome.Outcome.{Outcome}
use Rattle.dc_run.specs.declared.settings.Settings.{Settings}
use Rattle.dc_theorem.specs.Completeness.{Answers, AnswersAll, AnswersHeard, AnswersLine, HandlesAll}
use Rattle.dc_theorem.proofs.CallsLaw.{at_save}
use Rattle.dc_theorem.proofs.CleanLaw.{waited_link}
use Rattle.dc_theorem.proofs.CountsLater.{course_kept, end_of_later, rose_behind, rose_between, saving_kept, start_later}
use Rattle.dc_theorem.proofs.EndLemmas.{WasServed, unstarted_other, was_served}

-- ---- a line

not_missing : Missing ≡ Unreadable → ⊥
not_missing is = cc

-- a file that is looked for is found unreadable only where the failure is counted
never_unread : (old new : FilesState) (path : Option (List ℕ)) (found : Found) → ¬ Rose old.counts.faults new.counts.faults → Looks path old found new → found ≢ Unreadable
never_unread old new None found none looks unread = not_missing (sym looks.0 ∙ unread)
never_unread old new (Some path) found none looks unread = none (subst (λ (f : Found). Finds path old f new) unread looks).1.faults

module _ (old new : SessionState) (did : Stepped) (none : ¬ Rose old.files.counts.faults new.files.counts.faults) where
  heard_answered : (said : Heard) → StepsHeard said old did new → AnswersHeard said old did new
  heard_answered Nothing steps = steps
  heard_answered (Known command) steps = (steps, never_unread old.files new.files (file_of command) steps.given.found none steps.gives.looks)
  heard_answered (Refused reply) steps = steps

  line_answered : (line : Line) → Steps old line did new → AnswersLine old line did new
  line_answered TooLong steps = steps
  line_answered (Whole line) steps = heard_answered (heard old.asking.escape line) steps

same_least : (n : ℕ) → n ≤ n
same_least n = omega arith

all_handled : (asks : Bool) (old mid : SessionState) (line : Line) (did : Response) → ¬ Rose old.files.counts.faults mid.files.counts.faults → HandlesBy asks old line did mid → HandlesAll asks old line did mid
all_handled true old mid line did none saves = saves
all_handled false old mid line did none handled =
    record { stepped = handled.stepped; steps = line_answered old mid handled.stepped none line handled.steps; did_is = handled.did_is }

course_answered : (start : SessionState) (turns : List (Transition SessionState)) → IsExecution TakesSaving start turns → ¬ Rose start.files.counts.faults (state_after start turns).files.counts.faults → IsExecution Answers start turns
course_answered start [] course none = tt
course_answered start (turn ∷ turns) course none =
    let first : ℕ = start.files.counts.faults in
    let second : ℕ = turn.new.files.counts.faults in
    let last : ℕ = (state_after turn.new turns).files.counts.faults in
    let here : ¬ Rose first course.0.mid.files.counts.faults
    = λ rose. none (rose_between first first second last (same_least first) (subst (λ (s : SessionState). Rose first s.files.counts.faults) (sym course.0.tells.new_is) rose) (course_kept turn.new turns course.2).0) in (
      record {
        mid = course.0.mid;
        handled = all_handled (asks_to_save start.asking.escape turn.line) start course.0.mid turn.line turn.did here course.0.handled;
        tells = course.0.tells;
      },
      course.1,
      course_answered turn.new turns course.2 (λ rose. none (rose_behind first second last (saving_kept start turn.new turn.line turn.did course.0).0 rose)),
    )

-- ---- a session

module _ (start : SessionState) (left : Resources) (old new : LinkState) (code : ℕ) (served : WasServed start left old new 0 code) (none : ¬ Rose start.files.counts.faults left.files.counts.faults) where
  all_answered : AnswersAll start old new
  all_answered =
      let ran = served.ran in
      record {
        pieces = ran.pieces;
        told_is = ran.told_is;
        took = ran.took;
        turns = ran.transitions;
        course = course_answered start ran.transitions ran.course
            (subst (λ (s : SessionState). ¬ Rose start.files.counts.faults s.files.counts.faults) ran.answered.are_said.state_is (subst (λ (f : FilesState). ¬ Rose start.files.counts.faults f.counts.faults) served.files_are none));
        replied = ran.answered.are_said.pieces_are;
        read = ran.answered.read;
      }

-- ---- the run

module _ (used : Tool) (settings : Settings) (old new : World) (outcome : Outcome) (run : HasUsed used settings old new outcome) (none : ¬ Rose old.stock.files.counts.faults new.stock.files.counts.faults) where
  tool_sound : ¬ Rose run.mid.sources.files.counts.faults run.left.files.counts.faults
  tool_sound rose =
      none
      (rose_between old.stock.files.counts.faults run.mid.sources.files.counts.faults run.left.files.counts.faults new.stock.files.counts.faults
      (start_later used settings.conf_path (ground_in old).sources run.mid run.roots run.started).0 rose
      (end_of_later (ground_of run.left.files run.links.io run.left.layers) (ground_in new) run.how (keeps_changes used) run.answer.ended run.finishes).0)

with_links : (start : SessionState) (old from mid new : LinkState) → from.talk ≡ old.talk → from.input ≡ old.input → new.talk ≡ mid.talk → new.input ≡ mid.input → AnswersAll start from mid → AnswersAll start old new
with_links start old from mid new from_talk from_input talk input all = record {
  pieces = all.pieces;
  told_is = talk ∙ all.told_is ∙ ap (λ (t : Option (List Piece)). then_pieces t all.pieces) from_talk;
  took = sym from_input ∙ all.took ∙ ap (prepend_known (got all.pieces)) (sym input);
  turns = all.turns;
  course = all.course;
  replied = all.replied;
  read = elim all.read [
    | inl stop ↦ inl stop
    | inr whole ↦ inr (whole.0, subst (IsWhole all.pieces) from_input whole.1)
  ];
}

pub communicate_answered : (owner : List ℕ) (settings : Settings) (old new : World) (outcome : Outcome) (run : HasUsed (Communicate owner) settings old new outcome) → outcome.end ≡ end.Done
    → ¬ Rose old.stock.files.counts.faults new.stock.files.counts.faults → AnswersAll (begun (Communicate owner) (before_rounds (on_ground old run.mid)) run.roots settings) old.links.io new.links.io
communicate_answered owner settings old new outcome run done none =
    let start = begun (Communicate owner) (before_rounds (on_ground old run.mid)) run.roots settings in
    let served = was_served start run.left run.mid.sources.link run.links.io run.uses.0.ended 0 run.answer.last_code (sym run.uses.0.ended_is ∙ (at_save (Communicate owner) settings old new outcome run done).0) run.uses.0.served.by in
    let found = io_unused (Communicate owner) tt settings old new outcome run in
    let stays = io_stays (Communicate owner) tt settings old new outcome run in
    with_links start old.links.io run.mid.sources.link run.links.io new.links.io (ap (λ (l : LinkState). l.talk) found) (ap (λ (l : LinkState). l.input) found)
    (ap (λ (l : LinkState). l.talk) stays) (ap (λ (l : LinkState). l.input) stays)
    (all_answered start run.left run.mid.sources.link run.links.io run.answer.last_code served (tool_sound (Communicate owner) settings old new outcome run none))

module _ (owner : List ℕ) (frontend : Option Frontend) (priority : Option Priority) (command : List (List ℕ)) (settings : Settings) (old new : World) (outcome : Outcome)
    (run : HasUsed (Run owner frontend priority command) settings old new outcome) (done : outcome.end ≡ end.Done) (none : ¬ Rose old.stock.files.counts.faults new.stock.files.counts.faults) where
  abbrev Used : Tool
  Used = Run owner frontend priority command

  abbrev start : SessionState
  start = begun Used (before_rounds (on_ground old run.mid)) run.roots settings

  started_answered : IsStarted command start (on_ground old run.mid).links run.links 0 run.answer run.left run.inner → AnswersAll start old.links.child new.links.child
  started_answered started =
      let served = was_served start run.left started.mid run.links.child started.ended 0 run.answer.last_code (sym started.ended_is ∙ (at_save Used settings old new outcome run done).0) started.served.by in
      let same = waited_link run.answer.is_started run.links.child new.links.child run.how outcome.end run.answer.status run.status run.awaits in
      with_links start old.links.child started.mid run.links.child new.links.child (ap (λ (l : LinkState). l.talk) started.starts.state) (ap (λ (l : LinkState). l.input) started.starts.state) same.0 same.1
      (all_answered start run.left started.mid run.links.child run.answer.last_code served (tool_sound Used settings old new outcome run none))

  pub program_answered : AnswersAll start old.links.child new.links.child
  program_answered = elim run.uses.0 [
    | inl never ↦ absurd (unstarted_other never.unstarted.error (sym never.unstarted.ended_is ∙ (at_save Used settings old new outcome run done).0))
    | inr started ↦ started_answered started
  ]
