-- At an end without a save the layers aren't behind the replies.
use Rattle.dc_run.proofs.PipeLemmas.{io_stays, io_unused}
use Rattle.std.proofs.Common.{◌≡◌, ◌⊎◌, inl, inr, ℕ, zero, suc, Bool, true, false, List, [], ◌∷◌, ◌++◌, refl, ap, sym, subst, ◌∙◌, append-nil, arith}
use Rattle.std.specs.Io.KnownBytes.{prepend_known}
use Rattle.dc_outside.specs.LinkCalls.{Starts}
use Rattle.dc_outside.specs.Talk.{then_pieces, got}
use Rattle.std.specs.Prelude.{◌<◌, Option, Some, None, Err, codes, fold, length, slice_index_or}
use Rattle.std.specs.List.{Contains}
use Rattle.std.specs.Result.{result_unwrap_or}
use Rattle.dc_words.specs.declared.stream.Line.{Line}
use Rattle.dc_words.specs.declared.stream.Line.TheVariants.{Whole, TooLong}
use Rattle.dc_item.specs.Item.{ItemParts}
use Rattle.dc_item.specs.declared.op.Op.TheVariants.{SetFlag}
use Rattle.dc_outside.specs.State.{LinkState}
use Rattle.dc_outside.specs.declared.link.LinkError.{LinkError}
use Rattle.dc_outside.specs.declared.link.LinkError.TheVariants.{Failed, OutOfMemory}
use Rattle.dc_outside.specs.declared.link.Piece.{Piece}
use Rattle.dc_proto.specs.Commands.{heard}
use Rattle.dc_proto.specs.declared.command.Command.{Command}
use Rattle.dc_proto.specs.declared.command.Heard.{Heard}
use Rattle.dc_proto.specs.declared.command.Heard.TheVariants.{Nothing, Known, Refused}
use Rattle.dc_frontend.specs.declared.frontend.Frontend.{Frontend}
use Rattle.dc_proto.specs.declared.priority.Priority.{Priority}
use Rattle.dc_layer.specs.State.{LayerState}
use Rattle.dc_question.specs.Changes.{done_or, question_write}
use Rattle.dc_question.specs.Questions.{QuestionContext, question, read}
use Rattle.dc_store.specs.Batches.{Write, commit}
use Rattle.dc_store.specs.Plans.{StoreState}
use Rattle.dc_store.specs.StoreLaws.{AreSameButAll}
use Rattle.dc_store.proofs.RowLemmas.{same_all_refl, same_all_then}
use Rattle.dc_serve.specs.Execution.{Transition, IsExecution, lines_of, replies, state_after, stops}
use Rattle.dc_serve.specs.LinkRun.{AreServed, IsLinkRun}
use Rattle.dc_serve.specs.Said.{BreaksOff as BreaksOffAt, said}
use Rattle.dc_serve.specs.declared.machine.Response.{Response}
use Rattle.dc_serve.specs.declared.outcome.LinkEnd.{LinkEnd}
use Rattle.dc_serve.specs.declared.outcome.LinkEnd.TheVariants as link
use Rattle.dc_session.specs.Asking.{finished, with_seen}
use Rattle.dc_session.specs.Machine.{Aborts, BreaksHeard, BreaksIdle, BreaksOff, IsDoneInPart, Steps, StepsHeard, TakesLine, asks_to_save}
use Rattle.dc_session.specs.Serving.{IsFinished, Finishes as FinishesSession, IsServedBy, Resources}
use Rattle.dc_session.specs.SessionState.{SessionState}
use Rattle.dc_session.specs.declared.stepped.StepError.{StepError}
use Rattle.dc_session.specs.declared.stepped.StepError.TheVariants as step
use Rattle.dc_session.specs.declared.stepped.Stepped.{Stepped}
use Rattle.dc_session.proofs.FrameLaws.{others_stay, row_keeps}
use Rattle.dc_cli.specs.declared.tool.Tool.TheVariants.{Communicate, Run}
use Rattle.dc_run.specs.Ends.{end_of, end_unwaited}
use Rattle.dc_run.specs.Finishing.{Finishes}
use Rattle.dc_run.specs.OneRound.{HasUsed}
use Rattle.dc_run.specs.Running.{Awaits}
use Rattle.dc_run.specs.SavingSession.{BreaksSaving, TakesSaving}
use Rattle.dc_run.specs.Starting.{begun}
use Rattle.dc_run.specs.World.{World, before_rounds, Ground, ground_in, ground_of, on_ground}
use Rattle.dc_run.specs.declared.outcome.End.{End}
use Rattle.dc_run.specs.declared.outcome.End.TheVariants as end
use Rattle.dc_run.specs.declared.outcome.Outcome.{Outcome}
use Rattle.dc_run.specs.declared.outcome.ToolEnd.{ToolEnd}
use Rattle.dc_run.specs.declared.outcome.ToolEnd.TheVariants as tool
use Rattle.dc_run.specs.declared.saving_session.SavingBreak.{SavingBreak}
use Rattle.dc_run.specs.declared.saving_session.SavingBreak.TheVariants as saving
use Rattle.dc_run.specs.declared.settings.Settings.{Settings}
use Rattle.dc_run.proofs.CrashLemmas.{state_left}
use Rattle.dc_theorem.proofs.CleanLaw.{waited_link}
use Rattle.dc_theorem.proofs.SavingLines.{TakesBy, save_layers, taken}
use Rattle.dc_theorem.specs.Completeness.{AreCutShort, IsBeforeLine, IsBehindSave, EndsEarly, KeepUp, LeavesHeard, NoneLeft}

-- ---- a line without a reply

module _ (old new : SessionState) where
  store_stays : new ≡ old → new.store.layers ≡ old.store.layers
  store_stays same = ap (λ (s : SessionState). s.store.layers) same

  -- it was done, and nothing was said of it
  heard_done : (said : Heard) (did : Stepped) → StepsHeard said old did new → LeavesHeard said old new.store.layers
  heard_done Nothing did steps = store_stays steps.1
  heard_done (Known command) did steps = inr (record { given = steps.given; files = new.files; terminal = new.terminal; gives = steps.gives; others = others_stay command old new did steps })
  heard_done (Refused reply) did steps = store_stays steps.1

  line_done : (line : Line) (did : Stepped) → Steps old line did new → IsBeforeLine old line new.store.layers
  line_done TooLong did steps = store_stays steps.1
  line_done (Whole line) did steps = heard_done (heard old.asking.escape line) did steps

  -- it came to nothing
  part_left : (command : Command) → IsDoneInPart command old new → LeavesHeard (Known command) old new.store.layers
  part_left command done = elim done.part [
    | inl given ↦ inl (ap (λ (s : StoreState). s.layers) given.store)
    | inr left ↦ inr (record { given = left.given; files = new.files; terminal = new.terminal; gives = left.gives; others = left.others })
  ]

  idle_left : (error : StepError) → BreaksIdle old error new → new.store.layers ≡ old.store.layers
  idle_left step.OutOfMemory same = store_stays same
  idle_left step.Term none = absurd none
  idle_left (step.Wire line) none = absurd none

  off_left : (command : Command) (error : StepError) → BreaksOff command old error new → LeavesHeard (Known command) old new.store.layers
  off_left command step.OutOfMemory (inl same) = inl (store_stays same)
  off_left command step.OutOfMemory (inr part) = part_left command part
  off_left command step.Term fails = inl (ap (λ (s : SessionState). s.store.layers) fails.new_is)
  off_left command (step.Wire line) fails = inl (ap (λ (s : SessionState). s.store.layers) fails.new_is)

  heard_left : (said : Heard) (error : StepError) → BreaksHeard said old error new → LeavesHeard said old new.store.layers
  heard_left Nothing error idle = idle_left error idle
  heard_left (Known command) error off = off_left command error off
  heard_left (Refused reply) error idle = idle_left error idle

  line_left : (line : Line) (error : StepError) → Aborts old line error new → IsBeforeLine old line new.store.layers
  line_left TooLong error idle = idle_left error idle
  line_left (Whole line) error aborts = heard_left (heard old.asking.escape line) error aborts

  -- the layers stay
  heard_stays : (said : Heard) → new.store.layers ≡ old.store.layers → LeavesHeard said old new.store.layers
  heard_stays Nothing same = same
  heard_stays (Known command) same = inl same
  heard_stays (Refused reply) same = same

  line_stays : (line : Line) → new.store.layers ≡ old.store.layers → IsBeforeLine old line new.store.layers
  line_stays TooLong same = same
  line_stays (Whole line) same = heard_stays (heard old.asking.escape line) same

  -- it broke off, in it or in the save that it asks for
  break_left : (line : Line) (error : SavingBreak) → BreaksSaving old line error new → IsBeforeLine old line new.store.layers
  break_left line (saving.Step error) aborts = line_left line error aborts
  break_left line (saving.Save error) fails = line_stays line (ap (λ (s : SessionState). s.store.layers) fails.new_is)

-- what the layers told at it was told, which leaves the layers
line_taken : (old new : SessionState) (line : Line) (did : Response) → TakesLine old line did new → IsBeforeLine old line new.store.layers
line_taken old new line did takes =
    subst (λ (s : SessionState). IsBeforeLine old line s.store.layers) (sym takes.tells.new_is) (line_done old takes.mid line takes.handled.stepped takes.handled.steps)

-- the same of a line that may ask for a save
left_by : (asks : Bool) (old new : SessionState) (line : Line) (did : Response) → asks_to_save old.asking.escape line ≡ asks → TakesBy asks old line did new → IsBeforeLine old line new.store.layers ⊎ IsBehindSave old line new.store.layers
left_by true old new line did asks save = inr (asks, save_layers old new did save)
left_by false old new line did asks takes = inl (line_taken old new line did takes)

saving_left : (old new : SessionState) (line : Line) (did : Response) → TakesSaving old line did new → IsBeforeLine old line new.store.layers ⊎ IsBehindSave old line new.store.layers
saving_left old new line did takes = left_by (asks_to_save old.asking.escape line) old new line did refl (taken old new line did takes)

-- ---- the questions that were asked

-- more names
widened : (names more : List (List ℕ)) (xs ys : List LayerState) → ((n : List ℕ) → Contains names n → Contains more n) → AreSameButAll names xs ys → AreSameButAll more xs ys
widened names more [] [] among s = tt
widened names more [] (y ∷ ys) among s = absurd s
widened names more (x ∷ xs) [] among s = absurd s
widened names more (x ∷ xs) (y ∷ ys) among s = (
  record {
    sort = s.0.sort;
    spec = s.0.spec;
    left_out = s.0.left_out;
    text = s.0.text;
    items = λ other out. s.0.items other (λ in'. out (among other in'));
  },
  widened names more xs ys among s.1,
)

one_more : (name : List ℕ) (names : List (List ℕ)) (other : List ℕ) → Contains names other → Contains (name ∷ names) other
one_more name names other in' = (suc in'.0, omega (arith, in'.1), in'.2)

alone : (name other : List ℕ) (names : List (List ℕ)) → Contains (name ∷ []) other → Contains (name ∷ names) other
alone name other names in' = by_place in'.0 in'.1 in'.2 where
  by_place : (k : ℕ) → k < length (name ∷ []) → slice_index_or (name ∷ []) k other ≡ other → Contains (name ∷ names) other
  by_place zero within is = (0, omega arith, is)
  by_place (suc k) within is = absurd (omega (arith, within))

-- the row that sets `seen` on a question
abbrev seen_row : QuestionContext → StoreState → List ℕ → ItemParts → List Write
seen_row at store name item = question_write store.layers at name item (SetFlag (codes "seen") true) ∷ []

seen_same : (at : QuestionContext) (store : StoreState) (name : List ℕ) → AreSameButAll (name ∷ []) store.layers (with_seen at store name).layers
seen_same at store name = by_item (question store.layers at name) where
  by_row : (item : ItemParts) (done : Option StoreState) → commit store (seen_row at store name item) ≡ done → AreSameButAll (name ∷ []) store.layers (result_unwrap_or (done_or name done) store).layers
  by_row item None is = same_all_refl (name ∷ []) store.layers
  by_row item (Some new) is = row_keeps store new (seen_row at store name item) is

  by_item : (item : Option ItemParts) → AreSameButAll (name ∷ []) store.layers (result_unwrap_or (read name item (λ i. done_or name (commit store (seen_row at store name i)))) store).layers
  by_item None = same_all_refl (name ∷ []) store.layers
  by_item (Some item) = by_row item (commit store (seen_row at store name item)) refl

all_seen_same : (at : QuestionContext) (all names : List (List ℕ)) (store : StoreState) → ((n : List ℕ) → Contains names n → Contains all n) → AreSameButAll all store.layers (fold (with_seen at) store names).layers
all_seen_same at all [] store among = same_all_refl all store.layers
all_seen_same at all (name ∷ names) store among =
    same_all_then all store.layers (with_seen at store name).layers (fold (with_seen at) store (name ∷ names)).layers
    (widened (name ∷ []) all store.layers (with_seen at store name).layers (λ n in'. among n (alone name n names in')) (seen_same at store name))
    (all_seen_same at all names (with_seen at store name) (λ n in'. among n (one_more name names n in')))

finished_same : (state : SessionState) → AreSameButAll state.asking.asked state.store.layers (finished state).layers
finished_same state = all_seen_same state.at state.asking.asked state.asking.asked state.store (λ n in'. in')

finish_same : (state : SessionState) (served ended : LinkEnd SavingBreak) (left : Resources) → IsFinished state served left ended → AreSameButAll state.asking.asked state.store.layers left.layers
finish_same state served ended left (inl all) = subst (λ (l : List LayerState). AreSameButAll state.asking.asked state.store.layers l) (sym all.0) (finished_same state)
finish_same state served ended left (inr none) = none.0

-- ---- the turns before the last one

lines_before : (gone : List (Transition SessionState)) (last : Transition SessionState) (rest : List Line) → lines_of (gone ++ last ∷ []) ++ rest ≡ lines_of gone ++ last.line ∷ rest
lines_before [] last rest = refl
lines_before (turn ∷ gone) last rest = ap (λ (l : List Line). turn.line ∷ l) (lines_before gone last rest)

no_end : (gone : List (Transition SessionState)) (last : Transition SessionState) → gone ++ last ∷ [] ≡ [] → ⊥
no_end [] last is = cc
no_end (turn ∷ gone) last is = cc

course_before : (start : SessionState) (gone : List (Transition SessionState)) (last : Transition SessionState) → IsExecution TakesSaving start (gone ++ last ∷ []) → IsExecution TakesSaving start gone
course_before start [] last course = tt
course_before start (turn ∷ gone) last course = (course.0, (λ stop. absurd (no_end gone last (course.1 stop))), course_before turn.new gone last course.2)

last_handled : (start : SessionState) (gone : List (Transition SessionState)) (last : Transition SessionState) → IsExecution TakesSaving start (gone ++ last ∷ []) → TakesSaving (state_after start gone) last.line last.did last.new
last_handled start [] last course = course.0
last_handled start (turn ∷ gone) last course = last_handled turn.new gone last course.2

-- ---- a session

module _ (start : SessionState) (old new : LinkState) (before code : ℕ) where
  module _ (ended : LinkEnd SavingBreak) (state : SessionState) (ran : IsLinkRun TakesSaving BreaksSaving old.talk new.talk old.input new.input start ended state before code) where
    -- the layers are those behind all turns, but for the questions that were asked where no line was left
    behind_all : (layers : List LayerState) → state ≡ state_after start ran.transitions → (said ran.pieces ≡ replies ran.transitions) ⊎ AreCutShort ran.transitions ran.pieces
        → (layers ≡ state.store.layers) ⊎ (NoneLeft ran.transitions ran.pieces old.input × AreSameButAll state.asking.asked state.store.layers layers) → KeepUp start old new layers
    behind_all layers is answered same = record {
      pieces = ran.pieces;
      told_is = ran.told_is;
      took = ran.took;
      stand = inr (record {
        turns = ran.transitions;
        rest = ran.rest;
        course = ran.course;
        served = ran.served;
        answered = answered;
        layers_are = subst (λ (s : SessionState). (layers ≡ s.store.layers) ⊎ (NoneLeft ran.transitions ran.pieces old.input × AreSameButAll s.asking.asked s.store.layers layers)) is same;
      });
    }

    -- of the last line nothing is said
    before_last : (gone : List (Transition SessionState)) (last : Transition SessionState) → ran.transitions ≡ gone ++ last ∷ [] → stops gone ≡ false → said ran.pieces ≡ replies gone → KeepUp start old new last.new.store.layers
    before_last gone last are on replied =
        let course : IsExecution TakesSaving start (gone ++ last ∷ []) = subst (λ (ts : List (Transition SessionState)). IsExecution TakesSaving start ts) are ran.course in
        let handled = last_handled start gone last course in
        record {
          pieces = ran.pieces;
          told_is = ran.told_is;
          took = ran.took;
          stand = inl (record {
            turns = gone;
            line = last.line;
            rest = ran.rest;
            course = course_before start gone last course;
            on = on;
            served = subst (AreServed ran.pieces old.input) (ap (λ (ts : List (Transition SessionState)). lines_of ts ++ ran.rest) are ∙ lines_before gone last ran.rest) ran.served;
            replied = replied;
            layers_are = saving_left (state_after start gone) last.new last.line last.did handled;
          });
        }

    -- memory ran out
    broken_off_there : BreaksOffAt start ran.transitions (said ran.pieces) before state code → KeepUp start old new state.store.layers
    broken_off_there (inl all) = behind_all state.store.layers all.1.state_is (inl all.1.pieces_are) (inl refl)
    broken_off_there (inr unsaid) =
        subst (λ (s : SessionState). KeepUp start old new s.store.layers) (sym unsaid.state_is) (before_last unsaid.gone unsaid.last unsaid.turns_are unsaid.on unsaid.pieces_are)

    -- the machine broke at a line
    at_broken : (error : SavingBreak) (line : Line) (more : List Line) → stops ran.transitions ≡ false → ran.rest ≡ line ∷ more → BreaksSaving (state_after start ran.transitions) line error state → said ran.pieces ≡ replies ran.transitions → KeepUp start old new state.store.layers
    at_broken error line more on rest_is broke replied = record {
      pieces = ran.pieces;
      told_is = ran.told_is;
      took = ran.took;
      stand = inl (record {
        turns = ran.transitions;
        line = line;
        rest = more;
        course = ran.course;
        on = on;
        served = subst (λ (l : List Line). AreServed ran.pieces old.input (lines_of ran.transitions ++ l)) rest_is ran.served;
        replied = replied;
        layers_are = inl (break_left (state_after start ran.transitions) state line error broke);
      });
    }

  -- at each end
  keeps_up : (served ended : LinkEnd SavingBreak) (state : SessionState) (left : Resources) → IsLinkRun TakesSaving BreaksSaving old.talk new.talk old.input new.input start served state before code → FinishesSession served state left ended → KeepUp start old new left.layers
  keeps_up link.Done ended state left ran finishes =
      behind_all link.Done state ran left.layers ran.answered.are_said.state_is (inl ran.answered.are_said.pieces_are) (inr (
        elim ran.answered.read [
          | inl stop ↦ inl stop
          | inr read ↦ inr (inl (inr read))
        ],
        finish_same state link.Done ended left finishes,
      ))
  keeps_up link.LinkFault ended state left ran finishes = elim ran.answered [
    | inl lost ↦
        behind_all link.LinkFault state ran left.layers lost.answered.are_said.state_is (inl lost.answered.are_said.pieces_are)
        (inr (inr (inl (inl lost.answered.all_served)), finish_same state link.LinkFault ended left finishes))
    | inr cut ↦
        behind_all link.LinkFault state ran left.layers (state_left start state ran.transitions ran.rest ran.pieces old.input before code link.LinkFault tt ran.answered) (inr (state, code, cut.answered))
        (inr (inr (inr (state, code, cut.answered)), finish_same state link.LinkFault ended left finishes))
  ]
  keeps_up link.TooLong ended state left ran finishes =
      let answered = ran.answered.answered in
      behind_all link.TooLong state ran left.layers answered.are_said.state_is (inl answered.are_said.pieces_are)
      (inr (inr (inl (inl answered.all_served)), finish_same state link.TooLong ended left finishes))
  keeps_up link.OutOfMemory ended state left ran finishes =
      subst (λ (l : List LayerState). KeepUp start old new l) (sym finishes.0) (broken_off_there link.OutOfMemory state ran ran.answered)
  keeps_up (link.Broken error) ended state left ran finishes =
      let at = ran.answered in
      subst (λ (l : List LayerState). KeepUp start old new l) (sym finishes.0) (at_broken (link.Broken error) state ran error at.line at.more at.on at.rest_is at.broke at.pieces_are)

served_up : (start : SessionState) (left : Resources) (old new : LinkState) (ended : LinkEnd SavingBreak) (before code : ℕ) → IsServedBy TakesSaving BreaksSaving start left old new ended before code → KeepUp start old new left.layers
served_up start left old new ended before code is = keeps_up start old new before code is.served ended is.state left is.ran is.finishes

nothing_said : (talk : Option (List Piece)) → talk ≡ then_pieces talk []
nothing_said None = refl
nothing_said (Some pieces) = ap (λ (ps : List Piece). Some ps) (sym (append-nil pieces))

nothing_come : (input : Option (List ℕ)) → input ≡ prepend_known [] input
nothing_come None = refl
nothing_come (Some bytes) = refl

-- nothing was said on a link
none_up : (start : SessionState) (old new : LinkState) → new.talk ≡ then_pieces old.talk [] → old.input ≡ prepend_known [] new.input → KeepUp start old new start.store.layers
none_up start old new talk input = record {
  pieces = [];
  told_is = talk;
  took = input;
  stand = inr (record { turns = []; rest = []; course = tt; served = inl refl; answered = inl refl; layers_are = inl refl });
}

-- ---- the run

-- without a save what the tool left is what is used
module _ (left new : Ground) (how : End) (unsaved : EndsEarly how) where
  saved_not : (ended : ToolEnd) → how ≡ end_of ended → (EndsEarly (end_of ended) → ⊥) → ⊥
  saved_not ended is never = never (subst EndsEarly is unsaved)

  used_stays : (ended : ToolEnd) → Finishes left new ended how → new.used ≡ left.used
  used_stays tool.Done (inl saved) = absurd (saved_not tool.Done saved.end_is (λ never. never))
  used_stays tool.Done (inr (inl failed)) = failed.used_are
  used_stays tool.Done (inr (inr (inl none))) = none.used_are
  used_stays tool.Done (inr (inr (inr unsent))) = unsent.used_are
  used_stays tool.LinkFault (inl saved) = absurd (saved_not tool.LinkFault saved.end_is (λ never. never))
  used_stays tool.LinkFault (inr (inl failed)) = failed.used_are
  used_stays tool.LinkFault (inr (inr (inl none))) = none.used_are
  used_stays tool.LinkFault (inr (inr (inr unsent))) = unsent.used_are
  used_stays tool.TooLong (inl saved) = absurd (saved_not tool.TooLong saved.end_is (λ never. never))
  used_stays tool.TooLong (inr (inl failed)) = failed.used_are
  used_stays tool.TooLong (inr (inr (inl none))) = none.used_are
  used_stays tool.TooLong (inr (inr (inr unsent))) = unsent.used_are
  used_stays tool.PrintFault broken = ap (λ (g : Ground). g.used) broken.stays
  used_stays tool.TermFault broken = ap (λ (g : Ground). g.used) broken.stays
  used_stays tool.ChildFault broken = ap (λ (g : Ground). g.used) broken.stays
  used_stays tool.OutOfMemory broken = ap (λ (g : Ground). g.used) broken.stays
  used_stays (tool.FilesFault path) broken = ap (λ (g : Ground). g.used) broken.stays
  used_stays (tool.BadWire line) broken = ap (λ (g : Ground). g.used) broken.stays

unwaited_unsaved : (how : End) → EndsEarly (end_unwaited how) → EndsEarly how
unwaited_unsaved end.Done is = is
unwaited_unsaved (end.Usage word) is = is
unwaited_unsaved (end.ConfRefused line kind) is = is
unwaited_unsaved (end.BadPattern at) is = is
unwaited_unsaved (end.PatternTooLarge at) is = is
unwaited_unsaved (end.Damaged path line) is = is
unwaited_unsaved end.OutOfMemory is = is
unwaited_unsaved (end.FilesFault path) is = is
unwaited_unsaved end.LinkFault is = is
unwaited_unsaved end.TermFault is = is
unwaited_unsaved end.ChildFault is = is
unwaited_unsaved end.TooLong is = is
unwaited_unsaved (end.BadWire line) is = is

awaited_unsaved : (started : Bool) (old new : LinkState) (how ended : End) (status left : ℕ) → Awaits started old new how ended status left → EndsEarly ended → EndsEarly how
awaited_unsaved true old new how ended status left (inl has) is = subst EndsEarly has.end_is is
awaited_unsaved true old new how ended status left (inr failed) is = unwaited_unsaved how (subst EndsEarly failed.end_is is)
awaited_unsaved false old new how ended status left none is = subst EndsEarly none.end_is is

-- what is said of a link stays where its talk and its input stay
with_link : (start : SessionState) (old mid new : LinkState) (layers : List LayerState) → new.talk ≡ mid.talk → new.input ≡ mid.input → KeepUp start old mid layers → KeepUp start old new layers
with_link start old mid new layers talk input up = record {
  pieces = up.pieces;
  told_is = talk ∙ up.told_is;
  took = up.took ∙ ap (prepend_known (got up.pieces)) (sym input);
  stand = up.stand;
}

-- nor does it change by what runs behind it
with_program : (start : SessionState) (old mid new : LinkState) (layers : List LayerState) → mid ≡ record old { program = mid.program } → KeepUp start mid new layers → KeepUp start old new layers
with_program start old mid new layers same up =
    let here : KeepUp start (record old { program = mid.program }) new layers = subst (λ (l : LinkState). KeepUp start l new layers) same up in
    record { pieces = here.pieces; told_is = here.told_is; took = here.took; stand = here.stand }

pub communicate_up : (owner : List ℕ) (settings : Settings) (old new : World) (outcome : Outcome) (run : HasUsed (Communicate owner) settings old new outcome) → EndsEarly outcome.end
    → KeepUp (begun (Communicate owner) (before_rounds (on_ground old run.mid)) run.roots settings) old.links.io new.links.io new.stock.used
communicate_up owner settings old new outcome run unsaved =
    let start = begun (Communicate owner) (before_rounds (on_ground old run.mid)) run.roots settings in
    let finish = awaited_unsaved run.answer.is_started run.links.child new.links.child run.how outcome.end run.answer.status run.status run.awaits unsaved in
    let used = used_stays (ground_of run.left.files run.links.io run.left.layers) (ground_in new) run.how finish run.answer.ended run.finishes in
    let found = io_unused (Communicate owner) tt settings old new outcome run in
    let stays = io_stays (Communicate owner) tt settings old new outcome run in
    with_link start old.links.io run.links.io new.links.io new.stock.used (ap (λ (l : LinkState). l.talk) stays) (ap (λ (l : LinkState). l.input) stays)
    (subst (λ (l : LinkState). KeepUp start l run.links.io new.stock.used) found
    (subst (λ (l : List LayerState). KeepUp start run.mid.sources.link run.links.io l) (sym used) (served_up start run.left run.mid.sources.link run.links.io run.uses.0.ended 0 run.answer.last_code run.uses.0.served.by)))

module _ (owner : List ℕ) (frontend : Option Frontend) (priority : Option Priority) (command : List (List ℕ)) (settings : Settings) (old new : World) (outcome : Outcome) (run : HasUsed (Run owner frontend priority command) settings old new outcome) where
  abbrev start : SessionState
  start = begun (Run owner frontend priority command) (before_rounds (on_ground old run.mid)) run.roots settings

  -- the start isn't done
  unstarted_up : (error : LinkError) → Starts {T = Unit {0}} command old.links.child run.links.child (Err error) → KeepUp start old.links.child run.links.child start.store.layers
  unstarted_up Failed failed = none_up start old.links.child run.links.child (ap (λ (l : LinkState). l.talk) failed.state ∙ nothing_said old.links.child.talk) (nothing_come old.links.child.input ∙ sym (ap (λ (l : LinkState). prepend_known [] l.input) failed.state))
  unstarted_up OutOfMemory refused = none_up start old.links.child run.links.child (ap (λ (l : LinkState). l.talk) refused.state ∙ nothing_said old.links.child.talk) (nothing_come old.links.child.input ∙ sym (ap (λ (l : LinkState). prepend_known [] l.input) refused.state))

  program_up : KeepUp start old.links.child run.links.child run.left.layers
  program_up = elim run.uses.0 [
    | inl none ↦ subst (λ (l : Resources). KeepUp start old.links.child run.links.child l.layers) (sym none.left_is) (unstarted_up none.unstarted.error none.unstarted.starts)
    | inr started ↦ with_program start old.links.child started.mid run.links.child run.left.layers started.starts.state (served_up start run.left started.mid run.links.child started.ended 0 run.answer.last_code started.served.by)
  ]

  pub run_up : EndsEarly outcome.end → KeepUp start old.links.child new.links.child new.stock.used
  run_up unsaved =
      let finish = awaited_unsaved run.answer.is_started run.links.child new.links.child run.how outcome.end run.answer.status run.status run.awaits unsaved in
      let used = used_stays (ground_of run.left.files run.links.io run.left.layers) (ground_in new) run.how finish run.answer.ended run.finishes in
      let same = waited_link run.answer.is_started run.links.child new.links.child run.how outcome.end run.answer.status run.status run.awaits in
      with_link start old.links.child run.links.child new.links.child new.stock.used same.0 same.1 (subst (λ (l : List LayerState). KeepUp start old.links.child run.links.child l) (sym used) program_up)
