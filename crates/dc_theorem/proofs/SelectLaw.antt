-- Two runs of `set-selections` into which the same comes.
use Rattle.dc_run.proofs.PipeLemmas.{io_unused}
use Rattle.std.proofs.Common.{◌≡◌, ◌||◌, inl, inr, ℕ, Bool, false, List, [], ◌∷◌, ◌++◌, Option, Some, refl, sym, ap, subst, ◌∙◌}
use Rattle.std.specs.Prelude.{◌≤◌, Ok, Err}
use Rattle.dc_text.specs.declared.memory.OutOfMemory.{OutOfMemory as NoMemory}
use Rattle.dc_words.specs.Stream.{all_lines}
use Rattle.dc_words.specs.declared.stream.Line.{Line}
use Rattle.dc_words.specs.declared.stream.Line.TheVariants.{Whole, TooLong}
use Rattle.dc_outside.specs.Disk.{Disk}
use Rattle.dc_outside.specs.State.{FilesState, LinkState}
use Rattle.dc_outside.specs.Talk.{got}
use Rattle.dc_outside.specs.declared.link.Piece.{Piece}
use Rattle.dc_outside.specs.declared.files.FilesCall.{FilesCall}
use Rattle.dc_serve.specs.Execution.{Transition, IsExecution, is_stop, stops}
use Rattle.dc_serve.specs.LinkRun.{Answered}
use Rattle.dc_serve.specs.declared.outcome.LinkEnd.{LinkEnd}
use Rattle.dc_serve.specs.declared.outcome.LinkEnd.TheVariants as link
use Rattle.dc_store.specs.Plans.{stored}
use Rattle.dc_preseed.specs.Joiner.{all_joined, at_start}
use Rattle.dc_preseed.specs.Lines.{Outcome, line_set}
use Rattle.dc_preseed.specs.Selecting.{AreDone, Finishes, IsSelected, LosesSelection, SelectorState, TakesSelection, TellsAll, after_line, after_outcome, selections_over}
use Rattle.dc_preseed.proofs.JoinLemmas.{joined_one}
use Rattle.dc_preseed.proofs.SelectingLaws.{does_whole_text, says_no_code}
use Rattle.dc_preseed.specs.declared.joining.Joined.{Joined}
use Rattle.dc_preseed.specs.declared.selected.Choices.{Choices}
use Rattle.dc_session.specs.Serving.{Resources}
use Rattle.dc_run.specs.EndLines.{end_line, HasSaid}
use Rattle.dc_run.specs.Ends.{status_of}
use Rattle.dc_run.specs.Jobs.{refused_status, selections_end}
use Rattle.dc_run.specs.OneRound.{HasUsed}
use Rattle.dc_run.specs.Starting.{begun}
use Rattle.dc_run.specs.World.{World, before_rounds, Ground, ground_of, on_ground}
use Rattle.dc_run.specs.declared.outcome.Outcome.{Outcome as RunOutcome}
use Rattle.dc_run.specs.declared.outcome.ToolEnd.TheVariants as tool
use Rattle.dc_run.specs.declared.settings.Settings.{Settings}
use Rattle.dc_run.proofs.Saying.{none_said, said_then, told_said}
use Rattle.dc_cli.specs.Tools.{Names}
use Rattle.dc_cli.specs.declared.tool.Tool.{Tool}
use Rattle.dc_cli.specs.declared.tool.Tool.TheVariants.{SetSelections}
use Rattle.dc_run.specs.Roots.{Roots}
use Rattle.dc_theorem.specs.Runs.{IsClean, LoadAlike}
use Rattle.dc_theorem.proofs.EndLemmas.{was_used, unwaited}
use Rattle.dc_theorem.proofs.UsedLemmas.{tool_done, left_sound, leave_as_told, same_start}

-- ---- whatever standard error is

abbrev with_err : LinkState → SelectorState → SelectorState
with_err err state = record state { err = err }

outcome_with : (err : LinkState) (state : SelectorState) (number : ℕ) (outcome : Outcome) → after_outcome (with_err err state) number outcome ≡ with_err err (after_outcome state number outcome)
outcome_with err state number (Ok (done, store)) = refl
outcome_with err state number (Err error) = refl

line_with : (err : LinkState) (state : SelectorState) (number : ℕ) (line : Line) → after_line (with_err err state) number line ≡ with_err err (after_line state number line)
line_with err state number TooLong = refl
line_with err state number (Whole line) = outcome_with err state number (line_set state.store state.at line state.choices.check state.choices.unseen)

-- what there is to tell: what the line has to tell, and then what the layers told
abbrev to_tell : SelectorState → List ℕ
to_tell state = state.untold ++ state.store.told

-- what is left of a state once that is told
abbrev once_told : SelectorState → SelectorState
once_told state = record state { store = stored state.store.layers []; untold = [] }

-- what joined lines tell
abbrev told_of : List Joined → SelectorState → List ℕ
told_of [] state = []
told_of (joined ∷ others) state = to_tell (after_line state joined.first joined.whole) ++ told_of others (once_told (after_line state joined.first joined.whole))

told_with : (err : LinkState) (all : List Joined) (state : SelectorState) → told_of all (with_err err state) ≡ told_of all state
told_with err [] state = refl
told_with err (joined ∷ others) state =
    ap (λ (s : SelectorState). to_tell s ++ told_of others (once_told s)) (line_with err state joined.first joined.whole)
    ∙ ap (λ (l : List ℕ). to_tell (after_line state joined.first joined.whole) ++ l) (told_with err others (once_told (after_line state joined.first joined.whole)))

-- what they leave
abbrev left_by : List Joined → SelectorState → SelectorState
left_by [] state = state
left_by (joined ∷ others) state = left_by others (once_told (after_line state joined.first joined.whole))

left_with : (err : LinkState) (all : List Joined) (state : SelectorState) → left_by all (with_err err state) ≡ with_err err (left_by all state)
left_with err [] state = refl
left_with err (joined ∷ others) state =
    ap (λ (s : SelectorState). left_by others (once_told s)) (line_with err state joined.first joined.whole)
    ∙ left_with err others (once_told (after_line state joined.first joined.whole))

-- ---- joined lines that were done

all_said : (old new : SelectorState) → TellsAll old new → HasSaid (to_tell old) old.err new.err
all_said old new tells =
    said_then old.untold old.store.told old.err tells.told.0 new.err (told_said old.untold old.err tells.told.0 tells.told.1) (told_said old.store.told tells.told.0 new.err tells.told.2)

-- each leaves what it does, and tells what it has to tell
module _ (err : LinkState) where
  record Leaves (all : List Joined) (old new : SelectorState) : Type 0 where
    left_is : with_err err new ≡ left_by all (with_err err old)
    said : HasSaid (told_of all old) old.err new.err

  line_err : (state : SelectorState) (number : ℕ) (line : Line) → (after_line state number line).err ≡ state.err
  line_err state number line = ap (λ (s : SelectorState). s.err) (line_with state.err state number line)

  done_leaves : (all : List Joined) (old new : SelectorState) → AreDone all old new → Leaves all old new
  done_leaves [] old new same = record { left_is = ap (with_err err) same; said = subst (λ (s : SelectorState). HasSaid [] old.err s.err) (sym same) (none_said old.err) }
  done_leaves (joined ∷ others) old new done =
      let after = after_line old joined.first joined.whole in
      let mid = done.0 in
      let rest = done_leaves others mid new done.2 in
      let mid_is : mid ≡ record after { store = stored after.store.layers []; err = mid.err; untold = [] } = done.1.new_is in
      record {
        left_is = rest.left_is
            ∙ ap (λ (s : SelectorState). left_by others (with_err err s)) mid_is
            ∙ ap (λ (s : SelectorState). left_by others (once_told s)) (sym (line_with err old joined.first joined.whole));
        said =
            said_then (to_tell after) (told_of others (once_told after)) old.err mid.err new.err
            (subst (λ (l : LinkState). HasSaid (to_tell after) l mid.err) (line_err old joined.first joined.whole) (all_said after mid done.1))
            (subst (λ (t : List ℕ). HasSaid t mid.err new.err) (ap (told_of others) mid_is ∙ told_with mid.err others (once_told after)) rest.said);
      }

-- ---- one run

never_stops : (turns : List (Transition SelectorState)) (start : SelectorState) → IsExecution TakesSelection start turns → stops turns ≡ false
never_stops [] start course = refl
never_stops (turn ∷ turns) start course =
    let silent : is_stop turn.did ≡ false = ap is_stop course.0.handled.0 in
    ap (λ (b : Bool). b || stops turns) silent ∙ never_stops turns turn.new course.2

pub selections_done : (ended : LinkEnd NoMemory) → selections_end ended ≡ tool.Done → ended ≡ link.Done
selections_done link.Done is = refl
selections_done link.LinkFault is = cc
selections_done link.TooLong is = cc
selections_done link.OutOfMemory is = cc
selections_done (link.Broken error) is = cc

pub served_done : (served : LinkEnd NoMemory) (state left : SelectorState) → Finishes served state left link.Done → served ≡ link.Done
served_done link.Done state left finishes = refl
served_done link.LinkFault state left finishes = cc
served_done link.TooLong state left finishes = cc
served_done link.OutOfMemory state left finishes = cc
served_done (link.Broken error) state left finishes = cc

-- all of the input came
module _ (start new : SelectorState) (turns : List (Transition SelectorState)) (rest : List Line) (talk : List Piece) (input : List ℕ) (before code : ℕ) where
  pub whole_input : IsExecution TakesSelection start turns → Answered LosesSelection link.Done start turns rest talk (Some input) before new code → got talk ≡ input
  whole_input course answered = elim answered.read [
    | inl stop ↦ absurd (let none : stops turns ≡ false = never_stops turns start course in cc)
    | inr all ↦ all.1.whole
  ]

module _ (words : List (List ℕ)) (verbose check unseen : Bool) (settings : Settings) (disk : Disk) (calls : List FilesCall) where
  abbrev Used : Tool
  Used = SetSelections verbose check unseen

  abbrev choices : Choices
  choices = record { verbose = verbose; check = check; unseen = unseen }

  -- the selections that a run begins with over its stock
  abbrev start : World → Ground → Roots → SelectorState
  start old mid roots = selections_over mid.used (begun Used (before_rounds (on_ground old mid)) roots settings).at choices old.err

  module _ (old new : World) (outcome : RunOutcome) (input : List ℕ) (clean : IsClean words settings disk calls old new outcome) (has : HasUsed Used settings old new outcome) (input_is : old.links.io.input ≡ Some input) where
    abbrev state : SelectorState
    state = has.uses.0.state

    selected : IsSelected (start old has.mid has.roots) state old.links.io has.links.io link.Done 0 has.answer.last_code
    selected = subst (λ (e : LinkEnd NoMemory). IsSelected (start old has.mid has.roots) state old.links.io has.links.io e 0 has.answer.last_code)
        (selections_done has.uses.0.ended (sym has.uses.0.ended_is ∙ tool_done words Used settings disk calls old new outcome clean has))
        (subst (λ (l : LinkState). IsSelected (start old has.mid has.roots) state l has.links.io has.uses.0.ended 0 has.answer.last_code) (io_unused Used tt settings old new outcome has) has.uses.0.selected)

    came : got selected.serves.run.pieces ≡ input
    came =
        let run = selected.serves.run in
        whole_input (start old has.mid has.roots) selected.state run.transitions run.rest run.pieces input 0 has.answer.last_code run.course
        (subst (λ (i : Option (List ℕ)). Answered LosesSelection link.Done (start old has.mid has.roots) run.transitions run.rest run.pieces i 0 selected.state has.answer.last_code) input_is
        (subst (λ (e : LinkEnd NoMemory). Answered LosesSelection e (start old has.mid has.roots) run.transitions run.rest run.pieces old.links.io.input 0 selected.state has.answer.last_code)
        (served_done selected.served selected.state state selected.finishes) run.answered))

    -- the joined lines of all that came
    abbrev all : List Joined
    all = all_joined (all_lines input)

    leaves : (err : LinkState) → Leaves err all (start old has.mid has.roots) (record state { joining = at_start })
    leaves err =
        let does = does_whole_text (start old has.mid has.roots) state old.links.io has.links.io 0 has.answer.last_code selected refl refl refl in
        let lines : does.0 ≡ all = (joined_one (all_lines (got selected.serves.run.pieces)) does.0).0 does.1 ∙ ap (λ (t : List ℕ). all_joined (all_lines t)) came in
        done_leaves err all (start old has.mid has.roots) (record state { joining = at_start })
        (subst (λ (js : List Joined). AreDone js (start old has.mid has.roots) (record state { joining = at_start })) lines does.2)

    abbrev text : List ℕ
    text = told_of all (start old has.mid has.roots)

    tells : HasSaid (text ++ end_line outcome.end) old.err new.err
    tells = said_then text (end_line outcome.end) old.err state.err new.err (leaves old.err).said
        (subst (λ (l : LinkState). HasSaid (end_line outcome.end) l new.err) (ap (λ (l : Resources). l.err) has.uses.0.left_is)
        (subst (λ (t : List ℕ). HasSaid (t ++ end_line outcome.end) has.left.err new.err) has.uses.2 has.said))

    taken_high : has.mid.sources.files.counts.faults ≤ old.stock.files.counts.faults
    taken_high = subst (λ (f : FilesState). f.counts.faults ≤ old.stock.files.counts.faults) (ap (λ (l : Resources). l.files) has.uses.0.left_is) (left_sound words Used settings disk calls old new outcome clean has)

    taken_status : outcome.status ≡ refused_status state.refused
    taken_status =
        has.status_is ∙ (λ i. status_of (clean.done i) has.status)
        ∙ unwaited has.answer.is_started has.links.child new.links.child has.how outcome.end has.answer.status has.status has.uses.0.waits has.awaits ∙ has.uses.0.status_is

  -- ---- both

  pub select_alike : (one new other last : World) (outcome again : RunOutcome) (input : List ℕ) → Names words Used → IsClean words settings disk calls one new outcome → IsClean words settings disk calls other last again
      → one.links.io.input ≡ Some input → other.links.io.input ≡ Some input → LoadAlike one new outcome other last again
  select_alike one new other last outcome again input named clean other_clean input_is other_input_is =
      let has = was_used words settings disk calls one new outcome Used named clean in
      let other_has = was_used words settings disk calls other last again Used named other_clean in
      let high = taken_high one new outcome input clean has input_is in
      let other_high = taken_high other last again input other_clean other_has other_input_is in
      let starts = same_start words Used settings disk calls one new other last outcome again clean other_clean has other_has tt high other_high in
      let err = one.err in
      let begins = start one has.mid has.roots in
      let other_begins = start other other_has.mid other_has.roots in
      let joined = all_joined (all_lines input) in
      let begin : with_err err begins ≡ with_err err other_begins
      = λ i. with_err err (start one (ground_of other_has.mid.sources.files other_has.mid.sources.link (starts.used i)) (starts.roots_are i)) in
      let first = leaves one new outcome input clean has input_is err in
      let second = leaves other last again input other_clean other_has other_input_is err in
      let left : ◌≡◌ {A = SelectorState} (with_err err (record has.uses.0.state { joining = at_start })) (with_err err (record other_has.uses.0.state { joining = at_start }))
      = first.left_is ∙ ap (left_by joined) begin ∙ sym second.left_is in
      let told : told_of joined begins ≡ told_of joined other_begins
      = sym (told_with err joined begins) ∙ ap (told_of joined) begin ∙ told_with err joined other_begins in
      record {
        leave = leave_as_told words Used settings disk calls one new other last outcome again clean other_clean has other_has
            (ap (λ (l : Resources). l.layers) has.uses.0.left_is ∙ ap (λ (s : SelectorState). s.store.layers) left ∙ sym (ap (λ (l : Resources). l.layers) other_has.uses.0.left_is))
            (ap (λ (l : Resources). l.files.view) has.uses.0.left_is ∙ starts.told ∙ sym (ap (λ (l : Resources). l.files.view) other_has.uses.0.left_is))
            (record {
              text = told_of joined begins ++ end_line outcome.end;
              one_is = tells one new outcome input clean has input_is;
              other_is = subst (λ (t : List ℕ). HasSaid t other.err last.err) (λ i. sym told i ++ end_line ((other_clean.done ∙ sym clean.done) i)) (tells other last again input other_clean other_has other_input_is);
            })
            (says_no_code begins has.uses.0.state has.mid.sources.link has.links.io has.uses.0.ended 0 has.answer.last_code has.uses.0.selected
            ∙ sym (says_no_code other_begins other_has.uses.0.state other_has.mid.sources.link other_has.links.io other_has.uses.0.ended 0 other_has.answer.last_code other_has.uses.0.selected));
        status = taken_status other last again input other_clean other_has other_input_is ∙ sym (ap (λ (s : SelectorState). refused_status s.refused) left) ∙ sym (taken_status one new outcome input clean has input_is);
      }
