-- Laws of selections behind a link.
use Rattle.std.proofs.Common.{◌≡◌, ℕ, List, [], ◌∷◌, ◌++◌, refl, sym, ap, subst, ◌∙◌, true, false, inl, inr, append_assoc, append-nil}
use Rattle.std.specs.Prelude.{Bool, Option, Some, None, Ok, Err}
use Rattle.std.specs.Option.{option_to_list}
use Rattle.dc_text.specs.declared.memory.OutOfMemory.{OutOfMemory}
use Rattle.dc_words.specs.Stream.{all_lines}
use Rattle.dc_words.specs.declared.stream.Line.{Line}
use Rattle.dc_words.specs.declared.stream.Line.TheVariants.{Whole, TooLong}
use Rattle.dc_outside.specs.LinkCalls.{Tells}
use Rattle.dc_outside.specs.State.{LinkState}
use Rattle.dc_outside.specs.Talk.{got}
use Rattle.dc_outside.specs.declared.link.Piece.{Piece}
use Rattle.dc_serve.specs.declared.machine.Response.{Response}
use Rattle.dc_serve.specs.declared.machine.Response.TheVariants.{Silent, Replied}
use Rattle.dc_serve.specs.declared.outcome.LinkEnd.{LinkEnd}
use Rattle.dc_serve.specs.declared.outcome.LinkEnd.TheVariants as link
use Rattle.dc_serve.specs.Execution.{Transition, lines_of, state_after, stops, is_stop, last_code_from, code_after, IsExecution}
use Rattle.dc_serve.specs.LinkRun.{IsLinkRun, Answered}
use Rattle.dc_serve.specs.Said.{said}
use Rattle.dc_serve.proofs.Kept.{run_keeps, run_says_nothing}
use Rattle.dc_store.specs.Plans.{StoreState, stored}
use Rattle.dc_preseed.specs.Joiner.{Joining, Taken, taken, at_start, given, after, all_joined}
use Rattle.dc_preseed.specs.Lines.{Outcome, line_set}
use Rattle.dc_preseed.specs.Selecting.{SelectorState, TakesSelection, LosesSelection, LosesJoined, TellsAll, Finishes, IsSelected, AreDone, DoesText, after_joined, after_line, after_outcome}
use Rattle.dc_preseed.specs.declared.joining.Joined.{Joined}
use Rattle.dc_preseed.specs.declared.selected.Choices.{Choices}
use Rattle.dc_preseed.proofs.JoinLemmas.{joined_one}
use Rattle.dc_preseed.proofs.LineLemmas.{checked_same}

-- ---- nothing is said on the link

silent : (old new : SelectorState) (line : Line) (did : Response) → TakesSelection old line did new → did ≡ Silent
silent old new line did takes = takes.handled.0

pub says_nothing : (start left : SelectorState) (old new : LinkState) (ended : LinkEnd OutOfMemory) (before code : ℕ) (selected : IsSelected start left old new ended before code) → said selected.serves.run.pieces ≡ []
says_nothing start left old new ended before code selected =
    run_says_nothing TakesSelection LosesSelection silent old.talk new.talk old.input new.input start selected.state selected.served before code selected.serves.run

same_code : (code : ℕ) (start : SelectorState) (transitions : List (Transition SelectorState)) → IsExecution TakesSelection start transitions → last_code_from code transitions ≡ code
same_code code start [] course = refl
same_code code start (transition ∷ transitions) course =
    ap (λ (d : Response). last_code_from (code_after code d) transitions) (silent start transition.new transition.line transition.did course.0) ∙ same_code code transition.new transitions course.2

-- the turns before the last one
same_before : (code : ℕ) (start : SelectorState) (gone : List (Transition SelectorState)) (last : Transition SelectorState) → IsExecution TakesSelection start (gone ++ last ∷ []) → (last_code_from code gone ≡ code) × (last.did ≡ Silent)
same_before code start [] last course = (refl, silent start last.new last.line last.did course.0)
same_before code start (transition ∷ gone) last course =
    let later = same_before code transition.new gone last course.2 in
    (ap (λ (d : Response). last_code_from (code_after code d) gone) (silent start transition.new transition.line transition.did course.0) ∙ later.0, later.1)

never_replied : (did : Response) (code : ℕ) (text : List ℕ) → did ≡ Silent → did ≡ Replied code text → ⊥
never_replied did code text first second = cc

code_stays : (served : LinkEnd OutOfMemory) (start new : SelectorState) (transitions : List (Transition SelectorState)) (rest : List Line) (talk : List Piece) (input : Option (List ℕ)) (before code : ℕ)
    → IsExecution TakesSelection start transitions → Answered LosesSelection served start transitions rest talk input before new code → code ≡ before
code_stays link.Done start new transitions rest talk input before code course is = is.are_said.code_is ∙ same_code before start transitions course
code_stays link.LinkFault start new transitions rest talk input before code course is = elim is [
  | inl lost ↦ lost.answered.are_said.code_is ∙ same_code before start transitions course
  | inr cut ↦ absurd (never_replied cut.answered.last.did code cut.answered.text (same_before before start cut.answered.gone cut.answered.last (rw (← cut.answered.turns_are) course)).1 cut.answered.replied)
]
code_stays link.OutOfMemory start new transitions rest talk input before code course is = elim is [
  | inl all ↦ all.1.code_is ∙ same_code before start transitions course
  | inr unsaid ↦ unsaid.code_is ∙ (same_before before start unsaid.gone unsaid.last (rw (← unsaid.turns_are) course)).0
]
code_stays link.TooLong start new transitions rest talk input before code course is = is.answered.are_said.code_is ∙ same_code before start transitions course
code_stays (link.Broken error) start new transitions rest talk input before code course is = is.code_is ∙ same_code before start transitions course

pub says_no_code : (start left : SelectorState) (old new : LinkState) (ended : LinkEnd OutOfMemory) (before code : ℕ) → IsSelected start left old new ended before code → code ≡ before
says_no_code start left old new ended before code selected =
    let run = selected.serves.run in
    code_stays selected.served start selected.state run.transitions run.rest run.pieces old.input before code run.course run.answered

-- ---- lines that are only checked

-- where lines are only checked, the tables stay, and the layers tell nothing
record StaysChecked (old new : SelectorState) : Type 0 where
  layers : old.choices.check ≡ true → new.store.layers ≡ old.store.layers
  told : old.choices.check ≡ true → old.store.told ≡ [] → new.store.told ≡ []
  choices : new.choices ≡ old.choices

-- where the store stays, they do
by_store : (old new : SelectorState) → (old.choices.check ≡ true → new.store ≡ old.store) → new.choices ≡ old.choices → StaysChecked old new
by_store old new stays choices = record {
  layers = λ check. ap (λ (s : StoreState). s.layers) (stays check);
  told = λ check none. ap (λ (s : StoreState). s.told) (stays check) ∙ none;
  choices = choices;
}

outcome_checked : (state : SelectorState) (number : ℕ) (line : List ℕ) (outcome : Outcome) → line_set state.store state.at line state.choices.check state.choices.unseen ≡ outcome → StaysChecked state (after_outcome state number outcome)
outcome_checked state number line (Ok (done, store)) is =
    by_store state (after_outcome state number (Ok (done, store)))
    (λ check. checked_same state.store store state.at state.choices.unseen done line (sym (ap (λ (b : Bool). line_set state.store state.at line b state.choices.unseen) check) ∙ is)) refl
outcome_checked state number line (Err error) is = by_store state (after_outcome state number (Err error)) (λ check. refl) refl

line_checked : (state : SelectorState) (number : ℕ) (line : Line) → StaysChecked state (after_line state number line)
line_checked state number TooLong = by_store state (after_line state number TooLong) (λ check. refl) refl
line_checked state number (Whole line) = outcome_checked state number line _ refl

joined_checked : (state : SelectorState) (joining : Joining) (joined : Option Joined) → StaysChecked state (after_joined (record state { joining = joining }) joined)
joined_checked state joining None = by_store state (after_joined (record state { joining = joining }) None) (λ check. refl) refl
joined_checked state joining (Some joined) =
    let same = line_checked (record state { joining = joining }) joined.first joined.whole in
    record { layers = same.layers; told = same.told; choices = same.choices }

-- what was done is told
told_checked : (state mid new : SelectorState) → StaysChecked state mid → TellsAll mid new → StaysChecked state new
told_checked state mid new same tells = record {
  layers = λ check. ap (λ (s : SelectorState). s.store.layers) tells.new_is ∙ same.layers check;
  told = λ check none. ap (λ (s : SelectorState). s.store.told) tells.new_is;
  choices = ap (λ (s : SelectorState). s.choices) tells.new_is ∙ same.choices;
}

taken_checked : (old new : SelectorState) (line : Line) (did : Response) → TakesSelection old line did new → StaysChecked old new
taken_checked old new line did takes =
    let tk : Taken = taken old.joining line in
    told_checked old takes.mid new (subst (λ (s : SelectorState). StaysChecked old s) (sym takes.handled.1) (joined_checked old tk.joining tk.whole)) takes.tells

lost_checked : (old new : SelectorState) (joined : Option Joined) → LosesJoined old joined new → StaysChecked old new
lost_checked old new joined lost = by_store old new lost.checked lost.choices_are

same_checked : (state new : SelectorState) → new ≡ state → StaysChecked state new
same_checked state new is = by_store state new (λ check. ap (λ (s : SelectorState). s.store) is) (ap (λ (s : SelectorState). s.choices) is)

then_checked : (a b c : SelectorState) → StaysChecked a b → StaysChecked b c → StaysChecked a c
then_checked a b c first second = record {
  layers = λ check. second.layers (ap (λ (s : Choices). s.check) first.choices ∙ check) ∙ first.layers check;
  told = λ check none. second.told (ap (λ (s : Choices). s.check) first.choices ∙ check) (first.told check none);
  choices = second.choices ∙ first.choices;
}

finished_checked : (served ended : LinkEnd OutOfMemory) (state left : SelectorState) → Finishes served state left ended → StaysChecked state left
finished_checked link.Done ended state left finishes = elim finishes [
  | inl last ↦ told_checked state _ left (joined_checked state (record state.joining { held = None }) state.joining.held) last.0
  | inr lost ↦ lost_checked state left state.joining.held lost.0
]
finished_checked link.LinkFault ended state left finishes = same_checked state left finishes.0
finished_checked link.TooLong ended state left finishes = same_checked state left finishes.0
finished_checked link.OutOfMemory ended state left finishes = same_checked state left finishes.0
finished_checked (link.Broken error) ended state left finishes = same_checked state left finishes.0

all_checked : (start left : SelectorState) (old new : LinkState) (ended : LinkEnd OutOfMemory) (before code : ℕ) → IsSelected start left old new ended before code → StaysChecked start left
all_checked start left old new ended before code selected =
    let ran = run_keeps TakesSelection LosesSelection StaysChecked (λ s. same_checked s s refl) then_checked taken_checked (λ s t line error lost. lost_checked s t _ lost) old.talk new.talk old.input new.input start selected.state selected.served before code selected.serves.run in
    then_checked start selected.state left ran (finished_checked selected.served ended selected.state left selected.finishes)

pub checked_tables : (start left : SelectorState) (old new : LinkState) (ended : LinkEnd OutOfMemory) (before code : ℕ) → IsSelected start left old new ended before code → start.choices.check ≡ true → left.store.layers ≡ start.store.layers
checked_tables start left old new ended before code selected check = (all_checked start left old new ended before code selected).layers check

pub checked_silent : (start left : SelectorState) (old new : LinkState) (ended : LinkEnd OutOfMemory) (before code : ℕ) → IsSelected start left old new ended before code → start.choices.check ≡ true → start.store.told ≡ [] → left.store ≡ start.store
checked_silent start left old new ended before code selected check none =
    let all = all_checked start left old new ended before code selected in
    λ i. stored (all.layers check i) ((all.told check none ∙ sym none) i)

-- ---- the joined lines of the whole text

-- what is joined isn't looked at
moved_outcome : (state : SelectorState) (joining : Joining) (number : ℕ) (outcome : Outcome) → after_outcome (record state { joining = joining }) number outcome ≡ record (after_outcome state number outcome) { joining = joining }
moved_outcome state joining number (Ok (done, store)) = refl
moved_outcome state joining number (Err error) = refl

moved_line : (state : SelectorState) (joining : Joining) (number : ℕ) (line : Line) → after_line (record state { joining = joining }) number line ≡ record (after_line state number line) { joining = joining }
moved_line state joining number TooLong = refl
moved_line state joining number (Whole line) = moved_outcome state joining number _

moved_told : (mid new : SelectorState) (joining : Joining) → TellsAll mid new → TellsAll (record mid { joining = joining }) (record new { joining = joining })
moved_told mid new joining tells = record { told = tells.told; new_is = ap (λ (s : SelectorState). record s { joining = joining }) tells.new_is }

-- nothing to tell leaves the link as it was
none_told : (told : List ℕ) (old new : LinkState) → told ≡ [] → (mid : LinkState) × Tells [] old mid × Tells told mid new → new ≡ old
none_told told old new none tells = subst (λ t. Tells t tells.0 new) none tells.2 ∙ tells.1

-- nothing waits to be told, neither of the last line nor of the layers
record IsToldAll (state : SelectorState) : Type 0 where
  untold : state.untold ≡ []
  told : state.store.told ≡ []

-- one turn more in front
turn_done : (start mid new : SelectorState) (j joining : Joining) (whole : Option Joined) (others : List Joined) (last : SelectorState) → IsToldAll start → mid ≡ after_joined (record start { joining = joining }) whole → TellsAll mid new
    → AreDone others (record new { joining = j }) last → AreDone (option_to_list whole ++ others) (record start { joining = j }) last
turn_done start mid new j joining None others last none is tells rest =
    let told : TellsAll (record start { joining = joining; untold = [] }) new = subst (λ (m : SelectorState). TellsAll m new) is tells in
    let err : new.err ≡ start.err = none_told start.store.told start.err new.err none.told told.told in
    let same : ◌≡◌ {A = SelectorState} (record new { joining = j }) (record start { joining = j }) =
    ap (λ (s : SelectorState). record s { joining = j }) told.new_is ∙ (λ i. record start { joining = j; store = stored start.store.layers (sym none.told i); untold = sym none.untold i; err = err i }) in
    subst (λ (s : SelectorState). AreDone others s last) same rest
turn_done start mid new j joining (Some one) others last none is tells rest =
    let told : TellsAll (after_line (record start { joining = joining }) one.first one.whole) new = subst (λ (m : SelectorState). TellsAll m new) is tells in
    let moved = moved_told (after_line (record start { joining = joining }) one.first one.whole) new j told in
    (record new { joining = j }, subst (λ (m : SelectorState). TellsAll m (record new { joining = j })) (sym (moved_line (record start { joining = joining }) j one.first one.whole)) moved, rest)

-- once all is told, nothing waits
told_out : (mid new : SelectorState) → TellsAll mid new → IsToldAll new
told_out mid new tells = record { untold = ap (λ (s : SelectorState). s.untold) tells.new_is; told = ap (λ (s : SelectorState). s.store.told) tells.new_is }

joining_after : (state : SelectorState) (number : ℕ) (outcome : Outcome) → (after_outcome state number outcome).joining ≡ state.joining
joining_after state number (Ok (done, store)) = refl
joining_after state number (Err error) = refl

joining_line : (state : SelectorState) (number : ℕ) (line : Line) → (after_line state number line).joining ≡ state.joining
joining_line state number TooLong = refl
joining_line state number (Whole line) = joining_after state number _

joining_joined : (state : SelectorState) (whole : Option Joined) → (after_joined state whole).joining ≡ state.joining
joining_joined state None = refl
joining_joined state (Some one) = joining_line state one.first one.whole

joining_taken : (old new : SelectorState) (line : Line) (did : Response) → TakesSelection old line did new → new.joining ≡ (taken old.joining line).joining
joining_taken old new line did takes =
    let tk : Taken = taken old.joining line in
    ap (λ (s : SelectorState). s.joining) takes.tells.new_is ∙ ap (λ (s : SelectorState). s.joining) takes.handled.1 ∙ joining_joined (record old { joining = tk.joining }) tk.whole

run_done : (j : Joining) (start : SelectorState) (transitions : List (Transition SelectorState)) (others : List Joined) (last : SelectorState) → IsExecution TakesSelection start transitions → IsToldAll start
    → AreDone others (record (state_after start transitions) { joining = j }) last → AreDone (given start.joining (lines_of transitions) ++ others) (record start { joining = j }) last
run_done j start [] others last course none rest = rest
run_done j start (transition ∷ transitions) others last course none rest =
    let takes = course.0 in
    let tk : Taken = taken start.joining transition.line in
    let later = run_done j transition.new transitions others last course.2 (told_out takes.mid transition.new takes.tells) rest in
    let same = subst (λ (k : Joining). AreDone (given k (lines_of transitions) ++ others) (record transition.new { joining = j }) last) (joining_taken start transition.new transition.line transition.did takes) later in
    subst (λ (all : List Joined). AreDone all (record start { joining = j }) last) (sym (append_assoc (option_to_list tk.whole) (given tk.joining (lines_of transitions)) others))
    (turn_done start takes.mid transition.new j tk.joining tk.whole (given tk.joining (lines_of transitions) ++ others) last none takes.handled.1 takes.tells same)

run_joining : (start : SelectorState) (transitions : List (Transition SelectorState)) → IsExecution TakesSelection start transitions → (state_after start transitions).joining ≡ after start.joining (lines_of transitions)
run_joining start [] course = refl
run_joining start (transition ∷ transitions) course =
    run_joining transition.new transitions course.2 ∙ ap (λ (k : Joining). after k (lines_of transitions)) (joining_taken start transition.new transition.line transition.did course.0)

run_told : (start : SelectorState) (transitions : List (Transition SelectorState)) → IsExecution TakesSelection start transitions → IsToldAll start → IsToldAll (state_after start transitions)
run_told start [] course none = none
run_told start (transition ∷ transitions) course none = run_told transition.new transitions course.2 (told_out course.0.mid transition.new course.0.tells)

no_stop : (did : Response) → did ≡ Silent → is_stop did ≡ false
no_stop did is = ap is_stop is

never_stops : (start : SelectorState) (transitions : List (Transition SelectorState)) → IsExecution TakesSelection start transitions → stops transitions ≡ false
never_stops start [] course = refl
never_stops start (transition ∷ transitions) course = rw (no_stop transition.did (silent start transition.new transition.line transition.did course.0)) (never_stops transition.new transitions course.2)

no_both : (b : Bool) → b ≡ true → b ≡ false → ⊥
no_both b first second = let both : true ≡ false = sym first ∙ second in cc

-- what was done at the end, behind the turns
end_done : (start left : SelectorState) (transitions : List (Transition SelectorState)) (lines : List Line) → IsExecution TakesSelection start transitions → lines_of transitions ≡ lines → start.joining ≡ at_start → IsToldAll start
    → TellsAll (after_joined (record (state_after start transitions) { joining = record (state_after start transitions).joining { held = None } }) (state_after start transitions).joining.held) left
    → AreDone (all_joined lines) start (record left { joining = start.joining })
end_done start left transitions lines course are begun none tells =
    let state : SelectorState = state_after start transitions in
    let last = turn_done state _ left start.joining (record state.joining { held = None }) state.joining.held [] (record left { joining = start.joining }) (run_told start transitions course none) refl tells refl in
    let all = run_done start.joining start transitions (option_to_list state.joining.held ++ []) (record left { joining = start.joining }) course none last in
    let lists : given start.joining (lines_of transitions) ++ (option_to_list state.joining.held ++ []) ≡ all_joined lines =
    ap (λ (l : List Joined). given start.joining (lines_of transitions) ++ l) (append-nil (option_to_list state.joining.held))
    ∙ ap (λ (k : Joining). given start.joining (lines_of transitions) ++ option_to_list k.held) (run_joining start transitions course)
    ∙ ap (λ (k : Joining). given k (lines_of transitions) ++ option_to_list (after k (lines_of transitions)).held) begun ∙ ap all_joined are in
    subst (λ (l : List Joined). AreDone l start (record left { joining = start.joining })) lists all

by_run : (served : LinkEnd OutOfMemory) (start state left : SelectorState) (talk new_talk : Option (List Piece)) (input rest : Option (List ℕ)) (before code : ℕ) (run : IsLinkRun TakesSelection LosesSelection talk new_talk input rest start served state before code)
    → Finishes served state left link.Done → start.joining ≡ at_start → IsToldAll start → DoesText (got run.pieces) start left
by_run link.Done start state left talk new_talk input rest before code run finishes begun none =
    let lines = all_lines (got run.pieces) in
    let are : lines_of run.transitions ≡ lines = elim run.answered.read [
      | inl stop ↦ absurd (no_both (stops run.transitions) stop (never_stops start run.transitions run.course))
      | inr all ↦ all.0
    ] in
    elim finishes [
      | inl last ↦ (
        all_joined lines,
        (joined_one lines (all_joined lines)).1 refl,
        end_done start left run.transitions lines run.course are begun none
            (subst (λ (s : SelectorState). TellsAll (after_joined (record s { joining = record s.joining { held = None } }) s.joining.held) left) run.answered.are_said.state_is last.0),
      )
      | inr lost ↦ absurd (no_memory lost.1)
    ] where
      no_memory : ◌≡◌ {A = LinkEnd OutOfMemory} link.Done link.OutOfMemory → ⊥
      no_memory is = cc
by_run link.LinkFault start state left talk new_talk input rest before code run finishes begun none = absurd (no_fault finishes.1) where
  no_fault : ◌≡◌ {A = LinkEnd OutOfMemory} link.Done link.LinkFault → ⊥
  no_fault is = cc
by_run link.TooLong start state left talk new_talk input rest before code run finishes begun none = absurd (no_fault finishes.1) where
  no_fault : ◌≡◌ {A = LinkEnd OutOfMemory} link.Done link.TooLong → ⊥
  no_fault is = cc
by_run link.OutOfMemory start state left talk new_talk input rest before code run finishes begun none = absurd (no_memory finishes.1) where
  no_memory : ◌≡◌ {A = LinkEnd OutOfMemory} link.Done link.OutOfMemory → ⊥
  no_memory is = cc
by_run (link.Broken error) start state left talk new_talk input rest before code run finishes begun none = absurd (no_memory finishes.1) where
  no_memory : ◌≡◌ {A = LinkEnd OutOfMemory} link.Done link.OutOfMemory → ⊥
  no_memory is = cc

pub does_whole_text : (start left : SelectorState) (old new : LinkState) (before code : ℕ) (selected : IsSelected start left old new link.Done before code) → start.joining ≡ at_start → start.untold ≡ [] → start.store.told ≡ []
    → DoesText (got selected.serves.run.pieces) start left
does_whole_text start left old new before code selected begun none silent =
    by_run selected.served start selected.state left old.talk new.talk old.input new.input before code selected.serves.run selected.finishes begun (record { untold = none; told = silent })
