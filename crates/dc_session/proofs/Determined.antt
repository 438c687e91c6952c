-- Where the files tell of the disk and of their calls, a session is a function of its state, a line and the files that are left, but for standard error.
use Rattle.std.proofs.Common.{◌≡◌, ℕ, Bool, true, false, List, [], ◌∷◌, ◌++◌, Option, None, Some, refl, ap, sym, subst, ◌∙◌}
use Rattle.std.specs.Prelude.{IfSome, Result, Ok, map as each}
use Rattle.std.specs.List.{list_any}
use Rattle.std.proofs.lemmas.List.{append_cancel_left}
use Rattle.dc_words.specs.declared.stream.Line.{Line}
use Rattle.dc_words.specs.declared.stream.Line.TheVariants.{Whole, TooLong}
use Rattle.dc_outside.specs.Disk.{Disk, bytes_at}
use Rattle.dc_outside.specs.Steps.{after_look}
use Rattle.dc_outside.specs.State.{FilesView}
use Rattle.dc_outside.specs.declared.files.FilesCall.{FilesCall}
use Rattle.dc_outside.specs.declared.files.FilesOp.TheVariants.{Read}
use Rattle.dc_proto.specs.Commands.{heard}
use Rattle.dc_outside.specs.LinkCalls.{Tells}
use Rattle.dc_teletype.specs.declared.teletype.Asked.{Asked}
use Rattle.dc_teletype.specs.declared.teletype.Asked.TheVariants.{Answers}
use Rattle.dc_proto.specs.declared.command.Command.{Command}
use Rattle.dc_proto.specs.declared.command.Heard.{Heard}
use Rattle.dc_proto.specs.declared.command.Heard.TheVariants.{Nothing, Known, Refused}
use Rattle.dc_serve.specs.declared.machine.Response.{Response}
use Rattle.dc_serve.specs.Execution.{Transition, lines_of, state_after, IsExecution}
use Rattle.dc_template.specs.Reading.{Reads, IsBad}
use Rattle.dc_template.specs.Stanzas.{Stanza}
use Rattle.dc_template.proofs.FaultLaws.{one_fault, not_both}
use Rattle.dc_store.specs.Plans.{stored}
use Rattle.dc_session.specs.Alike.{IsSameButErr, AreTransitionsSame, TellSame}
use Rattle.dc_session.specs.Answers.{CommandOutcome, answer}
use Rattle.dc_session.specs.Displays.{Display, Blank, displayed, Shows}
use Rattle.dc_session.specs.Machine.{Handles, TakesLine, Steps, StepsHeard, HasDone, Looks, file_of, sent_in}
use Rattle.dc_session.specs.SessionState.{FilesState, LinkState, ScreenState, SessionState}
use Rattle.dc_session.specs.TemplateFiles.{Finds, HasRead}
use Rattle.dc_session.specs.declared.stepped.StepError.{StepError}
use Rattle.dc_session.specs.declared.stepped.Stepped.{Stepped}
use Rattle.dc_session.specs.declared.template_files.Found.{Found}
use Rattle.dc_session.specs.declared.template_files.Found.TheVariants.{Unreadable, Missing, Faulty, Templates}
use Rattle.dc_session.proofs.SameAnswers.{same_answer, same_display}
use Rattle.dc_session.proofs.TellingLemmas.{takes_tells, none_told, more_told}
use Rattle.dc_session.proofs.TerminalLaws.{AsksNobody, displays_none, takes_nobody}

same_some : {A : Type 0} (a b : A) → Some a ≡ Some b → a ≡ b
same_some a b is = cc

not_none : {A : Type 0} (a : A) → ◌≡◌ {A = Option A} None (Some a) → ⊥
not_none a is = cc

-- the disk and the calls are told
abbrev pub IsTold : Disk → FilesView → Type 0
IsTold disk told = (calls : List FilesCall) × (told ≡ record { disk = Some disk; calls = Some calls })

same_ok : (a b : Asked) → ◌≡◌ {A = Result Asked StepError} (Ok a) (Ok b) → a ≡ b
same_ok a b is = cc

apart : (path : List ℕ) → ◌≡◌ {A = List FilesCall} (record { op = Read; path = path; ok = false } ∷ []) (record { op = Read; path = path; ok = true } ∷ []) → ⊥
apart path is = let same : false ≡ true = ap (λ (calls : List FilesCall). list_any (λ c. c.ok) calls) is in cc

module _ (disk : Disk) (path : List ℕ) (old new : FilesState) (told : IsTold disk old.view) where
  -- a call failed or was answered
  one_answer : new.view ≡ after_look old.view Read path false → new.view ≡ after_look old.view Read path true → ⊥
  one_answer failed done =
      let same : after_look (record { disk = Some disk; calls = Some told.0 }) Read path false ≡ after_look (record { disk = Some disk; calls = Some told.0 }) Read path true
      = subst (λ (t : FilesView). after_look t Read path false ≡ after_look t Read path true) told.1 (sym failed ∙ done) in
      apart path (append_cancel_left told.0 _ _ (same_some _ _ (ap (λ (t : FilesView). t.calls) same)))

  -- what was read stands there
  read_is : (found : Option (List ℕ)) → HasRead path old new found → found ≡ bytes_at disk path
  read_is found read = subst (λ (t : FilesView). IfSome t.disk (λ d. found ≡ bytes_at d path)) told.1 read.found_is

  one_text : (text other : List ℕ) → HasRead path old new (Some text) → HasRead path old new (Some other) → text ≡ other
  one_text text other first second = same_some text other (read_is (Some text) first ∙ sym (read_is (Some other) second))

  one_of : (text : List ℕ) → HasRead path old new None → HasRead path old new (Some text) → ⊥
  one_of text first second = not_none text (read_is None first ∙ sym (read_is (Some text) second))

  one_found : (found other : Found) → Finds path old found new → Finds path old other new → found ≡ other
  one_found Unreadable Unreadable first second = refl
  one_found Unreadable Missing first second = absurd (one_answer first.0 second.told_is)
  one_found Unreadable (Faulty line) first second = absurd (one_answer first.0 second.2.told_is)
  one_found Unreadable (Templates templates) first second = absurd (one_answer first.0 second.1.told_is)
  one_found Missing Unreadable first second = absurd (one_answer second.0 first.told_is)
  one_found Missing Missing first second = refl
  one_found Missing (Faulty line) first second = absurd (one_of second.0 first second.2)
  one_found Missing (Templates templates) first second = absurd (one_of second.0 first second.1)
  one_found (Faulty line) Unreadable first second = absurd (one_answer second.0 first.2.told_is)
  one_found (Faulty line) Missing first second = absurd (one_of first.0 second first.2)
  one_found (Faulty line) (Faulty other) first second =
      let same : first.0 ≡ second.0 = one_text first.0 second.0 first.2 second.2 in
      ap (λ n. Faulty n) (one_fault second.0 line other first.1 second.1 (subst (λ (t : List ℕ). IsBad t line first.1) same first.3) second.3).0
  one_found (Faulty line) (Templates templates) first second =
      absurd (not_both second.0 templates line first.1 second.2 (subst (λ (t : List ℕ). IsBad t line first.1) (one_text first.0 second.0 first.2 second.1) first.3))
  one_found (Templates templates) Unreadable first second = absurd (one_answer second.0 first.1.told_is)
  one_found (Templates templates) Missing first second = absurd (one_of first.0 second first.1)
  one_found (Templates templates) (Faulty line) first second =
      absurd (not_both first.0 templates line second.1 first.2 (subst (λ (t : List ℕ). IsBad t line second.1) (one_text second.0 first.0 second.2 first.1) second.3))
  one_found (Templates templates) (Templates others) first second =
      let reads : Reads second.0 templates = subst (λ (t : List ℕ). Reads t templates) (one_text first.0 second.0 first.1 second.1) first.2 in
      ap (λ (ts : List Stanza). Templates ts) (reads.are ∙ sym second.2.are)

  looked : (ok : Bool) → new.view ≡ after_look old.view Read path ok → IsTold disk new.view
  looked ok is =
      (told.0 ++ record { op = Read; path = path; ok = ok } ∷ [], is ∙ ap (λ (t : FilesView). after_look t Read path ok) told.1)

  finds_told : (found : Found) → Finds path old found new → IsTold disk new.view
  finds_told Unreadable finds = looked false finds.0
  finds_told Missing finds = looked true finds.told_is
  finds_told (Faulty line) finds = looked true finds.2.told_is
  finds_told (Templates templates) finds = looked true finds.1.told_is

module _ (disk : Disk) (old new : FilesState) (told : IsTold disk old.view) where
  pub one_looked : (path : Option (List ℕ)) (found other : Found) → Looks path old found new → Looks path old other new → found ≡ other
  one_looked None found other first second = first.0 ∙ sym second.0
  one_looked (Some path) found other first second = one_found disk path old new told found other first second

  same_told : new ≡ old → IsTold disk new.view
  same_told same = subst (λ (f : FilesState). IsTold disk f.view) (sym same) told

  looks_told : (path : Option (List ℕ)) (found : Found) → Looks path old found new → IsTold disk new.view
  looks_told None found looks = same_told looks.1
  looks_told (Some path) found looks = finds_told disk path old new told found looks

-- ---- one line

module _ (disk : Disk) (old : SessionState) (err : LinkState) (nobody : AsksNobody old) (told : IsTold disk old.files.view) (one other : Stepped) (new left : SessionState) (files : new.files ≡ left.files) where
  -- the same session, with another standard error
  abbrev there : SessionState
  there = record old { err = err }

  -- nothing is shown, and nothing answered
  blank_given : (display : Display) (asked : Asked) (terminal : ScreenState) → display ≡ Blank → Shows old.asking display old.terminal (Ok asked) terminal → (asked ≡ Answers []) × (terminal ≡ old.terminal)
  blank_given display asked terminal blank shows =
      let still : Shows old.asking Blank old.terminal (Ok asked) terminal = subst (λ (d : Display). Shows old.asking d old.terminal (Ok asked) terminal) blank shows in
      (same_ok asked (Answers []) still.0, still.1)

  -- nothing was done
  kept_once : new ≡ old → left ≡ there → IsSameButErr new left
  kept_once new_is left_is = left_is ∙ (λ i. record (sym new_is i) { err = sym (ap (λ (s : SessionState). s.err) left_is) i })

  done_once : (command : Command) → HasDone command old one new → HasDone command there other left → (one ≡ other) × IsSameButErr new left
  done_once command first second =
      let found : first.given.found ≡ second.given.found
      = one_looked disk old.files left.files told (file_of command) first.given.found second.given.found (subst (λ (f : FilesState). Looks (file_of command) old.files first.given.found f) files first.gives.looks) second.gives.looks in
      let unseen = displays_none old nobody command in
      let one_shown = blank_given (displayed old command) first.given.asked new.terminal unseen first.gives.shows in
      let other_shown = blank_given (displayed old command) second.given.asked left.terminal unseen
      (subst (λ (d : Display). Shows old.asking d old.terminal (Ok second.given.asked) left.terminal) (same_display old old.terminal err command) second.gives.shows) in
      let same : first.given ≡ second.given = (λ i. record { found = found i; asked = (one_shown.0 ∙ sym other_shown.0) i }) in
      let terminal : new.terminal ≡ left.terminal = one_shown.1 ∙ sym other_shown.1 in
      let comes : answer old command first.given ≡ answer there command second.given = ap (answer old command) same ∙ sym (same_answer old old.terminal err command second.given) in
      let same_err : err ≡ left.err = sym (ap (λ (s : SessionState). s.err) second.new_is) in (
        first.stepped_is ∙ ap (λ (o : CommandOutcome). o.stepped) comes ∙ sym second.stepped_is,
        second.new_is ∙ (λ i. record old { store = (sym comes i).store; files = sym files i; terminal = sym terminal i; err = same_err i; asking = (sym comes i).asking })
            ∙ ap (λ (s : SessionState). record s { err = left.err }) (sym first.new_is),
      )

  heard_once : (said : Heard) → StepsHeard said old one new → StepsHeard said there other left → (one ≡ other) × IsSameButErr new left
  heard_once Nothing first second = (first.0 ∙ sym second.0, kept_once first.1 second.1)
  heard_once (Known command) first second = done_once command first second
  heard_once (Refused reply) first second = (first.0 ∙ sym second.0, kept_once first.1 second.1)

  steps_once : (line : Line) → Steps old line one new → Steps there line other left → (one ≡ other) × IsSameButErr new left
  steps_once TooLong first second = (first.0 ∙ sym second.0, kept_once first.1 second.1)
  steps_once (Whole line) first second = heard_once (heard old.asking.escape line) first second

-- two turns at a line, in sessions that are the same but for standard error: the same is done, the same is left, and the same is told
pub record TurnsSame (old other : SessionState) (line : Line) (did again : Response) (new left : SessionState) : Type 0 where
  pub does : did ≡ again
  pub leaves : IsSameButErr new left
  pub told : List ℕ
  pub one_tells : Tells told old.err new.err
  pub other_tells : Tells told other.err left.err

pub takes_once : (disk : Disk) (old other : SessionState) → IsSameButErr old other → AsksNobody old → IsTold disk old.files.view → (did again : Response) (new left : SessionState) → new.files ≡ left.files → (line : Line)
    → TakesLine old line did new → TakesLine other line again left → TurnsSame old other line did again new left
takes_once disk old other alike nobody told did again new left files line first second =
    let there : SessionState = record old { err = other.err } in
    let handled : Handles there line again second.mid = subst (λ (s : SessionState). Handles s line again second.mid) alike second.handled in
    let mids : first.mid.files ≡ second.mid.files = sym (ap (λ (s : SessionState). s.files) first.tells.new_is) ∙ files ∙ ap (λ (s : SessionState). s.files) second.tells.new_is in
    let same = steps_once disk old other.err nobody told first.handled.stepped handled.stepped first.mid second.mid mids line first.handled.steps handled.steps in
    record {
      does = first.handled.did_is ∙ ap (sent_in old.asking.escape) same.0 ∙ sym handled.did_is;
      leaves = second.tells.new_is ∙ ap (λ (s : SessionState). record s { store = stored s.store.layers []; err = left.err }) same.1
          ∙ ap (λ (s : SessionState). record s { err = left.err }) (sym first.tells.new_is);
      told = first.mid.store.told;
      one_tells = takes_tells line old new did first;
      other_tells = subst (λ (t : List ℕ). Tells t other.err left.err) (ap (λ (s : SessionState). s.store.told) same.1) (takes_tells line other left again second);
    }

module _ (disk : Disk) (old : SessionState) (told : IsTold disk old.files.view) (did : Stepped) (new : SessionState) where
  state_told : new ≡ old → IsTold disk new.files.view
  state_told same = same_told disk old.files new.files told (ap (λ (s : SessionState). s.files) same)

  heard_told : (said : Heard) → StepsHeard said old did new → IsTold disk new.files.view
  heard_told Nothing steps = state_told steps.1
  heard_told (Known command) steps = looks_told disk old.files new.files told (file_of command) steps.given.found steps.gives.looks
  heard_told (Refused reply) steps = state_told steps.1

  steps_told : (line : Line) → Steps old line did new → IsTold disk new.files.view
  steps_told TooLong steps = state_told steps.1
  steps_told (Whole line) steps = heard_told (heard old.asking.escape line) steps

pub takes_told : (disk : Disk) (old : SessionState) → IsTold disk old.files.view → (did : Response) (new : SessionState) (line : Line) → TakesLine old line did new → IsTold disk new.files.view
takes_told disk old told did new line takes =
    subst (λ (s : SessionState). IsTold disk s.files.view) (sym takes.tells.new_is) (steps_told disk old told takes.handled.stepped takes.mid line takes.handled.steps)

-- ---- courses

abbrev pub files_left : List (Transition SessionState) → List FilesState
files_left transitions = each (λ transition. transition.new.files) transitions

-- two courses do and leave the same, but for standard error, and tell the same
abbrev pub GoSame : SessionState → SessionState → List (Transition SessionState) → List (Transition SessionState) → Type 0
GoSame start other a b = AreTransitionsSame a b × TellSame start.err (state_after start a).err other.err (state_after other b).err

courses : (disk : Disk) (start other : SessionState) (a b : List (Transition SessionState)) → IsSameButErr start other → AsksNobody start → IsTold disk start.files.view → IsExecution TakesLine start a → IsExecution TakesLine other b
    → lines_of a ≡ lines_of b → files_left a ≡ files_left b → GoSame start other a b
courses disk start other [] [] same nobody told first second lines files = (record {}, none_told start.err other.err)
courses disk start other [] (transition ∷ b) same nobody told first second lines files = cc
courses disk start other (transition ∷ a) [] same nobody told first second lines files = cc
courses disk start other (one ∷ a) (two ∷ b) same nobody told first second lines files =
    let line : one.line ≡ two.line = cc in
    let rest : lines_of a ≡ lines_of b = cc in
    let left : one.new.files ≡ two.new.files = cc in
    let later_files : files_left a ≡ files_left b = cc in
    let takes : TakesLine start two.line one.did one.new = subst (λ (l : Line). TakesLine start l one.did one.new) line first.0 in
    let here = takes_once disk start other same nobody told one.did two.did one.new two.new left two.line takes second.0 in
    let later = courses disk one.new two.new a b here.leaves (takes_nobody two.line start one.new one.did nobody takes) (takes_told disk start told one.did one.new two.line takes) first.2 second.2 rest later_files in
    ((here.does, here.leaves, later.0), more_told here.told here.told start.err one.new.err (state_after one.new a).err other.err two.new.err (state_after two.new b).err refl here.one_tells here.other_tells later.1)

pub determined : (disk : Disk) (start other : SessionState) (calls : List FilesCall) (a b : List (Transition SessionState)) → start.files.view ≡ record { disk = Some disk; calls = Some calls } → IsSameButErr start other → AsksNobody start
    → IsExecution TakesLine start a → IsExecution TakesLine other b → lines_of a ≡ lines_of b → files_left a ≡ files_left b → GoSame start other a b
determined disk start other calls a b told same nobody = courses disk start other a b same nobody (calls, told)
