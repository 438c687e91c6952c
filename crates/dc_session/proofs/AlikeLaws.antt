-- The lines, the files and what is typed determine a session, in whatever pieces what is typed comes.
use Rattle.std.proofs.Common.{◌≡◌, ℕ, inl, inr, List, [], ◌∷◌, ◌++◌, Option, None, Some, refl, ap, sym, subst, ◌∙◌, append-nil}
use Rattle.std.specs.Prelude.{Result, Ok}
use Rattle.std.specs.Io.KnownBytes.{prepend_known, IsAtEnd}
use Rattle.dc_frontend.specs.declared.shown.Shown.{Shown}
use Rattle.dc_outside.proofs.Saying.{sent-append}
use Rattle.dc_outside.specs.Disk.{Disk}
use Rattle.dc_outside.specs.LinkCalls.{Tells}
use Rattle.dc_outside.specs.Talk.{sent, got, then_pieces}
use Rattle.dc_outside.specs.declared.files.FilesCall.{FilesCall}
use Rattle.dc_outside.specs.declared.link.Piece.{Piece}
use Rattle.dc_outside.specs.declared.link.Piece.TheVariants.{Sent}
use Rattle.dc_text.specs.Ascii.{newline}
use Rattle.dc_words.specs.declared.stream.Line.{Line}
use Rattle.dc_words.specs.declared.stream.Line.TheVariants.{Whole, TooLong}
use Rattle.dc_proto.specs.Commands.{heard}
use Rattle.dc_proto.specs.declared.command.Command.{Command}
use Rattle.dc_proto.specs.declared.command.Heard.{Heard}
use Rattle.dc_proto.specs.declared.command.Heard.TheVariants.{Nothing, Known, Refused}
use Rattle.dc_serve.specs.Execution.{Transition, lines_of, state_after, IsExecution}
use Rattle.dc_serve.specs.declared.machine.Response.{Response}
use Rattle.dc_teletype.specs.Dialogue.{HeldDialogue, Goes, opening}
use Rattle.dc_teletype.specs.TerminalLines.{TypeAhead, TerminalState}
use Rattle.dc_teletype.specs.Typed.{ToldTerminal, DialogueOutcome, IsAsked, IsToldAs, AreTerminalsAlike, dialogue as dialogue_over, typed, typed_lines}
use Rattle.dc_teletype.specs.declared.teletype.Asked.{Asked}
use Rattle.dc_teletype.specs.declared.teletype.Asked.TheVariants.{Answers}
use Rattle.dc_teletype.proofs.OutcomeLemmas.{comes_to}
use Rattle.dc_teletype.proofs.TypedLemmas.{one_rest, used_last}
use Rattle.dc_pass.specs.Passing.{Asks, tell_text}
use Rattle.dc_store.specs.Plans.{stored}
use Rattle.dc_session.specs.Alike.{AreScreensAlike, AreAlike, AreTransitionsAlike, TellSame}
use Rattle.dc_session.specs.Answers.{answer}
use Rattle.dc_session.specs.Displays.{Display, Blank, OneLine, Dialogue, Told, Request, HasLine, HasDialogue, HasTold, HasRequest, displayed, Shows}
use Rattle.dc_session.specs.Machine.{Handles, TakesLine, TellsStore, Steps, StepsHeard, HasDone, Looks, file_of, sent_in}
use Rattle.dc_session.specs.SessionState.{FilesState, LinkState, ReadAhead, ScreenState, SessionState, typed_at}
use Rattle.dc_session.specs.declared.asking.Asking.{Asking}
use Rattle.dc_session.specs.declared.stepped.StepError.{StepError}
use Rattle.dc_session.specs.declared.stepped.Stepped.{Stepped}
use Rattle.dc_session.proofs.Determined.{IsTold, one_looked, takes_told, files_left}
use Rattle.dc_session.proofs.SameAnswers.{same_answer, same_display}
use Rattle.dc_session.proofs.TellingLemmas.{takes_tells, none_told, more_told}
use Rattle.dc_pass.proofs.DeterminedLemmas.{same_answers}

-- ---- one use of a terminal

rest_told : (taken : List ℕ) (left : Option (List ℕ)) (input : List ℕ) → Some input ≡ prepend_known taken left → (rest : List ℕ) × (left ≡ Some rest)
rest_told taken None input took = absurd (cc)
rest_told taken (Some rest) input took = (rest, refl)

module _ (asking : Asking) (questions : List Shown) (old new : TerminalState) (asked : Asked) (told : ToldTerminal) (is : IsToldAs old told) (has : HeldDialogue asking.backup asking.title questions old new (Ok asked)) where
  abbrev all_pieces : List Piece
  all_pieces = has.held.gone ++ has.held.last

  left_told : (rest : List ℕ) × (new.link.input ≡ Some rest)
  left_told = rest_told (got all_pieces) new.link.input told.input (sym is.input ∙ has.held.took)

  -- what is told of the terminal then
  abbrev told_then : ToldTerminal
  told_then = record { ahead = new.ahead; talk = told.talk ++ all_pieces; input = left_told.0 }

  asked_there : IsAsked asking.backup (opening asking.title questions) told told_then asked
  asked_there = record {
    held = record {
      gone = has.held.gone;
      last = has.held.last;
      told_is = refl;
      took = sym is.input ∙ has.held.took ∙ ap (λ (l : Option (List ℕ)). prepend_known (got all_pieces) l) left_told.1;
      came = has.held.came;
      step = has.held.step;
      ahead = has.held.ahead;
      goes = subst (λ (a : TypeAhead). Goes asking.backup (opening asking.title questions) a has.held.came has.held.gone has.held.step has.held.ahead) is.ahead has.held.goes;
      ends = has.held.ends;
    };
    ends = λ ended. elim (has.ends ended) [
      | inl was ↦ inl (ap (λ (a : TypeAhead). a.has_ended) (sym is.ahead) ∙ was)
      | inr at ↦ inr (subst IsAtEnd left_told.1 at)
    ];
    used_up = is.used_up;
  }

  is_then : IsToldAs new told_then
  is_then = record {
    ahead = refl;
    talk = has.held.told_is ∙ ap (λ (t : Option (List Piece)). then_pieces t all_pieces) is.talk;
    input = left_told.1;
    used_up = used_last asking.backup (opening asking.title questions) told told_then asked asked_there;
  }

-- this was said on a terminal of which so much is told, and nothing that is typed there was used
record HasSaid (new : TerminalState) (told : ToldTerminal) (text : List ℕ) : Type 0 where
  told_then : ToldTerminal
  is : IsToldAs new told_then
  said : sent told_then.talk ≡ sent told.talk ++ text
  same : typed told_then ≡ typed told

module _ (text : List ℕ) (old new : TerminalState) (told : ToldTerminal) (is : IsToldAs old told) (ahead : new.ahead ≡ old.ahead) where
  -- in one write
  once_said : new.link ≡ record old.link { talk = then_pieces old.link.talk (Sent text ∷ []) } → HasSaid new told (sent (Sent text ∷ []))
  once_said sends = record {
    told_then = record { ahead = told.ahead; talk = told.talk ++ Sent text ∷ []; input = told.input };
    is = record {
      ahead = ahead ∙ is.ahead;
      talk = ap (λ (k : LinkState). k.talk) sends ∙ ap (λ (t : Option (List Piece)). then_pieces t (Sent text ∷ [])) is.talk;
      input = ap (λ (k : LinkState). k.input) sends ∙ is.input;
      used_up = is.used_up;
    };
    said = sent-append told.talk (Sent text ∷ []);
    same = refl;
  }

  -- nothing was
  none_said : text ≡ [] → new.link ≡ old.link → HasSaid new told (sent (Sent text ∷ []))
  none_said none same = record {
    told_then = told;
    is = record {
      ahead = ahead ∙ is.ahead;
      talk = ap (λ (k : LinkState). k.talk) same ∙ is.talk;
      input = ap (λ (k : LinkState). k.input) same ∙ is.input;
      used_up = is.used_up;
    };
    said = sym (append-nil (sent told.talk)) ∙ ap (λ (l : List ℕ). sent told.talk ++ sent (Sent l ∷ [])) (sym none);
    same = refl;
  }

line_said : (text : List ℕ) (old new : ScreenState) (asked : Asked) (told : ToldTerminal) → IsToldAs (typed_at old) told → HasLine text old new (Ok asked)
    → HasSaid (typed_at new) told (sent (Sent (text ++ newline ∷ []) ∷ []))
line_said text old new asked told is has = once_said (text ++ newline ∷ []) (typed_at old) (typed_at new) told is (ap (λ (a : ReadAhead). a.typed) has.ahead) has.said

told_said : (text : List ℕ) (old new : ScreenState) (asked : Asked) (told : ToldTerminal) → IsToldAs (typed_at old) told → HasTold text old new (Ok asked)
    → HasSaid (typed_at new) told (sent (Sent (tell_text text) ∷ []))
told_said text old new asked told is has = elim has.tells [
  | inl none ↦ none_said (tell_text text) (typed_at old) (typed_at new) told is (ap (λ (a : ReadAhead). a.typed) has.ahead) none.0 none.1
  | inr sends ↦ once_said (tell_text text) (typed_at old) (typed_at new) told is (ap (λ (a : ReadAhead). a.typed) has.ahead) sends
]

-- the same was said on terminals that are alike
both_said : (text : List ℕ) (one other new left : TerminalState) (alike : AreTerminalsAlike one other) → HasSaid new alike.first text → HasSaid left alike.second text → AreTerminalsAlike new left
both_said text one other new left alike first second = record {
  first = first.told_then;
  second = second.told_then;
  one_is = first.is;
  other_is = second.is;
  said = first.said ∙ ap (λ (l : List ℕ). l ++ text) alike.said ∙ sym second.said;
  same = first.same ∙ alike.same ∙ sym second.same;
}

same_ok : (a b : Asked) → ◌≡◌ {A = Result Asked StepError} (Ok a) (Ok b) → a ≡ b
same_ok a b is = cc

held_alike : (asking : Asking) (questions : List Shown) (one other new left : TerminalState) → AreTerminalsAlike one other → (asked again : Asked) → HeldDialogue asking.backup asking.title questions one new (Ok asked)
    → HeldDialogue asking.backup asking.title questions other left (Ok again) → (asked ≡ again) × AreTerminalsAlike new left
held_alike asking questions one other new left alike asked again first second =
    let start = opening asking.title questions in
    let one_then = told_then asking questions one new asked alike.first alike.one_is first in
    let other_then = told_then asking questions other left again alike.second alike.other_is second in
    let one_done = asked_there asking questions one new asked alike.first alike.one_is first in
    let other_done = asked_there asking questions other left again alike.second alike.other_is second in
    let one_comes = comes_to asking.backup start alike.first one_then asked one_done in
    let other_comes = comes_to asking.backup start alike.second other_then again other_done in
    let outcome = ap (λ (l : List ℕ). dialogue_over asking.backup start (typed_lines l)) alike.same in (
      one_comes.asked_is ∙ ap (λ (o : DialogueOutcome). o.asked) outcome ∙ sym other_comes.asked_is,
      record {
        first = one_then;
        second = other_then;
        one_is = is_then asking questions one new asked alike.first alike.one_is first;
        other_is = is_then asking questions other left again alike.second alike.other_is second;
        said = one_comes.said ∙ (λ i. alike.said i ++ (outcome i).said) ∙ sym other_comes.said;
        same = one_rest asking.backup start alike.first one_then alike.second other_then asked again one_done other_done alike.same;
      },
    )

-- terminals and wires that are alike stay so, where the same is shown on them, and the same is answered there
module _ (asking : Asking) (one other new left : ScreenState) (alike : AreScreensAlike one other) (asked again : Asked) where
  moved_alike : new ≡ one → left ≡ other → AreScreensAlike new left
  moved_alike first second =
      subst (λ (t : ScreenState). AreScreensAlike new t) (sym second) (subst (λ (t : ScreenState). AreScreensAlike t other) (sym first) alike)

  -- as many lines of a wire came
  same_got : new.ahead.got ≡ one.ahead.got → left.ahead.got ≡ other.ahead.got → new.ahead.got ≡ left.ahead.got
  same_got first second = first ∙ alike.got ∙ sym second

  line_alike : (text : List ℕ) → HasLine text one new (Ok asked) → HasLine text other left (Ok again) → (asked ≡ again) × AreScreensAlike new left
  line_alike text first second = (
    first.none ∙ sym second.none,
    record {
      terminals = both_said (sent (Sent (text ++ newline ∷ []) ∷ [])) (typed_at one) (typed_at other) (typed_at new) (typed_at left) alike.terminals
          (line_said text one new asked alike.terminals.first alike.terminals.one_is first) (line_said text other left again alike.terminals.second alike.terminals.other_is second);
      got = same_got (ap (λ (a : ReadAhead). a.got) first.ahead) (ap (λ (a : ReadAhead). a.got) second.ahead);
    },
  )

  told_alike : (text : List ℕ) → HasTold text one new (Ok asked) → HasTold text other left (Ok again) → (asked ≡ again) × AreScreensAlike new left
  told_alike text first second = (
    first.none ∙ sym second.none,
    record {
      terminals = both_said (sent (Sent (tell_text text) ∷ [])) (typed_at one) (typed_at other) (typed_at new) (typed_at left) alike.terminals
          (told_said text one new asked alike.terminals.first alike.terminals.one_is first) (told_said text other left again alike.terminals.second alike.terminals.other_is second);
      got = same_got (ap (λ (a : ReadAhead). a.got) first.ahead) (ap (λ (a : ReadAhead). a.got) second.ahead);
    },
  )

  dialogue_alike : (questions : List Shown) → HasDialogue asking questions one new (Ok asked) → HasDialogue asking questions other left (Ok again) → (asked ≡ again) × AreScreensAlike new left
  dialogue_alike questions first second =
      let held = held_alike asking questions (typed_at one) (typed_at other) (typed_at new) (typed_at left) alike.terminals asked again first.dialogue second.dialogue in
      (held.0, record { terminals = held.1; got = same_got first.got second.got })

  request_alike : (questions : List Shown) → HasRequest asking questions one new (Ok asked) → HasRequest asking questions other left (Ok again) → (asked ≡ again) × AreScreensAlike new left
  request_alike questions first second =
      let same = same_answers asking.backup asking.title questions one.ahead.got new.ahead.got left.ahead.got (typed_at one) (typed_at new) (typed_at other) (typed_at left) asked again alike.terminals first
      (subst (λ (n : ℕ). Asks asking.backup asking.title questions n (typed_at other) (typed_at left) (Ok again) left.ahead.got) (sym alike.got) second) in
      (same.0, record { terminals = same.2; got = same.1 })

  shows_alike : (display : Display) → Shows asking display one (Ok asked) new → Shows asking display other (Ok again) left → (asked ≡ again) × AreScreensAlike new left
  shows_alike Blank first second = (same_ok asked (Answers []) first.0 ∙ sym (same_ok again (Answers []) second.0), moved_alike first.1 second.1)
  shows_alike (OneLine text) first second = line_alike text first second
  shows_alike (Dialogue questions) first second = dialogue_alike questions first second
  shows_alike (Told text) first second = told_alike text first second
  shows_alike (Request questions) first second = request_alike questions first second

-- ---- one line

module _ (disk : Disk) (old : SessionState) (terminal : ScreenState) (err : LinkState) (alike : AreScreensAlike old.terminal terminal) (told : IsTold disk old.files.view) (one other : Stepped) (new left : SessionState) (files : new.files ≡ left.files) where
  abbrev there : SessionState
  there = record old { terminal = terminal; err = err }

  -- nothing was done
  kept_alike : new ≡ old → left ≡ there → AreAlike new left
  kept_alike new_is left_is = record {
    rest = left_is ∙ (λ i. record (sym new_is i) { terminal = sym (ap (λ (s : SessionState). s.terminal) left_is) i; err = sym (ap (λ (s : SessionState). s.err) left_is) i });
    terminals = moved_alike old.asking old.terminal terminal new.terminal left.terminal alike (Answers []) (Answers []) (ap (λ (s : SessionState). s.terminal) new_is) (ap (λ (s : SessionState). s.terminal) left_is);
  }

  done_alike : (command : Command) → HasDone command old one new → HasDone command there other left → (one ≡ other) × AreAlike new left
  done_alike command first second =
      let found : first.given.found ≡ second.given.found
      = one_looked disk old.files left.files told (file_of command) first.given.found second.given.found (subst (λ (f : FilesState). Looks (file_of command) old.files first.given.found f) files first.gives.looks) second.gives.looks in
      let shown = shows_alike old.asking old.terminal terminal new.terminal left.terminal alike first.given.asked second.given.asked (displayed old command) first.gives.shows
      (subst (λ (d : Display). Shows old.asking d terminal (Ok second.given.asked) left.terminal) (same_display old terminal err command) second.gives.shows) in
      let given : first.given ≡ second.given = (λ i. record { found = found i; asked = shown.0 i }) in
      let same_err : err ≡ left.err = sym (ap (λ (s : SessionState). s.err) second.new_is) in
      let comes : answer there command second.given ≡ answer old command first.given = same_answer old terminal err command second.given ∙ ap (answer old command) (sym given) in (
        first.stepped_is ∙ sym (ap (λ o. o.stepped) comes) ∙ sym second.stepped_is,
        record {
          rest = second.new_is ∙ (λ i. record old { store = (comes i).store; files = sym files i; terminal = left.terminal; err = same_err i; asking = (comes i).asking })
              ∙ ap (λ (s : SessionState). record s { terminal = left.terminal; err = left.err }) (sym first.new_is);
          terminals = shown.1;
        },
      )

  heard_alike : (said : Heard) → StepsHeard said old one new → StepsHeard said there other left → (one ≡ other) × AreAlike new left
  heard_alike Nothing first second = (first.0 ∙ sym second.0, kept_alike first.1 second.1)
  heard_alike (Known command) first second = done_alike command first second
  heard_alike (Refused reply) first second = (first.0 ∙ sym second.0, kept_alike first.1 second.1)

  steps_alike : (line : Line) → Steps old line one new → Steps there line other left → (one ≡ other) × AreAlike new left
  steps_alike TooLong first second = (first.0 ∙ sym second.0, kept_alike first.1 second.1)
  steps_alike (Whole line) first second = heard_alike (heard old.asking.escape line) first second

heeds_alike : (disk : Disk) (old : SessionState) (terminal : ScreenState) (err : LinkState) → AreScreensAlike old.terminal terminal → IsTold disk old.files.view → (did other : Response) (new left : SessionState) → new.files ≡ left.files → (line : Line)
    → Handles old line did new → Handles (record old { terminal = terminal; err = err }) line other left → (did ≡ other) × AreAlike new left
heeds_alike disk old terminal err alike told did other new left files line first second =
    let same = steps_alike disk old terminal err alike told first.stepped second.stepped new left files line first.steps second.steps in
    (first.did_is ∙ ap (sent_in old.asking.escape) same.0 ∙ sym second.did_is, same.1)

-- what is left once it is told
stored_alike : (mid new other last : SessionState) → AreAlike mid other → TellsStore mid new → TellsStore other last → AreAlike new last
stored_alike mid new other last alike first second =
    let one_terminal : new.terminal ≡ mid.terminal = ap (λ (s : SessionState). s.terminal) first.new_is in
    let other_terminal : last.terminal ≡ other.terminal = ap (λ (s : SessionState). s.terminal) second.new_is in
    record {
      rest = second.new_is ∙ ap (λ (s : SessionState). record s { store = stored s.store.layers []; err = last.err }) alike.rest
          ∙ ap (λ (s : SessionState). record s { terminal = other.terminal; err = last.err }) (sym first.new_is)
          ∙ ap (λ (t : ScreenState). record new { terminal = t; err = last.err }) (sym other_terminal);
      terminals = moved_alike mid.asking mid.terminal other.terminal new.terminal last.terminal alike.terminals (Answers []) (Answers []) one_terminal other_terminal;
    }

-- two turns at a line, in sessions that are alike: the same is done, what is left is alike, and the same is told
pub record TurnsAlike (old other : SessionState) (line : Line) (did again : Response) (new left : SessionState) : Type 0 where
  pub does : did ≡ again
  pub leaves : AreAlike new left
  pub told : List ℕ
  pub one_tells : Tells told old.err new.err
  pub other_tells : Tells told other.err left.err

pub takes_alike : (disk : Disk) (old other : SessionState) → AreAlike old other → IsTold disk old.files.view → (did again : Response) (new left : SessionState) → new.files ≡ left.files → (line : Line)
    → TakesLine old line did new → TakesLine other line again left → TurnsAlike old other line did again new left
takes_alike disk old other alike told did again new left files line first second =
    let there : SessionState = record old { terminal = other.terminal; err = other.err } in
    let handled : Handles there line again second.mid = subst (λ (s : SessionState). Handles s line again second.mid) alike.rest second.handled in
    let mids : first.mid.files ≡ second.mid.files = sym (ap (λ (s : SessionState). s.files) first.tells.new_is) ∙ files ∙ ap (λ (s : SessionState). s.files) second.tells.new_is in
    let same = heeds_alike disk old other.terminal other.err alike.terminals told did again first.mid second.mid mids line first.handled handled in
    record {
      does = same.0;
      leaves = stored_alike first.mid new second.mid left same.1 first.tells second.tells;
      told = first.mid.store.told;
      one_tells = takes_tells line old new did first;
      other_tells = subst (λ (t : List ℕ). Tells t other.err left.err) (ap (λ (s : SessionState). s.store.told) same.1.rest) (takes_tells line other left again second);
    }

-- ---- courses

-- two courses do the same, leave what is alike, and tell the same
abbrev pub GoAlike : SessionState → SessionState → List (Transition SessionState) → List (Transition SessionState) → Type 0
GoAlike start other a b = AreTransitionsAlike a b × TellSame start.err (state_after start a).err other.err (state_after other b).err

-- neither goes on
pub none_alike : (start other : SessionState) → GoAlike start other [] []
none_alike start other = (record {}, none_told start.err other.err)

-- a turn more of each
pub more_alike : (start other : SessionState) (one two : Transition SessionState) (a b : List (Transition SessionState)) (line : Line) → TurnsAlike start other line one.did two.did one.new two.new → GoAlike one.new two.new a b
    → GoAlike start other (one ∷ a) (two ∷ b)
more_alike start other one two a b line here later = (
  (here.does, here.leaves, later.0),
  more_told here.told here.told start.err one.new.err (state_after one.new a).err other.err two.new.err (state_after two.new b).err refl here.one_tells here.other_tells later.1,
)

courses_alike : (disk : Disk) (start other : SessionState) (a b : List (Transition SessionState)) → AreAlike start other → IsTold disk start.files.view → IsExecution TakesLine start a → IsExecution TakesLine other b
    → lines_of a ≡ lines_of b → files_left a ≡ files_left b → GoAlike start other a b
courses_alike disk start other [] [] alike told first second lines files = none_alike start other
courses_alike disk start other [] (transition ∷ b) alike told first second lines files = cc
courses_alike disk start other (transition ∷ a) [] alike told first second lines files = cc
courses_alike disk start other (one ∷ a) (two ∷ b) alike told first second lines files =
    let line : one.line ≡ two.line = cc in
    let rest : lines_of a ≡ lines_of b = cc in
    let left : one.new.files ≡ two.new.files = cc in
    let later_files : files_left a ≡ files_left b = cc in
    let takes : TakesLine start two.line one.did one.new = subst (λ (l : Line). TakesLine start l one.did one.new) line first.0 in
    let here = takes_alike disk start other alike told one.did two.did one.new two.new left two.line takes second.0 in
    more_alike start other one two a b two.line here
    (courses_alike disk one.new two.new a b here.leaves (takes_told disk start told one.did one.new two.line takes) first.2 second.2 rest later_files)

pub alike_courses : (disk : Disk) (start other : SessionState) (calls : List FilesCall) (a b : List (Transition SessionState)) → start.files.view ≡ record { disk = Some disk; calls = Some calls } → AreAlike start other
    → IsExecution TakesLine start a → IsExecution TakesLine other b → lines_of a ≡ lines_of b → files_left a ≡ files_left b → GoAlike start other a b
alike_courses disk start other calls a b told alike = courses_alike disk start other a b alike (calls, told)
