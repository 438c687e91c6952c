-- The lines and what is typed determine the replies, in whatever pieces what is typed comes.
use Rattle.std.proofs.Common.{◌≡◌, ℕ, Bool, inl, inr, List, [], ◌∷◌, ◌++◌, Option, None, Some, refl, ap, sym, subst, ◌∙◌}
use Rattle.std.specs.Prelude.{Ok}
use Rattle.std.specs.Io.KnownBytes.{prepend_known, IsAtEnd}
use Rattle.dc_text.specs.Ascii.{newline}
use Rattle.dc_frontend.specs.declared.shown.Shown.{Shown}
use Rattle.dc_outside.proofs.Saying.{sent-append}
use Rattle.dc_outside.specs.State.{LinkState}
use Rattle.dc_outside.specs.Talk.{sent, got, then_pieces}
use Rattle.dc_outside.specs.declared.link.Piece.{Piece}
use Rattle.dc_outside.specs.declared.link.Piece.TheVariants.{Sent}
use Rattle.dc_words.specs.declared.stream.Line.{Line}
use Rattle.dc_serve.specs.Execution.{Transition, lines_of, IsExecution}
use Rattle.dc_serve.specs.declared.machine.Response.{Response}
use Rattle.dc_serve.specs.declared.machine.Response.TheVariants.{Replied}
use Rattle.dc_teletype.specs.Dialogue.{Goes, HeldDialogue, opening}
use Rattle.dc_teletype.specs.TerminalLines.{TypeAhead, TerminalState}
use Rattle.dc_teletype.specs.Typed.{ToldTerminal, DialogueOutcome, IsAsked, IsToldAs, AreTerminalsAlike, dialogue, typed_lines}
use Rattle.dc_teletype.specs.declared.teletype.Asked.{Asked}
use Rattle.dc_teletype.proofs.OutcomeLemmas.{comes_to}
use Rattle.dc_teletype.proofs.TypedLemmas.{one_rest, used_last}
use Rattle.dc_pass.specs.Passing.{counted}
use Rattle.dc_pass.specs.Reading.{calls, Takes}
use Rattle.dc_pass.specs.declared.calls.WireCall.{WireCall}
use Rattle.dc_pass.specs.declared.calls.WireCall.TheVariants.{Ask, Tell}
use Rattle.dc_pass.proofs.AgainLemmas.{takes_one}
use Rattle.dc_answer.specs.Alike.{AreAlike, AreTransitionsAlike}
use Rattle.dc_answer.specs.Answering.{AnswererState, Heeds, HeedsCompleted, TakesWireLine, WritesLine, reply_text}

-- ---- one dialogue

rest_told : (taken : List ℕ) (left : Option (List ℕ)) (input : List ℕ) → Some input ≡ prepend_known taken left → (rest : List ℕ) × (left ≡ Some rest)
rest_told taken None input took = absurd (cc)
rest_told taken (Some rest) input took = (rest, refl)

module _ (backup : Bool) (title : List ℕ) (questions : List Shown) (old new : TerminalState) (asked : Asked) (told : ToldTerminal) (is : IsToldAs old told) (has : HeldDialogue backup title questions old new (Ok asked)) where
  abbrev all_pieces : List Piece
  all_pieces = has.held.gone ++ has.held.last

  left_told : (rest : List ℕ) × (new.link.input ≡ Some rest)
  left_told = rest_told (got all_pieces) new.link.input told.input (sym is.input ∙ has.held.took)

  -- what is told of the terminal then
  abbrev told_then : ToldTerminal
  told_then = record { ahead = new.ahead; talk = told.talk ++ all_pieces; input = left_told.0 }

  asked_there : IsAsked backup (opening title questions) told told_then asked
  asked_there = record {
    held = record {
      gone = has.held.gone;
      last = has.held.last;
      told_is = refl;
      took = sym is.input ∙ has.held.took ∙ ap (λ (l : Option (List ℕ)). prepend_known (got all_pieces) l) left_told.1;
      came = has.held.came;
      step = has.held.step;
      ahead = has.held.ahead;
      goes = subst (λ (a : TypeAhead). Goes backup (opening title questions) a has.held.came has.held.gone has.held.step has.held.ahead) is.ahead has.held.goes;
      ends = has.held.ends;
    };
    ends = λ ended. elim (has.ends ended) [
      | inl was ↦ inl (ap (λ (a : TypeAhead). a.has_ended) (sym is.ahead) ∙ was)
      | inr at ↦ inr (subst IsAtEnd left_told.1 at)
    ];
    used_up = is.used_up;
  }

  is_then : IsToldAs new told_then
  is_then = record {
    ahead = refl;
    talk = has.held.told_is ∙ ap (λ (t : Option (List Piece)). then_pieces t all_pieces) is.talk;
    input = left_told.1;
    used_up = used_last backup (opening title questions) told told_then asked asked_there;
  }

line_told : (text : List ℕ) (old new : TerminalState) (told : ToldTerminal) → IsToldAs old told → WritesLine text old new (Ok tt)
    → IsToldAs new (record { ahead = told.ahead; talk = told.talk ++ Sent (text ++ newline ∷ []) ∷ []; input = told.input })
line_told text old new told is writes = record {
  ahead = writes.ahead ∙ is.ahead;
  talk = ap (λ (k : LinkState). k.talk) writes.said ∙ ap (λ (t : Option (List Piece)). then_pieces t (Sent (text ++ newline ∷ []) ∷ [])) is.talk;
  input = ap (λ (k : LinkState). k.input) writes.said ∙ is.input;
  used_up = is.used_up;
}

-- ---- terminals that are alike stay so, where the same is done on them

module _ (one other new left : TerminalState) (alike : AreTerminalsAlike one other) where
  kept_alike : new ≡ one → left ≡ other → AreTerminalsAlike new left
  kept_alike first second =
      subst (λ (t : TerminalState). AreTerminalsAlike new t) (sym second) (subst (λ (t : TerminalState). AreTerminalsAlike t other) (sym first) alike)

  line_alike : (text : List ℕ) → WritesLine text one new (Ok tt) → WritesLine text other left (Ok tt) → AreTerminalsAlike new left
  line_alike text first second =
      let line : List Piece = Sent (text ++ newline ∷ []) ∷ [] in
      record {
        first = record { ahead = alike.first.ahead; talk = alike.first.talk ++ line; input = alike.first.input };
        second = record { ahead = alike.second.ahead; talk = alike.second.talk ++ line; input = alike.second.input };
        one_is = line_told text one new alike.first alike.one_is first;
        other_is = line_told text other left alike.second alike.other_is second;
        said = sent-append alike.first.talk line ∙ ap (λ (l : List ℕ). l ++ sent line) alike.said ∙ sym (sent-append alike.second.talk line);
        same = alike.same;
      }

  dialogue_alike : (backup : Bool) (title : List ℕ) (questions : List Shown) (asked again : Asked) → HeldDialogue backup title questions one new (Ok asked)
      → HeldDialogue backup title questions other left (Ok again) → (asked ≡ again) × AreTerminalsAlike new left
  dialogue_alike backup title questions asked again first second =
      let start = opening title questions in
      let one_then = told_then backup title questions one new asked alike.first alike.one_is first in
      let other_then = told_then backup title questions other left again alike.second alike.other_is second in
      let one_done = asked_there backup title questions one new asked alike.first alike.one_is first in
      let other_done = asked_there backup title questions other left again alike.second alike.other_is second in
      let one_comes = comes_to backup start alike.first one_then asked one_done in
      let other_comes = comes_to backup start alike.second other_then again other_done in
      let outcome = ap (λ (l : List ℕ). dialogue backup start (typed_lines l)) alike.same in (
        one_comes.asked_is ∙ ap (λ (o : DialogueOutcome). o.asked) outcome ∙ sym other_comes.asked_is,
        record {
          first = one_then;
          second = other_then;
          one_is = is_then backup title questions one new asked alike.first alike.one_is first;
          other_is = is_then backup title questions other left again alike.second alike.other_is second;
          said = one_comes.said ∙ (λ i. alike.said i ++ (outcome i).said) ∙ sym other_comes.said;
          same = one_rest backup start alike.first one_then alike.second other_then asked again one_done other_done alike.same;
        },
      )

  heeds_alike : (call : WireCall) (did again : Response) → Heeds call one did new → Heeds call other again left → (did ≡ again) × AreTerminalsAlike new left
  heeds_alike (Ask title backup shown) did again first second =
      let same = dialogue_alike backup title shown first.0 second.0 first.1 second.1 in
      (first.2 ∙ ap (λ (a : Asked). Replied 0 (reply_text a)) same.0 ∙ sym second.2, same.1)
  heeds_alike (Tell text) did again first second = (first.1 ∙ sym second.1, line_alike text first.0 second.0)

  completed_alike : (completed : Option WireCall) (did again : Response) → HeedsCompleted completed one did new → HeedsCompleted completed other again left
      → (did ≡ again) × AreTerminalsAlike new left
  completed_alike None did again first second = (first.0 ∙ sym second.0, kept_alike first.1 second.1)
  completed_alike (Some call) did again first second = heeds_alike call did again first second

-- ---- lines

line_once : (old other new left : AnswererState) (line : Line) (did again : Response) → AreAlike old other → TakesWireLine old line did new → TakesWireLine other line again left
    → (did ≡ again) × AreAlike new left
line_once old other new left line did again alike first second =
    let taken : (first.completed ≡ second.completed) × (new.lines ≡ left.lines) =
    takes_one other.lines new.lines left.lines line first.completed second.completed
    (subst (λ (l : List Line). Takes calls l line (Ok first.completed) new.lines) alike.lines first.takes) second.takes in
    let same = completed_alike old.terminal other.terminal new.terminal left.terminal alike.terminals second.completed did again
    (subst (λ (c : Option WireCall). HeedsCompleted c old.terminal did new.terminal) taken.0 first.heeds) second.heeds in (
      same.0,
      record {
        lines = taken.1;
        got = first.got_is ∙ ap (λ n. counted n 1) alike.got ∙ sym second.got_is;
        terminals = same.1;
      },
    )

pub courses_alike : (start other : AnswererState) (a b : List (Transition AnswererState)) → AreAlike start other → IsExecution TakesWireLine start a → IsExecution TakesWireLine other b
    → lines_of a ≡ lines_of b → AreTransitionsAlike a b
courses_alike start other [] [] alike first second lines = tt
courses_alike start other [] (two ∷ b) alike first second lines = cc
courses_alike start other (one ∷ a) [] alike first second lines = cc
courses_alike start other (one ∷ a) (two ∷ b) alike first second lines =
    let line : one.line ≡ two.line = cc in
    let rest : lines_of a ≡ lines_of b = cc in
    let takes : TakesWireLine start two.line one.did one.new = subst (λ (l : Line). TakesWireLine start l one.did one.new) line first.0 in
    let here = line_once start other one.new two.new two.line one.did two.did alike takes second.0 in
    (here.0, here.1, courses_alike one.new two.new a b here.1 first.2 second.2 rest)
