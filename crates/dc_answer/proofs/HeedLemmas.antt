-- What calls and lines come to, and a whole wire.
use Rattle.std.proofs.Common.{◌≡◌, ℕ, Bool, false, List, [], Option, inr, refl, sym, subst}
use Rattle.std.specs.Prelude.{Result, Ok, Err, MatchResult}
use Rattle.dc_words.specs.declared.stream.Line.{Line}
use Rattle.dc_frontend.specs.declared.shown.Shown.{Shown}
use Rattle.dc_outside.specs.State.{LinkState}
use Rattle.dc_serve.specs.LinkRun.{ServesLink}
use Rattle.dc_serve.specs.declared.machine.Response.{Response}
use Rattle.dc_serve.specs.declared.machine.Response.TheVariants.{Replied}
use Rattle.dc_serve.specs.declared.outcome.LinkEnd.{LinkEnd}
use Rattle.dc_teletype.specs.Dialogue.{HeldDialogue}
use Rattle.dc_teletype.specs.TerminalLines.{TypeAhead, TerminalState}
use Rattle.dc_teletype.specs.declared.teletype.Asked.{Asked}
use Rattle.dc_pass.specs.Passing.{counted}
use Rattle.dc_pass.specs.Reading.{calls, Takes}
use Rattle.dc_pass.specs.declared.calls.WireCall.{WireCall}
use Rattle.dc_pass.specs.declared.calls.WireCall.TheVariants.{Ask}
use Rattle.dc_pass.specs.declared.calls.WireError.{WireError}
use Rattle.dc_pass.specs.declared.calls.WireError.TheVariants.{Bad}
use Rattle.dc_answer.specs.Answering.{AnswererState, ComesTo, IsAnswered, IsUnreadable, LosesWireLine, TakesWireLine, answerer_at, reply_text}
use Rattle.dc_answer.specs.declared.answerer.AnswerBreak.{AnswerBreak}
use Rattle.dc_answer.specs.declared.answerer.AnswerBreak.TheVariants.{OutOfMemory}

-- a dialogue was held, and its answers are the reply, unless there is no memory for that
pub held_comes : (backup : Bool) (title : List ℕ) (questions : List Shown) (old new : TerminalState) (asked : Asked) (result : Result Response AnswerBreak)
    → HeldDialogue backup title questions old new (Ok asked) → MatchResult result (λ did. did ≡ Replied 0 (reply_text asked)) (λ error. error ≡ OutOfMemory)
    → ComesTo (Ask title backup questions) old result new
held_comes backup title questions old new asked (Ok did) held is = (asked, held, is)
held_comes backup title questions old new asked (Err error) held is =
    subst (λ (e : AnswerBreak). ComesTo (Ask title backup questions) old (Err e) new) (sym is) (inr (Replied 0 (reply_text asked), (asked, held, refl)))

-- the reader found the line unreadable
pub unreadable : (old new : AnswererState) (line copy : Line) (taken : Result (Option WireCall) WireError) (error : WireError) (number : ℕ) → copy ≡ line → taken ≡ Err error → error ≡ Bad
    → Takes calls old.lines copy taken new.lines → number ≡ counted old.got 1 → new.terminal ≡ old.terminal → IsUnreadable old line number new
unreadable old new line copy taken error number same is bad takes count terminal =
    let found : Takes calls old.lines copy (Err error) new.lines = subst (λ (r : Result (Option WireCall) WireError). Takes calls old.lines copy r new.lines) is takes in
    let of_copy : Takes calls old.lines copy (Err Bad) new.lines = subst (λ (e : WireError). Takes calls old.lines copy (Err e) new.lines) bad found in
    record {
      takes = subst (λ (l : Line). Takes calls old.lines l (Err Bad) new.lines) same of_copy;
      number_is = count;
      terminal_is = terminal;
    }

-- the wire was served from the first state
pub answered_as : (start terminal old new : LinkState) (end : LinkEnd AnswerBreak) (lines : List Line) (ahead : TypeAhead) (state : AnswererState) (code : ℕ)
    → lines ≡ [] → ahead ≡ record { held = []; has_ended = false }
    → ServesLink TakesWireLine LosesWireLine old new (record { lines = lines; got = 0; terminal = record { link = start; ahead = ahead } }) end state 0 code
    → terminal ≡ state.terminal.link → IsAnswered start terminal old new end
answered_as start terminal old new end lines ahead state code none nothing serves is = record {
  state = state;
  code = code;
  serves = subst (λ (l : List Line). ServesLink TakesWireLine LosesWireLine old new (record (answerer_at start) { lines = l }) end state 0 code) none
      (subst (λ (a : TypeAhead). ServesLink TakesWireLine LosesWireLine old new (record { lines = lines; got = 0; terminal = record { link = start; ahead = a } }) end state 0 code) nothing serves);
  terminal_is = is;
}
