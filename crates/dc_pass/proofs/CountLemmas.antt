-- What asking over the wire counts on the link, and when the input of the link has ended.
use Rattle.std.proofs.Common.{◌≡◌, inl, inr, ℕ, Bool, List, [], ◌∷◌, ◌++◌, refl, sym, ap, subst, ◌∙◌, append_assoc, Option, Some, None, Result, Ok, Err}
use Rattle.std.specs.Io.KnownBytes.{prepend_known}
use Rattle.dc_frontend.specs.declared.shown.Shown.{Shown}
use Rattle.dc_outside.specs.Counts.{Counts}
use Rattle.dc_outside.specs.LinkCalls.{Sends}
use Rattle.dc_outside.specs.State.{LinkState}
use Rattle.dc_outside.specs.Talk.{got}
use Rattle.dc_outside.specs.declared.link.LinkError.{LinkError}
use Rattle.dc_outside.specs.declared.link.LinkError.TheVariants as failed
use Rattle.dc_teletype.specs.TerminalLines.{TerminalState, EndsWell}
use Rattle.dc_teletype.specs.declared.teletype.Asked.{Asked}
use Rattle.dc_teletype.specs.declared.terminal.TerminalLine.{TerminalLine}
use Rattle.dc_teletype.proofs.ReadLemmas.{ends_then}
use Rattle.dc_pass.specs.declared.pass.PassError.{PassError}
use Rattle.dc_pass.specs.declared.pass.PassError.TheVariants.{Failed, Bad, OutOfMemory}
use Rattle.dc_pass.specs.Passing.{NextLine, LinesCome, Hears, IsAsked, IsUnasked, Requests, Asks, WireCounts, sent_questions, sent_title}
use Rattle.dc_pass.specs.Reading.{Form, replies}

-- ---- what stays, and what is used

prepend-nil : (left : Option (List ℕ)) → left ≡ prepend_known [] left
prepend-nil None = refl
prepend-nil (Some bytes) = refl

prepend-append : (a b : List ℕ) (left : Option (List ℕ)) → prepend_known a (prepend_known b left) ≡ prepend_known (a ++ b) left
prepend-append a b None = refl
prepend-append a b (Some bytes) = ap (λ (l : List ℕ). Some l) (sym (append_assoc a b bytes))

-- the program stays, so much of the input is used, and the input has ended only where it had, or none of it is left
record Passes (old new : TerminalState) : Type 0 where
  program : new.link.program ≡ old.link.program
  gone : List ℕ
  took : old.link.input ≡ prepend_known gone new.link.input
  ends : EndsWell old.ahead new.ahead new.link.input

passes_none : (old : TerminalState) → Passes old old
passes_none old = record { program = refl; gone = []; took = prepend-nil old.link.input; ends = λ ended. inl ended }

passes_same : (old new : TerminalState) → new ≡ old → Passes old new
passes_same old new same = subst (Passes old) (sym same) (passes_none old)

passes_then : (old between new : TerminalState) → Passes old between → Passes between new → Passes old new
passes_then old between new first second = record {
  program = second.program ∙ first.program;
  gone = first.gone ++ second.gone;
  took = first.took ∙ ap (prepend_known first.gone) second.took ∙ prepend-append first.gone second.gone new.link.input;
  ends = ends_then old.ahead between.ahead new.ahead second.gone between.link.input new.link.input second.took first.ends second.ends;
}

next_passes : (old new : TerminalState) (result : Result (Option TerminalLine) LinkError) → NextLine old new result → Passes old new
next_passes old new result next = record { program = next.program; gone = got next.read.pieces; took = next.read.took; ends = next.end }

-- ---- lines that come

lines_pass : (old new : TerminalState) (lines : List TerminalLine) → LinesCome old lines new → Passes old new
lines_pass old new [] came = passes_same old new came
lines_pass old new (line ∷ lines) came = passes_then old came.0 new (next_passes old came.0 (Ok (Some line)) came.1) (lines_pass came.0 new lines came.2)

lines_count : (old new : TerminalState) (lines : List TerminalLine) → LinesCome old lines new → new.link.counts ≡ old.link.counts
lines_count old new [] came = ap (λ (t : TerminalState). t.link.counts) came
lines_count old new (line ∷ lines) came = lines_count came.0 new lines came.2 ∙ came.1.counts

-- it was counted so behind what counted nothing
counts_then : {T : Type 0} → (result : Result T PassError) (before between now : Counts) → between ≡ before → WireCounts result between now → WireCounts result before now
counts_then result before between now same counts = subst (λ (c : Counts). WireCounts result c now) same counts

-- ---- a reply

module _ (form : Form Asked) (before : ℕ) (old new : TerminalState) (now : ℕ) where
  hears_pass : (result : Result (Option Asked) PassError) → Hears form before old new result now → Passes old new
  hears_pass (Ok (Some asked)) hears = lines_pass old new hears.0 hears.1
  hears_pass (Ok None) hears = passes_then old hears.1 new (lines_pass old hears.1 hears.0 hears.2) (next_passes hears.1 new (Ok None) hears.4)
  hears_pass (Err (Bad line)) hears = lines_pass old new (hears.0 ++ hears.1 ∷ []) hears.2
  hears_pass (Err Failed) hears = passes_then old hears.1 new (lines_pass old hears.1 hears.0 hears.2) (next_passes hears.1 new (Err failed.Failed) hears.4)
  hears_pass (Err OutOfMemory) (lines, between, came, inl same, now_is) = passes_then old between new (lines_pass old between lines came) (passes_same between new same)
  hears_pass (Err OutOfMemory) (lines, between, came, inr next, now_is) =
      passes_then old between new (lines_pass old between lines came) (next_passes between new (Err failed.OutOfMemory) next)

  hears_count : (result : Result (Option Asked) PassError) → Hears form before old new result now → WireCounts result old.link.counts new.link.counts
  hears_count (Ok (Some asked)) hears = lines_count old new hears.0 hears.1
  hears_count (Ok None) hears = hears.4.counts ∙ lines_count old hears.1 hears.0 hears.2
  hears_count (Err (Bad line)) hears = lines_count old new (hears.0 ++ hears.1 ∷ []) hears.2
  hears_count (Err Failed) hears =
      counts_then {T = Option Asked} (Err Failed) old.link.counts hears.1.link.counts new.link.counts (lines_count old hears.1 hears.0 hears.2) hears.4.counts
  hears_count (Err OutOfMemory) (lines, between, came, inl same, now_is) = inr (ap (λ (t : TerminalState). t.link.counts) same ∙ lines_count old between lines came)
  hears_count (Err OutOfMemory) (lines, between, came, inr next, now_is) =
      counts_then {T = Option Asked} (Err OutOfMemory) old.link.counts between.link.counts new.link.counts (lines_count old between lines came) next.counts

-- ---- a request

module _ (backup : Bool) (title : List ℕ) (sent : List Shown) (before : ℕ) (old new : TerminalState) (now : ℕ) where
  asked_passes : (heard : Result (Option Asked) PassError) → IsAsked backup title sent before old new heard now → Passes old new
  asked_passes heard asked =
      let there : TerminalState = record { link = asked.link; ahead = old.ahead } in
      let goes : Passes old there = record {
        program = ap (λ (k : LinkState). k.program) asked.sends;
        gone = [];
        took = prepend-nil old.link.input ∙ ap (λ (k : LinkState). prepend_known [] k.input) (sym asked.sends);
        ends = λ ended. inl ended;
      } in
      passes_then old there new goes (hears_pass (replies backup sent) before there new now heard asked.hears)

  asked_counts : (heard : Result (Option Asked) PassError) → IsAsked backup title sent before old new heard now → WireCounts heard old.link.counts new.link.counts
  asked_counts heard asked =
      let there : TerminalState = record { link = asked.link; ahead = old.ahead } in
      counts_then heard old.link.counts asked.link.counts new.link.counts (ap (λ (k : LinkState). k.counts) asked.sends)
      (hears_count (replies backup sent) before there new now heard asked.hears)

  -- the request didn't go out whole, and the link's program, its input and what came stay
  stays_by : new.link.program ≡ old.link.program → new.link.input ≡ old.link.input → new.ahead ≡ old.ahead → Passes old new
  stays_by program input ahead = record {
    program = program;
    gone = [];
    took = prepend-nil old.link.input ∙ ap (prepend_known []) (sym input);
    ends = λ ended. inl (ap (λ a. a.has_ended) (sym ahead) ∙ ended);
  }

  unasked_passes : (error : LinkError) → IsUnasked backup title sent before old new error now → Passes old new
  unasked_passes failed.Failed unasked =
      stays_by (ap (λ (k : LinkState). k.program) unasked.sends.state) (ap (λ (k : LinkState). k.input) unasked.sends.state) unasked.ahead_is
  unasked_passes failed.OutOfMemory unasked =
      stays_by (ap (λ (k : LinkState). k.program) unasked.sends.state) (ap (λ (k : LinkState). k.input) unasked.sends.state) unasked.ahead_is

  requests_pass : (heard : Result (Option Asked) PassError) → Requests backup title sent before old new heard now → Passes old new
  requests_pass (Ok heard) requests = asked_passes (Ok heard) requests
  requests_pass (Err (Bad line)) requests = asked_passes (Err (Bad line)) requests
  requests_pass (Err Failed) (inl unasked) = unasked_passes failed.Failed unasked
  requests_pass (Err Failed) (inr asked) = asked_passes (Err Failed) asked
  requests_pass (Err OutOfMemory) (inl untouched) = passes_same old new untouched.0
  requests_pass (Err OutOfMemory) (inr (inl unasked)) = unasked_passes failed.OutOfMemory unasked
  requests_pass (Err OutOfMemory) (inr (inr asked)) = asked_passes (Err OutOfMemory) asked

  requests_count : (heard : Result (Option Asked) PassError) → Requests backup title sent before old new heard now → WireCounts heard old.link.counts new.link.counts
  requests_count (Ok heard) requests = asked_counts (Ok heard) requests
  requests_count (Err (Bad line)) requests = asked_counts (Err (Bad line)) requests
  requests_count (Err Failed) (inl unasked) = unasked.sends.rose
  requests_count (Err Failed) (inr asked) = asked_counts (Err Failed) asked
  requests_count (Err OutOfMemory) (inl untouched) = inr (ap (λ (t : TerminalState). t.link.counts) untouched.0)
  requests_count (Err OutOfMemory) (inr (inl unasked)) = inl unasked.sends.rose
  requests_count (Err OutOfMemory) (inr (inr asked)) = asked_counts (Err OutOfMemory) asked

-- ---- asking

module _ (backup : Bool) (title : List ℕ) (shown : List Shown) (before now : ℕ) (old new : TerminalState) where
  asks_pass : (result : Result Asked PassError) → Asks backup title shown before old new result now → Passes old new
  asks_pass (Ok asked) (inl none) = passes_same old new none.1.0
  asks_pass (Ok asked) (inr some) = requests_pass backup (sent_title title) (sent_questions shown) before old new now (Ok some.0) some.1
  asks_pass (Err (Bad line)) asks = requests_pass backup (sent_title title) (sent_questions shown) before old new now (Err (Bad line)) asks
  asks_pass (Err Failed) asks = requests_pass backup (sent_title title) (sent_questions shown) before old new now (Err Failed) asks
  asks_pass (Err OutOfMemory) (inl untouched) = passes_same old new untouched.0
  asks_pass (Err OutOfMemory) (inr (inl requests)) = requests_pass backup (sent_title title) (sent_questions shown) before old new now (Err OutOfMemory) requests
  asks_pass (Err OutOfMemory) (inr (inr heard)) = requests_pass backup (sent_title title) (sent_questions shown) before old new now (Ok heard.0) heard.1

pub asks_program : (backup : Bool) (title : List ℕ) (shown : List Shown) (before now : ℕ) (old new : TerminalState) (result : Result Asked PassError)
    → Asks backup title shown before old new result now → new.link.program ≡ old.link.program
asks_program backup title shown before now old new result asks = (asks_pass backup title shown before now old new result asks).program

pub asks_end : (backup : Bool) (title : List ℕ) (shown : List Shown) (before now : ℕ) (old new : TerminalState) (result : Result Asked PassError)
    → Asks backup title shown before old new result now → EndsWell old.ahead new.ahead new.link.input
asks_end backup title shown before now old new result asks = (asks_pass backup title shown before now old new result asks).ends

pub asks_counts : (backup : Bool) (title : List ℕ) (shown : List Shown) (before now : ℕ) (old new : TerminalState) (result : Result Asked PassError)
    → Asks backup title shown before old new result now → WireCounts result old.link.counts new.link.counts
asks_counts backup title shown before now old new (Ok asked) (inl none) = ap (λ (t : TerminalState). t.link.counts) none.1.0
asks_counts backup title shown before now old new (Ok asked) (inr some) = requests_count backup (sent_title title) (sent_questions shown) before old new now (Ok some.0) some.1
asks_counts backup title shown before now old new (Err (Bad line)) asks = requests_count backup (sent_title title) (sent_questions shown) before old new now (Err (Bad line)) asks
asks_counts backup title shown before now old new (Err Failed) asks = requests_count backup (sent_title title) (sent_questions shown) before old new now (Err Failed) asks
asks_counts backup title shown before now old new (Err OutOfMemory) (inl untouched) = inr (ap (λ (t : TerminalState). t.link.counts) untouched.0)
asks_counts backup title shown before now old new (Err OutOfMemory) (inr (inl requests)) =
    requests_count backup (sent_title title) (sent_questions shown) before old new now (Err OutOfMemory) requests
asks_counts backup title shown before now old new (Err OutOfMemory) (inr (inr heard)) =
    inr (requests_count backup (sent_title title) (sent_questions shown) before old new now (Ok heard.0) heard.1)
