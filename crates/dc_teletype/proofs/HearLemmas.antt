-- Hearing what a question is answered.
use Rattle.std.proofs.Common.{◌≡◌, inl, inr, ℕ, ◌+◌, ◌<◌, Bool, true, false, codes, List, [], ◌∷◌, ◌++◌, refl, sym, ap, ◌∙◌, subst, Option, Some, Result, Ok, Err}
use Rattle.std.proofs.lemmas.Bool.{leb-false}
use Rattle.dc_serve.proofs.Talks.{then_pieces-nil, prepend-nil}
use Rattle.dc_frontend.specs.declared.shown.Shown.{Shown}
use Rattle.dc_outside.specs.declared.link.LinkError.{LinkError}
use Rattle.dc_outside.specs.declared.link.LinkError.TheVariants.{Failed, OutOfMemory}
use Rattle.dc_outside.specs.declared.link.Piece.{Piece}
use Rattle.dc_outside.specs.declared.link.Piece.TheVariants.{Got, Sent, Cut as CutPiece, Lost}
use Rattle.dc_outside.specs.Talk.{then_pieces}
use Rattle.dc_outside.proofs.LinkLemmas.{AddsWrite}
use Rattle.dc_teletype.specs.Dialogue.{Step, Stage, Waits, Goes, Stops, after_reading, reading_of}
use Rattle.dc_teletype.specs.Prompts.{prompt}
use Rattle.dc_teletype.specs.TerminalLines.{TypeAhead, Reads, ReadsUntil, with_bytes, HasRead}
use Rattle.dc_teletype.specs.Inside.{HasReplied, HasHeard, answer_of, answered_or_back, is_answered}
use Rattle.dc_teletype.specs.declared.answering.Reading.{Reading}
use Rattle.dc_teletype.specs.declared.answering.Reading.TheVariants as reading
use Rattle.dc_teletype.specs.declared.teletype.Answer.{Answer}
use Rattle.dc_teletype.specs.declared.terminal.TerminalLine.{TerminalLine}
use Rattle.dc_teletype.proofs.DialogueLemmas.{goes_then, goes_once}
use Rattle.dc_teletype.proofs.TalkLemmas.{Passes, passes_none, passes_then, passes_sent}

-- how far a dialogue went from a step to a later one
pub record Progress (backup : Bool) (start step : Step) (old now : TypeAhead) (talk new_talk : Option (List Piece)) (input left : Option (List ℕ)) : Type 0 where
  pub pieces : List Piece
  pub passes : Passes talk new_talk input left pieces
  pub came : List (Option TerminalLine)
  pub goes : Goes backup start old came pieces step now

pub hear_start : (backup : Bool) (step : Step) (now : TypeAhead) (talk : Option (List Piece)) (input : Option (List ℕ)) → Progress backup step step now now talk talk input input
hear_start backup step now talk input = record { pieces = []; passes = passes_none talk input; came = []; goes = (refl, refl, refl) }

-- What is said is sent, and a line is read: one turn.
pub hear_turn : {backup : Bool} {start : Step} {said : List ℕ} {question : Shown} {unusable : ℕ} {others : List Shown} {answers : List Answer} {old now : TypeAhead} {talk before : Option (List Piece)} {input middle : Option (List ℕ)}
    → Progress backup start (record { said = said; stage = Waits question unusable others answers }) old now talk before input middle
    → (sent : Option (List Piece)) (left : Option (List ℕ)) → sent ≡ then_pieces before (Sent said ∷ []) → left ≡ middle
    → (new : TypeAhead) (new_talk : Option (List Piece)) (new_left : Option (List ℕ)) (reading : Reading) → HasReplied backup question now new sent new_talk left new_left (Ok reading)
    → Progress backup start (after_reading reading question unusable others answers) old new talk new_talk input new_left
hear_turn {backup} {start} {said} {question} {unusable} {others} {answers} {old} {now} progress sent left told same new new_talk new_left reading reply =
    let came = reply.replies.0 in
    let passes = passes_then progress.passes (passes_sent said told same (record { told_is = reply.told_is; took = reply.took })) in
    record {
      pieces = progress.pieces ++ Sent said ∷ reply.pieces;
      passes = passes;
      came = progress.came ++ came ∷ [];
      goes = goes_then backup start _ (after_reading reading question unusable others answers) old now new progress.came (came ∷ []) progress.pieces (Sent said ∷ reply.pieces) progress.goes
          (goes_once backup (record { said = said; stage = Waits question unusable others answers }) _ now new came reply.pieces reply.replies.1
          (ap (λ (r : Reading). Some (after_reading r question unusable others answers)) (sym reply.replies.2)));
    }

-- the question has its answer, or is put again
pub answer_step : (read : Reading) (question : Shown) (unusable : ℕ) (others : List Shown) (answers : List Answer) → is_answered read (unusable + 1) ≡ true
    → after_reading read question unusable others answers ≡ answered_or_back (answer_of read) others answers
answer_step reading.Back question unusable others answers done = refl
answer_step reading.Keep question unusable others answers done = refl
answer_step (reading.Value value) question unusable others answers done = refl
answer_step reading.Unusable question unusable others answers done = rw done refl

pub again_step : (read : Reading) (said : List ℕ) (question : Shown) (unusable : ℕ) (others : List Shown) (answers : List Answer) → is_answered read (unusable + 1) ≡ false
    → said ≡ codes "Please answer again.\n" ++ prompt question → after_reading read question unusable others answers ≡ record { said = said; stage = Waits question (unusable + 1) others answers }
again_step reading.Back said question unusable others answers on said_is = absurd (cc)
again_step reading.Keep said question unusable others answers on said_is = absurd (cc)
again_step (reading.Value value) said question unusable others answers on said_is = absurd (cc)
again_step reading.Unusable said question unusable others answers on said_is = rw (on, said_is) refl

pub below_by : (read : Reading) (lines : ℕ) → is_answered read lines ≡ false → lines < 64
below_by reading.Back lines on = absurd (cc)
below_by reading.Keep lines on = absurd (cc)
below_by (reading.Value value) lines on = absurd (cc)
below_by reading.Unusable lines on = leb-false 64 lines on

-- ---- how hearing ends

module _ {backup : Bool} {start step : Step} {old now : TypeAhead} {talk before : Option (List Piece)} {input middle : Option (List ℕ)} where
  pub heard_answer : Progress backup start step old now talk before input middle → (answer : Option Answer) (others : List Shown) (answers : List Answer) → step ≡ answered_or_back answer others answers
      → HasHeard backup start old now talk before input middle (Ok answer) others answers
  heard_answer progress answer others answers is = record {
    pieces = progress.pieces;
    told_is = progress.passes.told_is;
    took = progress.passes.took;
    hears = (progress.came, subst (λ (s : Step). Goes backup start old progress.came progress.pieces s now) is progress.goes);
  }

  -- how it stops behind the progress
  pub heard_stop : Progress backup start step old now talk before input middle → (new : TypeAhead) (new_talk : Option (List Piece)) (left : Option (List ℕ)) (last : List Piece) → Passes before new_talk middle left last
      → (error : LinkError) → Stops error step now last → (result : Result (Option Answer) LinkError) → result ≡ Err error → (others : List Shown) (answers : List Answer)
      → HasHeard backup start old new talk new_talk input left result others answers
  heard_stop progress new new_talk left last passes error stops result is others answers =
      let all = passes_then progress.passes passes in
      rw is (record {
        pieces = progress.pieces ++ last;
        told_is = all.told_is;
        took = all.took;
        hears = (progress.came, progress.pieces, last, step, now, refl, progress.goes, stops);
      })

  pub heard_refused : Progress backup start step old now talk before input middle → (new : TypeAhead) (result : Result (Option Answer) LinkError) → result ≡ Err OutOfMemory → (others : List Shown) (answers : List Answer)
      → HasHeard backup start old new talk before input middle result others answers
  heard_refused progress new result is others answers =
      heard_stop progress new before middle [] (passes_none before middle) OutOfMemory (inl refl) result is others answers

pub unsaid_last : (said : List ℕ) (before sent : Option (List Piece)) (middle left : Option (List ℕ)) → left ≡ middle → (error : LinkError) → AddsWrite {T = Unit {0}} before sent (Err error) said
    → (stage : Stage) (now : TypeAhead) → (last : List Piece) × Passes before sent middle left last × Stops error (record { said = said; stage = stage }) now last
unsaid_last said before sent middle left same Failed adds stage now =
    (CutPiece adds.0 ∷ [], record { told_is = adds.3; took = sym same ∙ prepend-nil left }, inl (record { front = adds.0; back = adds.1; said_is = adds.2; pieces_are = refl }))
unsaid_last said before sent middle left same OutOfMemory adds stage now =
    ([], record { told_is = adds ∙ sym (then_pieces-nil before); took = sym same ∙ prepend-nil left }, inl refl)

-- a front of what was to be said was written, or nothing
pub heard_unsaid : {backup : Bool} {start : Step} {said : List ℕ} {stage : Stage} {old now : TypeAhead} {talk before : Option (List Piece)} {input middle : Option (List ℕ)}
    → Progress backup start (record { said = said; stage = stage }) old now talk before input middle
    → (sent : Option (List Piece)) (left : Option (List ℕ)) → left ≡ middle → (error : LinkError) → AddsWrite {T = Unit {0}} before sent (Err error) said
    → (result : Result (Option Answer) LinkError) → result ≡ Err error → (others : List Shown) (answers : List Answer)
    → HasHeard backup start old now talk sent input left result others answers
heard_unsaid {backup} {start} {said} {stage} {old} {now} {talk} {before} {input} {middle} progress sent left same error adds result is others answers =
    let last = unsaid_last said before sent middle left same error adds stage now in
    heard_stop progress now sent left last.0 last.1 error last.2 result is others answers

reading_stop : (error : LinkError) (said : List ℕ) (question : Shown) (unusable : ℕ) (others : List Shown) (answers : List Answer) (now : TypeAhead) (reads : List Piece) → ReadsUntil error now reads
    → Stops error (record { said = said; stage = Waits question unusable others answers }) now (Sent said ∷ reads)
reading_stop Failed said question unusable others answers now reads until_then = inr (record { reads = reads; pieces_are = refl; waiting = record {}; until = until_then })
reading_stop OutOfMemory said question unusable others answers now reads until_then = inr (record { reads = reads; pieces_are = refl; waiting = record {}; until = until_then })

-- all was said, and no line came
pub heard_nothing : {backup : Bool} {start : Step} {said : List ℕ} {question : Shown} {unusable : ℕ} {others : List Shown} {answers : List Answer} {old now : TypeAhead} {talk before : Option (List Piece)} {input middle : Option (List ℕ)}
    → Progress backup start (record { said = said; stage = Waits question unusable others answers }) old now talk before input middle
    → (sent : Option (List Piece)) (left : Option (List ℕ)) → sent ≡ then_pieces before (Sent said ∷ []) → left ≡ middle
    → (new : TypeAhead) (new_talk : Option (List Piece)) (new_left : Option (List ℕ)) (error : LinkError) → HasReplied backup question now new sent new_talk left new_left (Err error)
    → (result : Result (Option Answer) LinkError) → result ≡ Err error
    → HasHeard backup start old new talk new_talk input new_left result others answers
heard_nothing {backup} {start} {said} {question} {unusable} {others} {answers} {old} {now} progress sent left told same new new_talk new_left error reply result is =
    heard_stop progress new new_talk new_left (Sent said ∷ reply.pieces) (passes_sent said told same (record { told_is = reply.told_is; took = reply.took })) error
    (reading_stop error said question unusable others answers now reply.pieces reply.replies) result is others answers

-- what was read can be what comes before memory runs out
pub reads_until : (old : TypeAhead) (pieces : List Piece) (came : Option TerminalLine) (new : TypeAhead) → Reads old pieces came new → ReadsUntil OutOfMemory old pieces
reads_until old [] came new r = record {}
reads_until old (Got bytes ∷ pieces) came new r = (r.0, reads_until (with_bytes old bytes) pieces came new r.1)
reads_until old (Sent bytes ∷ pieces) came new r = absurd r
reads_until old (CutPiece bytes ∷ pieces) came new r = absurd r
reads_until old (Lost ∷ pieces) came new r = absurd r

pub reply_read : {shown : Shown} {backup : Bool} {old new : TypeAhead} {talk new_talk : Option (List Piece)} {input left : Option (List ℕ)} {came : Option TerminalLine}
    → HasRead old new talk new_talk input left (Ok came) → (reading : Reading) → reading ≡ reading_of shown backup came → HasReplied backup shown old new talk new_talk input left (Ok reading)
reply_read {shown} {backup} {old} {new} {talk} {new_talk} {input} {left} {came} read reading is = record { pieces = read.pieces; told_is = read.told_is; took = read.took; replies = (came, read.reads, is) }

pub reply_stopped : {shown : Shown} {backup : Bool} {old new : TypeAhead} {talk new_talk : Option (List Piece)} {input left : Option (List ℕ)} {error : LinkError}
    → HasRead old new talk new_talk input left (Err error) → (result : Result Reading LinkError) → result ≡ Err error → HasReplied backup shown old new talk new_talk input left result
reply_stopped read result is = rw is (record { pieces = read.pieces; told_is = read.told_is; took = read.took; replies = read.reads })

pub reply_refused : {shown : Shown} {backup : Bool} {old new : TypeAhead} {talk new_talk : Option (List Piece)} {input left : Option (List ℕ)} {came : Option TerminalLine}
    → HasRead old new talk new_talk input left (Ok came) → (result : Result Reading LinkError) → result ≡ Err OutOfMemory → HasReplied backup shown old new talk new_talk input left result
reply_refused {shown} {backup} {old} {new} {talk} {new_talk} {input} {left} {came} read result is = rw is (record { pieces = read.pieces; told_is = read.told_is; took = read.took; replies = reads_until old read.pieces came new read.reads })
