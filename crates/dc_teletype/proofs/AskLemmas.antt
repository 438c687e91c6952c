-- Asking the questions of a dialogue, one after another.
use Rattle.std.proofs.Common.{◌≡◌, inl, ℕ, ◌-◌, ◌<◌, ◌≤◌, length, take, drop, get_or, arith, Bool, List, [], ◌∷◌, ◌++◌, refl, sym, ap, ◌∙◌, append_assoc, Option, Result, Ok, Err}
use Rattle.std.proofs.lemmas.Slice.{between_to_end}
use Rattle.std.proofs.Math.Nat.{le_refl}
use Rattle.dc_frontend.specs.declared.shown.Shown.{Shown}
use Rattle.dc_outside.specs.declared.link.LinkError.{LinkError}
use Rattle.dc_outside.specs.declared.link.LinkError.TheVariants.{OutOfMemory}
use Rattle.dc_outside.specs.declared.link.Piece.{Piece}
use Rattle.dc_outside.specs.declared.link.Piece.TheVariants.{Sent}
use Rattle.dc_outside.specs.Talk.{then_pieces, got}
use Rattle.dc_outside.proofs.LinkLemmas.{AddsWrite}
use Rattle.std.specs.Io.KnownBytes.{prepend_known}
use Rattle.dc_serve.proofs.Talks.{prepend-nil}
use Rattle.dc_teletype.specs.Dialogue.{Step, Stage, Waits, Over, Stops, IsDialogue, puts}
use Rattle.dc_teletype.specs.Prompts.{introduction, prompt}
use Rattle.dc_teletype.specs.TerminalLines.{TypeAhead}
use Rattle.dc_teletype.specs.Inside.{HasHeard, answered_or_back}
use Rattle.dc_teletype.specs.declared.teletype.Answer.{Answer}
use Rattle.dc_teletype.specs.declared.teletype.Asked.{Asked}
use Rattle.dc_teletype.proofs.DialogueLemmas.{goes_then}
use Rattle.dc_teletype.proofs.HearLemmas.{Progress, unsaid_last}
use Rattle.dc_teletype.proofs.TalkLemmas.{Passes, passes_none, passes_then}

module _ {backup : Bool} {start step : Step} {old now : TypeAhead} {talk before : Option (List Piece)} {input middle : Option (List ℕ)} where
  -- the question was answered, or the user goes back
  pub heard_on : Progress backup start step old now talk before input middle → (new : TypeAhead) (new_talk : Option (List Piece)) (left : Option (List ℕ)) (answer : Option Answer) (others : List Shown) (answers : List Answer)
      → HasHeard backup step now new before new_talk middle left (Ok answer) others answers
      → Progress backup start (answered_or_back answer others answers) old new talk new_talk input left
  heard_on progress new new_talk left answer others answers heard = record {
    pieces = progress.pieces ++ heard.pieces;
    passes = passes_then progress.passes (record { told_is = heard.told_is; took = heard.took });
    came = progress.came ++ heard.hears.0;
    goes = goes_then backup start step (answered_or_back answer others answers) old now new progress.came heard.hears.0 progress.pieces heard.pieces progress.goes heard.hears.1;
  }

  -- the terminal stopped there
  pub held_stopped : Progress backup start step old now talk before input middle → (new : TypeAhead) (new_talk : Option (List Piece)) (left : Option (List ℕ)) (error : LinkError) (others : List Shown) (answers : List Answer)
      → HasHeard backup step now new before new_talk middle left (Err error) others answers
      → (result : Result Asked LinkError) → result ≡ Err error → IsDialogue backup start old new talk new_talk input left result
  held_stopped progress new new_talk left error others answers heard result is =
      let came = heard.hears.0 in
      let gone = heard.hears.1 in
      let last = heard.hears.2 in
      let there = heard.hears.3 in
      let ahead = heard.hears.4 in
      let all = passes_then progress.passes (record { told_is = heard.told_is; took = heard.took }) in
      let pieces_are = ap (λ (l : List Piece). progress.pieces ++ l) heard.hears.5 ∙ sym (append_assoc progress.pieces gone last) in
      rw is (record {
        gone = progress.pieces ++ gone;
        last = last;
        told_is = all.told_is ∙ ap (λ (l : List Piece). then_pieces talk l) pieces_are;
        took = all.took ∙ ap (λ (l : List Piece). prepend_known (got l) left) pieces_are;
        came = progress.came ++ came;
        step = there;
        ahead = ahead;
        goes = goes_then backup start step there old now ahead progress.came came progress.pieces gone progress.goes heard.hears.6;
        ends = heard.hears.7;
      })

  -- how it stops behind the progress
  held_stop : Progress backup start step old now talk before input middle → (new : TypeAhead) (new_talk : Option (List Piece)) (left : Option (List ℕ)) (last : List Piece) → Passes before new_talk middle left last
      → (error : LinkError) → Stops error step now last → (result : Result Asked LinkError) → result ≡ Err error
      → IsDialogue backup start old new talk new_talk input left result
  held_stop progress new new_talk left last passes error stops result is =
      let all = passes_then progress.passes passes in
      rw is (record { gone = progress.pieces; last = last; told_is = all.told_is; took = all.took; came = progress.came; step = step; ahead = now; goes = progress.goes; ends = stops })

  pub held_refused : Progress backup start step old now talk before input middle → (new : TypeAhead) (result : Result Asked LinkError) → result ≡ Err OutOfMemory
      → IsDialogue backup start old new talk before input middle result
  held_refused progress new result is = held_stop progress new before middle [] (passes_none before middle) OutOfMemory (inl refl) result is

-- all was said
pub held_end : {backup : Bool} {start : Step} {said : List ℕ} {asked : Asked} {old now : TypeAhead} {talk before : Option (List Piece)} {input middle : Option (List ℕ)}
    → Progress backup start (record { said = said; stage = Over asked }) old now talk before input middle
    → (sent : Option (List Piece)) (left : Option (List ℕ)) → sent ≡ then_pieces before (Sent said ∷ []) → left ≡ middle
    → IsDialogue backup start old now talk sent input left (Ok asked)
held_end {backup} {start} {said} {asked} {old} {now} progress sent left told same =
    let all = passes_then progress.passes (record { told_is = told; took = sym same ∙ prepend-nil left }) in
    record {
      gone = progress.pieces;
      last = Sent said ∷ [];
      told_is = all.told_is;
      took = all.took;
      came = progress.came;
      step = record { said = said; stage = Over asked };
      ahead = now;
      goes = progress.goes;
      ends = (refl, refl, refl);
    }

-- a front of what was to be said was written, or nothing
pub held_unsaid : {backup : Bool} {start : Step} {said : List ℕ} {stage : Stage} {old now : TypeAhead} {talk before : Option (List Piece)} {input middle : Option (List ℕ)}
    → Progress backup start (record { said = said; stage = stage }) old now talk before input middle
    → (sent : Option (List Piece)) (left : Option (List ℕ)) → left ≡ middle → (error : LinkError) → AddsWrite {T = Unit {0}} before sent (Err error) said
    → (result : Result Asked LinkError) → result ≡ Err error
    → IsDialogue backup start old now talk sent input left result
held_unsaid {backup} {start} {said} {stage} {old} {now} {talk} {before} {input} {middle} progress sent left same error adds result is =
    let last = unsaid_last said before sent middle left same error adds stage now in
    held_stop progress now sent left last.0 last.1 error last.2 result is

-- the next question is put
pub put_next : {backup : Bool} {start : Step} {old now : TypeAhead} {talk before : Option (List Piece)} {input middle : Option (List ℕ)}
    → (said longer : List ℕ) (question : Shown) (others : List Shown) (answers : List Answer) (rest : List Shown) → rest ≡ question ∷ others → longer ≡ said ++ introduction question ++ prompt question
    → Progress backup start (puts said rest answers) old now talk before input middle
    → Progress backup start (record { said = longer; stage = Waits question 0 others answers }) old now talk before input middle
put_next {backup} {start} {old} {now} {talk} {before} {input} {middle} said longer question others answers rest whole longer_is progress = rw longer_is (rw whole at progress)

-- the first question and the others
pub list_apart : {X : Type 0} (xs : List X) (x : X) → 1 ≤ length xs → x ≡ get_or xs 0 x → xs ≡ x ∷ take (length xs - 1) (drop 1 xs)
list_apart [] x h e = absurd (omega arith)
list_apart (y ∷ xs) x h e = λ i. sym e i ∷ sym (between_to_end (y ∷ xs) 1 (length (y ∷ xs)) (le_refl _)) i

pub nil_below : {X : Type 0} (xs : List X) → length xs < 1 → xs ≡ []
nil_below [] h = refl
nil_below (x ∷ xs) h = absurd (omega arith)
