-- What a dialogue comes to is what its lines say.
use Rattle.std.proofs.Common.{◌≡◌, inl, inr, ℕ, ◌≤◌, ◌<◌, Bool, false, List, [], ◌∷◌, ◌++◌, length, refl, sym, ap, ◌∙◌, append_assoc, append-nil, arith, Option, Some, None}
use Rattle.std.specs.Prelude.{◌==◌, nat_lt, option_to_list}
use Rattle.std.proofs.lemmas.Bool.{cases_Bool, ltb-true, ltb-false, lt-ltb}
use Rattle.std.proofs.lemmas.List.{length-append}
use Rattle.dc_text.specs.Ascii.{newline}
use Rattle.dc_text.specs.Lines.{has_newline}
use Rattle.dc_frontend.specs.declared.shown.Shown.{Shown}
use Rattle.dc_teletype.specs.declared.teletype.Answer.{Answer}
use Rattle.dc_teletype.specs.declared.teletype.Asked.{Asked}
use Rattle.dc_outside.specs.declared.link.Piece.{Piece}
use Rattle.dc_outside.specs.declared.link.Piece.TheVariants.{Got, Sent, Cut as CutPiece, Lost}
use Rattle.dc_teletype.specs.declared.terminal.TerminalLine.{TerminalLine}
use Rattle.dc_teletype.specs.declared.terminal.TerminalLine.TheVariants.{Cut}
use Rattle.dc_outside.proofs.Saying.{sent-append}
use Rattle.dc_outside.specs.Talk.{sent, got}
use Rattle.dc_teletype.specs.TerminalLines.{TypeAhead, Reads, longest, last_line, first_line}
use Rattle.dc_teletype.specs.Dialogue.{Step, Stage, Waits, Over, Goes, turn}
use Rattle.dc_teletype.specs.Typed.{ToldTerminal, DialogueOutcome, IsAsked, IsUsedUp, ComesTo, lines_behind, typed_lines, saying, dialogue, dialogue_from, typed}
use Rattle.dc_teletype.proofs.FirstLineLemmas.{first_of_none, first_at_newline, first_at_limit, none_yet, same_some}
use Rattle.dc_teletype.proofs.TypedLemmas.{Next, next_by, next_of, no_turn, used_first, came_next, used_there, input_is}

-- ---- lines

-- a line that came stands before the others
abbrev came_then : Option TerminalLine → List TerminalLine → List TerminalLine
came_then None lines = []
came_then (Some line) lines = line ∷ lines

abbrev then_lines : Next → List TerminalLine
then_lines next = came_then next.came (typed_lines next.rest)

last_lines : (rest : List ℕ) → option_to_list (last_line rest) ≡ came_then (last_line rest) []
last_lines [] = refl
last_lines (byte ∷ bytes) = refl

-- a line can be one byte long
some_long : 0 < longest
unfolding longest
some_long = omega arith

lines_of_one : (byte : ℕ) (bytes : List ℕ) → (byte == newline) ≡ false → typed_lines (byte ∷ bytes) ≡ lines_behind (byte ∷ []) bytes
lines_of_one byte bytes on = rw (on, lt-ltb 0 longest some_long) refl

behind_next : (bytes front : List ℕ) → has_newline front ≡ false → length front ≤ longest → lines_behind front bytes ≡ then_lines (next_of (front ++ bytes))
behind_next [] front none short =
    last_lines front ∙ sym (ap (λ (f : Option (TerminalLine × List ℕ)). then_lines (next_by front f)) (first_of_none front none short)) ∙ sym (ap (λ (l : List ℕ). then_lines (next_of l)) (append-nil front))
behind_next (byte ∷ bytes) front none short = elim (cases_Bool (byte == newline)) [
  | inl ends ↦ rw ends (sym (ap (λ (f : Option (TerminalLine × List ℕ)). then_lines (next_by (front ++ byte ∷ bytes) f)) (first_at_newline front none short byte bytes ends)))
  | inr on ↦ elim (cases_Bool (nat_lt (length front) longest)) [
    | inl more ↦
        let room : length (front ++ byte ∷ []) ≤ longest = rw length-append (let below = ltb-true (length front) longest more in omega arith) in
        rw (on, more) (behind_next bytes (front ++ byte ∷ []) (none_yet front none short byte on) room ∙ ap (λ (l : List ℕ). then_lines (next_of l)) (append_assoc front (byte ∷ []) bytes))
    | inr full ↦
        rw (on, full) (ap (λ (ls : List TerminalLine). Cut ∷ ls) (sym (lines_of_one byte bytes on))
        ∙ sym (ap (λ (f : Option (TerminalLine × List ℕ)). then_lines (next_by (front ++ byte ∷ bytes) f)) (first_at_limit front none short byte bytes on (ltb-false (length front) longest full))))
  ]
]

-- the lines that are typed are the next one and those behind it
typed_next : (bytes : List ℕ) → typed_lines bytes ≡ then_lines (next_of bytes)
typed_next bytes = behind_next bytes [] refl (omega arith)

-- ---- what is said

-- nothing is said where a line is read
reads_sent : (old new : TypeAhead) (pieces : List Piece) (came : Option TerminalLine) → Reads old pieces came new → sent pieces ≡ []
reads_sent old new [] came reads = refl
reads_sent old new (Got bytes ∷ pieces) came reads = reads_sent (record { held = old.held ++ bytes; has_ended = old.has_ended }) new pieces came reads.1
reads_sent old new (Sent bytes ∷ pieces) came reads = absurd reads
reads_sent old new (CutPiece bytes ∷ pieces) came reads = absurd reads
reads_sent old new (Lost ∷ pieces) came reads = absurd reads

saying_twice : (a b : List ℕ) (outcome : DialogueOutcome) → saying a (saying b outcome) ≡ saying (a ++ b) outcome
saying_twice a b outcome = ap (λ (l : List ℕ). record outcome { said = l }) (sym (append_assoc a b outcome.said))

turn_sent : (said : List ℕ) (reads later : List Piece) (pieces : List Piece) → sent reads ≡ [] → pieces ≡ Sent said ∷ (reads ++ later) → sent pieces ≡ said ++ sent later
turn_sent said reads later pieces none is =
    ap sent is ∙ ap (λ (l : List ℕ). said ++ l) (sent-append reads later) ∙ ap (λ (l : List ℕ). said ++ (l ++ sent later)) none

-- ---- turns

module _ (backup : Bool) where
  kept_turn : (said : List ℕ) (shown : Shown) (unusable : ℕ) (others : List Shown) (answers : List Answer) (next : Step) → turn backup (Waits shown unusable others answers) None ≡ Some next
      → dialogue_from backup [] said (Waits shown unusable others answers) ≡ saying said (dialogue_from backup [] next.said next.stage)
  kept_turn said shown unusable [] answers next is = ap (λ (s : Step). saying said (dialogue_from backup [] s.said s.stage)) (same_some _ next is)
  kept_turn said shown unusable (other ∷ others) answers next is = ap (λ (s : Step). saying said (dialogue_from backup [] s.said s.stage)) (same_some _ next is)

  -- a line is used, or the end of the input
  turn_by : (stage : Stage) (came : Option TerminalLine) (lines : List TerminalLine) (said : List ℕ) (next : Step) → (came ≡ None → lines ≡ []) → turn backup stage came ≡ Some next
      → dialogue_from backup (came_then came lines) said stage ≡ saying said (dialogue_from backup lines next.said next.stage)
  turn_by (Over asked) came lines said next none is = absurd (no_turn backup came (Over asked) asked next refl is)
  turn_by (Waits shown unusable others answers) None lines said next none is =
      kept_turn said shown unusable others answers next is ∙ ap (λ (l : List TerminalLine). saying said (dialogue_from backup l next.said next.stage)) (sym (none refl))
  turn_by (Waits shown unusable others answers) (Some line) lines said next none is = ap (λ (s : Step). saying said (dialogue_from backup lines s.said s.stage)) (same_some _ next is)

  none_typed : (bytes : List ℕ) (first : Option (TerminalLine × List ℕ)) → (next_by bytes first).came ≡ None → typed_lines (next_by bytes first).rest ≡ []
  none_typed bytes None none = refl
  none_typed bytes (Some first) none = absurd (cc)

  -- a course of turns is said before what the dialogue comes to then
  goes_on : (came : List (Option TerminalLine)) (start new : Step) (ahead last : TypeAhead) (pieces : List Piece) (left : List ℕ) → IsUsedUp last left → Goes backup start ahead came pieces new last
      → dialogue backup start (typed_lines (ahead.held ++ (got pieces ++ left))) ≡ saying (sent pieces) (dialogue backup new (typed_lines (last.held ++ left)))
  goes_on [] start new ahead last pieces left used goes =
      rw (goes.0, goes.1, goes.2) refl
  goes_on (came ∷ more) start new ahead last pieces left used (reads, later, between, next, pieces_are, here, turn_is, goes) =
      let bytes : List ℕ = ahead.held ++ (got pieces ++ left) in
      let is : next_of bytes ≡ record { came = came; rest = between.held ++ (got later ++ left) }
      = came_next backup came start.said ahead between last pieces reads later left (used_first backup more next new between last later left used goes) pieces_are here in
      let lines : typed_lines bytes ≡ came_then came (typed_lines (between.held ++ (got later ++ left))) = typed_next bytes ∙ ap then_lines is in
      let none : came ≡ None → typed_lines (between.held ++ (got later ++ left)) ≡ []
      = (λ (n : came ≡ None). ap (λ (x : Next). typed_lines x.rest) (sym is) ∙ none_typed bytes (first_line bytes) (ap (λ (x : Next). x.came) is ∙ n)) in
      ap (λ (l : List TerminalLine). dialogue backup start l) lines
      ∙ turn_by start.stage came (typed_lines (between.held ++ (got later ++ left))) start.said next none turn_is
      ∙ ap (saying start.said) (goes_on more next new between last later left used goes)
      ∙ saying_twice start.said (sent later) (dialogue backup new (typed_lines (last.held ++ left)))
      ∙ ap (λ (l : List ℕ). saying l (dialogue backup new (typed_lines (last.held ++ left)))) (sym (turn_sent start.said reads later pieces (reads_sent ahead between reads came here) pieces_are))

  over_by : (lines : List TerminalLine) (said : List ℕ) (stage : Stage) (asked : Asked) → stage ≡ Over asked → dialogue_from backup lines said stage ≡ record { said = said; asked = asked; unused = lines }
  over_by [] said stage asked is = ap (λ (s : Stage). dialogue_from backup [] said s) is
  over_by (line ∷ lines) said stage asked is = ap (λ (s : Stage). dialogue_from backup (line ∷ lines) said s) is

-- ---- a dialogue that was held

module _ (backup : Bool) (start : Step) (old new : ToldTerminal) (asked : Asked) (done : IsAsked backup start old new asked) where
  -- what it comes to
  held_outcome : dialogue backup start (typed_lines (typed old)) ≡ record { said = sent done.held.gone ++ done.held.step.said; asked = asked; unused = typed_lines (typed new) }
  held_outcome =
      ap (λ (l : List ℕ). dialogue backup start (typed_lines (old.ahead.held ++ l))) (input_is backup start old new asked done)
      ∙ goes_on backup done.held.came start done.held.step old.ahead done.held.ahead done.held.gone new.input (used_there backup start old new asked done) done.held.goes
      ∙ ap (saying (sent done.held.gone)) (over_by backup (typed_lines (done.held.ahead.held ++ new.input)) done.held.step.said done.held.step.stage asked done.held.ends.0)
      ∙ ap (λ (a : TypeAhead). record { said = sent done.held.gone ++ done.held.step.said; asked = asked; unused = typed_lines (a.held ++ new.input) }) (sym done.held.ends.2)

  talk_is : sent new.talk ≡ sent old.talk ++ (sent done.held.gone ++ done.held.step.said)
  talk_is =
      ap sent (same_some new.talk _ done.held.told_is) ∙ sent-append old.talk (done.held.gone ++ done.held.last)
      ∙ ap (λ (l : List ℕ). sent old.talk ++ l) (sent-append done.held.gone done.held.last ∙ ap (λ (l : List Piece). sent done.held.gone ++ sent l) done.held.ends.1
      ∙ ap (λ (l : List ℕ). sent done.held.gone ++ l) (append-nil done.held.step.said))

  pub comes_to : ComesTo (dialogue backup start (typed_lines (typed old))) old new asked
  comes_to = record {
    said = talk_is ∙ ap (λ (o : DialogueOutcome). sent old.talk ++ o.said) (sym held_outcome);
    asked_is = ap (λ (o : DialogueOutcome). o.asked) (sym held_outcome);
    unused = ap (λ (o : DialogueOutcome). o.unused) (sym held_outcome);
  }
