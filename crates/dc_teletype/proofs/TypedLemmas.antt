-- What is typed, line by line, in whatever pieces it comes.
use Rattle.std.proofs.Common.{◌≡◌, inl, inr, ℕ, Bool, List, [], ◌∷◌, ◌++◌, sym, ap, subst, ◌∙◌, append_assoc, append-nil, Option, Some, None}
use Rattle.dc_outside.specs.declared.link.Piece.{Piece}
use Rattle.dc_outside.specs.declared.link.Piece.TheVariants.{Got, Sent, Cut as CutPiece, Lost}
use Rattle.dc_teletype.specs.declared.terminal.TerminalLine.{TerminalLine}
use Rattle.dc_outside.specs.Talk.{got}
use Rattle.dc_serve.proofs.Talks.{got-append}
use Rattle.dc_teletype.specs.TerminalLines.{TypeAhead, Reads, IsFirst, IsLast, with_bytes, first_line, last_line}
use Rattle.dc_teletype.specs.declared.teletype.Asked.{Asked}
use Rattle.dc_teletype.specs.Dialogue.{Step, Stage, Over, Goes, turn}
use Rattle.dc_teletype.specs.Typed.{ToldTerminal, IsAsked, IsUsedUp, typed}
use Rattle.dc_teletype.proofs.FirstLineLemmas.{first_more, same_some}

-- ---- one line

-- a line that comes, if one does, and what stands behind it
pub record Next : Type 0 where
  pub came : Option TerminalLine
  pub rest : List ℕ

abbrev pub next_by : List ℕ → Option (TerminalLine × List ℕ) → Next
next_by bytes None = record { came = last_line bytes; rest = [] }
next_by bytes (Some first) = record { came = Some first.0; rest = first.1 }

-- the next line of what is typed
abbrev pub next_of : List ℕ → Next
next_of bytes = next_by bytes (first_line bytes)

-- what reads bring is the next line of what is typed
abbrev IsNext : TypeAhead → List Piece → List ℕ → Option TerminalLine → TypeAhead → Type 0
IsNext old pieces left came new = next_of (old.held ++ (got pieces ++ left)) ≡ record { came = came; rest = new.held ++ left }

first_is_next : (old new : TypeAhead) (left : List ℕ) (came : Option TerminalLine) → IsFirst old came new → IsNext old [] left came new
first_is_next old new left came first =
    ap (λ (f : Option (TerminalLine × List ℕ)). next_by (old.held ++ left) f) (first_more old.held left first.line new.held first.first) ∙ ap (λ (c : Option TerminalLine). record { came = c; rest = new.held ++ left }) (sym first.came_is)

last_is_next : (old new : TypeAhead) (left : List ℕ) (came : Option TerminalLine) → IsUsedUp new left → IsLast old came new → IsNext old [] left came new
last_is_next old new left came used last =
    let none_left : left ≡ [] = used last.end_is in
    rw (none_left, append-nil old.held, last.none) (λ i. record { came = sym last.came_is i; rest = (sym last.held_is ∙ sym (append-nil new.held)) i })

pub next_line : (old new : TypeAhead) (pieces : List Piece) (left : List ℕ) (came : Option TerminalLine) → IsUsedUp new left → Reads old pieces came new → IsNext old pieces left came new
next_line old new [] left came used (inl first) = first_is_next old new left came first
next_line old new [] left came used (inr last) = last_is_next old new left came used last
next_line old new (Got bytes ∷ pieces) left came used reads =
    let same : old.held ++ ((bytes ++ got pieces) ++ left) ≡ (old.held ++ bytes) ++ (got pieces ++ left)
    = ap (λ (l : List ℕ). old.held ++ l) (append_assoc bytes (got pieces) left) ∙ sym (append_assoc old.held bytes (got pieces ++ left)) in
    ap next_of same ∙ next_line (with_bytes old bytes) new pieces left came used reads.1
next_line old new (Sent bytes ∷ pieces) left came used reads = absurd reads
next_line old new (CutPiece bytes ∷ pieces) left came used reads = absurd reads
next_line old new (Lost ∷ pieces) left came used reads = absurd reads

-- the input had ended only where none of it was left
pub used_before : (old new : TypeAhead) (pieces : List Piece) (left : List ℕ) (came : Option TerminalLine) → IsUsedUp new left → Reads old pieces came new → IsUsedUp old (got pieces ++ left)
used_before old new [] left came used (inl first) = λ ended. used (first.end_is ∙ ended)
used_before old new [] left came used (inr last) = λ ended. used last.end_is
used_before old new (Got bytes ∷ pieces) left came used reads = λ ended. absurd (let on = reads.0.on in cc)
used_before old new (Sent bytes ∷ pieces) left came used reads = absurd reads
used_before old new (CutPiece bytes ∷ pieces) left came used reads = absurd reads
used_before old new (Lost ∷ pieces) left came used reads = absurd reads

-- ---- pieces

-- what a turn takes of the input, and what is taken later
turn_got : (said : List ℕ) (reads later : List Piece) (left : List ℕ) (pieces : List Piece) → pieces ≡ Sent said ∷ (reads ++ later) → got pieces ++ left ≡ got reads ++ (got later ++ left)
turn_got said reads later left pieces is =
    ap (λ (l : List Piece). got l ++ left) is ∙ ap (λ (l : List ℕ). l ++ left) (got-append reads later) ∙ append_assoc (got reads) (got later) left

-- ---- turns

module _ (backup : Bool) where
  pub used_first : (came : List (Option TerminalLine)) (old new : Step) (ahead last : TypeAhead) (pieces : List Piece) (left : List ℕ) → IsUsedUp last left → Goes backup old ahead came pieces new last → IsUsedUp ahead (got pieces ++ left)
  used_first [] old new ahead last pieces left used goes =
      λ ended. ap (λ (l : List Piece). got l ++ left) goes.0 ∙ used (ap (λ (a : TypeAhead). a.has_ended) goes.2 ∙ ended)
  used_first (came ∷ more) old new ahead last pieces left used (reads, later, between, next, pieces_are, here, turn_is, goes) =
      λ ended. turn_got old.said reads later left pieces pieces_are
      ∙ used_before ahead between reads (got later ++ left) came (used_first more next new between last later left used goes) here ended

  -- what comes next, and what is typed behind it
  pub came_next : (came : Option TerminalLine) (said : List ℕ) (ahead between last : TypeAhead) (pieces reads later : List Piece) (left : List ℕ) → IsUsedUp between (got later ++ left) → pieces ≡ Sent said ∷ (reads ++ later) → Reads ahead reads came between
      → next_of (ahead.held ++ (got pieces ++ left)) ≡ record { came = came; rest = between.held ++ (got later ++ left) }
  came_next came said ahead between last pieces reads later left used pieces_are here =
      ap (λ (l : List ℕ). next_of (ahead.held ++ l)) (turn_got said reads later left pieces pieces_are) ∙ next_line ahead between reads (got later ++ left) came used here

  pub no_turn : (came : Option TerminalLine) (stage : Stage) (asked : Asked) (next : Step) → stage ≡ Over asked → turn backup stage came ≡ Some next → ⊥
  no_turn came stage asked next over turn_is = let off = sym (ap (λ (s : Stage). turn backup s came) over) ∙ turn_is in cc

  -- two dialogues from one step, of which the same is typed, leave the same
  pub same_rest : (came again : List (Option TerminalLine)) (start new other : Step) (ahead old last end : TypeAhead) (pieces others : List Piece) (left rest : List ℕ) (asked told : Asked)
      → IsUsedUp last left → IsUsedUp end rest → new.stage ≡ Over asked → other.stage ≡ Over told
      → Goes backup start ahead came pieces new last → Goes backup start old again others other end
      → ahead.held ++ (got pieces ++ left) ≡ old.held ++ (got others ++ rest) → last.held ++ left ≡ end.held ++ rest
  same_rest [] [] start new other ahead old last end pieces others left rest asked told used up over done goes went same =
      ap (λ (a : TypeAhead). a.held ++ left) goes.2 ∙ sym (ap (λ (l : List Piece). ahead.held ++ (got l ++ left)) goes.0) ∙ same
      ∙ ap (λ (l : List Piece). old.held ++ (got l ++ rest)) went.0 ∙ sym (ap (λ (a : TypeAhead). a.held ++ rest) went.2)
  same_rest [] (line ∷ lines) start new other ahead old last end pieces others left rest asked told used up over done goes (reads, later, between, next, pieces_are, here, turn_is, went) same =
      absurd (no_turn line start.stage asked next (ap (λ (s : Step). s.stage) (sym goes.1) ∙ over) turn_is)
  same_rest (line ∷ lines) [] start new other ahead old last end pieces others left rest asked told used up over done (reads, later, between, next, pieces_are, here, turn_is, goes) went same =
      absurd (no_turn line start.stage told next (ap (λ (s : Step). s.stage) (sym went.1) ∙ done) turn_is)
  same_rest (line ∷ lines) (word ∷ words) start new other ahead old last end pieces others left rest asked told used up over done
      (reads, later, between, next, pieces_are, here, turn_is, goes) (gets, after, middle, then_step, others_are, there, turned, went) same =
      let one = came_next line start.said ahead between last pieces reads later left (used_first lines next new between last later left used goes) pieces_are here in
      let two = came_next word start.said old middle end others gets after rest (used_first words then_step other middle end after rest up went) others_are there in
      let both : record { came = line; rest = between.held ++ (got later ++ left) } ≡ record { came = word; rest = middle.held ++ (got after ++ rest) } = sym one ∙ ap next_of same ∙ two in
      let step : next ≡ then_step = same_some next then_step (sym turn_is ∙ ap (λ (n : Next). turn backup start.stage n.came) both ∙ turned) in
      same_rest lines words next new other between middle last end later after left rest asked told used up over done goes
      (subst (λ (s : Step). Goes backup s middle words after other end) (sym step) went) (ap (λ (n : Next). n.rest) both)

-- ---- a dialogue that was held

module _ (backup : Bool) (start : Step) (old new : ToldTerminal) (asked : Asked) (done : IsAsked backup start old new asked) where
  -- what was to be said last was sent, and nothing came
  last_got : got (done.held.gone ++ done.held.last) ≡ got done.held.gone
  last_got = got-append done.held.gone done.held.last ∙ ap (λ (l : List Piece). got done.held.gone ++ got l) done.held.ends.1 ∙ append-nil (got done.held.gone)

  pub input_is : old.input ≡ got done.held.gone ++ new.input
  input_is = same_some old.input _ done.held.took ∙ ap (λ (l : List ℕ). l ++ new.input) last_got

  pub used_last : IsUsedUp new.ahead new.input
  used_last ended = elim (done.ends ended) [
    | inl was ↦ none_behind (got done.held.gone) (sym input_is ∙ done.used_up was)
    | inr at ↦ at
  ] where
    none_behind : (front : List ℕ) → front ++ new.input ≡ [] → new.input ≡ []
    none_behind [] none = none
    none_behind (byte ∷ front) none = absurd (cc)

  pub used_there : IsUsedUp done.held.ahead new.input
  used_there ended = used_last (ap (λ (a : TypeAhead). a.has_ended) done.held.ends.2 ∙ ended)

pub one_rest : (backup : Bool) (start : Step) (old new other left : ToldTerminal) (asked again : Asked) → IsAsked backup start old new asked → IsAsked backup start other left again → typed old ≡ typed other → typed new ≡ typed left
one_rest backup start old new other left asked again first second same =
    let one : typed old ≡ old.ahead.held ++ (got first.held.gone ++ new.input) = ap (λ (l : List ℕ). old.ahead.held ++ l) (input_is backup start old new asked first) in
    let two : typed other ≡ other.ahead.held ++ (got second.held.gone ++ left.input) = ap (λ (l : List ℕ). other.ahead.held ++ l) (input_is backup start other left again second) in
    ap (λ (a : TypeAhead). a.held ++ new.input) first.held.ends.2
    ∙ same_rest backup first.held.came second.held.came start first.held.step second.held.step old.ahead other.ahead first.held.ahead second.held.ahead first.held.gone second.held.gone new.input left.input asked again
    (used_there backup start old new asked first) (used_there backup start other left again second) first.held.ends.0 second.held.ends.0 first.held.goes second.held.goes (sym one ∙ same ∙ two)
    ∙ sym (ap (λ (a : TypeAhead). a.held ++ left.input) second.held.ends.2)
