-- Reading up to a line, read by read.
use Rattle.std.proofs.Common.{◌≡◌, inl, inr, ℕ, ◌+◌, ◌-◌, ◌<◌, ◌≤◌, suc, length, arith, if◌then◌else◌, Bool, true, false, List, [], ◌∷◌, ◌++◌, append_assoc, refl, sym, ap, ◌∙◌, subst, Option, Some, None, Result, Ok, Err}
use Rattle.std.proofs.lemmas.List.{append-nil, length-append}
use Rattle.std.specs.Io.KnownBytes.{prepend_known, IsAtEnd}
use Rattle.dc_outside.specs.declared.link.LinkError.{LinkError}
use Rattle.dc_outside.specs.declared.link.LinkError.TheVariants.{Failed, OutOfMemory}
use Rattle.dc_outside.specs.declared.link.Piece.{Piece}
use Rattle.dc_outside.specs.declared.link.Piece.TheVariants.{Got, Sent, Cut as CutPiece, Lost}
use Rattle.dc_teletype.specs.TerminalLines.{TypeAhead, IsOpen, IsFirst, IsLast, Reads, ReadsUntil, ReadsBy, with_bytes, first_line, last_line, longest, HasRead, EndsWell}
use Rattle.dc_teletype.specs.Inside.{HasBrought, Brings, BringsBy, Takes}
use Rattle.dc_teletype.specs.declared.terminal.TerminalLine.{TerminalLine}
use Rattle.dc_teletype.proofs.LineLemmas.{none_short}
use Rattle.dc_teletype.proofs.TalkLemmas.{Passes, passes_none, passes_then}

-- what comes from here on comes, behind these pieces, from there on
pub record Reaches (old now : TypeAhead) (pieces : List Piece) : Type 0 where
  pub onto : (later : List Piece) (came : Option TerminalLine) (new : TypeAhead) → Reads now later came new → Reads old (pieces ++ later) came new
  pub until : (error : LinkError) (later : List Piece) → ReadsUntil error now later → ReadsUntil error old (pieces ++ later)

pub reaches_start : (old : TypeAhead) → Reaches old old []
reaches_start old = record { onto = λ later came new r. r; until = λ error later r. r }

until_got : (error : LinkError) (old : TypeAhead) (bytes : List ℕ) (later : List Piece) → IsOpen old → ReadsUntil error (with_bytes old bytes) later → ReadsUntil error old (Got bytes ∷ later)
until_got Failed old bytes later still rest = (still, rest)
until_got OutOfMemory old bytes later still rest = (still, rest)

pub reaches_got : {old now : TypeAhead} {pieces : List Piece} → Reaches old now pieces → IsOpen now → (bytes : List ℕ) → Reaches old (with_bytes now bytes) (pieces ++ Got bytes ∷ [])
reaches_got {old} {now} {pieces} reach still bytes = record {
  onto = λ later came new r. subst (λ (l : List Piece). Reads old l came new) (sym (append_assoc pieces (Got bytes ∷ []) later)) (reach.onto (Got bytes ∷ later) came new (still, r));
  until = λ error later r. subst (λ (l : List Piece). ReadsUntil error old l) (sym (append_assoc pieces (Got bytes ∷ []) later)) (reach.until error (Got bytes ∷ later) (until_got error now bytes later still r));
}

-- ---- the input has ended

not_still : (ended : TypeAhead) → ended.has_ended ≡ true → IsOpen ended → ⊥
not_still ended end again = let on : ended.has_ended ≡ false = again.on in cc

not_first : (now ended : TypeAhead) (came : Option TerminalLine) (new : TypeAhead) → IsOpen now → ended.held ≡ now.held → IsFirst ended came new → ⊥
not_first now ended came new still same first =
    let none : first_line now.held ≡ None = still.none in
    let some : first_line ended.held ≡ Some (first.line, new.held) = first.first in
    let held : first_line ended.held ≡ first_line now.held = ap first_line same in
    cc

last_of : (now ended : TypeAhead) (came : Option TerminalLine) (new : TypeAhead) → ended.held ≡ now.held → IsLast ended came new → IsLast now came new
last_of now ended came new same last = record {
  none = sym (ap first_line same) ∙ last.none;
  came_is = last.came_is ∙ ap last_line same;
  held_is = last.held_is;
  end_is = last.end_is;
}

reads_end : (now ended : TypeAhead) → IsOpen now → ended.held ≡ now.held → ended.has_ended ≡ true → (later : List Piece) (came : Option TerminalLine) (new : TypeAhead) → Reads ended later came new → Reads now later came new
reads_end now ended still same end [] came new (inl first) = absurd (not_first now ended came new still same first)
reads_end now ended still same end [] came new (inr last) = inr (last_of now ended came new same last)
reads_end now ended still same end (Got bytes ∷ later) came new r = absurd (not_still ended end r.0)
reads_end now ended still same end (Sent bytes ∷ later) came new r = absurd r
reads_end now ended still same end (CutPiece bytes ∷ later) came new r = absurd r
reads_end now ended still same end (Lost ∷ later) came new r = absurd r

until_end : (now ended : TypeAhead) → IsOpen now → ended.has_ended ≡ true → (error : LinkError) (later : List Piece) → ReadsUntil error ended later → ReadsUntil error now later
until_end now ended still end OutOfMemory [] r = r
until_end now ended still end Failed [] r = r
until_end now ended still end Failed (Got bytes ∷ later) r = absurd (not_still ended end r.0)
until_end now ended still end OutOfMemory (Got bytes ∷ later) r = absurd (not_still ended end r.0)
until_end now ended still end Failed (Lost ∷ []) r = still
until_end now ended still end Failed (Lost ∷ more ∷ later) r = absurd r
until_end now ended still end OutOfMemory (Lost ∷ later) r = absurd r
until_end now ended still end Failed (Sent bytes ∷ later) r = absurd r
until_end now ended still end OutOfMemory (Sent bytes ∷ later) r = absurd r
until_end now ended still end Failed (CutPiece bytes ∷ later) r = absurd r
until_end now ended still end OutOfMemory (CutPiece bytes ∷ later) r = absurd r

pub reaches_end : {old now : TypeAhead} {pieces : List Piece} → Reaches old now pieces → IsOpen now → (ended : TypeAhead) → ended.held ≡ now.held → ended.has_ended ≡ true → Reaches old ended pieces
reaches_end {old} {now} {pieces} reach still ended same end = record {
  onto = λ later came new r. reach.onto later came new (reads_end now ended still same end later came new r);
  until = λ error later r. reach.until error later (until_end now ended still end error later r);
}

-- ---- the next line

abbrev Progress : TypeAhead → TypeAhead → Option (List Piece) → Option (List Piece) → Option (List ℕ) → Option (List ℕ) → Type 0
Progress old now talk new_talk input left = (pieces : List Piece) × Passes talk new_talk input left pieces × Reaches old now pieces

-- what comes of the progress so far and some pieces more
read_by : {old now : TypeAhead} {talk between : Option (List Piece)} {input middle : Option (List ℕ)} → Progress old now talk between input middle
    → (new : TypeAhead) (new_talk : Option (List Piece)) (left : Option (List ℕ)) (later : List Piece) → Passes between new_talk middle left later
    → (result : Result (Option TerminalLine) LinkError) → ((front : List Piece) → Reaches old now front → ReadsBy result old (front ++ later) new)
    → HasRead old new talk new_talk input left result
read_by progress new new_talk left later passes result reads =
    let all = passes_then progress.1 passes in
    record { pieces = progress.0 ++ later; told_is = all.told_is; took = all.took; reads = reads progress.0 progress.2 }

stops_by : (now : TypeAhead) (error : LinkError) (pieces : List Piece) (new : TypeAhead) → IsOpen now → BringsBy (Err error) now pieces new → ReadsUntil error now pieces
stops_by now Failed pieces new still brings = rw brings still
stops_by now OutOfMemory [] new still brings = tt
stops_by now OutOfMemory (Got bytes ∷ []) new still brings = (still, tt)
stops_by now OutOfMemory (Got bytes ∷ more ∷ later) new still brings = absurd brings
stops_by now OutOfMemory (Sent bytes ∷ later) new still brings = absurd brings
stops_by now OutOfMemory (CutPiece bytes ∷ later) new still brings = absurd brings
stops_by now OutOfMemory (Lost ∷ later) new still brings = absurd brings

on_by : {old now : TypeAhead} (front pieces : List Piece) (new : TypeAhead) → Reaches old now front → IsOpen now → Brings now pieces new → Reaches old new (front ++ pieces)
on_by front [] new reach still brings = rw append-nil (reaches_end reach still new brings.0 brings.1)
on_by front (Got bytes ∷ []) new reach still brings = rw brings.1 (reaches_got reach still bytes)
on_by front (Got bytes ∷ more ∷ later) new reach still brings = absurd brings
on_by front (Sent bytes ∷ later) new reach still brings = absurd brings
on_by front (CutPiece bytes ∷ later) new reach still brings = absurd brings
on_by front (Lost ∷ later) new reach still brings = absurd brings

module _ {old now : TypeAhead} {talk between : Option (List Piece)} {input middle : Option (List ℕ)} where
  pub read_line : Progress old now talk between input middle → (new : TypeAhead) (line : TerminalLine) → first_line now.held ≡ Some (line, new.held) → new.has_ended ≡ now.has_ended
      → HasRead old new talk between input middle (Ok (Some line))
  read_line progress new line first end =
      read_by progress new between middle [] (passes_none between middle) (Ok (Some line))
      (λ front reach. reach.onto [] (Some line) new (inl (record { line = line; came_is = refl; first = first; end_is = end })))

  pub read_last : Progress old now talk between input middle → (new : TypeAhead) (came : Option TerminalLine) → first_line now.held ≡ None → came ≡ last_line now.held → new.held ≡ [] → new.has_ended ≡ true
      → HasRead old new talk between input middle (Ok came)
  read_last progress new came none is held end =
      read_by progress new between middle [] (passes_none between middle) (Ok came)
      (λ front reach. reach.onto [] came new (inr (record { none = none; came_is = is; held_is = held; end_is = end })))

  pub read_refused : Progress old now talk between input middle → (new : TypeAhead) (result : Result (Option TerminalLine) LinkError) → result ≡ Err OutOfMemory
      → HasRead old new talk between input middle result
  read_refused progress new result is =
      rw is (read_by progress new between middle [] (passes_none between middle) (Err OutOfMemory) (λ front reach. reach.until OutOfMemory [] tt))

  pub read_stopped : Progress old now talk between input middle → IsOpen now → (new : TypeAhead) (new_talk : Option (List Piece)) (left : Option (List ℕ)) (error : LinkError)
      → HasBrought now new between new_talk middle left (Err error)
      → (result : Result (Option TerminalLine) LinkError) → result ≡ Err error
      → HasRead old new talk new_talk input left result
  read_stopped progress still new new_talk left error brought result is =
      rw is (read_by progress new new_talk left brought.pieces (record { told_is = brought.told_is; took = brought.took }) (Err error)
      (λ front reach. reach.until error brought.pieces (stops_by now error brought.pieces new still brought.brings)))

  pub read_on : Progress old now talk between input middle → IsOpen now → (new : TypeAhead) (new_talk : Option (List Piece)) (left : Option (List ℕ)) (done : Unit {0})
      → HasBrought now new between new_talk middle left (Ok done)
      → Progress old new talk new_talk input left
  read_on progress still new new_talk left done brought =
      (progress.0 ++ brought.pieces, passes_then progress.1 (record { told_is = brought.told_is; took = brought.took }), on_by progress.0 brought.pieces new progress.2 still brought.brings)

-- ---- a look at the first line that found none

pub unmoved : (now looked : TypeAhead) → Takes now.held None looked.held → looked.has_ended ≡ now.has_ended → looked ≡ now
unmoved now looked takes end = ap (λ (h : List ℕ). record { held = h; has_ended = looked.has_ended }) takes.1 ∙ ap (λ (e : Bool). record { held = now.held; has_ended = e }) end

pub goes_on : {old now : TypeAhead} {talk between : Option (List Piece)} {input middle : Option (List ℕ)} → Progress old now talk between input middle
    → (looked : TypeAhead) → looked ≡ now → Progress old looked talk between input middle
goes_on {old} {now} {talk} {between} {input} {middle} progress looked same = subst (λ (a : TypeAhead). Progress old a talk between input middle) (sym same) progress

pub none_there : (now looked : TypeAhead) → Takes now.held None looked.held → first_line looked.held ≡ None
none_there now looked takes = ap first_line takes.1 ∙ takes.0

pub still_open : (now looked : TypeAhead) → Takes now.held None looked.held → looked.has_ended ≡ false → IsOpen looked
still_open now looked takes on = record { none = none_there now looked takes; on = on }

-- ---- the end of the input, and of the loop

pub ends_well : (old now new : TypeAhead) (left : Option (List ℕ)) → now.has_ended ≡ false → EndsWell now new left → EndsWell old new left
ends_well old now new left on ends end = elim (ends end) [
  | inl was ↦ absurd (let on_then : now.has_ended ≡ true = was in cc)
  | inr at ↦ inr at
]

-- how much may come before a line is there or the input has ended
abbrev pub measure : TypeAhead → ℕ
measure ahead = (suc longest - length ahead.held) + (if ahead.has_ended then 0 else 1)

smaller_by : (now new : TypeAhead) → length now.held ≤ longest → now.has_ended ≡ false → (pieces : List Piece) → Brings now pieces new → measure new < measure now
smaller_by now new short on [] brings = rw (brings.0, brings.1, on) (omega arith)
smaller_by now new short on (Got bytes ∷ []) brings =
    let some : 0 < length bytes = brings.0 in
    rw (brings.1, on, length-append now.held bytes) (omega arith)
smaller_by now new short on (Got bytes ∷ more ∷ later) brings = absurd brings
smaller_by now new short on (Sent bytes ∷ later) brings = absurd brings
smaller_by now new short on (CutPiece bytes ∷ later) brings = absurd brings
smaller_by now new short on (Lost ∷ later) brings = absurd brings

pub smaller : (now looked new : TypeAhead) → looked ≡ now → first_line looked.held ≡ None → looked.has_ended ≡ false → (pieces : List Piece) → Brings looked pieces new → measure new < measure now
smaller now looked new same none on pieces brings = subst (λ (a : TypeAhead). measure new < measure a) same (smaller_by looked new (none_short looked.held none) on pieces brings)

-- where nothing was left, nothing is left later
at_end_later : (gone : List ℕ) (middle left : Option (List ℕ)) → middle ≡ prepend_known gone left → IsAtEnd middle → IsAtEnd left
at_end_later gone middle None took at = record {}
at_end_later [] middle (Some bytes) took at = rw took at at
at_end_later (byte ∷ gone) middle (Some bytes) took at = absurd (let none = rw took at at in cc)

pub ends_later : (old now : TypeAhead) (gone : List ℕ) (middle left : Option (List ℕ)) → middle ≡ prepend_known gone left → EndsWell old now middle → EndsWell old now left
ends_later old now gone middle left took ends end = elim (ends end) [
  | inl was ↦ inl was
  | inr at ↦ inr (at_end_later gone middle left took at)
]

pub ends_then : (old now new : TypeAhead) (gone : List ℕ) (middle left : Option (List ℕ)) → middle ≡ prepend_known gone left → EndsWell old now middle → EndsWell now new left → EndsWell old new left
ends_then old now new gone middle left took first second end = elim (second end) [
  | inl was ↦ ends_later old now gone middle left took first was
  | inr at ↦ inr at
]
