-- What comes on the wire determines what a request comes to, in whatever pieces it comes.
use Rattle.std.proofs.Common.{◌≡◌, ◌⊎◌, inl, inr, ℕ, ◌+◌, Bool, true, false, List, [], ◌∷◌, ◌++◌, length, map as each, refl, sym, ap, subst, ◌∙◌, append_assoc, append-nil, length-append, Option, Some, None, Result, Ok, Err}
use Rattle.std.specs.Prelude.{⊤}
use Rattle.std.specs.Io.KnownBytes.{prepend_known, IsAtEnd}
use Rattle.std.proofs.lemmas.List.{map-append}
use Rattle.dc_text.specs.Bytes.{is_nil}
use Rattle.dc_words.specs.declared.stream.Line.{Line}
use Rattle.dc_frontend.specs.declared.shown.Shown.{Shown}
use Rattle.dc_outside.proofs.Saying.{sent-append}
use Rattle.dc_outside.specs.State.{LinkState}
use Rattle.dc_outside.specs.Talk.{then_pieces, got, sent}
use Rattle.dc_outside.specs.declared.link.Piece.{Piece}
use Rattle.dc_outside.specs.declared.link.Piece.TheVariants.{Got, Sent, Cut as CutPiece, Lost}
use Rattle.dc_teletype.specs.TerminalLines.{TypeAhead, TerminalState, Reads, with_bytes}
use Rattle.dc_teletype.specs.Typed.{ToldTerminal, IsUsedUp, IsToldAs, AreTerminalsAlike, typed}
use Rattle.dc_teletype.specs.declared.teletype.Asked.{Asked}
use Rattle.dc_teletype.specs.declared.terminal.TerminalLine.{TerminalLine}
use Rattle.dc_teletype.proofs.TypedLemmas.{Next, next_of, next_line}
use Rattle.dc_pass.specs.declared.pass.PassError.{PassError}
use Rattle.dc_pass.specs.declared.pass.PassError.TheVariants.{Failed, Bad, OutOfMemory}
use Rattle.dc_pass.specs.Passing.{NextLine, LinesCome, seen, counted, Hears, IsAsked, Requests, Asks, sent_questions, sent_title, asked_by, request_text}
use Rattle.dc_pass.specs.Reading.{Form, replies, IsFront, GoesOn, IsWhole, AreUnreadable}
use Rattle.dc_pass.proofs.WholeLemmas.{reply_apart, reply_one}

-- ---- terminals that are alike

pub alike_back : (one other : TerminalState) → AreTerminalsAlike one other → AreTerminalsAlike other one
alike_back one other alike = record {
  first = alike.second;
  second = alike.first;
  one_is = alike.other_is;
  other_is = alike.one_is;
  said = sym alike.said;
  same = sym alike.same;
}

pub alike_moved : (one other new left : TerminalState) → new ≡ one → left ≡ other → AreTerminalsAlike one other → AreTerminalsAlike new left
alike_moved one other new left first second alike =
    subst (λ (t : TerminalState). AreTerminalsAlike new t) (sym second) (subst (λ (t : TerminalState). AreTerminalsAlike t other) (sym first) alike)

-- ---- the next line

rest_told : (taken : List ℕ) (left : Option (List ℕ)) (input : List ℕ) → Some input ≡ prepend_known taken left → (rest : List ℕ) × (left ≡ Some rest)
rest_told taken None input took = absurd (cc)
rest_told taken (Some rest) input took = (rest, refl)

same_some : (a b : List ℕ) → Some a ≡ Some b → a ≡ b
same_some a b is = cc

none_behind : (front rest : List ℕ) → front ++ rest ≡ [] → rest ≡ []
none_behind [] rest none = none
none_behind (byte ∷ front) rest none = absurd (cc)

-- what is read says nothing
reads_sent : (old new : TypeAhead) (pieces : List Piece) (came : Option TerminalLine) → Reads old pieces came new → sent pieces ≡ []
reads_sent old new [] came reads = refl
reads_sent old new (Got bytes ∷ pieces) came reads = reads_sent (with_bytes old bytes) new pieces came reads.1
reads_sent old new (Sent bytes ∷ pieces) came reads = absurd reads
reads_sent old new (CutPiece bytes ∷ pieces) came reads = absurd reads
reads_sent old new (Lost ∷ pieces) came reads = absurd reads

module _ (old new : TerminalState) (came : Option TerminalLine) (told : ToldTerminal) (is : IsToldAs old told) (next : NextLine old new (Ok came)) where
  abbrev pieces : List Piece
  pieces = next.read.pieces

  left_told : (rest : List ℕ) × (new.link.input ≡ Some rest)
  left_told = rest_told (got pieces) new.link.input told.input (sym is.input ∙ next.read.took)

  -- what is told of the terminal then
  abbrev told_then : ToldTerminal
  told_then = record { ahead = new.ahead; talk = told.talk ++ pieces; input = left_told.0 }

  input_is : told.input ≡ got pieces ++ left_told.0
  input_is = same_some told.input (got pieces ++ left_told.0) (sym is.input ∙ next.read.took ∙ ap (λ (l : Option (List ℕ)). prepend_known (got pieces) l) left_told.1)

  used_then : IsUsedUp new.ahead left_told.0
  used_then ended = elim (next.end ended) [
    | inl was ↦ none_behind (got pieces) left_told.0 (sym input_is ∙ is.used_up (ap (λ (a : TypeAhead). a.has_ended) (sym is.ahead) ∙ was))
    | inr at ↦ subst IsAtEnd left_told.1 at
  ]

  is_then : IsToldAs new told_then
  is_then = record {
    ahead = refl;
    talk = next.read.told_is ∙ ap (λ (t : Option (List Piece)). then_pieces t pieces) is.talk;
    input = left_told.1;
    used_up = used_then;
  }

  reads_there : Reads told.ahead pieces came new.ahead
  reads_there = subst (λ (a : TypeAhead). Reads a pieces came new.ahead) is.ahead next.read.reads

  next_is : next_of (typed told) ≡ record { came = came; rest = typed told_then }
  next_is = ap (λ (l : List ℕ). next_of (told.ahead.held ++ l)) input_is ∙ next_line told.ahead new.ahead pieces left_told.0 came used_then reads_there

  said_is : sent told_then.talk ≡ sent told.talk
  said_is =
      sent-append told.talk pieces ∙ ap (λ (l : List ℕ). sent told.talk ++ l) (reads_sent told.ahead new.ahead pieces came reads_there) ∙ append-nil (sent told.talk)

-- the next line is the same, and so is what is left
pub next_alike : (old other new last : TerminalState) (came again : Option TerminalLine) → AreTerminalsAlike old other → NextLine old new (Ok came) → NextLine other last (Ok again)
    → (came ≡ again) × AreTerminalsAlike new last
next_alike old other new last came again alike first second =
    let one = next_is old new came alike.first alike.one_is first in
    let two = next_is other last again alike.second alike.other_is second in
    let both = sym one ∙ ap next_of alike.same ∙ two in (
      ap (λ (n : Next). n.came) both,
      record {
        first = told_then old new came alike.first alike.one_is first;
        second = told_then other last again alike.second alike.other_is second;
        one_is = is_then old new came alike.first alike.one_is first;
        other_is = is_then other last again alike.second alike.other_is second;
        said = said_is old new came alike.first alike.one_is first ∙ alike.said ∙ sym (said_is other last again alike.second alike.other_is second);
        same = ap (λ (n : Next). n.rest) both;
      },
    )

-- ---- lines that come on both

-- on one terminal these lines came, and on the other these and more
record Longer (fewer more : List TerminalLine) (mid : TerminalState) : Type 0 where
  line : TerminalLine
  behind : List TerminalLine
  are : more ≡ fewer ++ line ∷ behind
  there : TerminalState
  next : TerminalState
  comes : NextLine there next (Ok (Some line))
  alike : AreTerminalsAlike mid there

abbrev Meet : List TerminalLine → List TerminalLine → TerminalState → TerminalState → Type 0
Meet some all mid end = ((some ≡ all) × AreTerminalsAlike mid end) ⊎ (Longer some all mid ⊎ Longer all some end)

same_line : (a b : TerminalLine) → Some a ≡ Some b → a ≡ b
same_line a b is = cc

onto_both : (a b : TerminalLine) (some all : List TerminalLine) (mid end : TerminalState) → a ≡ b → Meet some all mid end → Meet (a ∷ some) (b ∷ all) mid end
onto_both a b some all mid end is (inl same) = inl ((λ i. is i ∷ same.0 i), same.1)
onto_both a b some all mid end is (inr (inl l)) =
    inr (inl (record { line = l.line; behind = l.behind; are = (λ i. sym is i ∷ l.are i); there = l.there; next = l.next; comes = l.comes; alike = l.alike }))
onto_both a b some all mid end is (inr (inr l)) =
    inr (inr (record { line = l.line; behind = l.behind; are = (λ i. is i ∷ l.are i); there = l.there; next = l.next; comes = l.comes; alike = l.alike }))

lines_meet : (some all : List TerminalLine) (old other mid end : TerminalState) → AreTerminalsAlike old other → LinesCome old some mid → LinesCome other all end → Meet some all mid end
lines_meet [] [] old other mid end alike first second = inl (refl, alike_moved old other mid end first second alike)
lines_meet [] (b ∷ all) old other mid end alike first second =
    inr (inl (record { line = b; behind = all; are = refl; there = other; next = second.0; comes = second.1; alike = alike_moved old other mid other first refl alike }))
lines_meet (a ∷ some) [] old other mid end alike first second =
    inr (inr (record { line = a; behind = some; are = refl; there = old; next = first.0; comes = first.1; alike = alike_moved other old end old second refl (alike_back old other alike) }))
lines_meet (a ∷ some) (b ∷ all) old other mid end alike first second =
    let n = next_alike old other first.0 second.0 (Some a) (Some b) alike first.1 second.1 in
    onto_both a b some all mid end (same_line a b n.0) (lines_meet some all first.0 second.0 mid end n.1 first.2 second.2)

-- ---- hearings

-- These lines were heard: each was needed, and behind them none was, or none came.
record Hearing (form : Form Asked) (old mid : TerminalState) (lines : List TerminalLine) : Type 0 where
  came : LinesCome old lines mid
  needed : (front behind : List TerminalLine) (line : TerminalLine) → lines ≡ front ++ line ∷ behind → GoesOn form (each seen front)
  stops : (GoesOn form (each seen lines) → ⊥) ⊎ ((left : TerminalState) × NextLine mid left (Ok None))

none_comes : (old other new last : TerminalState) (line : TerminalLine) → AreTerminalsAlike old other → NextLine old new (Ok None) → NextLine other last (Ok (Some line)) → ⊥
none_comes old other new last line alike first second = let n = next_alike old other new last None (Some line) alike first second in let off : None ≡ Some line = n.0 in cc

module _ (form : Form Asked) where
  no_longer : (old mid other end : TerminalState) (fewer more : List TerminalLine) → Hearing form old mid fewer → Hearing form other end more → Longer fewer more mid → ⊥
  no_longer old mid other end fewer more first second l = elim first.stops [
    | inl done ↦ done (second.needed fewer l.behind l.line l.are)
    | inr none ↦ none_comes mid l.there none.0 l.next l.line l.alike none.1 l.comes
  ]

  met : (old other mid end : TerminalState) (some all : List TerminalLine) → Hearing form old mid some → Hearing form other end all → Meet some all mid end
      → (some ≡ all) × AreTerminalsAlike mid end
  met old other mid end some all first second (inl same) = same
  met old other mid end some all first second (inr (inl l)) = absurd (no_longer old mid other end some all first second l)
  met old other mid end some all first second (inr (inr l)) = absurd (no_longer other end old mid all some second first l)

  -- the same lines are heard
  one_hearing : (old other mid end : TerminalState) (some all : List TerminalLine) → AreTerminalsAlike old other → Hearing form old mid some → Hearing form other end all
      → (some ≡ all) × AreTerminalsAlike mid end
  one_hearing old other mid end some all alike first second = met old other mid end some all first second (lines_meet some all old other mid end alike first.came second.came)

  -- ---- fronts

  seen_front : (lines front behind : List TerminalLine) (line : TerminalLine) → lines ≡ front ++ line ∷ behind → each seen lines ≡ each seen front ++ seen line ∷ each seen behind
  seen_front lines front behind line are = ap (λ (l : List TerminalLine). each seen l) are ∙ map-append seen front (line ∷ behind)

  front_of_whole : (lines front behind : List TerminalLine) (line : TerminalLine) (asked : Asked) → lines ≡ front ++ line ∷ behind → IsWhole form (each seen lines) asked → GoesOn form (each seen front)
  front_of_whole lines front behind line asked are whole = record {
    next = seen line;
    behind = each seen behind;
    front = record { whole = asked; is = whole.is; lines_are = whole.lines_are ∙ seen_front lines front behind line are };
  }

  front_on : (lines front behind : List TerminalLine) (line : TerminalLine) → lines ≡ front ++ line ∷ behind → GoesOn form (each seen lines) → GoesOn form (each seen front)
  front_on lines front behind line are on = record {
    next = seen line;
    behind = each seen behind ++ on.next ∷ on.behind;
    front = record {
      whole = on.front.whole;
      is = on.front.is;
      lines_are = on.front.lines_are ∙ ap (λ (l : List Line). l ++ on.next ∷ on.behind) (seen_front lines front behind line are)
          ∙ append_assoc (each seen front) (seen line ∷ each seen behind) (on.next ∷ on.behind);
    };
  }

  no_front : (lines : List Line) → AreUnreadable form lines → GoesOn form lines → ⊥
  no_front lines bad on = bad (on.next ∷ on.behind) on.front

  no_whole : (lines : List Line) (asked : Asked) → AreUnreadable form lines → IsWhole form lines asked → ⊥
  no_whole lines asked bad whole = bad [] (record { whole = asked; is = whole.is; lines_are = whole.lines_are ∙ sym (append-nil lines) })

-- a front of lines with one more is the lines, or a front of them
front_or_all : (lines front behind : List TerminalLine) (last line : TerminalLine) → lines ++ last ∷ [] ≡ front ++ line ∷ behind
    → (lines ≡ front) ⊎ ((rest : List TerminalLine) × (lines ≡ front ++ line ∷ rest))
front_or_all [] [] behind last line are = inl refl
front_or_all [] (f ∷ []) behind last line are = absurd (cc)
front_or_all [] (f ∷ g ∷ front) behind last line are = absurd (cc)
front_or_all (l ∷ lines) [] behind last line are = let here : l ≡ line = cc in inr (lines, (λ i. here i ∷ lines))
front_or_all (l ∷ lines) (f ∷ front) behind last line are =
    let here : l ≡ f = cc in
    let later : lines ++ last ∷ [] ≡ front ++ line ∷ behind = cc in
    elim (front_or_all lines front behind last line later) [
      | inl all ↦ inl (λ i. here i ∷ all i)
      | inr rest ↦ inr (rest.0, (λ i. here i ∷ rest.1 i))
    ]

-- ---- replies

-- it came to something: the link didn't fail, and memory didn't run out
abbrev pub IsSettled : {T : Type 0} → Result T PassError → Type 0
IsSettled (Ok value) = ⊤
IsSettled (Err (Bad line)) = ⊤
IsSettled (Err Failed) = ⊥
IsSettled (Err OutOfMemory) = ⊥

module _ (backup : Bool) (shown : List Shown) (before : ℕ) where
  abbrev form : Form Asked
  form = replies backup shown

  -- what the lines are that were heard
  abbrev StandAs : List TerminalLine → Result (Option Asked) PassError → Type 0
  StandAs lines (Ok (Some asked)) = IsWhole form (each seen lines) asked
  StandAs lines (Ok None) = GoesOn form (each seen lines)
  StandAs lines (Err (Bad line)) = AreUnreadable form (each seen lines) × (line ≡ counted before (length lines))
  StandAs lines (Err Failed) = ⊥
  StandAs lines (Err OutOfMemory) = ⊥

  -- what is left behind them
  abbrev Leaves : Result (Option Asked) PassError → TerminalState → TerminalState → Type 0
  Leaves (Ok None) mid new = NextLine mid new (Ok None)
  Leaves (Ok (Some asked)) mid new = new ≡ mid
  Leaves (Err error) mid new = new ≡ mid

  record Heard (old new : TerminalState) (result : Result (Option Asked) PassError) (now : ℕ) : Type 0 where
    lines : List TerminalLine
    mid : TerminalState
    hearing : Hearing form old mid lines
    stand : StandAs lines result
    leaves : Leaves result mid new
    now_is : now ≡ counted before (length lines)

  stand_one : (lines : List TerminalLine) (one other : Result (Option Asked) PassError) → StandAs lines one → StandAs lines other → one ≡ other
  stand_one lines (Ok (Some a)) (Ok (Some b)) first second = ap (λ (x : Asked). Ok (Some x)) (reply_one backup shown (each seen lines) a b first second)
  stand_one lines (Ok (Some a)) (Ok None) first second = absurd (reply_apart backup shown (each seen lines) a first second)
  stand_one lines (Ok None) (Ok (Some b)) first second = absurd (reply_apart backup shown (each seen lines) b second first)
  stand_one lines (Ok None) (Ok None) first second = refl
  stand_one lines (Ok (Some a)) (Err (Bad line)) first second = absurd (no_whole form (each seen lines) a second.0 first)
  stand_one lines (Ok None) (Err (Bad line)) first second = absurd (no_front form (each seen lines) second.0 first)
  stand_one lines (Err (Bad line)) (Ok (Some b)) first second = absurd (no_whole form (each seen lines) b first.0 second)
  stand_one lines (Err (Bad line)) (Ok None) first second = absurd (no_front form (each seen lines) first.0 second)
  stand_one lines (Err (Bad line)) (Err (Bad place)) first second = ap (λ (n : ℕ). Err (Bad n)) (first.1 ∙ sym second.1)
  stand_one lines (Ok heard) (Err Failed) first second = absurd second
  stand_one lines (Ok heard) (Err OutOfMemory) first second = absurd second
  stand_one lines (Err (Bad line)) (Err Failed) first second = absurd second
  stand_one lines (Err (Bad line)) (Err OutOfMemory) first second = absurd second
  stand_one lines (Err Failed) other first second = absurd first
  stand_one lines (Err OutOfMemory) other first second = absurd first

  leave_alike : (result : Result (Option Asked) PassError) (mid end new last : TerminalState) → AreTerminalsAlike mid end → Leaves result mid new → Leaves result end last → AreTerminalsAlike new last
  leave_alike (Ok None) mid end new last alike first second = (next_alike mid end new last None None alike first second).1
  leave_alike (Ok (Some asked)) mid end new last alike first second = alike_moved mid end new last first second alike
  leave_alike (Err error) mid end new last alike first second = alike_moved mid end new last first second alike

  heard : (old new : TerminalState) (result : Result (Option Asked) PassError) (now : ℕ) → IsSettled result → Hears form before old new result now → Heard old new result now
  heard old new (Ok (Some asked)) now settled (lines, came, whole, now_is) = record {
    lines = lines;
    mid = new;
    hearing = record {
      came = came;
      needed = λ front behind line are. front_of_whole form lines front behind line asked are whole;
      stops = inl (reply_apart backup shown (each seen lines) asked whole);
    };
    stand = whole;
    leaves = refl;
    now_is = now_is;
  }
  heard old new (Ok None) now settled (lines, between, came, on, next, now_is) = record {
    lines = lines;
    mid = between;
    hearing = record { came = came; needed = λ front behind line are. front_on form lines front behind line are on; stops = inr (new, next) };
    stand = on;
    leaves = next;
    now_is = now_is;
  }
  heard old new (Err (Bad line)) now settled (lines, last, came, on, bad, line_is, now_is) =
      let seen_are : each seen (lines ++ last ∷ []) ≡ each seen lines ++ seen last ∷ [] = map-append seen lines (last ∷ []) in
      let unreadable : AreUnreadable form (each seen (lines ++ last ∷ [])) = subst (AreUnreadable form) (sym seen_are) bad in
      let number : line ≡ counted before (length (lines ++ last ∷ [])) = line_is ∙ ap (λ (n : ℕ). counted before n) (sym (length-append lines (last ∷ []))) in
      record {
        lines = lines ++ last ∷ [];
        mid = new;
        hearing = record {
          came = came;
          needed = λ front behind l are. elim (front_or_all lines front behind last l are) [
            | inl all ↦ subst (λ (ls : List TerminalLine). GoesOn form (each seen ls)) all on
            | inr rest ↦ front_on form lines front rest.0 l rest.1 on
          ];
          stops = inl (no_front form (each seen (lines ++ last ∷ [])) unreadable);
        };
        stand = (unreadable, number);
        leaves = refl;
        now_is = now_is ∙ number;
      }
  heard old new (Err Failed) now settled hears = absurd settled
  heard old new (Err OutOfMemory) now settled hears = absurd settled

  -- from terminals that are alike, and the same number of lines before, two hearings that come to something come to the same
  pub hears_alike : (old other new last : TerminalState) (one two : Result (Option Asked) PassError) (now number : ℕ) → AreTerminalsAlike old other → IsSettled one → IsSettled two
      → Hears (replies backup shown) before old new one now → Hears (replies backup shown) before other last two number → (one ≡ two) × (now ≡ number) × AreTerminalsAlike new last
  hears_alike old other new last one two now number alike settled done first second =
      let a = heard old new one now settled first in
      let b = heard other last two number done second in
      let same = one_hearing form old other a.mid b.mid a.lines b.lines alike a.hearing b.hearing in
      let is : one ≡ two = stand_one b.lines one two (subst (λ (l : List TerminalLine). StandAs l one) same.0 a.stand) b.stand in (
        is,
        a.now_is ∙ ap (λ (l : List TerminalLine). counted before (length l)) same.0 ∙ sym b.now_is,
        leave_alike one a.mid b.mid new last same.1 a.leaves (subst (λ (r : Result (Option Asked) PassError). Leaves r b.mid last) (sym is) b.leaves),
      )

-- ---- requests

sent_told : (text : List ℕ) (old : TerminalState) (link : LinkState) (told : ToldTerminal) → IsToldAs old told → link ≡ record old.link { talk = then_pieces old.link.talk (Sent text ∷ []) }
    → IsToldAs (record { link = link; ahead = old.ahead }) (record { ahead = told.ahead; talk = told.talk ++ Sent text ∷ []; input = told.input })
sent_told text old link told is sends = record {
  ahead = is.ahead;
  talk = ap (λ (k : LinkState). k.talk) sends ∙ ap (λ (t : Option (List Piece)). then_pieces t (Sent text ∷ [])) is.talk;
  input = ap (λ (k : LinkState). k.input) sends ∙ is.input;
  used_up = is.used_up;
}

sent_alike : (text : List ℕ) (old other : TerminalState) (link again : LinkState) → AreTerminalsAlike old other → link ≡ record old.link { talk = then_pieces old.link.talk (Sent text ∷ []) }
    → again ≡ record other.link { talk = then_pieces other.link.talk (Sent text ∷ []) } → AreTerminalsAlike (record { link = link; ahead = old.ahead }) (record { link = again; ahead = other.ahead })
sent_alike text old other link again alike first second =
    let said : List Piece = Sent text ∷ [] in
    record {
      first = record { ahead = alike.first.ahead; talk = alike.first.talk ++ said; input = alike.first.input };
      second = record { ahead = alike.second.ahead; talk = alike.second.talk ++ said; input = alike.second.input };
      one_is = sent_told text old link alike.first alike.one_is first;
      other_is = sent_told text other again alike.second alike.other_is second;
      said = sent-append alike.first.talk said ∙ ap (λ (l : List ℕ). l ++ sent said) alike.said ∙ sym (sent-append alike.second.talk said);
      same = alike.same;
    }

went_out : (backup : Bool) (title : List ℕ) (sent : List Shown) (before now : ℕ) (old new : TerminalState) (result : Result (Option Asked) PassError) → IsSettled result
    → Requests backup title sent before old new result now → IsAsked backup title sent before old new result now
went_out backup title sent before now old new (Ok heard) settled requests = requests
went_out backup title sent before now old new (Err (Bad line)) settled requests = requests
went_out backup title sent before now old new (Err Failed) settled requests = absurd settled
went_out backup title sent before now old new (Err OutOfMemory) settled requests = absurd settled

-- from terminals that are alike, and the same number of lines before, two requests that come to something come to the same
pub requests_alike : (backup : Bool) (title : List ℕ) (sent : List Shown) (before now number : ℕ) (old other new last : TerminalState) (one two : Result (Option Asked) PassError)
    → AreTerminalsAlike old other → IsSettled one → IsSettled two → Requests backup title sent before old new one now → Requests backup title sent before other last two number
    → (one ≡ two) × (now ≡ number) × AreTerminalsAlike new last
requests_alike backup title sent before now number old other new last one two alike settled done first second =
    let a = went_out backup title sent before now old new one settled first in
    let b = went_out backup title sent before number other last two done second in
    hears_alike backup sent before (record { link = a.link; ahead = old.ahead }) (record { link = b.link; ahead = other.ahead }) new last one two now number
    (sent_alike (request_text backup title sent) old other a.link b.link alike a.sends b.sends) settled done a.hears b.hears

same_bad : (a b : ℕ) → ◌≡◌ {A = Result (Option Asked) PassError} (Err (Bad a)) (Err (Bad b)) → a ≡ b
same_bad a b is = cc

-- which line is unreadable
pub same_unreadable : (backup : Bool) (title : List ℕ) (shown : List Shown) (before now number line place : ℕ) (old new other last : TerminalState) → AreTerminalsAlike old other
    → Asks backup title shown before old new (Err (Bad line)) now → Asks backup title shown before other last (Err (Bad place)) number → line ≡ place
same_unreadable backup title shown before now number line place old new other last alike first second =
    let same = requests_alike backup (sent_title title) (sent_questions shown) before now number old other new last (Err (Bad line)) (Err (Bad place)) alike tt tt first second in
    same_bad line place same.0

same_ok : (a b : Option Asked) → ◌≡◌ {A = Result (Option Asked) PassError} (Ok a) (Ok b) → a ≡ b
same_ok a b is = cc

not_ok : (asked : Option Asked) (line : ℕ) → ◌≡◌ {A = Result (Option Asked) PassError} (Ok asked) (Err (Bad line)) → ⊥
not_ok asked line is = cc

-- where no question is sent, none is asked
none_asked : {backup : Bool} {title : List ℕ} {sent : List Shown} {before now : ℕ} {old new : TerminalState} {result : Result (Option Asked) PassError} → sent ≡ [] → IsAsked backup title sent before old new result now → ⊥
none_asked none asked = let off : true ≡ false = sym (ap is_nil none) ∙ asked.some in cc

-- the answers
pub same_answers : (backup : Bool) (title : List ℕ) (shown : List Shown) (before now number : ℕ) (old new other last : TerminalState) (asked again : Asked) → AreTerminalsAlike old other
    → Asks backup title shown before old new (Ok asked) now → Asks backup title shown before other last (Ok again) number → (asked ≡ again) × (now ≡ number) × AreTerminalsAlike new last
same_answers backup title shown before now number old new other last asked again alike (inl first) (inl second) =
    (first.2 ∙ sym second.2, first.1.1 ∙ sym second.1.1, alike_moved old other new last first.1.0 second.1.0 alike)
same_answers backup title shown before now number old new other last asked again alike (inl first) (inr second) = absurd (none_asked first.0 second.1)
same_answers backup title shown before now number old new other last asked again alike (inr first) (inl second) = absurd (none_asked second.0 first.1)
same_answers backup title shown before now number old new other last asked again alike (inr first) (inr second) =
    let same = requests_alike backup (sent_title title) (sent_questions shown) before now number old other new last (Ok first.0) (Ok second.0) alike tt tt first.1 second.1 in
    (first.2 ∙ ap (asked_by shown) (same_ok first.0 second.0 same.0) ∙ sym second.2, same.1, same.2)

-- no request is both answered and unreadable
pub not_answered_and_unreadable : (backup : Bool) (title : List ℕ) (shown : List Shown) (before now number line : ℕ) (old new other last : TerminalState) (asked : Asked) → AreTerminalsAlike old other
    → Asks backup title shown before old new (Ok asked) now → Asks backup title shown before other last (Err (Bad line)) number → ⊥
not_answered_and_unreadable backup title shown before now number line old new other last asked alike (inl first) second = none_asked first.0 second
not_answered_and_unreadable backup title shown before now number line old new other last asked alike (inr first) second =
    let same = requests_alike backup (sent_title title) (sent_questions shown) before now number old other new last (Ok first.0) (Err (Bad line)) alike tt tt first.1 second in
    not_ok first.0 line same.0
