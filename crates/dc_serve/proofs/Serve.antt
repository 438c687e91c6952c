-- Serving goes on.
use Rattle.std.proofs.Common.{◌≡◌, ◌≢◌, inl, inr, ℕ, false, List, [], ◌∷◌, ◌++◌, refl, ap, sym, ◌∙◌, Option, append_assoc}
use Rattle.std.proofs.lemmas.List.{append-nil}
use Rattle.dc_words.specs.declared.stream.Line.{Line}
use Rattle.dc_outside.specs.declared.link.Piece.{Piece}
use Rattle.dc_outside.specs.declared.link.Piece.TheVariants.{Sent, Cut}
use Rattle.dc_outside.specs.State.{LinkState}
use Rattle.dc_outside.specs.Talk.{then_pieces}
use Rattle.dc_outside.proofs.LinkLemmas.{only_said}
use Rattle.dc_serve.specs.declared.machine.Response.{Response}
use Rattle.dc_serve.specs.declared.machine.Response.TheVariants as did
use Rattle.dc_serve.specs.declared.outcome.Served.{Served}
use Rattle.dc_serve.specs.declared.outcome.Served.TheVariants.{On, Stopped, Failed, OutOfMemory, Broken}
use Rattle.dc_serve.specs.Execution.{Transition, lines_of, stops}
use Rattle.dc_serve.specs.Inside.{Serves, HasServed, AnswersLine, SendsReply, ServedCounts, ServesLines}
use Rattle.dc_serve.specs.Said.{AreSaid}
use Rattle.dc_serve.proofs.Courses.{lines_of-append, state_after-append, stops-append, replies-append, last_code_from-append, course-append}
use Rattle.dc_serve.proofs.Talks.{then_pieces-nil, then_pieces-then_pieces}

module _ {S B : Type 0} (steps : S → Line → Response → S → Type 0) (aborts : S → Line → B → S → Type 0) where
  -- ---- one line

  -- a line without a reply
  line_silent : (talk : Option (List Piece)) (s new : S) (line : Line) (code : ℕ) → steps s line did.Silent new → HasServed steps aborts talk talk s (line ∷ []) On code new code
  line_silent talk s new line code heeded = record {
    transitions = record { line = line; did = did.Silent; new = new } ∷ [];
    rest = [];
    lines_are = refl;
    course = (heeded, (λ _. refl), tt);
    pieces = [];
    told_is = sym (then_pieces-nil talk);
    serves = record { are_said = record { pieces_are = refl; state_is = refl; code_is = refl }; on = refl; none_left = refl };
  }

  -- a line that stops the machine
  line_stopped : (talk : Option (List Piece)) (s new : S) (line : Line) (code : ℕ) → steps s line did.Stopped new → HasServed steps aborts talk talk s (line ∷ []) Stopped code new code
  line_stopped talk s new line code heeded = record {
    transitions = record { line = line; did = did.Stopped; new = new } ∷ [];
    rest = [];
    lines_are = refl;
    course = (heeded, (λ _. refl), tt);
    pieces = [];
    told_is = sym (then_pieces-nil talk);
    serves = record { are_said = record { pieces_are = refl; state_is = refl; code_is = refl }; stopped = refl };
  }

  -- a line at which the machine broke
  pub line_broken : (talk : Option (List Piece)) (s new : S) (line : Line) (error : B) (code : ℕ) → aborts s line error new → HasServed steps aborts talk talk s (line ∷ []) (Broken error) code new code
  line_broken talk s new line error code broke = record {
    transitions = [];
    rest = line ∷ [];
    lines_are = refl;
    course = tt;
    pieces = [];
    told_is = sym (then_pieces-nil talk);
    serves = record { on = refl; line = line; more = []; rest_is = refl; broke = broke; pieces_are = refl; code_is = refl };
  }

  -- a line whose reply was sent, cut, or not begun
  replied_talk : (outcome : Served B) (io new_io : LinkState) (s new : S) (line : Line) (code : ℕ) (text : List ℕ) (last new_last : ℕ)
      → steps s line (did.Replied code text) new → SendsReply outcome io new_io code text last new_last
      → HasServed steps aborts io.talk new_io.talk s (line ∷ []) outcome last new new_last
  replied_talk On io new_io s new line code text last new_last heeded sends = record {
    transitions = record { line = line; did = did.Replied code text; new = new } ∷ [];
    rest = [];
    lines_are = refl;
    course = (heeded, (λ _. refl), tt);
    pieces = Sent text ∷ [];
    told_is = ap (λ (k : LinkState). k.talk) sends.0;
    serves = record { are_said = record { pieces_are = refl; state_is = refl; code_is = sends.1 }; on = refl; none_left = refl };
  }
  replied_talk Stopped io new_io s new line code text last new_last heeded sends = absurd sends
  replied_talk Failed io new_io s new line code text last new_last heeded sends = record {
    transitions = record { line = line; did = did.Replied code text; new = new } ∷ [];
    rest = [];
    lines_are = refl;
    course = (heeded, (λ _. refl), tt);
    pieces = Cut sends.0.front ∷ [];
    told_is = ap (λ (k : LinkState). k.talk) sends.0.state;
    serves = record {
      gone = [];
      last = record { line = line; did = did.Replied code text; new = new };
      turns_are = refl;
      on = refl;
      text = text;
      replied = ap (λ (n : ℕ). did.Replied n text) (sym sends.1);
      front = sends.0.front;
      back = sends.0.back;
      front_of = sends.0.bytes_are;
      pieces_are = refl;
      state_is = refl;
    };
  }
  replied_talk OutOfMemory io new_io s new line code text last new_last heeded sends = record {
    transitions = record { line = line; did = did.Replied code text; new = new } ∷ [];
    rest = [];
    lines_are = refl;
    course = (heeded, (λ _. refl), tt);
    pieces = [];
    told_is = ap (λ (k : LinkState). k.talk) sends.0.state ∙ sym (then_pieces-nil io.talk);
    serves = inr (record { gone = []; last = record { line = line; did = did.Replied code text; new = new }; turns_are = refl; on = refl; pieces_are = refl; state_is = refl; code_is = sends.1 });
  }
  replied_talk (Broken error) io new_io s new line code text last new_last heeded sends = absurd sends

  replied_counts : (outcome : Served B) (io new_io : LinkState) (code : ℕ) (text : List ℕ) (last new_last : ℕ) → SendsReply outcome io new_io code text last new_last
      → ServedCounts outcome io.counts new_io.counts
  replied_counts On io new_io code text last new_last sends = ap (λ (k : LinkState). k.counts) sends.0
  replied_counts Stopped io new_io code text last new_last sends = absurd sends
  replied_counts Failed io new_io code text last new_last sends = sends.0.rose
  replied_counts OutOfMemory io new_io code text last new_last sends = inl sends.0.rose
  replied_counts (Broken error) io new_io code text last new_last sends = absurd sends

  replied_rest : (outcome : Served B) (io new_io : LinkState) (code : ℕ) (text : List ℕ) (last new_last : ℕ) → SendsReply outcome io new_io code text last new_last
      → new_io ≡ record io { talk = new_io.talk; counts = new_io.counts }
  replied_rest On io new_io code text last new_last sends = only_said io new_io _ sends.0 refl refl
  replied_rest Stopped io new_io code text last new_last sends = absurd sends
  replied_rest Failed io new_io code text last new_last sends = only_said io new_io _ sends.0.state refl refl
  replied_rest OutOfMemory io new_io code text last new_last sends = only_said io new_io _ sends.0.state refl refl
  replied_rest (Broken error) io new_io code text last new_last sends = absurd sends

  line_replied : (outcome : Served B) (io new_io : LinkState) (s new : S) (line : Line) (code : ℕ) (text : List ℕ) (last new_last : ℕ)
      → steps s line (did.Replied code text) new → SendsReply outcome io new_io code text last new_last
      → ServesLines steps aborts io new_io s (line ∷ []) outcome last new new_last
  line_replied outcome io new_io s new line code text last new_last handled sends = record {
    served = replied_talk outcome io new_io s new line code text last new_last handled sends;
    counts = replied_counts outcome io new_io code text last new_last sends;
    rest = replied_rest outcome io new_io code text last new_last sends;
  }

  -- a line that was answered so
  pub line_answered : (response : Response) (outcome : Served B) (io new_io : LinkState) (s new : S) (line : Line) (last new_last : ℕ)
      → steps s line response new → AnswersLine response outcome io new_io last new_last
      → ServesLines steps aborts io new_io s (line ∷ []) outcome last new new_last
  line_answered did.Silent outcome io new_io s new line last new_last handled is =
      rw (is.0, is.1, is.2) (record { served = line_silent io.talk s new line last handled; counts = refl; rest = refl })
  line_answered (did.Replied code text) outcome io new_io s new line last new_last handled sends =
      line_replied outcome io new_io s new line code text last new_last handled sends
  line_answered did.Stopped outcome io new_io s new line last new_last handled is =
      rw (is.0, is.1, is.2) (record { served = line_stopped io.talk s new line last handled; counts = refl; rest = refl })

  -- ---- lines after others

  pub said_more : (s mid new : S) (a b : List (Transition S)) (first second : List Piece) (code mid_code new_code : ℕ)
      → AreSaid s a first code mid mid_code → AreSaid mid b second mid_code new new_code → AreSaid s (a ++ b) (first ++ second) code new new_code
  said_more s mid new a b first second code mid_code new_code here later = record {
    pieces_are = rw (replies-append a b, here.pieces_are, later.pieces_are) refl;
    state_is = rw (state_after-append s a b, ← here.state_is) later.state_is;
    code_is = rw (last_code_from-append code a b, ← here.code_is) later.code_is;
  }

  -- after turns that were all said, others are taken
  pub serves_more : (s mid new : S) (a b : List (Transition S)) (rest : List Line) (first second : List Piece) (outcome : Served B) (code mid_code new_code : ℕ)
      → AreSaid s a first code mid mid_code → stops a ≡ false → Serves aborts mid b rest outcome second mid_code new new_code
      → Serves aborts s (a ++ b) rest outcome (first ++ second) code new new_code
  serves_more s mid new a b rest first second On code mid_code new_code here on serves = record {
    are_said = said_more s mid new a b first second code mid_code new_code here serves.are_said;
    on = stops-append a b on ∙ serves.on;
    none_left = serves.none_left;
  }
  serves_more s mid new a b rest first second Stopped code mid_code new_code here on serves = record {
    are_said = said_more s mid new a b first second code mid_code new_code here serves.are_said;
    stopped = stops-append a b on ∙ serves.stopped;
  }
  serves_more s mid new a b rest first second Failed code mid_code new_code here on serves = record {
    gone = a ++ serves.gone;
    last = serves.last;
    turns_are = rw (serves.turns_are, append_assoc) refl;
    on = stops-append a serves.gone on ∙ serves.on;
    text = serves.text;
    replied = serves.replied;
    front = serves.front;
    back = serves.back;
    front_of = serves.front_of;
    pieces_are = rw (replies-append a serves.gone, append_assoc, here.pieces_are, serves.pieces_are) refl;
    state_is = serves.state_is;
  }
  serves_more s mid new a b rest first second OutOfMemory code mid_code new_code here on serves = elim serves [
    | inl all ↦ inl (stops-append a b on ∙ all.0, said_more s mid new a b first second code mid_code new_code here all.1)
    | inr unsaid ↦ inr (record {
      gone = a ++ unsaid.gone;
      last = unsaid.last;
      turns_are = rw (unsaid.turns_are, append_assoc) refl;
      on = stops-append a unsaid.gone on ∙ unsaid.on;
      pieces_are = rw (replies-append a unsaid.gone, here.pieces_are, unsaid.pieces_are) refl;
      state_is = unsaid.state_is;
      code_is = rw (last_code_from-append code a unsaid.gone, ← here.code_is) unsaid.code_is;
    })
  ]
  serves_more s mid new a b rest first second (Broken error) code mid_code new_code here on serves = record {
    on = stops-append a b on ∙ serves.on;
    line = serves.line;
    more = serves.more;
    rest_is = serves.rest_is;
    broke = rw (state_after-append s a b, ← here.state_is) serves.broke;
    pieces_are = rw (replies-append a b, here.pieces_are, serves.pieces_are) refl;
    code_is = rw (last_code_from-append code a b, ← here.code_is) serves.code_is;
  }

  -- what was not served on stays so, whatever lines follow
  pub serves_ended : (s new : S) (transitions : List (Transition S)) (rest more : List Line) (pieces : List Piece) (outcome : Served B) (code new_code : ℕ)
      → outcome ≢ On → Serves aborts s transitions rest outcome pieces code new new_code → Serves aborts s transitions (rest ++ more) outcome pieces code new new_code
  serves_ended s new transitions rest more pieces On code new_code ended serves = absurd (ended refl)
  serves_ended s new transitions rest more pieces Stopped code new_code ended serves = serves
  serves_ended s new transitions rest more pieces Failed code new_code ended serves = serves
  serves_ended s new transitions rest more pieces OutOfMemory code new_code ended serves = serves
  serves_ended s new transitions rest more pieces (Broken error) code new_code ended serves = record {
    on = serves.on;
    line = serves.line;
    more = serves.more ++ more;
    rest_is = ap (λ (l : List Line). l ++ more) serves.rest_is;
    broke = serves.broke;
    pieces_are = serves.pieces_are;
    code_is = serves.code_is;
  }

  pub has_served_more : (talk mid_talk new_talk : Option (List Piece)) (s mid new : S) (a b : List Line) (outcome : Served B) (code mid_code new_code : ℕ)
      → HasServed steps aborts talk mid_talk s a On code mid mid_code → HasServed steps aborts mid_talk new_talk mid b outcome mid_code new new_code
      → HasServed steps aborts talk new_talk s (a ++ b) outcome code new new_code
  has_served_more talk mid_talk new_talk s mid new a b outcome code mid_code new_code first second = record {
    transitions = first.transitions ++ second.transitions;
    rest = second.rest;
    lines_are = rw (first.lines_are, first.serves.none_left, append-nil (lines_of first.transitions), second.lines_are, lines_of-append first.transitions second.transitions, append_assoc) refl;
    course = course-append steps s first.transitions second.transitions first.serves.on first.course (rw (← first.serves.are_said.state_is) second.course);
    pieces = first.pieces ++ second.pieces;
    told_is = second.told_is ∙ ap (λ (t : Option (List Piece)). then_pieces t second.pieces) first.told_is ∙ then_pieces-then_pieces talk first.pieces second.pieces;
    serves = serves_more s mid new first.transitions second.transitions second.rest first.pieces second.pieces outcome code mid_code new_code first.serves.are_said first.serves.on second.serves;
  }

module _ {S B : Type 0} {steps : S → Line → Response → S → Type 0} {aborts : S → Line → B → S → Type 0} where
  -- memory ran out behind lines that were served
  pub broken_off : {talk new_talk : Option (List Piece)} {s new : S} {gone : List Line} {code new_code : ℕ} (lines later : List Line)
      → HasServed steps aborts talk new_talk s gone On code new new_code → lines ≡ gone ++ later → HasServed steps aborts talk new_talk s lines OutOfMemory code new new_code
  broken_off lines later served are = record {
    transitions = served.transitions;
    rest = later;
    lines_are = rw (are, served.lines_are, served.serves.none_left, append-nil (lines_of served.transitions)) refl;
    course = served.course;
    pieces = served.pieces;
    told_is = served.told_is;
    serves = inl (served.serves.on, served.serves.are_said);
  }

  -- one more line, and serving ends there
  pub ended_at : {talk mid_talk new_talk : Option (List Piece)} {s mid new : S} {gone : List Line} {line : Line} {outcome : Served B} {code mid_code new_code : ℕ} (lines later rest : List Line)
      → HasServed steps aborts talk mid_talk s gone On code mid mid_code → HasServed steps aborts mid_talk new_talk mid (line ∷ []) outcome mid_code new new_code
      → lines ≡ gone ++ later → later ≡ line ∷ rest → outcome ≢ On → HasServed steps aborts talk new_talk s lines outcome code new new_code
  ended_at {talk = talk} {mid_talk = mid_talk} {new_talk = new_talk} {s = s} {mid = mid} {new = new} {gone = gone} {line = line} {outcome = outcome} {code = code} {mid_code = mid_code} {new_code = new_code} lines later rest served here are first ended =
      let both = has_served_more steps aborts talk mid_talk new_talk s mid new gone (line ∷ []) outcome code mid_code new_code served here in
      let parts : lines ≡ (gone ++ line ∷ []) ++ rest = are ∙ ap (λ (l : List Line). gone ++ l) first ∙ sym (append_assoc gone (line ∷ []) rest) in
      record {
        transitions = both.transitions;
        rest = both.rest ++ rest;
        lines_are = parts ∙ ap (λ (l : List Line). l ++ rest) both.lines_are ∙ append_assoc (lines_of both.transitions) both.rest rest;
        course = both.course;
        pieces = both.pieces;
        told_is = both.told_is;
        serves = serves_ended steps aborts s new both.transitions both.rest rest both.pieces outcome code new_code ended both.serves;
      }

  -- one more line is served
  pub gone_more : {talk mid_talk new_talk : Option (List Piece)} {s mid new : S} {gone : List Line} {line : Line} {code mid_code new_code : ℕ} (lines later rest : List Line)
      → HasServed steps aborts talk mid_talk s gone On code mid mid_code → HasServed steps aborts mid_talk new_talk mid (line ∷ []) On mid_code new new_code
      → lines ≡ gone ++ later → later ≡ line ∷ rest
      → (all : List Line) × (lines ≡ all ++ rest) × HasServed steps aborts talk new_talk s all On code new new_code
  gone_more {talk = talk} {mid_talk = mid_talk} {new_talk = new_talk} {s = s} {mid = mid} {new = new} {gone = gone} {line = line} {code = code} {mid_code = mid_code} {new_code = new_code} lines later rest served here are first = (
    gone ++ line ∷ [],
    are ∙ ap (λ (l : List Line). gone ++ l) first ∙ sym (append_assoc gone (line ∷ []) rest),
    has_served_more steps aborts talk mid_talk new_talk s mid new gone (line ∷ []) On code mid_code new_code served here,
  )
