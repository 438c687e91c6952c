-- How far a run has come, between two reads, and how it ends.
use Rattle.std.proofs.Common.{◌≡◌, ◌≢◌, inl, inr, ℕ, ◌+◌, ◌^◌, ◌<◌, ◌≤◌, List, [], ◌∷◌, ◌++◌, false, length, refl, ap, sym, ◌∙◌, subst, append_assoc, Option, None, Some, length-append}
use Rattle.std.proofs.lemmas.List.{append-nil}
use Rattle.std.specs.Prelude.{IfSome}
use Rattle.std.specs.Io.KnownBytes.{prepend_known, IsAtEnd}
use Rattle.dc_words.specs.declared.stream.Line.{Line}
use Rattle.dc_words.specs.Stream.{whole_lines, rest_of, line_of_rest, all_lines, StandsFor}
use Rattle.dc_words.proofs.StreamLemmas.{whole_lines-append, rest_of-append}
use Rattle.dc_outside.specs.declared.link.Piece.{Piece}
use Rattle.dc_outside.specs.declared.link.Piece.TheVariants.{Got, Cut, Lost}
use Rattle.dc_outside.specs.Talk.{then_pieces, got}
use Rattle.dc_serve.specs.declared.machine.Response.{Response}
use Rattle.dc_serve.specs.declared.outcome.LinkEnd.TheVariants as end
use Rattle.dc_serve.specs.declared.outcome.Served.{Served}
use Rattle.dc_serve.specs.declared.outcome.Served.TheVariants.{On, Stopped, Failed, OutOfMemory, Broken}
use Rattle.dc_serve.specs.Execution.{Transition, lines_of, stops, replies, IsExecution}
use Rattle.dc_serve.specs.Calls.{IsSound, AreSound, FailsAtLast}
use Rattle.dc_serve.specs.LinkRun.{IsLinkRun, Answered, IsWhole}
use Rattle.dc_serve.specs.Inside.{link_end_of, Serves, HasServed}
use Rattle.dc_serve.specs.Said.{said, AreSaid}
use Rattle.dc_serve.specs.Answering.{IsCaughtUp, AnswersBeforeReads}
use Rattle.dc_serve.proofs.CallLemmas.{sound-append, sound_replies}
use Rattle.dc_serve.proofs.Courses.{course-append, lines_of-append}
use Rattle.dc_serve.proofs.Serve.{serves_more}
use Rattle.dc_serve.proofs.Talks.{then_pieces-nil, then_pieces-then_pieces, said-append, got-append, said-replies, got-replies, prepend-nil, prepend-append, in_step_none, in_step_read, in_step_written, in_step_replies, in_step_later}

pub record Progress {S : Type 0} (steps : S → Line → Response → S → Type 0) (talk new_talk : Option (List Piece)) (left new_left : Option (List ℕ)) (start : S) (held : List ℕ) (before : ℕ) (new : S) (code taken : ℕ) : Type 0 where
  pub pieces : List Piece
  pub told_is : new_talk ≡ then_pieces talk pieces
  pub took : left ≡ prepend_known (got pieces) new_left
  pub transitions : List (Transition S)
  pub course : IsExecution steps start transitions
  pub all_served : lines_of transitions ≡ whole_lines (got pieces)
  pub on : stops transitions ≡ false
  pub are_said : AreSaid start transitions (said pieces) before new code
  pub in_step : AnswersBeforeReads transitions pieces
  pub none_held : whole_lines held ≡ []
  pub rest : rest_of held ≡ rest_of (got pieces)
  pub counted : length (got pieces) ≡ taken
  pub sound : AreSound pieces

-- ---- talks and inputs, one after another

told_more : (talk mid new : Option (List Piece)) (a b : List Piece) → mid ≡ then_pieces talk a → new ≡ then_pieces mid b → new ≡ then_pieces talk (a ++ b)
told_more talk mid new a b first second = second ∙ ap (λ (t : Option (List Piece)). then_pieces t b) first ∙ then_pieces-then_pieces talk a b

took_more : (left mid new : Option (List ℕ)) (a b : List Piece) → left ≡ prepend_known (got a) mid → mid ≡ prepend_known (got b) new → left ≡ prepend_known (got (a ++ b)) new
took_more left mid new a b first second =
    first ∙ ap (λ (l : Option (List ℕ)). prepend_known (got a) l) second ∙ prepend-append (got a) (got b) new
    ∙ ap (λ (bytes : List ℕ). prepend_known bytes new) (sym (got-append a b))

-- where nothing is left, all came
whole_input : (input left : Option (List ℕ)) (bytes : List ℕ) → input ≡ prepend_known bytes left → IsAtEnd left → IfSome input (λ all. bytes ≡ all)
whole_input input None bytes took none = rw took tt
whole_input input (Some later) bytes took none = rw (took, none) (sym (append-nil bytes))

-- the last piece is a cut, where a write failed, and no other call failed
abbrev EndsCut : {B : Type 0} → Served B → List Piece → Type 0
EndsCut On talk = AreSound talk
EndsCut Stopped talk = AreSound talk
EndsCut Failed talk = (before : List Piece) × (bytes : List ℕ) × (talk ≡ before ++ Cut bytes ∷ []) × AreSound before
EndsCut OutOfMemory talk = AreSound talk
EndsCut (Broken error) talk = AreSound talk

ended_calls : {B : Type 0} (outcome : Served B) (talk : List Piece) → EndsCut outcome talk → FailsAtLast (link_end_of outcome) talk
ended_calls On talk cut = cut
ended_calls Stopped talk cut = cut
ended_calls Failed talk cut = record { before = cut.0; last = Cut cut.1; talk_is = cut.2; sound = cut.3 }
ended_calls OutOfMemory talk cut = cut
ended_calls (Broken error) talk cut = cut

module _ {S B : Type 0} (steps : S → Line → Response → S → Type 0) (aborts : S → Line → B → S → Type 0) where
  -- ---- before the first read

  pub progress_start : (talk : Option (List Piece)) (left : Option (List ℕ)) (start : S) (before : ℕ) → Progress steps talk talk left left start [] before start before 0
  progress_start talk left start before = record {
    pieces = [];
    told_is = sym (then_pieces-nil talk);
    took = prepend-nil left;
    transitions = [];
    course = tt;
    all_served = refl;
    on = refl;
    are_said = record { pieces_are = refl; state_is = refl; code_is = refl };
    in_step = in_step_none [];
    none_held = refl;
    rest = refl;
    counted = refl;
    sound = tt;
  }

  -- no memory for the buffer: nothing was done
  pub run_unstarted : (talk : Option (List Piece)) (left : Option (List ℕ)) (start : S) (before : ℕ) → IsLinkRun steps aborts talk talk left left start end.OutOfMemory start before before
  run_unstarted talk left start before = record {
    pieces = [];
    told_is = sym (then_pieces-nil talk);
    took = prepend-nil left;
    transitions = [];
    rest = [];
    course = tt;
    served = inl refl;
    in_step = in_step_none [];
    calls = tt;
    answered = inl (refl, record { pieces_are = refl; state_is = refl; code_is = refl });
  }

  -- ---- What serving says is written, and so moves no byte of the input and is in step.

  record IsWritten (pieces : List Piece) : Type 0 where
    pub none_got : got pieces ≡ []
    pub all_said : said pieces ≡ pieces
    pub in_step : (transitions : List (Transition S)) (talk : List Piece) → AnswersBeforeReads transitions talk → AnswersBeforeReads transitions (talk ++ pieces)

  replies_written : (transitions : List (Transition S)) → IsWritten (replies transitions)
  replies_written transitions = record { none_got = got-replies transitions; all_said = said-replies transitions; in_step = λ all talk step. in_step_replies all talk transitions step }

  cut_written : (transitions : List (Transition S)) (front : List ℕ) → IsWritten (replies transitions ++ Cut front ∷ [])
  cut_written transitions front = record {
    none_got = got-append (replies transitions) (Cut front ∷ []) ∙ rw (got-replies transitions) refl;
    all_said = said-append (replies transitions) (Cut front ∷ []) ∙ rw (said-replies transitions) refl;
    in_step = λ all talk step. rw (← append_assoc talk (replies transitions) (Cut front ∷ []))
        (in_step_written all (talk ++ replies transitions) (Cut front) (in_step_replies all talk transitions step) (λ read. read));
  }

  serves_written : (s new : S) (transitions : List (Transition S)) (rest : List Line) (outcome : Served B) (pieces : List Piece) (code new_code : ℕ) → Serves aborts s transitions rest outcome pieces code new new_code → IsWritten pieces
  serves_written s new transitions rest On pieces code new_code serves = subst IsWritten (sym serves.are_said.pieces_are) (replies_written transitions)
  serves_written s new transitions rest Stopped pieces code new_code serves = subst IsWritten (sym serves.are_said.pieces_are) (replies_written transitions)
  serves_written s new transitions rest Failed pieces code new_code serves = subst IsWritten (sym serves.pieces_are) (cut_written serves.gone serves.front)
  serves_written s new transitions rest OutOfMemory pieces code new_code serves = elim serves [
    | inl all ↦ subst IsWritten (sym all.1.pieces_are) (replies_written transitions)
    | inr unsaid ↦ subst IsWritten (sym unsaid.pieces_are) (replies_written unsaid.gone)
  ]
  serves_written s new transitions rest (Broken error) pieces code new_code serves = subst IsWritten (sym serves.pieces_are) (replies_written transitions)

  ends_cut : (s new : S) (transitions : List (Transition S)) (rest : List Line) (outcome : Served B) (talk pieces : List Piece) (code new_code : ℕ) → AreSound talk → Serves aborts s transitions rest outcome pieces code new new_code → EndsCut outcome (talk ++ pieces)
  ends_cut s new transitions rest On talk pieces code new_code sound serves = rw serves.are_said.pieces_are (sound-append talk (replies transitions) sound (sound_replies transitions))
  ends_cut s new transitions rest Stopped talk pieces code new_code sound serves = rw serves.are_said.pieces_are (sound-append talk (replies transitions) sound (sound_replies transitions))
  ends_cut s new transitions rest Failed talk pieces code new_code sound serves = (
    talk ++ replies serves.gone,
    serves.front,
    ap (λ (l : List Piece). talk ++ l) serves.pieces_are ∙ sym (append_assoc talk (replies serves.gone) (Cut serves.front ∷ [])),
    sound-append talk (replies serves.gone) sound (sound_replies serves.gone),
  )
  ends_cut s new transitions rest OutOfMemory talk pieces code new_code sound serves = elim serves [
    | inl all ↦ rw all.1.pieces_are (sound-append talk (replies transitions) sound (sound_replies transitions))
    | inr unsaid ↦ rw unsaid.pieces_are (sound-append talk (replies unsaid.gone) sound (sound_replies unsaid.gone))
  ]
  ends_cut s new transitions rest (Broken error) talk pieces code new_code sound serves = rw serves.pieces_are (sound-append talk (replies transitions) sound (sound_replies transitions))

  -- ---- the ends

  -- all lines that count were to be served
  ends_all : (start new : S) (transitions : List (Transition S)) (rest : List Line) (outcome : Served B) (talk : List Piece) (left : Option (List ℕ)) (before code : ℕ)
      → Serves aborts start transitions rest outcome (said talk) before new code → EndsCut outcome talk → IsWhole talk left → all_lines (got talk) ≡ lines_of transitions ++ rest
      → Answered aborts (link_end_of outcome) start transitions rest talk left before new code
  ends_all start new transitions rest On talk left before code serves cut whole are = record { are_said = serves.are_said; read = inr (sym (are ∙ rw serves.none_left (append-nil (lines_of transitions))), whole) }
  ends_all start new transitions rest Stopped talk left before code serves cut whole are = record { are_said = serves.are_said; read = inl serves.stopped }
  ends_all start new transitions rest Failed talk left before code serves cut whole are = inr (record { before = cut.0; bytes = cut.1; cut = cut.2; answered = serves })
  ends_all start new transitions rest OutOfMemory talk left before code serves cut whole are = serves
  ends_all start new transitions rest (Broken error) talk left before code serves cut whole are = serves

  -- serving the whole lines ended the run
  ends_within : (start new : S) (transitions : List (Transition S)) (rest : List Line) (outcome : Served B) (talk : List Piece) (left : Option (List ℕ)) (before code : ℕ)
      → Serves aborts start transitions rest outcome (said talk) before new code → EndsCut outcome talk → outcome ≢ On
      → Answered aborts (link_end_of outcome) start transitions rest talk left before new code
  ends_within start new transitions rest On talk left before code serves cut ended = absurd (ended refl)
  ends_within start new transitions rest Stopped talk left before code serves cut ended = record { are_said = serves.are_said; read = inl serves.stopped }
  ends_within start new transitions rest Failed talk left before code serves cut ended = inr (record { before = cut.0; bytes = cut.1; cut = cut.2; answered = serves })
  ends_within start new transitions rest OutOfMemory talk left before code serves cut ended = serves
  ends_within start new transitions rest (Broken error) talk left before code serves cut ended = serves

  -- A talk after which lines were served.
  record HasSpoken (talk new : Option (List Piece)) (left new_left : Option (List ℕ)) (start : S) (bytes : List ℕ) (lines : List Line) (outcome : Served B) (before : ℕ) (session : S) (code : ℕ) : Type 0 where
    pub pieces : List Piece
    pub told_is : new ≡ then_pieces talk pieces
    pub took : left ≡ prepend_known (got pieces) new_left
    pub transitions : List (Transition S)
    pub rest : List Line
    pub course : IsExecution steps start transitions
    pub lines_are : lines ≡ lines_of transitions ++ rest
    pub in_step : AnswersBeforeReads transitions pieces
    pub bytes_are : got pieces ≡ bytes
    pub serves : Serves aborts start transitions rest outcome (said pieces) before session code
    pub cut : EndsCut outcome pieces

  -- serving goes on from a talk whose lines were all served
  speaks : (talk mid new : Option (List Piece)) (left mid_left new_left : Option (List ℕ)) (start session : S) (pieces : List Piece) (gone : List (Transition S)) (lines : List Line) (outcome : Served B) (before code : ℕ) (new_session : S) (new_code : ℕ)
      → mid ≡ then_pieces talk pieces → left ≡ prepend_known (got pieces) mid_left → IsExecution steps start gone → AnswersBeforeReads gone pieces → stops gone ≡ false → AreSaid start gone (said pieces) before session code → AreSound pieces
      → HasServed steps aborts mid new session lines outcome code new_session new_code → new_left ≡ mid_left
      → HasSpoken talk new left new_left start (got pieces) (lines_of gone ++ lines) outcome before new_session new_code
  speaks talk mid new left mid_left new_left start session pieces gone lines outcome before code new_session new_code told_is took course step on are_said sound served same =
      let written = serves_written session new_session served.transitions served.rest outcome served.pieces code new_code served.serves in
      let none : got (pieces ++ served.pieces) ≡ got pieces = got-append pieces served.pieces ∙ ap (λ (l : List ℕ). got pieces ++ l) written.none_got ∙ append-nil (got pieces) in
      record {
        pieces = pieces ++ served.pieces;
        told_is = told_more talk mid new pieces served.pieces told_is served.told_is;
        took = rw (none, same) took;
        transitions = gone ++ served.transitions;
        rest = served.rest;
        course = course-append steps start gone served.transitions on course (rw (← are_said.state_is) served.course);
        lines_are = rw (served.lines_are, lines_of-append gone served.transitions, append_assoc) refl;
        in_step = written.in_step (gone ++ served.transitions) pieces (in_step_later gone served.transitions pieces step);
        bytes_are = none;
        serves = rw (said-append pieces served.pieces, written.all_said)
            (serves_more steps aborts start session new_session gone served.transitions served.rest (said pieces) served.pieces outcome before code new_code are_said on served.serves);
        cut = ends_cut session new_session served.transitions served.rest outcome pieces served.pieces code new_code sound served.serves;
      }

module _ {S B : Type 0} {steps : S → Line → Response → S → Type 0} {talk mid : Option (List Piece)} {left mid_left : Option (List ℕ)} {start : S} {held : List ℕ} {before : ℕ} {session : S} {code taken : ℕ}
    (aborts : S → Line → B → S → Type 0) (p : Progress steps talk mid left mid_left start held before session code taken) where
  caught_up : IsCaughtUp p.transitions p.pieces
  caught_up = record { gone = p.transitions; later = []; turns_are = sym (append-nil p.transitions); lines_are = p.all_served; all_sent = p.are_said.pieces_are; none_stops = p.on }

  -- The read failed.
  pub run_lost : (new : Option (List Piece)) (new_left : Option (List ℕ)) → new ≡ then_pieces mid (Lost ∷ []) → mid_left ≡ prepend_known [] new_left → taken < 2 ^ 40
      → IsLinkRun steps aborts talk new left new_left start end.LinkFault session before code
  run_lost new new_left said_lost none short =
      let bytes : got (p.pieces ++ Lost ∷ []) ≡ got p.pieces = got-append p.pieces (Lost ∷ []) ∙ append-nil (got p.pieces) in
      let words : said (p.pieces ++ Lost ∷ []) ≡ said p.pieces = said-append p.pieces (Lost ∷ []) ∙ append-nil (said p.pieces) in
      record {
        pieces = p.pieces ++ Lost ∷ [];
        told_is = told_more talk mid new p.pieces (Lost ∷ []) p.told_is said_lost;
        took = took_more left mid_left new_left p.pieces (Lost ∷ []) p.took none;
        transitions = p.transitions;
        rest = [];
        course = p.course;
        served = inl (append-nil (lines_of p.transitions) ∙ p.all_served ∙ ap whole_lines (sym bytes));
        in_step = in_step_read p.transitions p.pieces Lost p.in_step caught_up;
        calls = record { before = p.pieces; last = Lost; talk_is = refl; sound = p.sound };
        answered = inl (record {
          before = p.pieces;
          lost = refl;
          short = rw (bytes, p.counted) short;
          answered = record { are_said = rw words p.are_said; all_served = p.all_served ∙ ap whole_lines (sym bytes); on = p.on };
        });
      }

  -- The read was refused for want of memory.
  pub run_refused : (new : Option (List Piece)) (new_left : Option (List ℕ)) → new ≡ mid → new_left ≡ mid_left
      → IsLinkRun steps aborts talk new left new_left start end.OutOfMemory session before code
  run_refused new new_left same same_left = record {
    pieces = p.pieces;
    told_is = same ∙ p.told_is;
    took = p.took ∙ ap (λ (l : Option (List ℕ)). prepend_known (got p.pieces) l) (sym same_left);
    transitions = p.transitions;
    rest = [];
    course = p.course;
    served = inl (append-nil (lines_of p.transitions) ∙ p.all_served);
    in_step = p.in_step;
    calls = p.sound;
    answered = inl (p.on, p.are_said);
  }

  -- Bytes came, and there is no memory for them.
  pub run_unfed : (new : Option (List Piece)) (new_left : Option (List ℕ)) (bytes : List ℕ) → IsSound (Got bytes) → new ≡ then_pieces mid (Got bytes ∷ []) → mid_left ≡ prepend_known (bytes ++ []) new_left
      → IsLinkRun steps aborts talk new left new_left start end.OutOfMemory session before code
  run_unfed new new_left bytes some said_got came =
      let words : said (p.pieces ++ Got bytes ∷ []) ≡ said p.pieces = said-append p.pieces (Got bytes ∷ []) ∙ append-nil (said p.pieces) in
      record {
        pieces = p.pieces ++ Got bytes ∷ [];
        told_is = told_more talk mid new p.pieces (Got bytes ∷ []) p.told_is said_got;
        took = took_more left mid_left new_left p.pieces (Got bytes ∷ []) p.took came;
        transitions = p.transitions;
        rest = whole_lines (rest_of (got p.pieces) ++ (bytes ++ []));
        course = p.course;
        served = inl (rw (p.all_served, ap whole_lines (got-append p.pieces (Got bytes ∷ [])), whole_lines-append (got p.pieces) (bytes ++ [])) refl);
        in_step = in_step_read p.transitions p.pieces (Got bytes) p.in_step caught_up;
        calls = sound-append p.pieces (Got bytes ∷ []) p.sound (some, tt);
        answered = inl (p.on, rw words p.are_said);
      }

  -- The input ended, and the rest was served.
  pub run_ended : (read new : Option (List Piece)) (read_left new_left : Option (List ℕ)) (outcome : Served B) (new_session : S) (new_code : ℕ)
      → read ≡ then_pieces mid [] → mid_left ≡ prepend_known [] read_left → IsAtEnd read_left → taken < 2 ^ 40
      → HasServed steps aborts read new session (line_of_rest (rest_of held)) outcome code new_session new_code → new_left ≡ read_left
      → IsLinkRun steps aborts talk new left new_left start (link_end_of outcome) new_session before new_code
  run_ended read new read_left new_left outcome new_session new_code said_none none at_end short served same =
      let spoken = speaks steps aborts talk read new left read_left new_left start session p.pieces p.transitions (line_of_rest (rest_of held)) outcome before code new_session new_code
      (said_none ∙ then_pieces-nil mid ∙ p.told_is)
      (p.took ∙ ap (λ (l : Option (List ℕ)). prepend_known (got p.pieces) l) (none ∙ sym (prepend-nil read_left)))
      p.course p.in_step p.on p.are_said p.sound served same in
      let all : all_lines (got spoken.pieces) ≡ lines_of spoken.transitions ++ spoken.rest = rw (spoken.bytes_are, ← p.rest, ← p.all_served) spoken.lines_are in
      let whole : IsWhole spoken.pieces left = record {
        whole = whole_input left new_left (got spoken.pieces) spoken.took (subst IsAtEnd (sym same) at_end);
        short = rw (spoken.bytes_are, p.counted) short;
      } in
      record {
        pieces = spoken.pieces;
        told_is = spoken.told_is;
        took = spoken.took;
        transitions = spoken.transitions;
        rest = spoken.rest;
        course = spoken.course;
        served = inr (sym all, whole);
        in_step = spoken.in_step;
        calls = ended_calls outcome spoken.pieces spoken.cut;
        answered = ends_all steps aborts start new_session spoken.transitions spoken.rest outcome spoken.pieces left before new_code spoken.serves spoken.cut whole all;
      }

  module _ (read new : Option (List Piece)) (read_left new_left : Option (List ℕ)) (bytes fed : List ℕ) (outcome : Served B) (new_session : S) (new_code : ℕ)
      (some : IsSound (Got bytes)) (said_got : read ≡ then_pieces mid (Got bytes ∷ [])) (came : mid_left ≡ prepend_known (bytes ++ []) read_left) (stands : StandsFor (held ++ bytes) fed)
      (served : HasServed steps aborts read new session (whole_lines fed) outcome code new_session new_code) (same : new_left ≡ read_left) where
    fed_lines : lines_of p.transitions ++ whole_lines fed ≡ whole_lines (got p.pieces ++ bytes)
    fed_lines = rw (p.all_served, whole_lines-append (got p.pieces) bytes, stands.lines, whole_lines-append held bytes, p.none_held, p.rest) refl

    fed_rest : rest_of fed ≡ rest_of (got p.pieces ++ bytes)
    fed_rest = rw (stands.rest, rest_of-append held bytes, p.rest) (sym (rest_of-append (got p.pieces) bytes))

    got_more : got (p.pieces ++ Got bytes ∷ []) ≡ got p.pieces ++ bytes
    got_more = got-append p.pieces (Got bytes ∷ []) ∙ ap (λ (l : List ℕ). got p.pieces ++ l) (append-nil bytes)

    spoken : HasSpoken steps aborts talk new left new_left start (got (p.pieces ++ Got bytes ∷ [])) (lines_of p.transitions ++ whole_lines fed) outcome before new_session new_code
    spoken = speaks steps aborts talk read new left read_left new_left start session (p.pieces ++ Got bytes ∷ []) p.transitions (whole_lines fed) outcome before code new_session new_code
        (told_more talk mid read p.pieces (Got bytes ∷ []) p.told_is said_got)
        (took_more left mid_left read_left p.pieces (Got bytes ∷ []) p.took came)
        p.course
        (in_step_read p.transitions p.pieces (Got bytes) p.in_step caught_up)
        p.on
        (rw (said-append p.pieces (Got bytes ∷ []), append-nil (said p.pieces)) p.are_said)
        (sound-append p.pieces (Got bytes ∷ []) p.sound (some, tt))
        served same

    bytes_got : got spoken.pieces ≡ got p.pieces ++ bytes
    bytes_got = spoken.bytes_are ∙ got_more

    lines_got : lines_of spoken.transitions ++ spoken.rest ≡ whole_lines (got spoken.pieces)
    lines_got = sym spoken.lines_are ∙ fed_lines ∙ ap whole_lines (sym bytes_got)

    -- A line ended the run.
    pub run_stopped : outcome ≢ On → IsLinkRun steps aborts talk new left new_left start (link_end_of outcome) new_session before new_code
    run_stopped ended = record {
      pieces = spoken.pieces;
      told_is = spoken.told_is;
      took = spoken.took;
      transitions = spoken.transitions;
      rest = spoken.rest;
      course = spoken.course;
      served = inl lines_got;
      in_step = spoken.in_step;
      calls = ended_calls outcome spoken.pieces spoken.cut;
      answered = ends_within steps aborts start new_session spoken.transitions spoken.rest outcome spoken.pieces left before new_code spoken.serves spoken.cut ended;
    }

    -- All lines were served, and the run goes on.
    pub goes_on : (now : List ℕ) → outcome ≡ On → whole_lines now ≡ [] → rest_of now ≡ rest_of fed → Progress steps talk new left new_left start now before new_session new_code (taken + length bytes)
    goes_on now on none rest =
        let goes : Serves aborts start spoken.transitions spoken.rest On (said spoken.pieces) before new_session new_code =
        subst (λ (o : Served B). Serves aborts start spoken.transitions spoken.rest o (said spoken.pieces) before new_session new_code) on spoken.serves in
        record {
          pieces = spoken.pieces;
          told_is = spoken.told_is;
          took = spoken.took;
          transitions = spoken.transitions;
          course = spoken.course;
          all_served = sym (append-nil (lines_of spoken.transitions)) ∙ ap (λ (l : List Line). lines_of spoken.transitions ++ l) (sym goes.none_left) ∙ lines_got;
          on = goes.on;
          are_said = goes.are_said;
          in_step = spoken.in_step;
          none_held = none;
          rest = rest ∙ fed_rest ∙ ap rest_of (sym bytes_got);
          counted = ap length bytes_got ∙ length-append (got p.pieces) bytes ∙ ap (λ (n : ℕ). n + length bytes) p.counted;
          sound = subst (λ (o : Served B). EndsCut o spoken.pieces) on spoken.cut;
        }

  -- So many bytes came that no more are read.
  pub run_too_long : 2 ^ 40 ≤ taken → IsLinkRun steps aborts talk mid left mid_left start end.TooLong session before code
  run_too_long long = record {
    pieces = p.pieces;
    told_is = p.told_is;
    took = p.took;
    transitions = p.transitions;
    rest = [];
    course = p.course;
    served = inl (append-nil (lines_of p.transitions) ∙ p.all_served);
    in_step = p.in_step;
    calls = p.sound;
    answered = record { long = rw p.counted long; answered = record { are_said = p.are_said; all_served = p.all_served; on = p.on } };
  }
