-- A reply that comes line by line.
use Rattle.std.proofs.Common.{◌≡◌, ◌<◌, ◌+◌, ℕ, Bool, true, List, [], ◌∷◌, ◌++◌, length, drop, map as each, Some, None, Ok, Err, Option, Result, refl, sym, ap, subst, ◌∙◌, append_assoc, arith, inl, inr, length-append}
use Rattle.std.specs.Prelude.{◌&&◌, ◌^◌}
use Rattle.std.proofs.lemmas.List.{map-append, append-nil}
use Rattle.dc_text.specs.Bytes.{is_nil}
use Rattle.dc_words.specs.declared.stream.Line.{Line}
use Rattle.dc_frontend.specs.declared.shown.Shown.{Shown}
use Rattle.dc_teletype.specs.TerminalLines.{TerminalState}
use Rattle.dc_teletype.specs.declared.terminal.TerminalLine.{TerminalLine}
use Rattle.dc_teletype.specs.declared.teletype.Answer.{Answer}
use Rattle.dc_teletype.specs.declared.teletype.Asked.{Asked}
use Rattle.dc_teletype.specs.declared.teletype.Asked.TheVariants as reply
use Rattle.dc_pass.specs.declared.pass.PassError.{PassError}
use Rattle.dc_pass.specs.declared.pass.PassError.TheVariants.{Failed, Bad, OutOfMemory}
use Rattle.dc_pass.specs.declared.replies.ReplyStep.TheVariants.{Answered, Done, Back}
use Rattle.dc_template.proofs.TestLemmas.{both_hold}
use Rattle.dc_pass.specs.Wire.{answer_all, can_answer}
use Rattle.dc_pass.specs.Reading.{replies, GoesOn, IsWhole, AreUnreadable}
use Rattle.dc_pass.specs.Hearing.{reply_step}
use Rattle.dc_pass.specs.Passing.{NextLine, LinesCome, seen, counted, Comes, Hears}
use Rattle.dc_pass.proofs.ReplyLemmas.{answered_lines, reply_on, reply_bad, reply_back, reply_done, reply_answer, StepIs, step_is, answer_all-append}

come_one : (old mid new : TerminalState) (lines : List TerminalLine) (line : TerminalLine) → LinesCome old lines mid → NextLine mid new (Ok (Some line)) → LinesCome old (lines ++ line ∷ []) new
come_one old mid new [] line came next = (new, subst (λ s. NextLine s new (Ok (Some line))) came next, refl)
come_one old mid new (l ∷ lines) line came next = (came.0, came.1, come_one came.0 mid new lines line came.2 next)

-- as far as the reply came
pub record Progress (backup : Bool) (shown left : List Shown) (answers : List Answer) (old now : TerminalState) (before got : ℕ) : Type 0 where
  pub lines : List TerminalLine
  pub came : LinesCome old lines now
  pub seen_are : each seen lines ≡ answered_lines answers
  pub got_is : got ≡ counted before (length lines)
  pub asked : List Shown
  pub whole : shown ≡ asked ++ left
  pub are : answer_all asked answers ≡ true

pub starts : (backup : Bool) (shown : List Shown) (old : TerminalState) (before : ℕ) → before < 2 ^ 64 → Progress backup shown shown [] old old before before
starts backup shown old before small = record { lines = []; came = refl; seen_are = refl; got_is = omega arith; asked = []; whole = refl; are = refl }

goes_on : {backup : Bool} {shown left : List Shown} {answers : List Answer} {old now : TerminalState} {before got : ℕ} → (p : Progress backup shown left answers old now before got)
    → GoesOn (replies backup shown) (each seen p.lines)
goes_on {backup} {shown} {left} {answers} p =
    subst (GoesOn (replies backup shown)) (sym p.seen_are) (subst (λ (s : List Shown). GoesOn (replies backup s) (answered_lines answers)) (sym p.whole) (reply_on backup p.asked left answers p.are))

one_more : (lines : List TerminalLine) (line : TerminalLine) (before : ℕ) → counted (counted before (length lines)) 1 ≡ counted before (length lines + 1)
one_more lines line before = omega arith

-- ---- how it ends

pub heard_nothing : {backup : Bool} {shown left : List Shown} {answers : List Answer} {old now : TerminalState} {before got : ℕ} → Progress backup shown left answers old now before got
    → (new : TerminalState) (got_now : ℕ) → Comes got now new (Ok None) got_now → Hears (replies backup shown) before old new (Ok None) got_now
heard_nothing p new got_now came = (p.lines, _, p.came, goes_on p, came.0, came.1 ∙ p.got_is)

pub heard_failure : {backup : Bool} {shown left : List Shown} {answers : List Answer} {old now : TerminalState} {before got : ℕ} → Progress backup shown left answers old now before got
    → (new : TerminalState) (got_now : ℕ) (error : PassError) → Comes got now new (Err error) got_now → Hears (replies backup shown) before old new (Err error) got_now
heard_failure p new got_now Failed came = (p.lines, _, p.came, goes_on p, came.0, came.1 ∙ p.got_is)
heard_failure p new got_now OutOfMemory came = (p.lines, _, p.came, inr came.0, came.1 ∙ p.got_is)
heard_failure p new got_now (Bad line) came = absurd came

-- the lines with one that came
pub record OneMore (backup : Bool) (shown left : List Shown) (answers : List Answer) (old new : TerminalState) (l : Line) (before got : ℕ) : Type 0 where
  pub lines : List TerminalLine
  pub line : TerminalLine
  pub came : LinesCome old (lines ++ line ∷ []) new
  pub line_is : l ≡ seen line
  pub seen_are : each seen lines ≡ answered_lines answers
  pub got_is : got ≡ counted before (length lines + 1)
  pub on : GoesOn (replies backup shown) (each seen lines)
  pub asked : List Shown
  pub whole : shown ≡ asked ++ left
  pub are : answer_all asked answers ≡ true

pub one_came : {backup : Bool} {shown left : List Shown} {answers : List Answer} {old now : TerminalState} {before got : ℕ} → Progress backup shown left answers old now before got
    → (new : TerminalState) (got_now : ℕ) (l : Line) → Comes got now new (Ok (Some l)) got_now → OneMore backup shown left answers old new l before got_now
one_came {backup} {shown} {left} {answers} {old} {now} {before} {got} p new got_now l came = record {
  lines = p.lines;
  line = came.0;
  came = come_one old now new p.lines came.0 p.came came.1;
  line_is = came.2;
  seen_are = p.seen_are;
  got_is = came.3 ∙ ap (λ (n : ℕ). counted n 1) p.got_is ∙ one_more p.lines came.0 before;
  on = goes_on p;
  asked = p.asked;
  whole = p.whole;
  are = p.are;
}

pushed_seen : (lines : List TerminalLine) (line : TerminalLine) → each seen (lines ++ line ∷ []) ≡ each seen lines ++ seen line ∷ []
pushed_seen lines line = map-append seen lines (line ∷ [])

pushed_count : (lines : List TerminalLine) (line : TerminalLine) (before : ℕ) → counted before (length lines + 1) ≡ counted before (length (lines ++ line ∷ []))
pushed_count lines line before = ap (λ (n : ℕ). counted before n) (sym (length-append lines (line ∷ [])))

lines_seen : {backup : Bool} {shown left : List Shown} {answers : List Answer} {old new : TerminalState} {l : Line} {before got : ℕ} → (o : OneMore backup shown left answers old new l before got)
    → answered_lines answers ++ l ∷ [] ≡ each seen (o.lines ++ o.line ∷ [])
lines_seen o = (λ i. sym o.seen_are i ++ o.line_is i ∷ []) ∙ sym (pushed_seen o.lines o.line)

pub heard_bad : {backup : Bool} {shown left : List Shown} {answers : List Answer} {old new : TerminalState} {l : Line} {before got : ℕ} → OneMore backup shown left answers old new l before got
    → reply_step (backup && is_nil answers) left l ≡ None → Hears (replies backup shown) before old new (Err (Bad got)) got
heard_bad {backup} {shown} {left} {answers} {l = l} o none =
    let bad : AreUnreadable (replies backup shown) (answered_lines answers ++ l ∷ []) =
    subst (λ (s : List Shown). AreUnreadable (replies backup s) (answered_lines answers ++ l ∷ [])) (sym o.whole) (reply_bad backup o.asked left answers l o.are none) in
    (o.lines, o.line, o.came, o.on, subst (AreUnreadable (replies backup shown)) (λ i. sym o.seen_are i ++ o.line_is i ∷ []) bad, o.got_is, refl)

pub heard_memory : {backup : Bool} {shown left : List Shown} {answers : List Answer} {old new : TerminalState} {l : Line} {before got : ℕ} → OneMore backup shown left answers old new l before got
    → Hears (replies backup shown) before old new (Err OutOfMemory) got
heard_memory {before = before} o = (o.lines ++ o.line ∷ [], _, o.came, inl refl, o.got_is ∙ pushed_count o.lines o.line before)

pub heard_back : {backup : Bool} {shown left : List Shown} {answers : List Answer} {old new : TerminalState} {l : Line} {before got : ℕ} → OneMore backup shown left answers old new l before got
    → reply_step (backup && is_nil answers) left l ≡ Some Back → Hears (replies backup shown) before old new (Ok (Some reply.Back)) got
heard_back {backup} {shown} {left} {answers} {l = l} {before = before} o made =
    let whole : IsWhole (replies backup shown) (answered_lines answers ++ l ∷ []) reply.Back =
    reply_back backup shown answers l (step_is (backup && is_nil answers) left l Back made) in
    (o.lines ++ o.line ∷ [], o.came, subst (λ (ls : List Line). IsWhole (replies backup shown) ls reply.Back) (lines_seen o) whole, o.got_is ∙ pushed_count o.lines o.line before)

pub heard_done : {backup : Bool} {shown left : List Shown} {answers : List Answer} {old new : TerminalState} {l : Line} {before got : ℕ} → OneMore backup shown left answers old new l before got
    → reply_step (backup && is_nil answers) left l ≡ Some Done → Hears (replies backup shown) before old new (Ok (Some (reply.Answers answers))) got
heard_done {backup} {shown} {left} {answers} {l = l} {before = before} o made =
    let is : StepIs (backup && is_nil answers) left l Done = step_is (backup && is_nil answers) left l Done made in
    let all : o.asked ≡ shown = sym (o.whole ∙ ap (λ (ls : List Shown). o.asked ++ ls) is.0 ∙ append-nil o.asked) in
    let whole : IsWhole (replies backup shown) (answered_lines answers ++ l ∷ []) (reply.Answers answers) =
    subst (λ (s : List Shown). IsWhole (replies backup s) (answered_lines answers ++ l ∷ []) (reply.Answers answers)) all (reply_done backup o.asked answers l o.are is.1) in
    (o.lines ++ o.line ∷ [], o.came, subst (λ (ls : List Line). IsWhole (replies backup shown) ls (reply.Answers answers)) (lines_seen o) whole, o.got_is ∙ pushed_count o.lines o.line before)

pub heard_answer : {backup : Bool} {shown left : List Shown} {answers : List Answer} {old new : TerminalState} {l : Line} {before got : ℕ} → OneMore backup shown left answers old new l before got
    → (answer : Answer) → reply_step (backup && is_nil answers) left l ≡ Some (Answered answer) → Progress backup shown (drop 1 left) (answers ++ answer ∷ []) old new before got
heard_answer {backup} {shown} {left} {answers} {l = l} {before = before} o answer made =
    let is : StepIs (backup && is_nil answers) left l (Answered answer) = step_is (backup && is_nil answers) left l (Answered answer) made in
    record {
      lines = o.lines ++ o.line ∷ [];
      came = o.came;
      seen_are = sym (lines_seen o) ∙ sym (reply_answer answers answer l is.4);
      got_is = o.got_is ∙ pushed_count o.lines o.line before;
      asked = o.asked ++ is.0 ∷ [];
      whole = o.whole ∙ ap (λ (ls : List Shown). o.asked ++ ls) (is.2 ∙ ap (λ (ls : List Shown). is.0 ∷ ls) (sym (ap (drop 1) is.2)))
          ∙ sym (append_assoc o.asked (is.0 ∷ []) (drop 1 left));
      are = answer_all-append o.asked (is.0 ∷ []) answers (answer ∷ []) o.are (one_answer is.0 answer is.3);
    } where
      one_answer : (q : Shown) (a : Answer) → can_answer q a ≡ true → (can_answer q a && true) ≡ true
      one_answer q a e = both_hold _ _ e refl

pub fewer_left : (first : Bool) (left : List Shown) (l : Line) (answer : Answer) → reply_step first left l ≡ Some (Answered answer) → length (drop 1 left) < length left
fewer_left first left l answer made =
    let is : StepIs first left l (Answered answer) = step_is first left l (Answered answer) made in
    subst (λ (ls : List Shown). length (drop 1 ls) < length ls) (sym is.2) (omega arith)

pub heard_refused : {backup : Bool} {shown left : List Shown} {answers : List Answer} {old new : TerminalState} {l : Line} {before got : ℕ} → OneMore backup shown left answers old new l before got
    → (result : Result (Option Asked) PassError) → result ≡ Err OutOfMemory → Hears (replies backup shown) before old new result got
heard_refused {backup} {shown} {old = old} {new = new} {before = before} {got = got} o result is =
    subst (λ (r : Result (Option Asked) PassError). Hears (replies backup shown) before old new r got) (sym is) (heard_memory o)
