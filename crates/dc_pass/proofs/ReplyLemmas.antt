-- What one more line makes of a reply.
use Rattle.std.proofs.Common.{◌≡◌, ℕ, Bool, true, false, cond, ◌&&◌, List, [], ◌∷◌, ◌++◌, map as each, Some, None, Option, refl, sym, ap, subst, ◌∙◌, append_assoc, arith}
use Rattle.std.specs.Prelude.{codes, ◌==◌}
use Rattle.std.proofs.lemmas.Bool.Decides.{nat_tests}
use Rattle.std.specs.Str.{bytes_eq}
use Rattle.std.proofs.lemmas.List.{map-append, append-nil}
use Rattle.dc_text.specs.Bytes.{is_nil}
use Rattle.dc_text.proofs.LineLemmas.{cond_is_some}
use Rattle.dc_template.proofs.TestLemmas.{both, both_hold}
use Rattle.dc_words.specs.declared.stream.Line.{Line}
use Rattle.dc_words.specs.declared.stream.Line.TheVariants as line
use Rattle.dc_frontend.specs.declared.shown.Shown.{Shown}
use Rattle.dc_teletype.specs.declared.teletype.Answer.{Answer}
use Rattle.dc_teletype.specs.declared.teletype.Answer.TheVariants.{Keep, Value}
use Rattle.dc_teletype.specs.declared.teletype.Asked.{Asked}
use Rattle.dc_teletype.specs.declared.teletype.Asked.TheVariants as reply
use Rattle.dc_pass.specs.declared.lines.WireLine.{WireLine}
use Rattle.dc_pass.specs.declared.replies.ReplyStep.{ReplyStep}
use Rattle.dc_pass.specs.declared.replies.ReplyStep.TheVariants.{Answered, Done, Back}
use Rattle.dc_pass.specs.Wire.{wire_line, is_value, can_answer, answer_all, answer_line, reply_lines}
use Rattle.dc_pass.specs.Reading.{replies, GoesOn, IsWhole, AreUnreadable}
use Rattle.dc_pass.specs.Machine.{said, saying}
use Rattle.dc_pass.specs.Hearing.{left_step, reply_said, maybe_reply_said, reply_step}
use Rattle.dc_pass.proofs.LineLemmas.{said-wire_line, wire_line-said}
use Rattle.dc_pass.proofs.PartLemmas.{is_text, nil_is, chosen}
use Rattle.dc_pass.proofs.TakeLemmas.{Apart, apart}

-- ---- answers as lines

-- the lines of some answers, as they come
abbrev pub answered_lines : List Answer → List Line
answered_lines answers = each line.Whole (each answer_line answers)

abbrev front_byte : List ℕ → ℕ
front_byte [] = 0
front_byte (byte ∷ bytes) = byte

unequal : (m n : ℕ) → (m == n) ≡ false → m ≡ n → ⊥
unequal m n e same = grind (arith, nat_tests)

pub not_done : (answer : Answer) → answer_line answer ≡ codes "done" → ⊥
not_done Keep e = absurd (unequal 107 100 refl (ap front_byte e))
not_done (Value value) e = absurd (unequal 118 100 refl (ap front_byte e))

pub not_back : (answer : Answer) → answer_line answer ≡ codes "back" → ⊥
not_back Keep e = absurd (unequal 107 98 refl (ap front_byte e))
not_back (Value value) e = absurd (unequal 118 98 refl (ap front_byte e))

pub done_not_back : codes "done" ≡ codes "back" → ⊥
done_not_back e = absurd (unequal 100 98 refl (ap front_byte e))

value_one : (a b : List ℕ) → wire_line (codes "value") a ≡ wire_line (codes "value") b → a ≡ b
value_one a b e =
    let same : Some (saying (codes "value") a) ≡ Some (saying (codes "value") b) = sym (said-wire_line (codes "value") a refl) ∙ ap said e ∙ said-wire_line (codes "value") b refl in
    let lines : saying (codes "value") a ≡ saying (codes "value") b = cc in
    ap (λ (l : WireLine). l.text) lines

pub answer_one : (a b : Answer) → answer_line a ≡ answer_line b → a ≡ b
answer_one Keep Keep e = refl
answer_one Keep (Value b) e = absurd (unequal 107 118 refl (ap front_byte e))
answer_one (Value a) Keep e = absurd (unequal 118 107 refl (ap front_byte e))
answer_one (Value a) (Value b) e = ap (λ (v : List ℕ). Value v) (value_one a b e)

-- ---- answers to all questions

-- these are kept
abbrev pub all_kept : List Shown → List Answer
all_kept left = each (λ (_ : Shown). Keep) left

kept_all : (left : List Shown) → answer_all left (all_kept left) ≡ true
kept_all [] = refl
kept_all (q ∷ left) = kept_all left

pub answer_all-append : (asked left : List Shown) (answers more : List Answer) → answer_all asked answers ≡ true → answer_all left more ≡ true → answer_all (asked ++ left) (answers ++ more) ≡ true
answer_all-append [] left [] more a b = b
answer_all-append [] left (x ∷ answers) more a b = absurd (cc)
answer_all-append (q ∷ asked) left [] more a b = absurd (cc)
answer_all-append (q ∷ asked) left (x ∷ answers) more a b =
    let p : (can_answer q x ≡ true) × (answer_all asked answers ≡ true) = both _ _ a in both_hold _ _ p.0 (answer_all-append asked left answers more p.1 b)

answer_all-rest : (asked left : List Shown) (answers more : List Answer) → answer_all asked answers ≡ true → answer_all (asked ++ left) (answers ++ more) ≡ true → answer_all left more ≡ true
answer_all-rest [] left [] more a b = b
answer_all-rest [] left (x ∷ answers) more a b = absurd (cc)
answer_all-rest (q ∷ asked) left [] more a b = absurd (cc)
answer_all-rest (q ∷ asked) left (x ∷ answers) more a b =
    let p : (can_answer q x ≡ true) × (answer_all asked answers ≡ true) = both _ _ a in
    let r : (can_answer q x ≡ true) × (answer_all (asked ++ left) (answers ++ more) ≡ true) = both _ _ b in
    answer_all-rest asked left answers more p.1 r.1

-- ---- a reply goes on

-- the lines with which a reply that goes on may end
record Ends (left : List Shown) : Type 0 where
  next : List ℕ
  behind : List (List ℕ)
  is : each answer_line (all_kept left) ++ codes "done" ∷ [] ≡ next ∷ behind

ends : (left : List Shown) → Ends left
ends [] = record { next = codes "done"; behind = []; is = refl }
ends (q ∷ left) = record { next = codes "keep"; behind = each answer_line (all_kept left) ++ codes "done" ∷ []; is = refl }

pub reply_on : (backup : Bool) (asked left : List Shown) (answers : List Answer) → answer_all asked answers ≡ true → GoesOn (replies backup (asked ++ left)) (answered_lines answers)
reply_on backup asked left answers are =
    let e : Ends left = ends left in
    record {
      next = line.Whole e.next;
      behind = each line.Whole e.behind;
      front = record {
        whole = reply.Answers (answers ++ all_kept left);
        is = answer_all-append asked left answers (all_kept left) are (kept_all left);
        lines_are = ap (each line.Whole) (ap (λ (ls : List (List ℕ)). ls ++ codes "done" ∷ []) (map-append answer_line answers (all_kept left))
            ∙ append_assoc (each answer_line answers) (each answer_line (all_kept left)) (codes "done" ∷ [])
            ∙ ap (λ (ls : List (List ℕ)). each answer_line answers ++ ls) e.is) ∙ map-append line.Whole (each answer_line answers) (e.next ∷ e.behind);
      };
    }

-- ---- what a line makes

-- what a step says of the line and of what is left
abbrev pub StepIs : Bool → List Shown → Line → ReplyStep → Type 0
StepIs first left l (Answered answer) = (question : Shown) × (others : List Shown) × (left ≡ question ∷ others) × (can_answer question answer ≡ true) × (l ≡ line.Whole (answer_line answer))
StepIs first left l Done = (left ≡ []) × (l ≡ line.Whole (codes "done"))
StepIs first left l Back = (first ≡ true) × (l ≡ line.Whole (codes "back"))

alone : (bytes word text : List ℕ) (known : List ℕ) → bytes ≡ wire_line word text → word ≡ known → text ≡ [] → line.Whole bytes ≡ line.Whole known
alone bytes word text known is w t = ap (λ (b : List ℕ). line.Whole b) (is ∙ (λ i. wire_line (w i) (t i)) ∙ append-nil known)

left_is : (first : Bool) (left : List Shown) (bytes word text : List ℕ) (made : ReplyStep) → bytes ≡ wire_line word text → left_step left word text ≡ Some made → StepIs first left (line.Whole bytes) made
left_is first [] bytes word text made is e =
    let c = cond_is_some (bytes_eq word (codes "done") && is_nil text) Done made e in
    let p : (bytes_eq word (codes "done") ≡ true) × (is_nil text ≡ true) = both _ _ c.0 in
    subst (StepIs first [] (line.Whole bytes)) c.1 (refl, alone bytes word text (codes "done") is (is_text word (codes "done") p.0) (nil_is text p.1))
left_is first (q ∷ others) bytes word text made is e =
    chosen (bytes_eq word (codes "keep") && is_nil text) (StepIs first (q ∷ others) (line.Whole bytes) made)
    (λ holds.
    let same : Answered Keep ≡ made = (let got : Some (Answered Keep) ≡ Some made = rw holds at e in cc) in
    let p : (bytes_eq word (codes "keep") ≡ true) × (is_nil text ≡ true) = both _ _ holds in
    subst (StepIs first (q ∷ others) (line.Whole bytes)) same (q, others, refl, refl, alone bytes word text (codes "keep") is (is_text word (codes "keep") p.0) (nil_is text p.1)))
    (λ fails.
    let c = cond_is_some (bytes_eq word (codes "value") && is_value q.kind q.choices text) (Answered (Value text)) made (rw fails at e) in
    let p : (bytes_eq word (codes "value") ≡ true) × (is_value q.kind q.choices text ≡ true) = both _ _ c.0 in
    subst (StepIs first (q ∷ others) (line.Whole bytes)) c.1 (q, others, refl, p.1, ap (λ (b : List ℕ). line.Whole b) (is ∙ ap (λ (w : List ℕ). wire_line w text) (is_text word (codes "value") p.0))))

said_is : (first : Bool) (left : List Shown) (bytes word text : List ℕ) (made : ReplyStep) → bytes ≡ wire_line word text → reply_said first left word text ≡ Some made → StepIs first left (line.Whole bytes) made
said_is first left bytes word text made is e =
    chosen (first && bytes_eq word (codes "back") && is_nil text) (StepIs first left (line.Whole bytes) made)
    (λ holds.
    let same : Back ≡ made = (let got : Some Back ≡ Some made = rw holds at e in cc) in
    let p : ((first && bytes_eq word (codes "back")) ≡ true) × (is_nil text ≡ true) = both _ _ holds in
    let q : (first ≡ true) × (bytes_eq word (codes "back") ≡ true) = both _ _ p.0 in
    subst (StepIs first left (line.Whole bytes)) same (q.0, alone bytes word text (codes "back") is (is_text word (codes "back") q.1) (nil_is text p.1)))
    (λ fails. left_is first left bytes word text made is (rw fails at e))

pub step_is : (first : Bool) (left : List Shown) (l : Line) (made : ReplyStep) → reply_step first left l ≡ Some made → StepIs first left l made
step_is first left line.TooLong made e = absurd (cc)
step_is first left (line.Whole bytes) made e = by (said bytes) refl e where
  by : (found : Option WireLine) → said bytes ≡ found → maybe_reply_said first left found ≡ Some made → StepIs first left (line.Whole bytes) made
  by None f e = absurd (cc)
  by (Some s) f e = said_is first left bytes s.word s.text made (wire_line-said bytes s f) e

-- ---- what no step is made of

some_not_none : {X : Type 0} (o : Option X) (x : X) → o ≡ Some x → o ≡ None → ⊥
some_not_none o x a b = let off : Some x ≡ None = sym a ∙ b in cc

done_made : (first : Bool) → reply_step first [] (line.Whole (codes "done")) ≡ Some Done
done_made true = refl
done_made false = refl

keep_made : (first : Bool) (q : Shown) (others : List Shown) → reply_step first (q ∷ others) (line.Whole (codes "keep")) ≡ Some (Answered Keep)
keep_made true q others = refl
keep_made false q others = refl

value_said : (first : Bool) (q : Shown) (others : List Shown) (value : List ℕ) → is_value q.kind q.choices value ≡ true → reply_said first (q ∷ others) (codes "value") value ≡ Some (Answered (Value value))
value_said true q others value is = ap (λ b. cond b (Some (Answered (Value value))) None) is
value_said false q others value is = ap (λ b. cond b (Some (Answered (Value value))) None) is

answer_made : (first : Bool) (q : Shown) (others : List Shown) (answer : Answer) → can_answer q answer ≡ true → reply_step first (q ∷ others) (line.Whole (answer_line answer)) ≡ Some (Answered answer)
answer_made first q others Keep is = keep_made first q others
answer_made first q others (Value value) is = ap (maybe_reply_said first (q ∷ others)) (said-wire_line (codes "value") value refl) ∙ value_said first q others value is

-- the answers of a reply begin with those that came
record Fronts (all answers : List Answer) (bytes : List ℕ) (others : List (List ℕ)) : Type 0 where
  more : List Answer
  all_are : all ≡ answers ++ more
  lines_are : each answer_line more ++ codes "done" ∷ [] ≡ bytes ∷ others

fronts : (answers all : List Answer) (bytes : List ℕ) (others : List (List ℕ)) → each answer_line all ++ codes "done" ∷ [] ≡ each answer_line answers ++ bytes ∷ others → Fronts all answers bytes others
fronts [] all bytes others e = record { more = all; all_are = refl; lines_are = e }
fronts (a ∷ answers) [] bytes others e = let first : codes "done" ≡ answer_line a = cc in absurd (not_done a (sym first))
fronts (a ∷ answers) (b ∷ all) bytes others e =
    let first : answer_line b ≡ answer_line a = cc in
    let rest : each answer_line all ++ codes "done" ∷ [] ≡ each answer_line answers ++ bytes ∷ others = cc in
    let same : b ≡ a = answer_one b a first in
    let f : Fronts all answers bytes others = fronts answers all bytes others rest in
    record { more = f.more; all_are = (λ i. same i ∷ f.all_are i); lines_are = f.lines_are }

unmade : (first : Bool) (left : List Shown) (more : List Answer) (bytes : List ℕ) (others : List (List ℕ)) → answer_all left more ≡ true
    → each answer_line more ++ codes "done" ∷ [] ≡ bytes ∷ others → reply_step first left (line.Whole bytes) ≡ None → ⊥
unmade first [] [] bytes others are e none =
    let is : codes "done" ≡ bytes = cc in
    some_not_none (reply_step first [] (line.Whole (codes "done"))) Done (done_made first) (ap (λ (b : List ℕ). reply_step first [] (line.Whole b)) is ∙ none)
unmade first (q ∷ left) [] bytes others are e none = absurd (cc)
unmade first [] (a ∷ more) bytes others are e none = absurd (cc)
unmade first (q ∷ left) (a ∷ more) bytes others are e none =
    let is : answer_line a ≡ bytes = cc in
    let p : (can_answer q a ≡ true) × (answer_all left more ≡ true) = both _ _ are in
    some_not_none (reply_step first (q ∷ left) (line.Whole (answer_line a))) (Answered a) (answer_made first q left a p.0) (ap (λ (b : List ℕ). reply_step first (q ∷ left) (line.Whole b)) is ∙ none)

not_back_line : (backup : Bool) (left : List Shown) (answers : List Answer) (bytes : List ℕ) (others : List (List ℕ)) → backup ≡ true → codes "back" ∷ [] ≡ each answer_line answers ++ bytes ∷ others
    → reply_step (backup && is_nil answers) left (line.Whole bytes) ≡ None → ⊥
not_back_line backup left [] bytes others is e none =
    let b : codes "back" ≡ bytes = cc in
    let made : reply_step (backup && true) left (line.Whole (codes "back")) ≡ Some Back =
    ap (λ t. reply_step (t && true) left (line.Whole (codes "back"))) is in
    some_not_none (reply_step (backup && true) left (line.Whole (codes "back"))) Back made (ap (λ (x : List ℕ). reply_step (backup && true) left (line.Whole x)) b ∙ none)
not_back_line backup left (a ∷ answers) bytes others is e none = let first : codes "back" ≡ answer_line a = cc in not_back a (sym first)

pub reply_bad : (backup : Bool) (asked left : List Shown) (answers : List Answer) (l : Line) → answer_all asked answers ≡ true → reply_step (backup && is_nil answers) left l ≡ None
    → AreUnreadable (replies backup (asked ++ left)) (answered_lines answers ++ l ∷ [])
reply_bad backup asked left answers l are none = λ behind front.
    let a : Apart (reply_lines front.whole) (each answer_line answers) l behind =
    apart (reply_lines front.whole) (each answer_line answers) l behind (front.lines_are ∙ append_assoc (answered_lines answers) (l ∷ []) behind) in
    by a.bytes a.others front.whole front.is a.lines_are (subst (λ (x : Line). reply_step (backup && is_nil answers) left x ≡ None) a.line_is none) where
      by : (bytes : List ℕ) (others : List (List ℕ)) (whole : Asked) → (replies backup (asked ++ left)).is whole ≡ true → reply_lines whole ≡ each answer_line answers ++ bytes ∷ others
          → reply_step (backup && is_nil answers) left (line.Whole bytes) ≡ None → ⊥
      by bytes others reply.Back is e none = not_back_line backup left answers bytes others is e none
      by bytes others (reply.Answers all) is e none =
          let f : Fronts all answers bytes others = fronts answers all bytes others e in
          unmade (backup && is_nil answers) left f.more bytes others (answer_all-rest asked left answers f.more are (ap (answer_all (asked ++ left)) (sym f.all_are) ∙ is)) f.lines_are none

-- ---- what a step makes of a reply

pub reply_back : (backup : Bool) (shown : List Shown) (answers : List Answer) (l : Line) → StepIs (backup && is_nil answers) shown l Back → IsWhole (replies backup shown) (answered_lines answers ++ l ∷ []) reply.Back
reply_back backup shown answers l is =
    let p : (backup ≡ true) × (is_nil answers ≡ true) = both _ _ is.0 in
    record { is = p.0; lines_are = (λ i. answered_lines (sym (nil_is answers p.1) i) ++ sym is.1 i ∷ []) }

pub reply_done : (backup : Bool) (asked : List Shown) (answers : List Answer) (l : Line) → answer_all asked answers ≡ true → l ≡ line.Whole (codes "done")
    → IsWhole (replies backup asked) (answered_lines answers ++ l ∷ []) (reply.Answers answers)
reply_done backup asked answers l are is =
    record { is = are; lines_are = map-append line.Whole (each answer_line answers) (codes "done" ∷ []) ∙ ap (λ (x : Line). answered_lines answers ++ x ∷ []) (sym is) }

pub reply_answer : (answers : List Answer) (answer : Answer) (l : Line) → l ≡ line.Whole (answer_line answer) → answered_lines (answers ++ answer ∷ []) ≡ answered_lines answers ++ l ∷ []
reply_answer answers answer l is =
    ap (each line.Whole) (map-append answer_line answers (answer ∷ [])) ∙ map-append line.Whole (each answer_line answers) (answer_line answer ∷ [])
    ∙ ap (λ (x : Line). answered_lines answers ++ x ∷ []) (sym is)
