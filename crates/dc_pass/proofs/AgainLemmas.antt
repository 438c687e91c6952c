-- What is printed is read again, and lines are taken in one way.
use Rattle.std.proofs.Common.{◌≡◌, ℕ, Bool, true, false, cond, List, [], ◌∷◌, ◌++◌, map as each, Some, None, Ok, Err, Option, refl, sym, ap, subst, ◌∙◌, append_assoc}
use Rattle.std.specs.Prelude.{codes, ◌||◌, ◌==◌}
use Rattle.std.specs.List.{flat_map, list_all}
use Rattle.std.proofs.lemmas.List.{append-nil}
use Rattle.dc_text.specs.Bytes.{is_nil}
use Rattle.dc_text.specs.Lines.{TextLines, text_lines, onto_first, text_of, has_newline, HaveNoNewline}
use Rattle.dc_template.proofs.TestLemmas.{both, neither, list_any-append}
use Rattle.dc_template.specs.Kinds.{kind_word}
use Rattle.dc_words.specs.Escaped.{escaped, escaped_byte}
use Rattle.dc_words.specs.Stream.{line_of, whole_lines}
use Rattle.dc_words.specs.declared.stream.Line.{Line}
use Rattle.dc_words.specs.declared.stream.Line.TheVariants as line
use Rattle.dc_proto.specs.Replies.{told_text}
use Rattle.dc_frontend.specs.declared.shown.Shown.{Shown}
use Rattle.dc_pass.specs.declared.calls.WireCall.{WireCall}
use Rattle.dc_pass.specs.declared.calls.WireCall.TheVariants.{Ask}
use Rattle.dc_pass.specs.declared.calls.WireError.TheVariants.{Bad}
use Rattle.dc_pass.specs.declared.begun.Begun.{Begun}
use Rattle.dc_pass.specs.declared.begun.Begun.TheVariants.{Nothing}
use Rattle.dc_pass.specs.declared.begun.Step.{Step}
use Rattle.dc_pass.specs.declared.begun.Step.TheVariants.{Begins, Completes}
use Rattle.dc_pass.specs.Wire.{wire_line, fits, choice_lines, heading_lines, question_lines, opening_lines, backup_word, request_lines, call_lines, is_call}
use Rattle.dc_pass.specs.Reading.{calls, GoesOn, IsWhole, Takes, AreTaken}
use Rattle.dc_pass.specs.Machine.{lines_begun, is_begun}
use Rattle.dc_pass.proofs.TakeLemmas.{takes_more, takes_whole, stays_begun, Apart, apart}
use Rattle.dc_pass.proofs.RunLemmas.{makes, go_on, run, run-whole, call_run}

-- ---- lines that are printed have no newline

escaped_free : (text : List ℕ) → has_newline (escaped text) ≡ false
escaped_free [] = refl
escaped_free (b ∷ text) =
    list_any-append (λ c. c == 10) (escaped_byte b) (escaped text) ∙ (λ i. first b i || escaped_free text i) where
      first : (b : ℕ) → has_newline (escaped_byte b) ≡ false
      first b = elim (b == 92) as (λ s. has_newline (cond s (92 ∷ 92 ∷ []) (cond (b == 10) (92 ∷ 110 ∷ []) (b ∷ []))) ≡ false) [
        | true ↦ refl
        | false ↦ elim (b == 10) as (λ s. (b == 10) ≡ s → has_newline (cond s (92 ∷ 110 ∷ []) (b ∷ [])) ≡ false) [ true ↦ λ _. refl | false ↦ λ e. ap (λ t. t || false) e ] refl
      ]

told_free : (text : List ℕ) → has_newline (told_text true text) ≡ false
told_free [] = refl
told_free (b ∷ text) = escaped_free (b ∷ text)

pub wire_free : (word text : List ℕ) → has_newline word ≡ false → has_newline (wire_line word text) ≡ false
wire_free word text h = list_any-append (λ c. c == 10) word (told_text true text) ∙ (λ i. h i || told_free text i)

pub free-append : (xs ys : List (List ℕ)) → HaveNoNewline xs → HaveNoNewline ys → HaveNoNewline (xs ++ ys)
free-append [] ys f g = g
free-append (x ∷ xs) ys f g = (f.0, free-append xs ys f.1 g)

choices_free : (choices labels : List (List ℕ)) → HaveNoNewline (choice_lines choices labels)
choices_free [] labels = tt
choices_free (c ∷ choices) [] = tt
choices_free (c ∷ choices) (l ∷ labels) = (wire_free (codes "choice") c refl, (wire_free (codes "label") l refl, choices_free choices labels))

question_free : (q : Shown) → HaveNoNewline (question_lines q)
question_free q = free-append (heading_lines q.name q.kind q.description q.extended ++ choice_lines q.choices q.labels) (wire_line (codes "value") q.value ∷ [])
    (free-append (heading_lines q.name q.kind q.description q.extended) (choice_lines q.choices q.labels)
    (wire_free (codes "question") q.name refl, (wire_free (codes "kind") (kind_word q.kind) refl, (wire_free (codes "description") q.description refl, (wire_free (codes "extended") q.extended refl, tt))))
    (choices_free q.choices q.labels))
    (wire_free (codes "value") q.value refl, tt)

questions_free : (qs : List Shown) → HaveNoNewline (flat_map question_lines qs)
questions_free [] = tt
questions_free (q ∷ qs) = free-append (question_lines q) (flat_map question_lines qs) (question_free q) (questions_free qs)

request_free : (title : List ℕ) (backup : Bool) (shown : List Shown) → HaveNoNewline (request_lines title backup shown)
request_free title backup shown =
    free-append (opening_lines title backup ++ flat_map question_lines shown) (codes "ask" ∷ [])
    (free-append (opening_lines title backup) (flat_map question_lines shown)
    (wire_free (codes "title") title refl, (wire_free (codes "backup") (backup_word backup) refl, tt)) (questions_free shown))
    (refl, tt)

-- ---- the lines of a text of lines

text_lines-line : (l text : List ℕ) → has_newline l ≡ false → text_lines (l ++ 10 ∷ text) ≡ record { ended = l ∷ (text_lines text).ended; rest = (text_lines text).rest }
text_lines-line [] text h = refl
text_lines-line (b ∷ l) text h =
    let f : ((b == 10) ≡ false) × (has_newline l ≡ false) = neither _ _ h in
    let more : TextLines = text_lines (l ++ 10 ∷ text) in
    ap (λ t. cond t (record { ended = [] ∷ more.ended; rest = more.rest }) (onto_first b more.ended more.rest)) f.0
    ∙ ap (λ (p : TextLines). onto_first b p.ended p.rest) (text_lines-line l text f.1)

text_lines-text_of : (lines : List (List ℕ)) → HaveNoNewline lines → text_lines (text_of lines) ≡ record { ended = lines; rest = [] }
text_lines-text_of [] h = refl
text_lines-text_of (l ∷ lines) h =
    ap text_lines (append_assoc l (10 ∷ []) (text_of lines)) ∙ text_lines-line l (text_of lines) h.0
    ∙ ap (λ (p : TextLines). record { ended = l ∷ p.ended; rest = p.rest }) (text_lines-text_of lines h.1)

fitting_whole : (lines : List (List ℕ)) → list_all fits lines ≡ true → each line_of lines ≡ each line.Whole lines
fitting_whole [] f = refl
fitting_whole (l ∷ lines) f =
    let p : (fits l ≡ true) × (list_all fits lines ≡ true) = both _ _ f in
    (λ i. cond (p.0 i) (line.Whole l) line.TooLong ∷ fitting_whole lines p.1 i)

pub printed_lines : (lines : List (List ℕ)) → HaveNoNewline lines → list_all fits lines ≡ true → whole_lines (text_of lines) ≡ each line.Whole lines
printed_lines lines h f = ap (λ (p : TextLines). each line_of p.ended) (text_lines-text_of lines h) ∙ fitting_whole lines f

-- ---- they are taken

completes_is : (lines : List (List ℕ)) (other call : WireCall) → cond (is_nil lines) (Some (Completes other)) None ≡ Some (Completes call) → (lines ≡ []) × (other ≡ call)
completes_is [] other call e = (refl, cc)
completes_is (l ∷ lines) other call e = absurd (cc)

pub taken_run : (b : Begun) (lines : List (List ℕ)) (call : WireCall) → is_begun b ≡ true → run b lines ≡ Some (Completes call)
    → AreTaken calls (lines_begun b) (each line.Whole lines) (call ∷ []) []
taken_run b [] call is e = absurd (cc)
taken_run b (l ∷ lines) call is e =
    by_step b l lines call is (λ c more e'. taken_run c lines call more e') (makes b l) refl e where
      by_step : (b : Begun) (l : List ℕ) (lines : List (List ℕ)) (call : WireCall) → is_begun b ≡ true
          → ((c : Begun) → is_begun c ≡ true → run c lines ≡ Some (Completes call) → AreTaken calls (lines_begun c) (each line.Whole lines) (call ∷ []) [])
          → (m : Option Step) → makes b l ≡ m → go_on m (λ more. run more lines) (is_nil lines) ≡ Some (Completes call) → AreTaken calls (lines_begun b) (each line.Whole (l ∷ lines)) (call ∷ []) []
      by_step b l lines call is again None m e = absurd (cc)
      by_step b l lines call is again (Some (Begins c)) m e =
          (None, lines_begun c, call ∷ [], takes_more b c (line.Whole l) is m, refl, again c (stays_begun b c (line.Whole l) is m) e)
      by_step b l lines call is again (Some (Completes other)) m e =
          let p : (lines ≡ []) × (other ≡ call) = completes_is lines other call e in
          (Some other, [], [], takes_whole b other (line.Whole l) is m, (λ i. sym p.1 i ∷ []), subst (λ (ls : List (List ℕ)). AreTaken calls [] (each line.Whole ls) [] []) (sym p.0) (refl, refl))

pub request_again : (title : List ℕ) (backup : Bool) (shown : List Shown) → is_call (Ask title backup shown) ≡ true → list_all fits (request_lines title backup shown) ≡ true
    → AreTaken calls [] (whole_lines (text_of (request_lines title backup shown))) (Ask title backup shown ∷ []) []
request_again title backup shown is fit =
    subst (λ (ls : List Line). AreTaken calls [] ls (Ask title backup shown ∷ []) []) (sym (printed_lines (request_lines title backup shown) (request_free title backup shown) fit))
    (taken_run Nothing (request_lines title backup shown) (Ask title backup shown) refl (call_run (Ask title backup shown) is))

-- ---- lines are taken in one way

whole_apart : (lines : List Line) (call : WireCall) → IsWhole calls lines call → GoesOn calls lines → ⊥
whole_apart lines call whole on =
    let l : each line.Whole (call_lines on.front.whole) ≡ each line.Whole (call_lines call) ++ on.next ∷ on.behind =
    on.front.lines_are ∙ ap (λ (ls : List Line). ls ++ on.next ∷ on.behind) (sym whole.lines_are) in
    let a : Apart (call_lines on.front.whole) (call_lines call) on.next on.behind = apart (call_lines on.front.whole) (call_lines call) on.next on.behind l in
    let off : None ≡ Some (Completes on.front.whole) =
    sym (run-whole Nothing call (call_lines call) a.others a.bytes (call_run call whole.is)) ∙ sym (ap (run Nothing) a.lines_are) ∙ call_run on.front.whole on.front.is in
    cc

pub whole_same : (xs ys : List (List ℕ)) → each line.Whole xs ≡ each line.Whole ys → xs ≡ ys
whole_same [] [] e = refl
whole_same [] (y ∷ ys) e = absurd (cc)
whole_same (x ∷ xs) [] e = absurd (cc)
whole_same (x ∷ xs) (y ∷ ys) e =
    let here : x ≡ y = cc in
    let rest : each line.Whole xs ≡ each line.Whole ys = cc in
    (λ i. here i ∷ whole_same xs ys rest i)

whole_one : (lines : List Line) (a b : WireCall) → IsWhole calls lines a → IsWhole calls lines b → a ≡ b
whole_one lines a b one other =
    let same : call_lines a ≡ call_lines b = whole_same (call_lines a) (call_lines b) (one.lines_are ∙ sym other.lines_are) in
    let e : Some (Completes a) ≡ Some (Completes b) = sym (call_run a one.is) ∙ ap (run Nothing) same ∙ call_run b other.is in
    cc

pub takes_one : (old new other : List Line) (l : Line) (a b : Option WireCall) → Takes calls old l (Ok a) new → Takes calls old l (Ok b) other → (a ≡ b) × (new ≡ other)
takes_one old new other l None None one two = (refl, one.1 ∙ sym two.1)
takes_one old new other l None (Some call) one two = absurd (whole_apart (old ++ l ∷ []) call two.0 (subst (GoesOn calls) one.1 one.0))
takes_one old new other l (Some call) None one two = absurd (whole_apart (old ++ l ∷ []) call one.0 (subst (GoesOn calls) two.1 two.0))
takes_one old new other l (Some a) (Some b) one two = (ap (λ (c : WireCall). Some c) (whole_one (old ++ l ∷ []) a b one.0 two.0), one.1 ∙ sym two.1)

pub takes_apart : (old new other : List Line) (l : Line) (a : Option WireCall) → Takes calls old l (Ok a) new → Takes calls old l (Err Bad) other → ⊥
takes_apart old new other l None one bad =
    let on : GoesOn calls (old ++ l ∷ []) = subst (GoesOn calls) one.1 one.0 in bad.0 (on.next ∷ on.behind) on.front
takes_apart old new other l (Some call) one bad =
    bad.0 [] (record { whole = call; is = one.0.is; lines_are = one.0.lines_are ∙ sym (append-nil (old ++ l ∷ [])) })
