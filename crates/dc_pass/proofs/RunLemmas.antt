-- The lines of a call, read one after another from the first.
use Rattle.std.proofs.Common.{◌≡◌, ℕ, Bool, true, false, cond, not, List, [], ◌∷◌, ◌++◌, length, Some, None, Option, refl, sym, ap, ◌∙◌, append_assoc, arith}
use Rattle.std.specs.Prelude.{codes}
use Rattle.std.specs.List.{flat_map, list_all, list_any}
use Rattle.std.proofs.lemmas.List.{append-nil}
use Rattle.dc_text.specs.Bytes.{is_nil}
use Rattle.dc_text.specs.Names.{is_name}
use Rattle.dc_template.specs.Kinds.{kind_word}
use Rattle.dc_template.specs.declared.kinds.Kind.{Kind}
use Rattle.dc_template.proofs.TestLemmas.{both}
use Rattle.dc_frontend.specs.declared.shown.Shown.{Shown}
use Rattle.dc_pass.specs.declared.calls.WireCall.{WireCall}
use Rattle.dc_pass.specs.declared.calls.WireCall.TheVariants.{Ask, Tell}
use Rattle.dc_pass.specs.declared.begun.Begun.{Begun}
use Rattle.dc_pass.specs.declared.begun.Begun.TheVariants.{Nothing, Titled, Asking}
use Rattle.dc_pass.specs.declared.begun.Step.{Step}
use Rattle.dc_pass.specs.declared.begun.Step.TheVariants.{Begins, Completes}
use Rattle.dc_pass.specs.declared.question_part.QuestionPart.{QuestionPart}
use Rattle.dc_pass.specs.declared.question_part.QuestionPart.TheVariants as part
use Rattle.dc_pass.specs.declared.question_part.PartStep.TheVariants as step
use Rattle.dc_pass.specs.Wire.{wire_line, choice_lines, heading_lines, question_lines, opening_lines, call_lines, is_call, is_question, backup_word}
use Rattle.dc_pass.specs.Machine.{part_lines, is_part, of_kind, explained, with_choice, begun_lines, is_begun, with_part, said_step, maybe_said_step, saying, said}
use Rattle.dc_pass.proofs.LineLemmas.{said-wire_line, is_space_byte}
use Rattle.dc_pass.proofs.PartLemmas.{kind_again, question_parts, IsOpen, open_parts}

-- ---- some lines

-- what one line makes
abbrev pub makes : Begun → List ℕ → Option Step
makes b line = maybe_said_step b (said line)

-- behind a call that is whole no line may come
abbrev pub go_on : Option Step → (Begun → Option Step) → Bool → Option Step
go_on None more last = None
go_on (Some (Begins b)) more last = more b
go_on (Some (Completes call)) more last = cond last (Some (Completes call)) None

-- what these lines make
abbrev pub run : Begun → List (List ℕ) → Option Step
run b [] = Some (Begins b)
run b (line ∷ lines) = go_on (makes b line) (λ more. run more lines) (is_nil lines)

not_begins : (last : Bool) (call : WireCall) (b : Begun) → cond last (Some (Completes call)) None ≡ Some (Begins b) → Unit {0} → ⊥
not_begins true call b e _ = cc
not_begins false call b e _ = cc

pub run-append : (b c : Begun) (xs ys : List (List ℕ)) → run b xs ≡ Some (Begins c) → run b (xs ++ ys) ≡ run c ys
run-append b c [] ys e = let same : b ≡ c = cc in ap (λ (d : Begun). run d ys) same
run-append b c (x ∷ xs) ys e =
    elim (makes b x) as (λ m. go_on m (λ more. run more xs) (is_nil xs) ≡ Some (Begins c) → go_on m (λ more. run more (xs ++ ys)) (is_nil (xs ++ ys)) ≡ run c ys) [
      | None ↦ λ f. absurd (cc)
      | Some s ↦ elim s as (λ t. go_on (Some t) (λ more. run more xs) (is_nil xs) ≡ Some (Begins c) → go_on (Some t) (λ more. run more (xs ++ ys)) (is_nil (xs ++ ys)) ≡ run c ys) [
        | Begins d ↦ λ f. run-append d c xs ys f
        | Completes call ↦ λ f. absurd (not_begins (is_nil xs) call c f tt)
      ]
    ] e

-- behind a call that is whole there is nothing
pub run-whole : (b : Begun) (call : WireCall) (xs ys : List (List ℕ)) (y : List ℕ) → run b xs ≡ Some (Completes call) → run b (xs ++ y ∷ ys) ≡ None
run-whole b call [] ys y e = absurd (cc)
run-whole b call (x ∷ xs) ys y e =
    elim (makes b x) as (λ m. go_on m (λ more. run more xs) (is_nil xs) ≡ Some (Completes call) → go_on m (λ more. run more (xs ++ y ∷ ys)) (is_nil (xs ++ y ∷ ys)) ≡ None) [
      | None ↦ λ f. refl
      | Some s ↦ elim s as (λ t. go_on (Some t) (λ more. run more xs) (is_nil xs) ≡ Some (Completes call) → go_on (Some t) (λ more. run more (xs ++ y ∷ ys)) (is_nil (xs ++ y ∷ ys)) ≡ None) [
        | Begins d ↦ λ f. run-whole d call xs ys y f
        | Completes other ↦ λ f. ap (λ t. cond t (Some (Completes other)) None) (some_behind xs)
      ]
    ] e where
      some_behind : (zs : List (List ℕ)) → is_nil (zs ++ y ∷ ys) ≡ false
      some_behind [] = refl
      some_behind (z ∷ zs) = refl

run_step : (b c : Begun) (line : List ℕ) (lines : List (List ℕ)) → makes b line ≡ Some (Begins c) → run b (line ∷ lines) ≡ run c lines
run_step b c line lines e = ap (λ m. go_on m (λ more. run more lines) (is_nil lines)) e

-- ---- one line

made : (b : Begun) (word text : List ℕ) → list_any is_space_byte word ≡ false → makes b (wire_line word text) ≡ said_step b (saying word text)
made b word text h = ap (maybe_said_step b) (said-wire_line word text h)

name_made : (t : List ℕ) (b : Bool) (shown : List Shown) (name : List ℕ) → is_name name ≡ true
    → makes (Asking t b shown part.Nothing) (wire_line (codes "question") name) ≡ Some (Begins (Asking t b shown (part.Named name)))
name_made t b shown name is =
    made (Asking t b shown part.Nothing) (codes "question") name refl ∙ ap (λ k. with_part t b shown (cond k (Some (step.More (part.Named name))) None)) is

kind_made : (t : List ℕ) (b : Bool) (shown : List Shown) (name : List ℕ) (kind : Kind)
    → makes (Asking t b shown (part.Named name)) (wire_line (codes "kind") (kind_word kind)) ≡ Some (Begins (Asking t b shown (part.OfKind name kind)))
kind_made t b shown name kind =
    made (Asking t b shown (part.Named name)) (codes "kind") (kind_word kind) refl ∙ ap (λ k. with_part t b shown (of_kind name k)) (kind_again kind)

description_made : (t : List ℕ) (b : Bool) (shown : List Shown) (name : List ℕ) (kind : Kind) (description : List ℕ)
    → makes (Asking t b shown (part.OfKind name kind)) (wire_line (codes "description") description) ≡ Some (Begins (Asking t b shown (part.Described name kind description)))
description_made t b shown name kind description = made (Asking t b shown (part.OfKind name kind)) (codes "description") description refl

extended_made : (t : List ℕ) (b : Bool) (shown : List Shown) (name : List ℕ) (kind : Kind) (description extended : List ℕ)
    → makes (Asking t b shown (part.Described name kind description)) (wire_line (codes "extended") extended)
    ≡ Some (Begins (Asking t b shown (part.Explained (explained name kind description extended))))
extended_made t b shown name kind description extended = made (Asking t b shown (part.Described name kind description)) (codes "extended") extended refl

choice_made : (t : List ℕ) (b : Bool) (shown : List Shown) (q : Shown) (choice : List ℕ)
    → makes (Asking t b shown (part.Explained q)) (wire_line (codes "choice") choice) ≡ Some (Begins (Asking t b shown (part.Chosen q choice)))
choice_made t b shown q choice = made (Asking t b shown (part.Explained q)) (codes "choice") choice refl

label_made : (t : List ℕ) (b : Bool) (shown : List Shown) (q : Shown) (choice label : List ℕ)
    → makes (Asking t b shown (part.Chosen q choice)) (wire_line (codes "label") label) ≡ Some (Begins (Asking t b shown (part.Explained (with_choice q choice label))))
label_made t b shown q choice label = made (Asking t b shown (part.Chosen q choice)) (codes "label") label refl

value_made : (t : List ℕ) (b : Bool) (shown : List Shown) (q : Shown) (value : List ℕ)
    → makes (Asking t b shown (part.Explained q)) (wire_line (codes "value") value) ≡ Some (Begins (Asking t b (shown ++ record q { value = value } ∷ []) part.Nothing))
value_made t b shown q value = made (Asking t b shown (part.Explained q)) (codes "value") value refl

-- ---- a question

-- a question with these choices behind its own
abbrev pub with_choices : Shown → List (List ℕ) → List (List ℕ) → Shown
with_choices q choices labels = record q { choices = q.choices ++ choices; labels = q.labels ++ labels }

choices_run : (t : List ℕ) (b : Bool) (shown : List Shown) (q : Shown) (choices labels : List (List ℕ)) → length labels ≡ length choices
    → run (Asking t b shown (part.Explained q)) (choice_lines choices labels) ≡ Some (Begins (Asking t b shown (part.Explained (with_choices q choices labels))))
choices_run t b shown q [] [] e = (λ i. Some (Begins (Asking t b shown (part.Explained (record q { choices = sym (append-nil q.choices) i; labels = sym (append-nil q.labels) i })))))
choices_run t b shown q [] (l ∷ labels) e = absurd (omega arith)
choices_run t b shown q (c ∷ choices) [] e = absurd (omega arith)
choices_run t b shown q (c ∷ choices) (l ∷ labels) e =
    run_step (Asking t b shown (part.Explained q)) (Asking t b shown (part.Chosen q c)) (wire_line (codes "choice") c) (wire_line (codes "label") l ∷ choice_lines choices labels) (choice_made t b shown q c)
    ∙ run_step (Asking t b shown (part.Chosen q c)) (Asking t b shown (part.Explained (with_choice q c l))) (wire_line (codes "label") l) (choice_lines choices labels) (label_made t b shown q c l)
    ∙ choices_run t b shown (with_choice q c l) choices labels (omega arith)
    ∙ (λ i. Some (Begins (Asking t b shown (part.Explained (record q { choices = append_assoc q.choices (c ∷ []) choices i; labels = append_assoc q.labels (l ∷ []) labels i })))))

named_run : (t : List ℕ) (b : Bool) (shown : List Shown) (name : List ℕ) (lines : List (List ℕ)) → is_name name ≡ true
    → run (Asking t b shown part.Nothing) (wire_line (codes "question") name ∷ lines) ≡ run (Asking t b shown (part.Named name)) lines
named_run t b shown name lines is = run_step (Asking t b shown part.Nothing) (Asking t b shown (part.Named name)) (wire_line (codes "question") name) lines (name_made t b shown name is)

kind_run : (t : List ℕ) (b : Bool) (shown : List Shown) (name : List ℕ) (kind : Kind) (lines : List (List ℕ)) → is_name name ≡ true
    → run (Asking t b shown part.Nothing) (wire_line (codes "question") name ∷ wire_line (codes "kind") (kind_word kind) ∷ lines) ≡ run (Asking t b shown (part.OfKind name kind)) lines
kind_run t b shown name kind lines is =
    named_run t b shown name (wire_line (codes "kind") (kind_word kind) ∷ lines) is
    ∙ run_step (Asking t b shown (part.Named name)) (Asking t b shown (part.OfKind name kind)) (wire_line (codes "kind") (kind_word kind)) lines (kind_made t b shown name kind)

described_run : (t : List ℕ) (b : Bool) (shown : List Shown) (name : List ℕ) (kind : Kind) (description : List ℕ) (lines : List (List ℕ)) → is_name name ≡ true
    → run (Asking t b shown part.Nothing) (wire_line (codes "question") name ∷ wire_line (codes "kind") (kind_word kind) ∷ wire_line (codes "description") description ∷ lines)
    ≡ run (Asking t b shown (part.Described name kind description)) lines
described_run t b shown name kind description lines is =
    kind_run t b shown name kind (wire_line (codes "description") description ∷ lines) is
    ∙ run_step (Asking t b shown (part.OfKind name kind)) (Asking t b shown (part.Described name kind description)) (wire_line (codes "description") description) lines (description_made t b shown name kind description)

heading_run : (t : List ℕ) (b : Bool) (shown : List Shown) (name : List ℕ) (kind : Kind) (description extended : List ℕ) → is_name name ≡ true
    → run (Asking t b shown part.Nothing) (heading_lines name kind description extended) ≡ Some (Begins (Asking t b shown (part.Explained (explained name kind description extended))))
heading_run t b shown name kind description extended is =
    described_run t b shown name kind description (wire_line (codes "extended") extended ∷ []) is
    ∙ run_step (Asking t b shown (part.Described name kind description)) (Asking t b shown (part.Explained (explained name kind description extended))) (wire_line (codes "extended") extended) []
    (extended_made t b shown name kind description extended)

-- the lines of a question before its value
front_run : (t : List ℕ) (b : Bool) (shown : List Shown) (q : Shown) → is_name q.name ≡ true → length q.labels ≡ length q.choices
    → run (Asking t b shown part.Nothing) (heading_lines q.name q.kind q.description q.extended ++ choice_lines q.choices q.labels)
    ≡ Some (Begins (Asking t b shown (part.Explained (record q { value = [] }))))
front_run t b shown q name labels =
    run-append (Asking t b shown part.Nothing) (Asking t b shown (part.Explained (explained q.name q.kind q.description q.extended)))
    (heading_lines q.name q.kind q.description q.extended) (choice_lines q.choices q.labels) (heading_run t b shown q.name q.kind q.description q.extended name)
    ∙ choices_run t b shown (explained q.name q.kind q.description q.extended) q.choices q.labels labels

question_run : (t : List ℕ) (b : Bool) (shown : List Shown) (q : Shown) → is_question q ≡ true
    → run (Asking t b shown part.Nothing) (question_lines q) ≡ Some (Begins (Asking t b (shown ++ q ∷ []) part.Nothing))
question_run t b shown q is =
    let p = question_parts q is in
    run-append (Asking t b shown part.Nothing) (Asking t b shown (part.Explained (record q { value = [] })))
    (heading_lines q.name q.kind q.description q.extended ++ choice_lines q.choices q.labels) (wire_line (codes "value") q.value ∷ []) (front_run t b shown q p.0 p.1)
    ∙ run_step (Asking t b shown (part.Explained (record q { value = [] }))) (Asking t b (shown ++ q ∷ []) part.Nothing) (wire_line (codes "value") q.value) [] (value_made t b shown (record q { value = [] }) q.value)

questions_run : (t : List ℕ) (b : Bool) (shown qs : List Shown) → list_all is_question qs ≡ true
    → run (Asking t b shown part.Nothing) (flat_map question_lines qs) ≡ Some (Begins (Asking t b (shown ++ qs) part.Nothing))
questions_run t b shown [] are = (λ i. Some (Begins (Asking t b (sym (append-nil shown) i) part.Nothing)))
questions_run t b shown (q ∷ qs) are =
    let p : (is_question q ≡ true) × (list_all is_question qs ≡ true) = both _ _ are in
    run-append (Asking t b shown part.Nothing) (Asking t b (shown ++ q ∷ []) part.Nothing) (question_lines q) (flat_map question_lines qs) (question_run t b shown q p.0)
    ∙ questions_run t b (shown ++ q ∷ []) qs p.1
    ∙ (λ i. Some (Begins (Asking t b (append_assoc shown (q ∷ []) qs i) part.Nothing)))

part_run : (t : List ℕ) (b : Bool) (shown : List Shown) (p : QuestionPart) → is_part p ≡ true
    → run (Asking t b shown part.Nothing) (part_lines p) ≡ Some (Begins (Asking t b shown p))
part_run t b shown part.Nothing is = refl
part_run t b shown (part.Named name) is = named_run t b shown name [] is
part_run t b shown (part.OfKind name kind) is = kind_run t b shown name kind [] is
part_run t b shown (part.Described name kind description) is = described_run t b shown name kind description [] is
part_run t b shown (part.Explained q) is =
    let o : IsOpen q = open_parts q is in
    front_run t b shown q o.name o.labels ∙ (λ i. Some (Begins (Asking t b shown (part.Explained (record q { value = sym o.value i })))))
part_run t b shown (part.Chosen q choice) is =
    let o : IsOpen q = open_parts q is in
    run-append (Asking t b shown part.Nothing) (Asking t b shown (part.Explained q))
    (heading_lines q.name q.kind q.description q.extended ++ choice_lines q.choices q.labels) (wire_line (codes "choice") choice ∷ [])
    (front_run t b shown q o.name o.labels ∙ (λ i. Some (Begins (Asking t b shown (part.Explained (record q { value = sym o.value i }))))))
    ∙ run_step (Asking t b shown (part.Explained q)) (Asking t b shown (part.Chosen q choice)) (wire_line (codes "choice") choice) [] (choice_made t b shown q choice)

-- ---- a call

title_made : (title : List ℕ) → makes Nothing (wire_line (codes "title") title) ≡ Some (Begins (Titled title))
title_made title = made Nothing (codes "title") title refl

backup_made : (title : List ℕ) (backup : Bool) → makes (Titled title) (wire_line (codes "backup") (backup_word backup)) ≡ Some (Begins (Asking title backup [] part.Nothing))
backup_made title true = made (Titled title) (codes "backup") (codes "true") refl
backup_made title false = made (Titled title) (codes "backup") (codes "false") refl

opening_run : (title : List ℕ) (backup : Bool) → run Nothing (opening_lines title backup) ≡ Some (Begins (Asking title backup [] part.Nothing))
opening_run title backup =
    run_step Nothing (Titled title) (wire_line (codes "title") title) (wire_line (codes "backup") (backup_word backup) ∷ []) (title_made title)
    ∙ run_step (Titled title) (Asking title backup [] part.Nothing) (wire_line (codes "backup") (backup_word backup)) [] (backup_made title backup)

opened_run : (title : List ℕ) (backup : Bool) (shown : List Shown) → list_all is_question shown ≡ true
    → run Nothing (opening_lines title backup ++ flat_map question_lines shown) ≡ Some (Begins (Asking title backup shown part.Nothing))
opened_run title backup shown are =
    run-append Nothing (Asking title backup [] part.Nothing) (opening_lines title backup) (flat_map question_lines shown) (opening_run title backup)
    ∙ questions_run title backup [] shown are

-- the lines of what is begun are read so
pub begun_run : (b : Begun) → is_begun b ≡ true → run Nothing (begun_lines b) ≡ Some (Begins b)
begun_run Nothing is = refl
begun_run (Titled title) is = run_step Nothing (Titled title) (wire_line (codes "title") title) [] (title_made title)
begun_run (Asking title backup shown p) is =
    let t : (list_all is_question shown ≡ true) × (is_part p ≡ true) = both _ _ is in
    run-append Nothing (Asking title backup shown part.Nothing) (opening_lines title backup ++ flat_map question_lines shown) (part_lines p) (opened_run title backup shown t.0)
    ∙ part_run title backup shown p t.1

ask_made : (title : List ℕ) (backup : Bool) (shown : List Shown) → not (is_nil shown) ≡ true
    → makes (Asking title backup shown part.Nothing) (codes "ask") ≡ Some (Completes (Ask title backup shown))
ask_made title backup [] some = absurd (cc)
ask_made title backup (q ∷ shown) some = refl

-- the lines of a call are read as that call
pub call_run : (call : WireCall) → is_call call ≡ true → run Nothing (call_lines call) ≡ Some (Completes call)
call_run (Ask title backup shown) is =
    let t : (not (is_nil shown) ≡ true) × (list_all is_question shown ≡ true) = both _ _ is in
    run-append Nothing (Asking title backup shown part.Nothing) (opening_lines title backup ++ flat_map question_lines shown) (codes "ask" ∷ []) (opened_run title backup shown t.1)
    ∙ ap (λ m. go_on m (λ more. run more []) true) (ask_made title backup shown t.0)
call_run (Tell text) is = ap (λ m. go_on m (λ more. run more []) true) (made Nothing (codes "tell") text refl)
