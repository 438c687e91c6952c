-- The lines of a question, one after another.
use Rattle.std.proofs.Common.{◌≡◌, ℕ, suc, Bool, true, false, ◌&&◌, List, [], ◌∷◌, ◌++◌, length, Some, None, Option, refl, sym, ap, subst, ◌∙◌, append_assoc, arith}
use Rattle.std.specs.Prelude.{codes, ◌==◌}
use Rattle.std.specs.Str.{bytes_eq}
use Rattle.std.specs.Cmp.Lexicographic.{same_text}
use Rattle.std.proofs.lemmas.Bool.Decides.{nat_tests}
use Rattle.dc_text.specs.Bytes.{is_nil}
use Rattle.dc_text.specs.Names.{is_name}
use Rattle.dc_text.proofs.LineLemmas.{cond_is_some}
use Rattle.dc_template.specs.Kinds.{kind_of, kind_word, all_kinds}
use Rattle.dc_template.specs.declared.kinds.Kind.{Kind}
use Rattle.dc_template.specs.declared.kinds.Kind.TheVariants.{Str, Bool as Boolean, Select, Multiselect, Password, Note, Txt, Error, Title}
use Rattle.dc_template.proofs.TestLemmas.{both, both_hold, find_passes}
use Rattle.dc_frontend.specs.declared.shown.Shown.{Shown}
use Rattle.dc_pass.specs.declared.question_part.QuestionPart.{QuestionPart}
use Rattle.dc_pass.specs.declared.question_part.QuestionPart.TheVariants as part
use Rattle.dc_pass.specs.declared.question_part.PartStep.{PartStep}
use Rattle.dc_pass.specs.declared.question_part.PartStep.TheVariants as step
use Rattle.dc_pass.specs.Wire.{wire_line, choice_lines, heading_lines, question_lines, is_question}
use Rattle.dc_pass.specs.Machine.{part_lines, is_part, is_open, part_step, of_kind, explained, with_choice}

pub is_text : (a b : List ℕ) → bytes_eq a b ≡ true → a ≡ b
is_text a b e = same_text a b (sym e)

pub nil_is : {X : Type 0} (xs : List X) → is_nil xs ≡ true → xs ≡ []
nil_is [] e = refl
nil_is (x ∷ xs) e = absurd (cc)

-- a test passes or fails
pub chosen : (b : Bool) (P : Type 0) → (b ≡ true → P) → (b ≡ false → P) → P
chosen b P holds fails = elim b as (λ t. b ≡ t → P) [ true ↦ holds | false ↦ fails ] refl

kind_is : (text : List ℕ) (kind : Kind) → kind_of text ≡ Some kind → kind_word kind ≡ text
kind_is text kind e = same_text (kind_word kind) text (sym (find_passes (λ k. bytes_eq (kind_word k) text) all_kinds kind e))

-- ---- choices

same_length : (m n : ℕ) → (m == n) ≡ true → m ≡ n
same_length m n e = grind (arith, nat_tests)

is_length : (m n : ℕ) → m ≡ n → (m == n) ≡ true
is_length m n e = grind (arith, nat_tests)

pub choice_lines-push : (choices labels : List (List ℕ)) (choice label : List ℕ) → length labels ≡ length choices
    → choice_lines (choices ++ choice ∷ []) (labels ++ label ∷ []) ≡ choice_lines choices labels ++ wire_line (codes "choice") choice ∷ wire_line (codes "label") label ∷ []
choice_lines-push [] [] choice label e = refl
choice_lines-push [] (l ∷ labels) choice label e = absurd (omega arith)
choice_lines-push (c ∷ choices) [] choice label e = absurd (omega arith)
choice_lines-push (c ∷ choices) (l ∷ labels) choice label e =
    ap (λ (ls : List (List ℕ)). wire_line (codes "choice") c ∷ wire_line (codes "label") l ∷ ls) (choice_lines-push choices labels choice label (omega arith))

pub length-push : (xs : List (List ℕ)) (x : List ℕ) → length (xs ++ x ∷ []) ≡ suc (length xs)
length-push [] x = refl
length-push (y ∷ xs) x = ap (λ (n : ℕ). suc n) (length-push xs x)

-- ---- a question whose value is to come

pub record IsOpen (shown : Shown) : Type 0 where
  pub name : is_name shown.name ≡ true
  pub labels : length shown.labels ≡ length shown.choices
  pub value : shown.value ≡ []

pub open_parts : (shown : Shown) → is_open shown ≡ true → IsOpen shown
open_parts shown e =
    let p : (is_question shown ≡ true) × (is_nil shown.value ≡ true) = both _ _ e in
    let q : (is_name shown.name ≡ true) × ((length shown.labels == length shown.choices) ≡ true) = both _ _ p.0 in
    record { name = q.0; labels = same_length _ _ q.1; value = nil_is shown.value p.1 }

pub open_whole : (shown : Shown) → IsOpen shown → is_open shown ≡ true
open_whole shown is = both_hold _ _ (both_hold _ _ is.name (is_length _ _ is.labels)) (ap is_nil is.value)

pub question_whole : (shown : Shown) → is_name shown.name ≡ true → length shown.labels ≡ length shown.choices → is_question shown ≡ true
question_whole shown name labels = both_hold _ _ name (is_length _ _ labels)

pub question_parts : (shown : Shown) → is_question shown ≡ true → (is_name shown.name ≡ true) × (length shown.labels ≡ length shown.choices)
question_parts shown e =
    let q : (is_name shown.name ≡ true) × ((length shown.labels == length shown.choices) ≡ true) = both _ _ e in (q.0, same_length _ _ q.1)

pub open_with_choice : (shown : Shown) (choice label : List ℕ) → IsOpen shown → IsOpen (with_choice shown choice label)
open_with_choice shown choice label is = record {
  name = is.name;
  labels = length-push shown.labels label ∙ ap (λ (n : ℕ). suc n) is.labels ∙ sym (length-push shown.choices choice);
  value = is.value;
}

-- ---- what a line makes of a part

abbrev pub PartSays : QuestionPart → List ℕ → PartStep → Type 0
PartSays p line (step.More more) = (part_lines more ≡ part_lines p ++ line ∷ []) × (is_part more ≡ true)
PartSays p line (step.Whole shown) = (question_lines shown ≡ part_lines p ++ line ∷ []) × (is_question shown ≡ true)

-- it is what the step makes
along : (p : QuestionPart) (line : List ℕ) (a b : PartStep) → a ≡ b → PartSays p line a → PartSays p line b
along p line a b e says = subst (PartSays p line) e says

named_says : (name word text : List ℕ) (found : Option Kind) (made : PartStep) → is_name name ≡ true → word ≡ codes "kind" → kind_of text ≡ found
    → of_kind name found ≡ Some made → PartSays (part.Named name) (wire_line word text) made
named_says name word text None made is w k e = absurd (cc)
named_says name word text (Some kind) made is w k e =
    let same : step.More (part.OfKind name kind) ≡ made = cc in
    along (part.Named name) (wire_line word text) _ made same
    ((λ i. wire_line (codes "question") name ∷ wire_line (sym w i) (kind_is text kind k i) ∷ []), is)

pub part_says : (p : QuestionPart) (word text : List ℕ) (made : PartStep) → is_part p ≡ true → part_step p word text ≡ Some made → PartSays p (wire_line word text) made
part_says part.Nothing word text made is e =
    let c = cond_is_some (bytes_eq word (codes "question") && is_name text) (step.More (part.Named text)) made e in
    let t : (bytes_eq word (codes "question") ≡ true) × (is_name text ≡ true) = both _ _ c.0 in
    along part.Nothing (wire_line word text) _ made c.1
    ((λ i. wire_line (sym (is_text word (codes "question") t.0) i) text ∷ []), t.1)
part_says (part.Named name) word text made is e =
    chosen (bytes_eq word (codes "kind")) (PartSays (part.Named name) (wire_line word text) made)
    (λ holds. named_says name word text (kind_of text) made is (is_text word (codes "kind") holds) refl (rw holds at e))
    (λ fails. absurd (let off : None ≡ Some made = rw fails at e in cc))
part_says (part.OfKind name kind) word text made is e =
    let c = cond_is_some (bytes_eq word (codes "description")) (step.More (part.Described name kind text)) made e in
    along (part.OfKind name kind) (wire_line word text) _ made c.1
    ((λ i. wire_line (codes "question") name ∷ wire_line (codes "kind") (kind_word kind) ∷ wire_line (sym (is_text word (codes "description") c.0) i) text ∷ []), is)
part_says (part.Described name kind description) word text made is e =
    let c = cond_is_some (bytes_eq word (codes "extended")) (step.More (part.Explained (explained name kind description text))) made e in
    along (part.Described name kind description) (wire_line word text) _ made c.1 (
      (λ i. wire_line (codes "question") name ∷ wire_line (codes "kind") (kind_word kind) ∷ wire_line (codes "description") description
          ∷ wire_line (sym (is_text word (codes "extended") c.0) i) text ∷ []),
      open_whole (explained name kind description text) (record { name = is; labels = refl; value = refl }),
    )
part_says (part.Explained shown) word text made is e =
    chosen (bytes_eq word (codes "choice")) (PartSays (part.Explained shown) (wire_line word text) made)
    (λ holds.
    let same : step.More (part.Chosen shown text) ≡ made = (let got : Some (step.More (part.Chosen shown text)) ≡ Some made = rw holds at e in cc) in
    along (part.Explained shown) (wire_line word text) _ made same
    ((λ i. part_lines (part.Explained shown) ++ wire_line (sym (is_text word (codes "choice") holds) i) text ∷ []), is))
    (λ fails.
    let c = cond_is_some (bytes_eq word (codes "value")) (step.Whole (record shown { value = text })) made (rw fails at e) in
    let o : IsOpen shown = open_parts shown is in
    along (part.Explained shown) (wire_line word text) _ made c.1
    ((λ i. part_lines (part.Explained shown) ++ wire_line (sym (is_text word (codes "value") c.0) i) text ∷ []), question_whole (record shown { value = text }) o.name o.labels))
part_says (part.Chosen shown choice) word text made is e =
    let c = cond_is_some (bytes_eq word (codes "label")) (step.More (part.Explained (with_choice shown choice text))) made e in
    let o : IsOpen shown = open_parts shown is in
    let heads : List (List ℕ) = heading_lines shown.name shown.kind shown.description shown.extended in
    along (part.Chosen shown choice) (wire_line word text) _ made c.1 (
      ap (λ (ls : List (List ℕ)). heads ++ ls) (choice_lines-push shown.choices shown.labels choice text o.labels)
          ∙ (λ i. heads ++ (choice_lines shown.choices shown.labels ++ wire_line (codes "choice") choice ∷ wire_line (sym (is_text word (codes "label") c.0) i) text ∷ []))
          ∙ ap (λ (ls : List (List ℕ)). heads ++ ls) (sym (append_assoc (choice_lines shown.choices shown.labels) (wire_line (codes "choice") choice ∷ []) (wire_line word text ∷ []))),
      open_whole (with_choice shown choice text) (open_with_choice shown choice text o),
    )

-- ---- a part goes on

pub kind_again : (kind : Kind) → kind_of (kind_word kind) ≡ Some kind
kind_again Str = refl
kind_again Boolean = refl
kind_again Select = refl
kind_again Multiselect = refl
kind_again Password = refl
kind_again Note = refl
kind_again Txt = refl
kind_again Error = refl
kind_again Title = refl

-- a question whose lines begin so, and go on
pub record Completed (p : QuestionPart) : Type 0 where
  pub shown : Shown
  pub next : List ℕ
  pub behind : List (List ℕ)
  pub is : is_question shown ≡ true
  pub lines_are : question_lines shown ≡ part_lines p ++ next ∷ behind

pub completed : (p : QuestionPart) → is_part p ≡ true → Completed p
completed part.Nothing is = record { shown = explained (codes "a") Note [] []; next = _; behind = _; is = refl; lines_are = refl }
completed (part.Named name) is =
    record { shown = explained name Note [] []; next = _; behind = _; is = question_whole (explained name Note [] []) is refl; lines_are = refl }
completed (part.OfKind name kind) is =
    record { shown = explained name kind [] []; next = _; behind = _; is = question_whole (explained name kind [] []) is refl; lines_are = refl }
completed (part.Described name kind description) is =
    record { shown = explained name kind description []; next = _; behind = _; is = question_whole (explained name kind description []) is refl; lines_are = refl }
completed (part.Explained shown) is =
    record { shown = shown; next = _; behind = []; is = (both _ _ is).0; lines_are = refl }
completed (part.Chosen shown choice) is =
    let o : IsOpen shown = open_parts shown is in
    let n : IsOpen (with_choice shown choice []) = open_with_choice shown choice [] o in
    let heads : List (List ℕ) = heading_lines shown.name shown.kind shown.description shown.extended in
    let rest : List (List ℕ) = wire_line (codes "value") shown.value ∷ [] in
    let label : List ℕ = wire_line (codes "label") [] in
    record {
      shown = with_choice shown choice [];
      next = label;
      behind = rest;
      is = question_whole (with_choice shown choice []) n.name n.labels;
      lines_are = ap (λ (ls : List (List ℕ)). heads ++ (ls ++ rest)) (choice_lines-push shown.choices shown.labels choice [] o.labels)
          ∙ ap (λ (ls : List (List ℕ)). heads ++ ls) (append_assoc (choice_lines shown.choices shown.labels) (wire_line (codes "choice") choice ∷ label ∷ []) rest
          ∙ sym (append_assoc (choice_lines shown.choices shown.labels) (wire_line (codes "choice") choice ∷ []) (label ∷ rest)));
    }
