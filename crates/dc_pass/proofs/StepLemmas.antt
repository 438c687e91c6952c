-- What one more line makes of a call.
use Rattle.std.proofs.Common.{◌≡◌, ℕ, Bool, true, false, not, ◌&&◌, List, [], ◌∷◌, ◌++◌, map as each, Some, None, Option, refl, sym, ap, subst, ◌∙◌, append_assoc}
use Rattle.std.specs.Prelude.{codes}
use Rattle.std.specs.List.{flat_map, list_all}
use Rattle.std.specs.Str.{bytes_eq}
use Rattle.std.proofs.lemmas.List.{map-append, append-nil}
use Rattle.std.proofs.lemmas.Grind.{flat_map-append}
use Rattle.dc_text.specs.Bytes.{is_nil}
use Rattle.dc_text.proofs.LineLemmas.{cond_is_some}
use Rattle.dc_template.proofs.TestLemmas.{both, both_hold, list_all-append}
use Rattle.dc_words.specs.declared.stream.Line.{Line}
use Rattle.dc_words.specs.declared.stream.Line.TheVariants as line
use Rattle.dc_frontend.specs.declared.shown.Shown.{Shown}
use Rattle.dc_pass.specs.declared.calls.WireCall.TheVariants.{Ask, Tell}
use Rattle.dc_pass.specs.declared.lines.WireLine.{WireLine}
use Rattle.dc_pass.specs.declared.begun.Begun.{Begun}
use Rattle.dc_pass.specs.declared.begun.Begun.TheVariants.{Nothing, Titled, Asking}
use Rattle.dc_pass.specs.declared.begun.Step.{Step}
use Rattle.dc_pass.specs.declared.begun.Step.TheVariants.{Begins, Completes}
use Rattle.dc_pass.specs.declared.question_part.QuestionPart.{QuestionPart}
use Rattle.dc_pass.specs.declared.question_part.QuestionPart.TheVariants as part
use Rattle.dc_pass.specs.declared.question_part.PartStep.{PartStep}
use Rattle.dc_pass.specs.declared.question_part.PartStep.TheVariants as step
use Rattle.dc_pass.specs.Wire.{wire_line, question_lines, opening_lines, call_lines, is_call, is_question}
use Rattle.dc_pass.specs.Machine.{part_lines, is_part, part_step, begun_lines, lines_begun, is_begun, first_step, titled_step, is_between, with_part, asks, asking_step, said_step, maybe_said_step, step_by, said}
use Rattle.dc_pass.proofs.LineLemmas.{wire_line-said}
use Rattle.dc_pass.proofs.PartLemmas.{is_text, nil_is, chosen, PartSays, part_says}

-- ---- what a line makes of a call

abbrev pub Says : Begun → List ℕ → Step → Type 0
Says b line (Begins more) = (begun_lines more ≡ begun_lines b ++ line ∷ []) × (is_begun more ≡ true)
Says b line (Completes call) = (call_lines call ≡ begun_lines b ++ line ∷ []) × (is_call call ≡ true)

along : (b : Begun) (line : List ℕ) (one other : Step) → one ≡ other → Says b line one → Says b line other
along b line one other e says = subst (Says b line) e says

first_says : (word text : List ℕ) (made : Step) → first_step word text ≡ Some made → Says Nothing (wire_line word text) made
first_says word text made e =
    chosen (bytes_eq word (codes "title")) (Says Nothing (wire_line word text) made)
    (λ holds.
    let same : Begins (Titled text) ≡ made = (let got : Some (Begins (Titled text)) ≡ Some made = rw holds at e in cc) in
    along Nothing (wire_line word text) _ made same ((λ i. wire_line (sym (is_text word (codes "title") holds) i) text ∷ []), refl))
    (λ fails.
    let c = cond_is_some (bytes_eq word (codes "tell")) (Completes (Tell text)) made (rw fails at e) in
    along Nothing (wire_line word text) _ made c.1 ((λ i. wire_line (sym (is_text word (codes "tell") c.0) i) text ∷ []), refl))

titled_says : (title word text : List ℕ) (made : Step) → titled_step title word text ≡ Some made → Says (Titled title) (wire_line word text) made
titled_says title word text made e =
    chosen (bytes_eq word (codes "backup") && bytes_eq text (codes "true")) (Says (Titled title) (wire_line word text) made)
    (λ holds.
    let same : Begins (Asking title true [] part.Nothing) ≡ made = (let got : Some (Begins (Asking title true [] part.Nothing)) ≡ Some made = rw holds at e in cc) in
    let p : (bytes_eq word (codes "backup") ≡ true) × (bytes_eq text (codes "true") ≡ true) = both _ _ holds in
    along (Titled title) (wire_line word text) _ made same
    ((λ i. wire_line (codes "title") title ∷ wire_line (sym (is_text word (codes "backup") p.0) i) (sym (is_text text (codes "true") p.1) i) ∷ []), refl))
    (λ fails.
    let c = cond_is_some (bytes_eq word (codes "backup") && bytes_eq text (codes "false")) (Begins (Asking title false [] part.Nothing)) made (rw fails at e) in
    let p : (bytes_eq word (codes "backup") ≡ true) × (bytes_eq text (codes "false") ≡ true) = both _ _ c.0 in
    along (Titled title) (wire_line word text) _ made c.1
    ((λ i. wire_line (codes "title") title ∷ wire_line (sym (is_text word (codes "backup") p.0) i) (sym (is_text text (codes "false") p.1) i) ∷ []), refl))

-- the lines before the part
abbrev pub before_part : List ℕ → Bool → List Shown → List (List ℕ)
before_part title backup shown = opening_lines title backup ++ flat_map question_lines shown

part_step_says : (title : List ℕ) (backup : Bool) (shown : List Shown) (p : QuestionPart) (line : List ℕ) (found : PartStep)
    → list_all is_question shown ≡ true → PartSays p line found → (made : Step) → with_part title backup shown (Some found) ≡ Some made → Says (Asking title backup shown p) line made
part_step_says title backup shown p line (step.More more) are says made e =
    let same : Begins (Asking title backup shown more) ≡ made = cc in
    along (Asking title backup shown p) line _ made same
    (ap (λ (ls : List (List ℕ)). before_part title backup shown ++ ls) says.0 ∙ sym (append_assoc (before_part title backup shown) (part_lines p) (line ∷ [])), both_hold _ _ are says.1)
part_step_says title backup shown p line (step.Whole question) are says made e =
    let same : Begins (Asking title backup (shown ++ question ∷ []) part.Nothing) ≡ made = cc in
    along (Asking title backup shown p) line _ made same (
      append-nil (before_part title backup (shown ++ question ∷ []))
          ∙ ap (λ (ls : List (List ℕ)). opening_lines title backup ++ ls) (flat_map-append question_lines shown (question ∷ []) ∙ ap (λ (ls : List (List ℕ)). flat_map question_lines shown ++ ls) (append-nil (question_lines question) ∙ says.0))
          ∙ sym (append_assoc (before_part title backup shown) (part_lines p) (line ∷ [])),
      both_hold _ _ (list_all-append is_question shown (question ∷ []) ∙ both_hold _ _ are (both_hold _ _ says.1 refl)) refl,
    )

between_is : (p : QuestionPart) → is_between p ≡ true → part_lines p ≡ []
between_is part.Nothing e = refl
between_is (part.Named name) e = absurd (cc)
between_is (part.OfKind name kind) e = absurd (cc)
between_is (part.Described name kind description) e = absurd (cc)
between_is (part.Explained shown) e = absurd (cc)
between_is (part.Chosen shown choice) e = absurd (cc)

asking_says : (title : List ℕ) (backup : Bool) (shown : List Shown) (p : QuestionPart) (word text : List ℕ) (made : Step)
    → list_all is_question shown ≡ true → is_part p ≡ true → asking_step title backup shown p word text ≡ Some made → Says (Asking title backup shown p) (wire_line word text) made
asking_says title backup shown p word text made are is e =
    chosen (asks shown p word text) (Says (Asking title backup shown p) (wire_line word text) made)
    (λ holds.
    let same : Completes (Ask title backup shown) ≡ made = (let got : Some (Completes (Ask title backup shown)) ≡ Some made = rw holds at e in cc) in
    let a : ((bytes_eq word (codes "ask") && is_nil text && not (is_nil shown)) ≡ true) × (is_between p ≡ true) = both _ _ holds in
    let b : ((bytes_eq word (codes "ask") && is_nil text) ≡ true) × (not (is_nil shown) ≡ true) = both _ _ a.0 in
    let d : (bytes_eq word (codes "ask") ≡ true) × (is_nil text ≡ true) = both _ _ b.0 in
    along (Asking title backup shown p) (wire_line word text) _ made same (
      ap (λ (ls : List (List ℕ)). ls ++ codes "ask" ∷ []) (sym (append-nil (before_part title backup shown)))
          ∙ (λ i. before_part title backup shown ++ sym (between_is p a.1) i ++ wire_line (sym (is_text word (codes "ask") d.0) i) (sym (nil_is text d.1) i) ∷ []),
      both_hold _ _ b.1 are,
    ))
    (λ fails. by_part (part_step p word text) refl (rw fails at e)) where
      by_part : (found : Option PartStep) → part_step p word text ≡ found → with_part title backup shown found ≡ Some made → Says (Asking title backup shown p) (wire_line word text) made
      by_part None f e = absurd (cc)
      by_part (Some s) f e = part_step_says title backup shown p (wire_line word text) s are (part_says p word text s is f) made e

pub said_says : (b : Begun) (found : WireLine) (made : Step) → is_begun b ≡ true → said_step b found ≡ Some made → Says b (wire_line found.word found.text) made
said_says Nothing found made is e = first_says found.word found.text made e
said_says (Titled title) found made is e = titled_says title found.word found.text made e
said_says (Asking title backup shown p) found made is e =
    let t : (list_all is_question shown ≡ true) × (is_part p ≡ true) = both _ _ is in asking_says title backup shown p found.word found.text made t.0 t.1 e

pub bytes_say : (b : Begun) (bytes : List ℕ) (made : Step) → is_begun b ≡ true → maybe_said_step b (said bytes) ≡ Some made → Says b bytes made
bytes_say b bytes made is e = by_said (said bytes) refl e where
  by_said : (found : Option WireLine) → said bytes ≡ found → maybe_said_step b found ≡ Some made → Says b bytes made
  by_said None f e = absurd (cc)
  by_said (Some l) f e = subst (λ (x : List ℕ). Says b x made) (sym (wire_line-said bytes l f)) (said_says b l made is e)

-- ---- the same of lines as they come

abbrev pub SaysLine : Begun → Line → Step → Type 0
SaysLine b l (Begins more) = (lines_begun more ≡ lines_begun b ++ l ∷ []) × (is_begun more ≡ true)
SaysLine b l (Completes call) = (each line.Whole (call_lines call) ≡ lines_begun b ++ l ∷ []) × (is_call call ≡ true)

whole_says : (b : Begun) (bytes : List ℕ) (made : Step) → Says b bytes made → SaysLine b (line.Whole bytes) made
whole_says b bytes (Begins more) says = (ap (each line.Whole) says.0 ∙ map-append line.Whole (begun_lines b) (bytes ∷ []), says.1)
whole_says b bytes (Completes call) says = (ap (each line.Whole) says.0 ∙ map-append line.Whole (begun_lines b) (bytes ∷ []), says.1)

pub line_says : (b : Begun) (l : Line) (made : Step) → is_begun b ≡ true → step_by b l ≡ Some made → SaysLine b l made
line_says b line.TooLong made is e = absurd (cc)
line_says b (line.Whole bytes) made is e = whole_says b bytes made (bytes_say b bytes made is e)
