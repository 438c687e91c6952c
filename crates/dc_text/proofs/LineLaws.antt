-- The lines of a text and the text of lines.
use Rattle.std.proofs.Common.{◌≡◌, ℕ, Bool, true, false, cond, List, [], ◌∷◌, ◌++◌, refl, sym, ap, ◌∙◌, append_assoc, inl, inr}
use Rattle.std.specs.Prelude.{◌||◌, ◌==◌}
use Rattle.std.proofs.lemmas.Bool.{cases_Bool}
use Rattle.std.proofs.lemmas.Bool.Decides.{nat_tests}
use Rattle.std.proofs.Common.{arith}
use Rattle.dc_text.specs.Lines.{TextLines, text_lines, onto_first, unless_empty, lines_of, text_of, has_newline, HaveNoNewline}

neither : (a b : Bool) → (a || b) ≡ false → (a ≡ false) × (b ≡ false)
neither true b e = absurd (cc)
neither false b e = (refl, e)

equal : (a b : ℕ) → (a == b) ≡ true → a ≡ b
equal a b e = grind (arith, nat_tests)

-- ---- lines that stand one after another in a text

text_lines-line : (line text : List ℕ) → has_newline line ≡ false → text_lines (line ++ 10 ∷ text) ≡ record { ended = line ∷ (text_lines text).ended; rest = (text_lines text).rest }
text_lines-line [] text h = refl
text_lines-line (b ∷ line) text h =
    let f : ((b == 10) ≡ false) × (has_newline line ≡ false) = neither _ _ h in
    let more : TextLines = text_lines (line ++ 10 ∷ text) in
    ap (λ t. cond t (record { ended = [] ∷ more.ended; rest = more.rest }) (onto_first b more.ended more.rest)) f.0
    ∙ ap (λ (p : TextLines). onto_first b p.ended p.rest) (text_lines-line line text f.1)

pub lines_of-text_of : (lines : List (List ℕ)) → HaveNoNewline lines → lines_of (text_of lines) ≡ lines
lines_of-text_of [] h = refl
lines_of-text_of (l ∷ lines) h =
    ap lines_of (append_assoc l (10 ∷ []) (text_of lines)) ∙ ap (λ (p : TextLines). p.ended ++ unless_empty p.rest) (text_lines-line l (text_of lines) h.0)
    ∙ ap (λ (ls : List (List ℕ)). l ∷ ls) (lines_of-text_of lines h.1)

pub text_of-append : (xs ys : List (List ℕ)) → text_of (xs ++ ys) ≡ text_of xs ++ text_of ys
text_of-append [] ys = refl
text_of-append (x ∷ xs) ys = ap (λ (t : List ℕ). (x ++ 10 ∷ []) ++ t) (text_of-append xs ys) ∙ sym (append_assoc (x ++ 10 ∷ []) (text_of xs) (text_of ys))

-- ---- the lines of a text have no newline

abbrev pub AreLines : TextLines → Type 0
AreLines p = HaveNoNewline p.ended × (has_newline p.rest ≡ false)

onto_lines : (b : ℕ) (ended : List (List ℕ)) (rest : List ℕ) → (b == 10) ≡ false → HaveNoNewline ended → has_newline rest ≡ false → AreLines (onto_first b ended rest)
onto_lines b [] rest e h r = (tt, ap (λ t. t || has_newline rest) e ∙ r)
onto_lines b (line ∷ ended) rest e h r = ((ap (λ t. t || has_newline line) e ∙ h.0, h.1), r)

pub text_lines_free : (text : List ℕ) → AreLines (text_lines text)
text_lines_free [] = (tt, refl)
text_lines_free (b ∷ text) =
    let more : AreLines (text_lines text) = text_lines_free text in
    elim (b == 10) as (λ t. (b == 10) ≡ t → AreLines (cond t (record { ended = [] ∷ (text_lines text).ended; rest = (text_lines text).rest }) (onto_first b (text_lines text).ended (text_lines text).rest))) [
      | true ↦ λ e. ((refl, more.0), more.1)
      | false ↦ λ e. onto_lines b (text_lines text).ended (text_lines text).rest e more.0 more.1
    ] refl

with_rest : (ended : List (List ℕ)) (rest : List ℕ) → HaveNoNewline ended → has_newline rest ≡ false → HaveNoNewline (ended ++ unless_empty rest)
with_rest [] [] h r = tt
with_rest [] (b ∷ rest) h r = (r, tt)
with_rest (line ∷ ended) rest h r = (h.0, with_rest ended rest h.1 r)

pub lines_free : (text : List ℕ) → HaveNoNewline (lines_of text)
lines_free text = with_rest (text_lines text).ended (text_lines text).rest (text_lines_free text).0 (text_lines_free text).1

-- ---- the lines of a text, with their newlines, and the rest are the text

onto_text : (b : ℕ) (ended : List (List ℕ)) (rest : List ℕ) → text_of (onto_first b ended rest).ended ++ (onto_first b ended rest).rest ≡ b ∷ text_of ended ++ rest
onto_text b [] rest = refl
onto_text b (line ∷ ended) rest = refl

pub text_lines_are_text : (text : List ℕ) → text_of (text_lines text).ended ++ (text_lines text).rest ≡ text
text_lines_are_text [] = refl
text_lines_are_text (b ∷ text) = elim (cases_Bool (b == 10)) [
  | inl newline ↦ rw newline (λ i. sym (equal b 10 newline) i ∷ text_lines_are_text text i)
  | inr other ↦ rw other (onto_text b (text_lines text).ended (text_lines text).rest ∙ ap (λ (t : List ℕ). b ∷ t) (text_lines_are_text text))
]
