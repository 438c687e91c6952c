-- The values of lines, and the words in them.
use Rattle.std.proofs.Common.{◌≡◌, ℕ, ◌+◌, true, false, cond, List, [], ◌∷◌, ◌++◌, Some, None, Option, refl, sym, ap, ◌∙◌}
use Rattle.std.specs.Prelude.{◌||◌, ◌==◌}
use Rattle.std.specs.List.{list_any, before_first, after_first, position_or_len, AllByRecursion}
use Rattle.dc_text.specs.Bytes.{is_space, is_blank, drop_front, drop_back, trimmed, is_nil}
use Rattle.dc_text.specs.Lines.{has_newline, lines_of, HaveNoNewline}
use Rattle.dc_text.proofs.LineLaws.{lines_free}
use Rattle.dc_words.specs.Words.{PlainWords, plain_words_of}
use Rattle.dc_words.proofs.WordLemmas.{words_of_one}
use Rattle.dc_batch.specs.Forms.{field_of, said, form_of, is_comment, lines_from, lines_in, forms}
use Rattle.dc_batch.specs.Printed.{IsCommandWord}
use Rattle.dc_batch.proofs.TestLemmas.{neither, list_any-append}
use Rattle.dc_batch.proofs.TrimLemmas.{trimmed-twice, any-drop_front, any-drop_back, any-drop}
use Rattle.dc_batch.specs.declared.forms.Field.{Field}
use Rattle.dc_batch.specs.declared.forms.Form.{Form}
use Rattle.dc_batch.specs.declared.forms.Form.TheVariants.{Blank, Colonless, Sets}

-- a value is trimmed, and no newline is in it
abbrev pub IsLineForm : Form → Type 0
IsLineForm (Sets field value) = (trimmed value ≡ value) × (has_newline value ≡ false)
IsLineForm _ = Unit {0}

said_line : (o : Option Field) (value : List ℕ) → trimmed value ≡ value → has_newline value ≡ false → IsLineForm (said o value)
said_line None value t n = tt
said_line (Some field) value t n = (t, n)

form_line : (line : List ℕ) → has_newline line ≡ false → IsLineForm (form_of line)
form_line line h =
    let after : List ℕ = after_first (λ b. b == 58) line in
    let free : has_newline (trimmed after) ≡ false =
    any-drop_back (λ b. b == 10) (drop_front is_space after) (any-drop_front (λ b. b == 10) after (any-drop (λ b. b == 10) (position_or_len (λ b. b == 58) line + 1) line h)) in
    let here : IsLineForm (said (field_of (trimmed (before_first (λ b. b == 58) line))) (trimmed after)) =
    said_line (field_of (trimmed (before_first (λ b. b == 58) line))) (trimmed after) (trimmed-twice after) free in
    elim (is_blank line) as (λ b. IsLineForm (cond b Blank (cond (list_any (λ c. c == 58) line) (said (field_of (trimmed (before_first (λ c. c == 58) line))) (trimmed after)) Colonless))) [
      | true ↦ tt
      | false ↦ elim (list_any (λ c. c == 58) line) as (λ b. IsLineForm (cond b (said (field_of (trimmed (before_first (λ c. c == 58) line))) (trimmed after)) Colonless)) [ true ↦ here | false ↦ tt ]
    ]

forms_line : (n : ℕ) (lines : List (List ℕ)) → HaveNoNewline lines → AllByRecursion IsLineForm (forms (lines_from n lines))
forms_line n [] h = tt
forms_line n (l ∷ lines) h = elim (is_comment l) as (λ b. AllByRecursion IsLineForm (forms (cond b [] (record { number = n; form = form_of l } ∷ []) ++ lines_from (n + 1) lines))) [
  | true ↦ forms_line (n + 1) lines h.1
  | false ↦ (form_line l h.0, forms_line (n + 1) lines h.1)
]

-- the values in a text
pub lines_are : (text : List ℕ) → AllByRecursion IsLineForm (forms (lines_in text))
lines_are text = forms_line 1 (lines_of text) (lines_free text)

-- ---- words

words_free : (line : List ℕ) (words : List (List ℕ)) → has_newline line ≡ false → PlainWords line words → AllByRecursion IsCommandWord words
words_free line [] h p = tt
words_free line (word ∷ words) h (gap, rest, whole, blank, is, end, more) =
    let parted : has_newline (gap ++ word ++ rest) ≡ false = ap has_newline (sym whole) ∙ h in
    let f = neither _ _ (sym (list_any-append (λ b. b == 10) (gap ++ word) rest) ∙ parted) in
    let g = neither _ _ (sym (list_any-append (λ b. b == 10) gap word) ∙ f.0) in
    (record { plain = is; one = g.1 }, words_free rest words f.1 more)

drop_front-blank : (xs : List ℕ) → is_blank xs ≡ true → drop_front is_space xs ≡ []
drop_front-blank [] e = refl
drop_front-blank (x ∷ xs) e = elim (is_space x) as (λ t. is_space x ≡ t → cond t (drop_front is_space xs) (x ∷ xs) ≡ []) [
  | true ↦ λ s. drop_front-blank xs (ap (λ t. Rattle.std.specs.Prelude.◌&&◌ t (is_blank xs)) (sym s) ∙ e)
  | false ↦ λ s. absurd (let off : true ≡ false = sym e ∙ ap (λ t. Rattle.std.specs.Prelude.◌&&◌ t (is_blank xs)) s in cc)
] refl

some_word : (line : List ℕ) (words : List (List ℕ)) → is_nil line ≡ false → trimmed line ≡ line → PlainWords line words → is_nil words ≡ false
some_word line [] some trim blank =
    let none : line ≡ [] = sym trim ∙ ap (drop_back is_space) (drop_front-blank line blank) in
    absurd (let off : true ≡ false = ap is_nil (sym none) ∙ some in cc)
some_word line (word ∷ words) some trim p = refl

-- the words of a value
pub are_words : (value : List ℕ) → trimmed value ≡ value → has_newline value ≡ false → is_nil value ≡ false
    → AllByRecursion IsCommandWord (plain_words_of value) × (is_nil (plain_words_of value) ≡ false)
are_words value t n some =
    let p : PlainWords value (plain_words_of value) = (words_of_one value (plain_words_of value)).1 refl in
    (words_free value (plain_words_of value) n p, some_word value (plain_words_of value) some t p)
