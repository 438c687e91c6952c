-- What the lines of a text say is as it should be.
use Rattle.std.proofs.Common.{◌≡◌, ℕ, ◌+◌, true, false, cond, List, [], ◌∷◌, ◌++◌, map as each, refl}
use Rattle.std.specs.Prelude.{◌==◌}
use Rattle.std.specs.List.{list_any, before_first, after_first, position_or_len, AllByRecursion}
use Rattle.std.specs.Str.{bytes_eq}
use Rattle.dc_text.specs.Bytes.{is_space, is_blank, is_indented, drop_front, trimmed, lower}
use Rattle.dc_text.specs.Names.{is_name}
use Rattle.dc_text.specs.Lines.{lines_of, has_newline}
use Rattle.dc_text.proofs.LineLaws.{lines_free}
use Rattle.dc_template.specs.Forms.{row_of, template_word, is_line_key, headed, form_of, is_comment, lines_from, lines_in, forms}
use Rattle.dc_template.specs.Stanzas.{IsLine}
use Rattle.dc_template.proofs.TrimLemmas.{trimmed-twice, any-drop_front, any-drop_back, any-drop}
use Rattle.dc_template.proofs.RowLemmas.{IsSoundRow, row_sound}
use Rattle.dc_template.specs.declared.forms.Form.{Form}
use Rattle.dc_template.specs.declared.forms.Form.TheVariants.{Blank, Indented, Colonless, Unkeyed, Unnamed, Heads, Sets}

pub record IsSetting (key value : List ℕ) : Type 0 where
  pub other : bytes_eq key template_word ≡ false
  pub is_key : is_line_key key ≡ true
  pub line : IsLine value

abbrev pub IsSoundForm : Form → Type 0
IsSoundForm (Indented row) = IsSoundRow row
IsSoundForm (Heads name) = is_name name ≡ true
IsSoundForm (Sets key value) = IsSetting key value
IsSoundForm _ = Unit {0}

heading_sound : (name : List ℕ) → IsSoundForm (cond (is_name name) (Heads name) Unnamed)
heading_sound name = elim (is_name name) as (λ t. is_name name ≡ t → IsSoundForm (cond t (Heads name) Unnamed)) [ true ↦ λ e. e | false ↦ λ e. tt ] refl

headed_sound : (word value : List ℕ) → IsLine value → IsSoundForm (headed word value)
headed_sound word value is = elim (bytes_eq word template_word) as (λ t. bytes_eq word template_word ≡ t → IsSoundForm (cond t (cond (is_name value) (Heads value) Unnamed) (cond (is_line_key word) (Sets word value) Unkeyed))) [
  | true ↦ λ e. heading_sound value
  | false ↦ λ e. elim (is_line_key word) as (λ t. is_line_key word ≡ t → IsSoundForm (cond t (Sets word value) Unkeyed)) [
    | true ↦ λ f. record { other = e; is_key = f; line = is }
    | false ↦ λ f. tt
  ] refl
] refl

line_of : (bytes : List ℕ) → has_newline bytes ≡ false → IsLine (trimmed bytes)
line_of bytes h = record { trim = trimmed-twice bytes; one = any-drop_back (λ b. b == 10) (drop_front is_space bytes) (any-drop_front (λ b. b == 10) bytes h) }

pub form_sound : (line : List ℕ) → has_newline line ≡ false → IsSoundForm (form_of line)
form_sound line h = elim (is_blank line) as (λ t. is_blank line ≡ t → IsSoundForm (cond t Blank (cond (is_indented line) (Indented (row_of line))
    (cond (list_any (λ b. b == 58) line) (headed (each lower (before_first (λ b. b == 58) line)) (trimmed (after_first (λ b. b == 58) line))) Colonless)))) [
      | true ↦ λ e. tt
      | false ↦ λ e. elim (is_indented line) as (λ t. is_indented line ≡ t → IsSoundForm (cond t (Indented (row_of line))
          (cond (list_any (λ b. b == 58) line) (headed (each lower (before_first (λ b. b == 58) line)) (trimmed (after_first (λ b. b == 58) line))) Colonless))) [
            | true ↦ λ i. row_sound line i e h
            | false ↦ λ i. elim (list_any (λ b. b == 58) line) as (λ t. IsSoundForm (cond t (headed (each lower (before_first (λ b. b == 58) line)) (trimmed (after_first (λ b. b == 58) line))) Colonless)) [
              | true ↦ headed_sound (each lower (before_first (λ b. b == 58) line)) (trimmed (after_first (λ b. b == 58) line))
                  (line_of (after_first (λ b. b == 58) line) (any-drop (λ b. b == 10) (position_or_len (λ b. b == 58) line + 1) line h))
              | false ↦ tt
            ]
          ] refl
    ] refl

-- ---- the lines of a text

from_sound : (n : ℕ) (ls : List (List ℕ)) → AllByRecursion (λ l. has_newline l ≡ false) ls → AllByRecursion IsSoundForm (forms (lines_from n ls))
from_sound n [] h = tt
from_sound n (l ∷ ls) h = elim (is_comment l) as (λ t. AllByRecursion IsSoundForm (forms (cond t [] (record { number = n; form = form_of l } ∷ []) ++ lines_from (n + 1) ls))) [
  | true ↦ from_sound (n + 1) ls h.1
  | false ↦ (form_sound l h.0, from_sound (n + 1) ls h.1)
]

-- what each line of a text says
pub lines_sound : (text : List ℕ) → AllByRecursion IsSoundForm (forms (lines_in text))
lines_sound text = from_sound 1 (lines_of text) (lines_free text)
