-- What the printer writes.
use Rattle.std.proofs.Common.{◌≡◌, ℕ, true, false, List, [], ◌∷◌, ◌++◌, map as each, sym, ap, ◌∙◌, append_assoc}
use Rattle.std.specs.Prelude.{◌==◌}
use Rattle.std.specs.List.{list_any, before_first, after_first}
use Rattle.dc_text.specs.Lines.{has_newline}
use Rattle.dc_template.specs.Stanzas.{row_line, lines_between_newlines}
use Rattle.dc_text.specs.Lines.{text_of}
use Rattle.dc_text.proofs.LineLaws.{text_of-append}
use Rattle.dc_template.proofs.TestLemmas.{apart_at}
use Rattle.dc_template.proofs.RowLemmas.{one_line, line_first}

-- a line that is printed, and those after it
pub rows_turn : (out new target rest line after : List ℕ) → new ≡ out ++ text_of (row_line line ∷ []) → list_any (λ b. b == 10) rest ≡ true → line ≡ before_first (λ b. b == 10) rest → after ≡ after_first (λ b. b == 10) rest
    → out ++ text_of (each row_line (lines_between_newlines rest)) ≡ target → new ++ text_of (each row_line (lines_between_newlines after)) ≡ target
rows_turn out new target rest line after is has front back so_far =
    let parts = apart_at 10 rest has in
    let whole : rest ≡ line ++ 10 ∷ after = parts.0 ∙ (λ i. sym front i ++ 10 ∷ sym back i) in
    ap (λ t. t ++ text_of (each row_line (lines_between_newlines after))) is
    ∙ append_assoc out (text_of (row_line line ∷ [])) (text_of (each row_line (lines_between_newlines after)))
    ∙ ap (λ (t : List ℕ). out ++ t) (sym (text_of-append (row_line line ∷ []) (each row_line (lines_between_newlines after)))
    ∙ ap (λ ls. text_of (each row_line ls)) (sym (ap lines_between_newlines whole ∙ line_first line after (ap has_newline front ∙ parts.1))))
    ∙ so_far

pub rows_end : (out new target rest : List ℕ) → new ≡ out ++ text_of (row_line rest ∷ []) → list_any (λ b. b == 10) rest ≡ false → out ++ text_of (each row_line (lines_between_newlines rest)) ≡ target → new ≡ target
rows_end out new target rest is none so_far = is ∙ ap (λ ls. out ++ text_of (each row_line ls)) (sym (one_line rest none)) ∙ so_far
