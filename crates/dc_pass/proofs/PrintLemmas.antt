-- Lines that are printed one after another.
use Rattle.std.proofs.Common.{◌≡◌, ℕ, List, ◌++◌, sym, ap, ◌∙◌, append_assoc}
use Rattle.dc_text.specs.Lines.{text_of}
use Rattle.dc_text.proofs.LineLaws.{text_of-append}

pub printed_two : (out next new : List ℕ) (a b : List (List ℕ)) → next ≡ out ++ text_of a → new ≡ next ++ text_of b → new ≡ out ++ text_of (a ++ b)
printed_two out next new a b first second =
    second ∙ ap (λ (t : List ℕ). t ++ text_of b) first ∙ append_assoc out (text_of a) (text_of b) ∙ ap (λ (t : List ℕ). out ++ t) (sym (text_of-append a b))
