-- The lines of the variables, as they are printed one after another.
use Rattle.std.proofs.Common.{◌≡◌, ℕ, ◌+◌, ◌<◌, Bool, true, false, cond, List, [], ◌∷◌, ◌++◌, map, length, drop, get_or, refl, ap, ◌∙◌, append_assoc, add-one, drop-cons}
use Rattle.std.specs.Prelude.{codes}
use Rattle.std.specs.List.{filter}
use Rattle.std.proofs.lemmas.List.{append-nil}
use Rattle.dc_text.specs.Lines.{text_of}
use Rattle.dc_item.specs.Printed.{shown_variable, variable_lines}
use Rattle.dc_item.specs.Sections.{has_mark, unmarked, under}

-- the lines of the variables that are left, before which their heading stands unless one was printed
abbrev pub lines_left : Bool → List (List ℕ × List ℕ) → List ℕ
lines_left is_first es = text_of (cond is_first (variable_lines es) (map shown_variable es))

heading_then : (is_first : Bool) (e : List ℕ × List ℕ) (left : List (List ℕ × List ℕ)) → cond is_first (codes "Variables:\n") [] ++ text_of (map shown_variable (e ∷ left)) ≡ lines_left is_first (e ∷ left)
heading_then true e left = refl
heading_then false e left = refl

-- one more variable is printed, and before it the heading if it is the first
pub variable_next : (is_first : Bool) (old headed new whole : List ℕ) (e : List ℕ × List ℕ) (left : List (List ℕ × List ℕ)) → headed ≡ old ++ cond is_first (codes "Variables:\n") []
    → new ≡ headed ++ text_of (shown_variable e ∷ []) → old ++ lines_left is_first (e ∷ left) ≡ whole → new ++ lines_left false left ≡ whole
variable_next is_first old headed new whole e left first second so_far =
    let heading : List ℕ = cond is_first (codes "Variables:\n") [] in
    let line : List ℕ = shown_variable e ++ 10 ∷ [] in
    let rest : List ℕ = text_of (map shown_variable left) in
    ap (λ t. t ++ rest) (second ∙ ap (λ t. headed ++ t) (append-nil line)) ∙ append_assoc headed line rest ∙ ap (λ t. t ++ (line ++ rest)) first ∙ append_assoc old heading (line ++ rest)
    ∙ ap (λ t. old ++ t) (heading_then is_first e left) ∙ so_far

-- ---- the entries that a loop comes to

pub under_marked : (mark : ℕ) (e : List ℕ × List ℕ) (es : List (List ℕ × List ℕ)) → has_mark mark e.0 ≡ true → under mark (e ∷ es) ≡ (unmarked e.0, e.1) ∷ under mark es
under_marked mark e es has =
    ap (λ b. map (λ (d : List ℕ × List ℕ). (unmarked d.0, d.1)) (cond b (e ∷ filter (λ (d : List ℕ × List ℕ). has_mark mark d.0) es) (filter (λ (d : List ℕ × List ℕ). has_mark mark d.0) es))) has

pub under_other : (mark : ℕ) (e : List ℕ × List ℕ) (es : List (List ℕ × List ℕ)) → has_mark mark e.0 ≡ false → under mark (e ∷ es) ≡ under mark es
under_other mark e es has =
    ap (λ b. map (λ (d : List ℕ × List ℕ). (unmarked d.0, d.1)) (cond b (e ∷ filter (λ (d : List ℕ × List ℕ). has_mark mark d.0) es) (filter (λ (d : List ℕ × List ℕ). has_mark mark d.0) es))) has

pub at_place : {E : Type 0} (f : E → List ℕ × List ℕ) (es : List E) (i : ℕ) (d : E) → i < length es → map f (drop i es) ≡ f (get_or es i d) ∷ map f (drop (i + 1) es)
at_place f es i d less = rw add-one (ap (map f) (drop-cons es i d less))
