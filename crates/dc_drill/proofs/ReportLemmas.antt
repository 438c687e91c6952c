-- Lines of a report, and records one after another.
use Rattle.std.proofs.Common.{◌≡◌, ℕ, ◌+◌, ◌<◌, length, take, get_or, map as each, List, [], ◌∷◌, ◌++◌, sym, ap, subst, ◌∙◌}
use Rattle.std.proofs.lemmas.List.{append-nil, take_more}
use Rattle.std.proofs.lemmas.Grind.{flat_map-append}
use Rattle.std.specs.Prelude.{Result, IfOk}
use Rattle.std.specs.List.{flat_map}
use Rattle.dc_conf.specs.Trees.{Tree}
use Rattle.dc_layer.specs.State.{LayerState}
use Rattle.dc_outside.specs.declared.link.Piece.{Piece}
use Rattle.dc_text.specs.Lines.{text_of}
use Rattle.dc_text.proofs.LineLaws.{text_of-append}
use Rattle.dc_drill.specs.Report.{number_line, report}

-- a line that was put, of a number that is another one
pub line_as : (word : List ℕ) (n m : ℕ) (old new : List ℕ) → new ≡ old ++ text_of (number_line word n ∷ []) → n ≡ m → new ≡ old ++ text_of (number_line word m ∷ [])
line_as word n m old new put same = put ∙ ap (λ k. old ++ text_of (number_line word k ∷ [])) same

-- five lines that are put one after another
pub five_put : (one two three four five none a b c d new : List ℕ) → none ≡ [] → a ≡ none ++ text_of (one ∷ []) → b ≡ a ++ text_of (two ∷ []) → c ≡ b ++ text_of (three ∷ [])
    → d ≡ c ++ text_of (four ∷ []) → new ≡ d ++ text_of (five ∷ []) → new ≡ text_of (one ∷ two ∷ three ∷ four ∷ five ∷ [])
five_put one two three four five none a b c d new empty first second third fourth last =
    behind (one ∷ two ∷ three ∷ four ∷ []) five d new
    (behind (one ∷ two ∷ three ∷ []) four c d
    (behind (one ∷ two ∷ []) three b c
    (behind (one ∷ []) two a b (first ∙ ap (λ t. t ++ text_of (one ∷ [])) empty) second) third) fourth) last where
      behind : (lines : List (List ℕ)) (line text new : List ℕ) → text ≡ text_of lines → new ≡ text ++ text_of (line ∷ []) → new ≡ text_of (lines ++ line ∷ [])
      behind lines line text new so_far is = is ∙ ap (λ t. t ++ text_of (line ∷ [])) so_far ∙ sym (text_of-append lines (line ∷ []))

-- the lines of the next name
pub record_turn : (f : List ℕ → List (List ℕ)) (xs : List (List ℕ)) (i : ℕ) (x old new : List ℕ) → i < length xs → x ≡ get_or xs i x
    → old ≡ text_of (flat_map f (take i xs)) → new ≡ old ++ text_of (f x) → new ≡ text_of (flat_map f (take (i + 1) xs))
record_turn f xs i x old new lt is was more =
    more ∙ ap (λ t. t ++ text_of (f x)) was ∙ sym (text_of-append (flat_map f (take i xs)) (f x))
    ∙ ap text_of (ap (λ l. flat_map f (take i xs) ++ l) (sym (append-nil (f x))) ∙ sym (flat_map-append f (take i xs) (x ∷ []))
    ∙ ap (flat_map f) (ap (λ y. take i xs ++ y ∷ []) is ∙ sym (take_more xs i x lt)))

-- a report on the same talk and the same boxes
pub report_as : {X E : Type 0} (f : X → LayerState) (xs ys : List X) (result : Result (List ℕ) E) (count : ℕ) (told talk : List Piece) (plan : Tree)
    → IfOk result (λ text. text ≡ report count told (each f xs) plan) → told ≡ talk → xs ≡ ys → IfOk result (λ text. text ≡ report count talk (each f ys) plan)
report_as {X} f xs ys result count told talk plan says same are =
    subst (λ (t : List Piece). IfOk result (λ text. text ≡ report count t (each f ys) plan)) same
    (subst (λ (l : List X). IfOk result (λ text. text ≡ report count told (each f l) plan)) are says)
