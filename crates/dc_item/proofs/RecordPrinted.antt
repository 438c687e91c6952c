-- The lines of a record, as its parts are printed one after another.
use Rattle.std.proofs.Common.{◌≡◌, ℕ, List, [], ◌∷◌, ◌++◌, map as each, sym, ap, ◌∙◌, append_assoc}
use Rattle.std.specs.Prelude.{codes}
use Rattle.std.specs.FinMap as map
use Rattle.dc_text.specs.Lines.{text_of}
use Rattle.dc_text.proofs.LineLaws.{text_of-append}
use Rattle.dc_item.specs.Item.{ItemParts}
use Rattle.dc_item.specs.Printed.{record_lines, shown_field, list_lines, variable_lines, owners_head, flags_head}

-- one more piece behind what is printed
further : (old done piece text new : List ℕ) → text ≡ old ++ done → new ≡ text ++ piece → new ≡ old ++ (done ++ piece)
further old done piece text new so_far is = is ∙ ap (λ t. t ++ piece) so_far ∙ append_assoc old done piece

pub record_printed : (name : List ℕ) (item : ItemParts) (old head named begun fields owners flags variables new : List ℕ)
    → head ≡ old ++ codes "Name: " → named ≡ head ++ name → begun ≡ named ++ 10 ∷ []
    → fields ≡ begun ++ text_of (each shown_field (map.entries item.fields)) → owners ≡ fields ++ text_of (list_lines owners_head (map.keys item.owners))
    → flags ≡ owners ++ text_of (list_lines flags_head (map.keys item.flags)) → variables ≡ flags ++ text_of (variable_lines (map.entries item.variables))
    → new ≡ variables ++ 10 ∷ [] → new ≡ old ++ text_of (record_lines (name, item))
record_printed name item old head named begun fields owners flags variables new a b c d e f g h =
    let first : List (List ℕ) = (codes "Name: " ++ name) ∷ each shown_field (map.entries item.fields) in
    let owned : List (List ℕ) = list_lines owners_head (map.keys item.owners) in
    let flagged : List (List ℕ) = list_lines flags_head (map.keys item.flags) in
    let varied : List (List ℕ) = variable_lines (map.entries item.variables) in
    let begins : begun ≡ old ++ ((codes "Name: " ++ name) ++ 10 ∷ []) = further old (codes "Name: " ++ name) (10 ∷ []) named begun (further old (codes "Name: ") name head named a b) c in
    let lines : text_of (record_lines (name, item)) ≡ (((text_of first ++ text_of owned) ++ text_of flagged) ++ text_of varied) ++ 10 ∷ []
    = text_of-append (((first ++ owned) ++ flagged) ++ varied) ([] ∷ [])
    ∙ ap (λ t. t ++ 10 ∷ []) (text_of-append ((first ++ owned) ++ flagged) varied
    ∙ ap (λ t. t ++ text_of varied) (text_of-append (first ++ owned) flagged ∙ ap (λ t. t ++ text_of flagged) (text_of-append first owned))) in
    further old (((text_of first ++ text_of owned) ++ text_of flagged) ++ text_of varied) (10 ∷ []) variables new
    (further old ((text_of first ++ text_of owned) ++ text_of flagged) (text_of varied) flags variables
    (further old (text_of first ++ text_of owned) (text_of flagged) owners flags
    (further old (text_of first) (text_of owned) fields owners
    (further old ((codes "Name: " ++ name) ++ 10 ∷ []) (text_of (each shown_field (map.entries item.fields))) begun fields begins d) e) f) g) h
    ∙ ap (λ t. old ++ t) (sym lines)
