-- The five numbers of a drill, as they are printed.
use Rattle.std.specs.Prelude.{ℕ, List, [], ◌∷◌, ◌++◌, length, count_by, codes, decimal}
use Rattle.std.specs.List.{flat_map}
use Rattle.std.specs.Option.{option_map_or}
use Rattle.dc_text.specs.Lines.{text_of}
use Rattle.dc_conf.specs.Trees.{Tree}
use Rattle.dc_item.specs.Printed.{record_lines}
use Rattle.dc_layer.specs.State.{LayerState}
use Rattle.dc_outside.specs.declared.link.Piece.{Piece}
use Rattle.dc_store.specs.Plans.{look, names}
use Rattle.dc_drill.specs.Commands.{drill_lines}
use Rattle.dc_drill.specs.Replies.{sends_ok, sends_refusal}

-- ---- records

-- the lines of the record of the item that is seen under a name
abbrev pub record_at : List LayerState → Tree → List ℕ → List (List ℕ)
record_at layers plan name = option_map_or (λ item. record_lines (name, item)) (look layers plan name) []

-- the printed records of the items that are seen under the names
abbrev pub records_text : List LayerState → Tree → List (List ℕ) → List ℕ
records_text layers plan listed = text_of (flat_map (record_at layers plan) listed)

-- ---- the five numbers

-- a number behind its word
abbrev pub number_line : List ℕ → ℕ → List ℕ
number_line word number = word ++ codes ": " ++ decimal number

-- how many the commands were, how many replies were of code 0 or 1 and how many others, how many names the plan has, and how long the printed
-- records of these are
abbrev pub report : ℕ → List Piece → List LayerState → Tree → List ℕ
report count talk layers plan = text_of
    (number_line (codes "commands") (length (drill_lines count)) ∷ number_line (codes "ok") (count_by sends_ok talk)
    ∷ number_line (codes "refused") (count_by sends_refusal talk) ∷ number_line (codes "questions") (length (names layers plan))
    ∷ number_line (codes "bytes") (length (records_text layers plan (names layers plan))) ∷ [])
