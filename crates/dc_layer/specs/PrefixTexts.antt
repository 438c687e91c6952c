-- The texts of prefixes, as they are filled record by record. The proofs alone speak of them: what the file of a prefix holds is said by
-- `prefix_image` of State.
use Rattle.std.specs.Prelude.{ℕ, List, [], ◌++◌, map as each, filter}
use Rattle.std.specs.List.{flat_map}
use Rattle.std.specs.Str.{bytes_eq}
use Rattle.dc_text.specs.Lines.{text_of}
use Rattle.dc_item.specs.Item.{ItemParts}
use Rattle.dc_item.specs.Printed.{record_lines}
use Rattle.dc_layer.specs.Folders.{prefix}

-- each prefix with an empty text
abbrev pub empty_texts : List (List ℕ) → List (List ℕ × List ℕ)
empty_texts fronts = each (λ front. (front, [])) fronts

-- a prefix with its text, and at the text's end the printed records of those items whose names have the prefix
abbrev pub with_records : List (List ℕ × ItemParts) → List ℕ × List ℕ → List ℕ × List ℕ
with_records entries text = (text.0, text.1 ++ text_of (flat_map record_lines (filter (λ entry. bytes_eq (prefix entry.0) text.0) entries)))
