-- What a table is once an item is written at a name.
use Rattle.std.proofs.Common.{◌≡◌, ℕ, true, List, length, ◌∙◌}
use Rattle.std.specs.FinMap as map
use Rattle.std.specs.List.{IsDistinct, position_or_len}
use Rattle.std.specs.Map.{keys_of}
use Rattle.std.specs.Str.{bytes_eq}
use Rattle.dc_text.specs.Names.{is_name}
use Rattle.indexmap.specs.IndexMap.{insert_entry}
use Rattle.dc_item.specs.Item.{ItemParts}
use Rattle.dc_item.specs.declared.op.After.TheVariants.{Changed}
use Rattle.dc_item.proofs.TextTableLemmas.{table-insert}
use Rattle.dc_table.specs.Marks.{Marks, with_mark, touched_in, are_within}
use Rattle.dc_table.specs.Tracked.{Tracked, with_made}
use Rattle.dc_table.proofs.MarkLemmas.{touched_written}
use Rattle.dc_table.proofs.TableLemmas.{AreNamed, named_insert}

-- what a table shows
abbrev pub shown : List (List ℕ × ItemParts) → Marks → Tracked
shown es marks = record { items = map.from_entries es; touched = touched_in (keys_of es) marks }

-- its names are names, and its marks are within it
abbrev pub IsSound : List (List ℕ × ItemParts) → Marks → Type 0
IsSound es marks = AreNamed (map.from_entries es) × (are_within (length es) marks ≡ true)

module _ (es fs : List (List ℕ × ItemParts)) (k : List ℕ) (v : ItemParts) (marks more : Marks) (place : ℕ) (is : fs ≡ insert_entry bytes_eq es k v) (at : place ≡ position_or_len (bytes_eq k) (keys_of es))
    (distinct : IsDistinct bytes_eq (keys_of fs)) (marked : more ≡ with_mark marks place k) (sound : IsSound es marks) where
  pub written_sound : is_name k ≡ true → IsSound fs more
  written_sound name = (named_insert es fs k v (table-insert es fs k v is) sound.0 name, (touched_written es fs k v marks more place is at distinct marked sound.1).1)

  pub written : (tracked : Tracked) (name : List ℕ) (item : ItemParts) → shown es marks ≡ tracked → k ≡ name → v ≡ item → shown fs more ≡ with_made tracked name (Changed item)
  written tracked name item was key value =
      let both = touched_written es fs k v marks more place is at distinct marked sound.1 in
      (λ i. record { items = table-insert es fs k v is i; touched = both.0 i })
      ∙ (λ i. with_made (was i) (key i) (Changed (value i)))
