-- The owners of an item, as far as they are left.
use Rattle.std.specs.Prelude.{ℕ, List}
use Rattle.dc_parts.specs.Entries.{entries_left}
use Rattle.dc_item.specs.Sections.{keys_under, owners_mark}
use Rattle.dc_item.specs.declared.owners.Owners.{Owners}

abbrev pub owners_left : Owners → List (List ℕ)
owners_left owners = keys_under owners_mark (entries_left owners.entries)
