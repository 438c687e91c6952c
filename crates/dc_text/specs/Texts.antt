-- Where a text keeps its bytes. No public clause cites this module.
use Rattle.std.specs.Prelude.{ℕ, List}
use Rattle.dc_text.specs.declared.texts.Kept.{Kept}
use Rattle.dc_text.specs.declared.texts.Kept.TheVariants.{InPlace, InVector}

abbrev pub bytes_in : Kept → List ℕ
bytes_in (InPlace bytes) = bytes
bytes_in (InVector bytes) = bytes.items
