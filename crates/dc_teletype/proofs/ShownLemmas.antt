-- Bytes as they are shown.
use Rattle.std.specs.Prelude.{◌≡◌, ℕ, List}
use Rattle.std.specs.Str.{encode_utf8_all}
use Rattle.std.specs.Str.Lossy.{utf8_lossy}
use Rattle.bstr.specs.Utf8.{lossy_chars}
use Rattle.bstr.proofs.lemmas.LossyLemmas.{lossy_chars-utf8_lossy}

-- what bytes are shown as is what std makes of them
pub shown : (bytes : List ℕ) → encode_utf8_all (lossy_chars bytes) ≡ utf8_lossy bytes
shown bytes = lossy_chars-utf8_lossy bytes
