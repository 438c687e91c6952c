-- Bytes with no backslash, which are settled as they stand.
use Rattle.std.specs.Prelude.{◌≡◌, ℕ, Bool, true, false, ◌==◌, List}
use Rattle.std.specs.List.{list_any}
use Rattle.dc_text.specs.Ascii.{backslash}

-- where the flag is set, no backslash stands in the bytes
abbrev pub PlainIf : Bool → List ℕ → Type 0
PlainIf is_plain bytes = is_plain ≡ true → list_any (λ byte. byte == backslash) bytes ≡ false
