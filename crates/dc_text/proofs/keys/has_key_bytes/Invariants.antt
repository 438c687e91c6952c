use Rattle.std.proofs.Common.{◌≡◌, drop}
use Rattle.std.specs.Prelude.{◌&&◌}
use Rattle.std.specs.List.{list_all}
use Rattle.dc_text.specs.Names.{is_key_byte}
use Rattle.dc_text.proofs.keys.has_key_bytes.Given as goal

abbrev pub invariant-loop-byte : goal.invariant-loop-byte
invariant-loop-byte l = (l.are && list_all is_key_byte (drop l.byte-index l.key)) ≡ list_all is_key_byte l.key
