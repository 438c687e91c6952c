use Rattle.std.proofs.Common.{◌≡◌, drop}
use Rattle.std.specs.Prelude.{◌&&◌}
use Rattle.std.specs.List.{list_all}
use Rattle.dc_text.specs.Names.{is_name_byte}
use Rattle.dc_text.proofs.names.has_name_bytes.Given as goal

abbrev pub invariant-loop-byte : goal.invariant-loop-byte
invariant-loop-byte l = (l.are && list_all is_name_byte (drop l.byte-index l.bytes)) ≡ list_all is_name_byte l.bytes
