use Rattle.std.proofs.Common.{◌≡◌, ◌++◌, drop}
use Rattle.dc_words.specs.Escaped.{escaped}
use Rattle.dc_words.proofs.escaping.escape.Given as goal

abbrev pub invariant-loop-byte : goal.invariant-loop-byte
invariant-loop-byte l = l.text ++ escaped (drop l.byte-index l.bytes) ≡ escaped l.bytes
