use Rattle.std.proofs.Common.{refl}
use Rattle.dc_cli.proofs.CopyLemmas.{line_read}
use Rattle.dc_cli.proofs.copy_words.line.Goals as goal

pub returns : goal.returns
returns c = let read = line_read c.args.text.now c.split_at_byte.result _ c.unwrap_or.result c.split_at_byte.ensures refl refl c.unwrap_or.ensures in cc (c.in_ok-from_bytes.ensures, c.in_ok-from_bytes-2.ensures)
