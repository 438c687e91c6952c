use Rattle.dc_parts.proofs.PackedLemmas.{has_key}
use Rattle.dc_parts.proofs.places.compare_front.Goals as goal

pub split_text-requires : goal.split_text-requires
split_text-requires c = has_key c.args.bytes.now c.requires.some c.requires.packed
