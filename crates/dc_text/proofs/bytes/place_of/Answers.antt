use Rattle.dc_text.proofs.LineLemmas.{place_is}
use Rattle.dc_text.proofs.bytes.place_of.Goals as goal

pub returns : goal.returns
returns c = place_is c.args.byte c.args.bytes.now c.find_byte.result c.find_byte.ensures
