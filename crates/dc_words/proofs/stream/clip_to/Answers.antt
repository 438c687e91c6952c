use Rattle.std.proofs.Common.{◌∙◌}
use Rattle.dc_words.proofs.StreamLemmas.{clip-take}
use Rattle.dc_words.proofs.stream.clip_to.Goals as goal

pub returns : goal.returns
returns c = c.truncate.ensures.items ∙ clip-take c.args.bytes.now.items c.args.most
