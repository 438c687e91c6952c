use Rattle.std.proofs.lemmas.Bool.Decides.{Decides-eqb}
use Rattle.std.proofs.lemmas.Slice.Eq.{strip_prefix_is}
use Rattle.dc_cli.proofs.FrontLemmas.{front_told}
use Rattle.dc_cli.proofs.database_words.behind_front.Goals as goal

pub returns : goal.returns
returns c = front_told c.args.front.now c.args.word.now c.strip_prefix.result (strip_prefix_is Decides-eqb c.args.word.now c.args.front.now c.strip_prefix.result c.strip_prefix.ensures.cases)
