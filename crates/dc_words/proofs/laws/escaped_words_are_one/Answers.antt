use Rattle.dc_words.proofs.EscapedLemmas.{words_of_one}
use Rattle.dc_words.proofs.laws.escaped_words_are_one.Goals as goal

pub returns : goal.returns
returns c = words_of_one
