use Rattle.dc_words.proofs.WordLemmas.{words_of_one}
use Rattle.dc_words.proofs.laws.words_are_one.Goals as goal

pub returns : goal.returns
returns c = words_of_one
