use Rattle.dc_words.proofs.StreamLemmas.{cut_anyway}
use Rattle.dc_words.proofs.laws.lines_are_cut_anyway.Goals as goal

pub returns : goal.returns
returns c = cut_anyway
