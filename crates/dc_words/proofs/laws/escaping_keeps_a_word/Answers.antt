use Rattle.dc_words.proofs.EscapedLemmas.{escaped_is_one}
use Rattle.dc_words.proofs.laws.escaping_keeps_a_word.Goals as goal

pub returns : goal.returns
returns c = escaped_is_one
