use Rattle.dc_words.proofs.ChoiceLemmas.{choices_again}
use Rattle.dc_words.proofs.choices.joined_choices_are_split.Goals as goal

pub returns : goal.returns
returns c = choices_again
