use Rattle.dc_question.proofs.ReadingLemmas.{labels_pair}
use Rattle.dc_question.proofs.laws.labels_pair_with_choices.Goals as goal

pub returns : goal.returns
returns c = λ lang question template. labels_pair _ _
