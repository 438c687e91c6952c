use Rattle.dc_question.proofs.ReadingLemmas.{types}
use Rattle.dc_question.proofs.laws.types_are_in_no_language.Goals as goal

pub returns : goal.returns
returns c = types
