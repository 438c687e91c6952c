use Rattle.dc_question.proofs.PurgeLemmas.{purged_below}
use Rattle.dc_question.proofs.laws.purged_questions_lose_the_owner.Goals as goal

pub returns : goal.returns
returns c = λ store new at owner name disjoint alone. purged_below store at owner name disjoint alone new
