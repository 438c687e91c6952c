use Rattle.dc_answer.proofs.AlikeLemmas.{courses_alike}
use Rattle.dc_answer.proofs.laws.what_comes_determines_the_replies.Goals as goal

pub returns : goal.returns
returns c = courses_alike
