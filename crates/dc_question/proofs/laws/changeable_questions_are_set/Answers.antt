use Rattle.dc_store.proofs.Changeable.{changeable_there}
use Rattle.dc_question.specs.Questions.{kind}
use Rattle.dc_question.proofs.AnswerLemmas.{values_left}
use Rattle.dc_question.proofs.laws.changeable_questions_are_set.Goals as goal

pub returns : goal.returns
returns c = record {
  there = λ layers at name. changeable_there layers at.config name (kind layers at name);
  set = values_left;
}
