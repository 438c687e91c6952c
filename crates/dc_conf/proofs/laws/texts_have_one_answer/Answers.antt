use Rattle.dc_conf.specs.ConfFaults.{passes}
use Rattle.dc_conf.proofs.LeastLemmas.{one_decides, not_both, some_decides}
use Rattle.dc_conf.proofs.laws.texts_have_one_answer.Goals as goal

pub returns : goal.returns
returns c = record {
  one_fault = λ text. one_decides (passes text);
  not_both = λ text. not_both (passes text);
  some = λ text. some_decides (passes text);
}
