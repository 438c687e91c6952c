use Rattle.dc_conf.proofs.AnswerLemmas.{sound_answer}
use Rattle.dc_conf.proofs.laws.configurations_are_sound.Goals as goal

pub returns : goal.returns
returns c = sound_answer
