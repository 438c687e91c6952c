use Rattle.std.proofs.Common.{sym, ◌∙◌}
use Rattle.dc_batch.proofs.FaultLaws.{one_fault, not_both, some_answer}
use Rattle.dc_batch.proofs.laws.texts_have_one_answer.Goals as goal

pub returns : goal.returns
returns c = record { one_reading = λ text a b r s. r.are ∙ sym s.are; one_fault = one_fault; not_both = not_both; some = some_answer }
