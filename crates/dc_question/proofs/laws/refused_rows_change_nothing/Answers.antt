use Rattle.dc_question.proofs.RefusalLemmas.{row_taken, row_left, row_refused, row_told}
use Rattle.dc_question.proofs.laws.refused_rows_change_nothing.Goals as goal

pub returns : goal.returns
returns c = record {
  taken = λ store new names batch. row_taken store names batch new;
  left = row_left;
  refused = row_refused;
  told = row_told;
}
