use Rattle.std.proofs.Common.{refl}
use Rattle.dc_item.specs.declared.op.Op.TheVariants.{AddOwner}
use Rattle.dc_question.specs.Ownership.{register_batch}
use Rattle.dc_question.proofs.BindLemmas.{bound_distinct}
use Rattle.dc_question.proofs.LeaveLemmas.{row_distinct}
use Rattle.dc_question.proofs.LoadLemmas.{load_distinct}
use Rattle.dc_question.proofs.PreseedLemmas.{preseed_distinct}
use Rattle.dc_question.proofs.laws.writes_of_a_row_are_distinct.Goals as goal

pub returns : goal.returns
returns c = record {
  register = λ layers at template name owner apart. bound_distinct layers at template name owner (AddOwner name) (register_batch layers at template name owner) apart refl;
  leave = row_distinct;
  load = λ layers at owner templates apart names. load_distinct layers at owner templates apart names;
  preseed = λ layers at owner name kind value unseen. preseed_distinct layers at owner name kind value unseen;
}
