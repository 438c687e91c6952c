use Rattle.dc_preseed.proofs.JoinLemmas.{joined_one}
use Rattle.dc_preseed.proofs.laws.lines_are_joined_in_turn.Goals as goal

pub returns : goal.returns
returns c = joined_one
