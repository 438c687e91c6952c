use Rattle.dc_preseed.proofs.JoinLemmas.{cut_anyway}
use Rattle.dc_preseed.proofs.laws.joined_lines_are_cut_anyway.Goals as goal

pub returns : goal.returns
returns c = cut_anyway
