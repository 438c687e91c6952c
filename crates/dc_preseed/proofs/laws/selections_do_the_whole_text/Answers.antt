use Rattle.dc_preseed.proofs.SelectingLaws.{does_whole_text}
use Rattle.dc_preseed.proofs.laws.selections_do_the_whole_text.Goals as goal

pub returns : goal.returns
returns c = does_whole_text
