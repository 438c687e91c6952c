use Rattle.dc_preseed.proofs.JoinLemmas.{given-append, after-append}
use Rattle.dc_preseed.proofs.laws.joined_lines_stay.Goals as goal

pub returns-clause-given : goal.returns-clause-given
returns-clause-given c = given-append

pub returns-clause-after : goal.returns-clause-after
returns-clause-after c = after-append
