use Rattle.dc_drill.proofs.CommandLemmas.{line_of_three}
use Rattle.dc_drill.proofs.report.append_line.Goals as goal

pub returns : goal.returns
returns c = line_of_three _ _ _ _ _ _ _ _ c.in_ok-append.ensures.ok c.in_ok-append-2.ensures.ok c.in_ok-append_number.ensures c.in_ok-push.ensures.ok
