use Rattle.std.proofs.Common.{length}
use Rattle.dc_pass.proofs.HearLemmas.{Progress}
use Rattle.dc_pass.proofs.pass.hear.Given as goal

abbrev pub invariant-loop-error : goal.invariant-loop-error
invariant-loop-error g l =
    Progress l.backup l.shown l.left l.answers (record { link = g.L.Link.link l.fn.link; ahead = l.fn.ahead }) (record { link = g.L.Link.link l.link; ahead = l.ahead }) l.fn.got l.got

abbrev pub decreases-loop-error : goal.decreases-loop-error
decreases-loop-error g l = length l.left
