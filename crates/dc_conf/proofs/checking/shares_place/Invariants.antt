use Rattle.std.proofs.Common.{◌≡◌, length}
use Rattle.std.specs.List.{list_any}
use Rattle.dc_conf.specs.ConfFaults.{share_place}
use Rattle.dc_conf.proofs.checking.shares_place.Given as goal

abbrev pub invariant-loop-rest : goal.invariant-loop-rest
invariant-loop-rest l = list_any (λ earlier. share_place earlier l.stanza) l.rest ≡ list_any (λ earlier. share_place earlier l.stanza) l.before

abbrev pub decreases-loop-rest : goal.decreases-loop-rest
decreases-loop-rest l = length l.rest
