use Rattle.std.proofs.Common.{◌≡◌, ◌-◌, ◌<◌, List}
use Rattle.dc_frontend.specs.declared.shown.Shown.{Shown}
use Rattle.dc_teletype.specs.Dialogue.{Waits}
use Rattle.dc_teletype.specs.TerminalLines.{EndsWell}
use Rattle.dc_teletype.specs.declared.teletype.Answer.{Answer}
use Rattle.dc_teletype.proofs.HearLemmas.{Progress}
use Rattle.dc_teletype.proofs.teletype.hear.Given as goal

abbrev pub invariant-loop-ahead : goal.invariant-loop-ahead
invariant-loop-ahead g l = record {
  progress : (others : List Shown) (answers : List Answer) → Progress l.backup (record { said = l.fn.said; stage = Waits l.question 0 others answers }) (record { said = l.said; stage = Waits l.question l.unusable others answers })
      l.fn.ahead l.ahead (g.L.Link.link l.fn.link).talk (g.L.Link.link l.link).talk (g.L.Link.link l.fn.link).input (g.L.Link.link l.link).input;
  below : l.unusable < 64;
  end : EndsWell l.fn.ahead l.ahead (g.L.Link.link l.link).input;
  counts : (g.L.Link.link l.link).counts ≡ (g.L.Link.link l.fn.link).counts;
  program : (g.L.Link.link l.link).program ≡ (g.L.Link.link l.fn.link).program;
}

abbrev pub decreases-loop-ahead : goal.decreases-loop-ahead
decreases-loop-ahead g l = 64 - l.unusable
