use Rattle.std.proofs.Common.{◌≡◌, length}
use Rattle.dc_teletype.specs.Dialogue.{opening, puts}
use Rattle.dc_teletype.specs.TerminalLines.{EndsWell}
use Rattle.dc_teletype.proofs.HearLemmas.{Progress}
use Rattle.dc_teletype.proofs.teletype.Teletype.ask.Given as goal

abbrev pub invariant-loop-rest : goal.invariant-loop-rest
invariant-loop-rest g l = record {
  progress : Progress l.backup (opening l.title l.shown) (puts l.said l.rest l.answers) l.fn.self.ahead l.self.ahead
      (g.L.Link.link l.fn.link).talk (g.L.Link.link l.link).talk (g.L.Link.link l.fn.link).input (g.L.Link.link l.link).input;
  end : EndsWell l.fn.self.ahead l.self.ahead (g.L.Link.link l.link).input;
  counts : (g.L.Link.link l.link).counts ≡ (g.L.Link.link l.fn.link).counts;
  program : (g.L.Link.link l.link).program ≡ (g.L.Link.link l.fn.link).program;
}

abbrev pub decreases-loop-rest : goal.decreases-loop-rest
decreases-loop-rest g l = length l.rest
