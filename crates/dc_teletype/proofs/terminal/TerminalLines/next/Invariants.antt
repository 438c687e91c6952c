use Rattle.std.proofs.Common.{◌≡◌, ◌+◌, ◌-◌, suc, length, List, if◌then◌else◌}
use Rattle.dc_outside.specs.declared.link.Piece.{Piece}
use Rattle.dc_teletype.specs.TerminalLines.{EndsWell, longest}
use Rattle.dc_teletype.proofs.TalkLemmas.{Passes}
use Rattle.dc_teletype.proofs.ReadLemmas.{Reaches}
use Rattle.dc_teletype.proofs.terminal.TerminalLines.next.Given as goal

abbrev pub invariant-loop-line : goal.invariant-loop-line
invariant-loop-line g l = record {
  progress : (pieces : List Piece) × Passes (g.L.Link.link l.fn.link).talk (g.L.Link.link l.link).talk (g.L.Link.link l.fn.link).input (g.L.Link.link l.link).input pieces × Reaches l.fn.self l.self pieces;
  end : EndsWell l.fn.self l.self (g.L.Link.link l.link).input;
  counts : (g.L.Link.link l.link).counts ≡ (g.L.Link.link l.fn.link).counts;
  program : (g.L.Link.link l.link).program ≡ (g.L.Link.link l.fn.link).program;
}

abbrev pub decreases-loop-line : goal.decreases-loop-line
decreases-loop-line g l = (suc longest - length l.self.held) + (if l.self.has_ended then 0 else 1)
