use Rattle.std.proofs.Common.{ap}
use Rattle.dc_teletype.specs.TerminalLines.{TypeAhead}
use Rattle.dc_teletype.proofs.LineLemmas.{long_front}
use Rattle.dc_teletype.proofs.terminal.TerminalLines.take_first.Goals as goal

pub cut_first-requires-in-None-2 : goal.cut_first-requires-in-None-2
cut_first-requires-in-None-2 c =
    let held = ap (λ (a : TypeAhead). a.held) c.self.view_is in
    let none = rw (c.bytes.ensures, held) at (rw c.in-None.is at c.split_at_byte.ensures) in
    long_front c.args.self.now.held none (rw (c.longest-in-None-1.ensures, c.bytes-in-None-1.ensures, held) at c.if-bytes-longest.false)
