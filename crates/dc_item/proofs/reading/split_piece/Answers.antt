use Rattle.std.proofs.Common.{sym, ap, ◌∙◌, ◌++◌}
use Rattle.dc_text.specs.Lines.{unless_empty}
use Rattle.dc_item.specs.Grammar.{pieces}
use Rattle.dc_item.proofs.PieceLemmas.{pieces-first, pieces-last}
use Rattle.dc_item.proofs.reading.split_piece.Goals as goal

pub returns-in-Some-clause-pieces : goal.returns-in-Some-clause-pieces
returns-in-Some-clause-pieces c =
    pieces-first c.args.text.now c.in-Some.piece.now c.in-Some.after.now c.in-Some.ensures
    ∙ ap (λ p. unless_empty p ++ pieces c.in-Some.after.now) (sym c.trim.ensures)

pub returns-in-None-clause-pieces : goal.returns-in-None-clause-pieces
returns-in-None-clause-pieces c = rw c.trim-in-None.ensures (pieces-last c.args.text.now c.in-None.ensures)
