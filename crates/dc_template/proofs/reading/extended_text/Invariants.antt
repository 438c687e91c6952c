use Rattle.std.proofs.Common.{◌≡◌, ◌++◌, length}
use Rattle.dc_template.specs.Forms.{forms}
use Rattle.dc_template.specs.Stanzas.{flowed, flowed_after, rows_first}
use Rattle.dc_template.proofs.reading.extended_text.Given as goal

abbrev pub invariant-loop-row : goal.invariant-loop-row
invariant-loop-row l = l.text ++ flowed_after l.last (rows_first (forms l.rest)) ≡ flowed (rows_first (forms l.lines))

abbrev pub decreases-loop-row : goal.decreases-loop-row
decreases-loop-row l = length l.rest
