use Rattle.std.proofs.Common.{◌≡◌, ◌++◌, map as each}
use Rattle.std.specs.FinMap as map
use Rattle.dc_text.specs.Lines.{text_of}
use Rattle.dc_tools.proofs.listing.lines_of_set.Given as goal

-- the lines so far and those to come are all
abbrev pub invariant-loop-member : goal.invariant-loop-member
invariant-loop-member l = l.text ++ text_of (each (λ e. e.0.items) l.member-iterator) ≡ text_of (map.keys l.set)
