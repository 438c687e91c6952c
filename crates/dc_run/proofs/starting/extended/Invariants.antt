use Rattle.std.proofs.Common.{◌≡◌, ◌++◌, ◌∷◌, take}
use Rattle.std.specs.List.{flat_map}
use Rattle.dc_text.specs.Ascii.{newline}
use Rattle.dc_run.specs.Starting.{added_line}
use Rattle.dc_run.proofs.starting.extended.Given as goal

-- the lines of the fields so far stand behind the text
abbrev pub invariant-loop-line : goal.invariant-loop-line
invariant-loop-line l = l.all ≡ l.text ++ newline ∷ flat_map added_line (take l.line-index l.line-items)
