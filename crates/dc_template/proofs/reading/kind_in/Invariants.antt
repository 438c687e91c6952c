use Rattle.std.proofs.Common.{◌≡◌, length}
use Rattle.dc_template.specs.Forms.{forms}
use Rattle.dc_template.specs.Stanzas.{kind_in}
use Rattle.dc_template.specs.TemplateFaults.{until_blank}
use Rattle.dc_template.proofs.reading.kind_in.Given as goal

abbrev pub invariant-loop-rest : goal.invariant-loop-rest
invariant-loop-rest l = kind_in (until_blank (forms l.rest)) ≡ kind_in (until_blank (forms l.lines))

abbrev pub decreases-loop-rest : goal.decreases-loop-rest
decreases-loop-rest l = length l.rest
