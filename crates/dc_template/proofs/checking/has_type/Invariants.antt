use Rattle.std.proofs.Common.{◌≡◌, length}
use Rattle.std.specs.List.{list_any}
use Rattle.dc_template.specs.Forms.{forms}
use Rattle.dc_template.specs.TemplateFaults.{until_blank, sets_type}
use Rattle.dc_template.proofs.checking.has_type.Given as goal

abbrev pub invariant-loop-rest : goal.invariant-loop-rest
invariant-loop-rest l = list_any sets_type (until_blank (forms l.rest)) ≡ list_any sets_type (until_blank (forms l.after))

abbrev pub decreases-loop-rest : goal.decreases-loop-rest
decreases-loop-rest l = length l.rest
