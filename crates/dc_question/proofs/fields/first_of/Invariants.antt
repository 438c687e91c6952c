use Rattle.std.proofs.Common.{◌≡◌, length}
use Rattle.dc_question.specs.Readings.{first_of_keys}
use Rattle.dc_question.proofs.fields.first_of.Given as goal

-- the keys before have nothing
abbrev pub invariant-loop-rest : goal.invariant-loop-rest
invariant-loop-rest l = first_of_keys l.template.fields l.rest ≡ first_of_keys l.template.fields l.keys

abbrev pub decreases-loop-rest : goal.decreases-loop-rest
decreases-loop-rest l = length l.rest
