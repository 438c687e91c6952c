use Rattle.std.proofs.Common.{◌≡◌, map as each, take}
use Rattle.dc_question.proofs.loading.names.Given as goal

abbrev pub invariant-loop-template : goal.invariant-loop-template
invariant-loop-template l = l.names ≡ each (λ t. t.name) (take l.template-index l.list)
