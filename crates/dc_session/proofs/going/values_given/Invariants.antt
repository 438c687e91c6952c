use Rattle.std.proofs.Common.{◌≡◌, take, length}
use Rattle.std.specs.Prelude.{zip}
use Rattle.std.specs.List.{filter_map}
use Rattle.dc_session.specs.Asking.{value_given}
use Rattle.dc_session.proofs.going.values_given.Given as goal

abbrev pub invariant-loop-question : goal.invariant-loop-question
invariant-loop-question l = l.values ≡ filter_map (λ pair. value_given pair.0 pair.1) (take (length l.yielded) (zip l.questions l.answers))
