use Rattle.std.proofs.Common.{◌≡◌, drop}
use Rattle.std.specs.Prelude.{fold}
use Rattle.dc_session.specs.Asking.{with_name}
use Rattle.dc_session.proofs.name_set.add_all.Given as goal

abbrev pub invariant-loop-name : goal.invariant-loop-name
invariant-loop-name l = fold with_name l.set (drop l.name-index l.names) ≡ fold with_name l.fn.set l.names
