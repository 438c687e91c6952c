-- The program that the run may start isn't started.
use Rattle.std.proofs.Common.{ap, sym, subst}
use Rattle.dc_outside.specs.Programs.{Program, IsIdle}
use Rattle.dckit.proofs.run.Goals as goal

pub run_over-requires : goal.run_over-requires
run_over-requires c = subst IsIdle (sym (ap (λ (p : Program). p.life) c.new-child.ensures.program)) tt
