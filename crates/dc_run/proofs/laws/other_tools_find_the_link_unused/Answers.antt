use Rattle.dc_run.proofs.PipeLemmas.{found_unused, io_stays, io_unused}
use Rattle.dc_run.proofs.laws.other_tools_find_the_link_unused.Goals as goal

pub returns : goal.returns
returns c = record {
  before = found_unused;
  behind = λ used is settings old new outcome run. (io_unused used is settings old new outcome run, io_stays used is settings old new outcome run);
}
