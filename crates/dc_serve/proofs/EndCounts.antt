-- How a link counted what it was served, by the end.
use Rattle.dc_outside.specs.Counts.{Counts}
use Rattle.dc_serve.specs.Ends.{LinkCounts}
use Rattle.dc_serve.specs.Inside.{link_end_of, ServedCounts}
use Rattle.dc_serve.specs.declared.outcome.Served.{Served}
use Rattle.dc_serve.specs.declared.outcome.Served.TheVariants.{On, Stopped, Failed, OutOfMemory, Broken}

pub ended_counts : {B : Type 0} (outcome : Served B) (before now : Counts) → ServedCounts outcome before now → LinkCounts (link_end_of outcome) before now
ended_counts On before now counts = counts
ended_counts Stopped before now counts = counts
ended_counts Failed before now counts = counts
ended_counts OutOfMemory before now counts = counts
ended_counts (Broken error) before now counts = counts
