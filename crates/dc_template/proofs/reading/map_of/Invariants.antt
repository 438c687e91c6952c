use Rattle.std.proofs.Common.{◌≡◌, length}
use Rattle.std.specs.FinMap as map
use Rattle.dc_template.proofs.FieldLemmas.{put_back}
use Rattle.dc_template.proofs.reading.map_of.Given as goal

abbrev pub invariant-loop-key : goal.invariant-loop-key
invariant-loop-key l = put_back l.entries l.fields ≡ map.from_entries l.fn.entries

abbrev pub decreases-loop-key : goal.decreases-loop-key
decreases-loop-key l = length l.entries
