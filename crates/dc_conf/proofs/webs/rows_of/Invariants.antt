use Rattle.std.proofs.Common.{◌≡◌, ◌≤◌, length, drop}
use Rattle.dc_conf.specs.Machine.{flags_of, rows_over}
use Rattle.dc_conf.specs.Nodes.{names_of}
use Rattle.dc_conf.proofs.webs.rows_of.Given as goal

abbrev pub invariant-loop-place : goal.invariant-loop-place
invariant-loop-place l = record {
  rows : flags_of l.rows ≡ rows_over l.nodes (drop l.place (names_of l.nodes));
  within : l.place ≤ length l.nodes;
}

abbrev pub decreases-loop-place : goal.decreases-loop-place
decreases-loop-place l = l.place
