use Rattle.std.proofs.Common.{◌≡◌, ◌≤◌, length, ◌-◌}
use Rattle.dc_save.specs.PipeLoading.{HasCome, most_piped}
use Rattle.dc_save.proofs.pipe_loading.read_pieces.Given as goal

abbrev pub invariant-loop-text : goal.invariant-loop-text
invariant-loop-text g l = record {
  came : HasCome l.text (g.L.Link.link l.fn.link) (g.L.Link.link l.link);
  fits : length l.text ≤ most_piped;
  buffer : length l.buf ≡ length l.fn.buf;
}

abbrev pub decreases-loop-text : goal.decreases-loop-text
decreases-loop-text g l = most_piped - length l.text
