use Rattle.std.proofs.Common.{◌∙◌}
use Rattle.dc_save.proofs.PipeLemmas.{goes_on, ends_whole, ends_over, ends_short}
use Rattle.dc_save.proofs.pipe_loading.read_pieces.Goals as goal

pub loop-text-preserved : goal.loop-text-preserved
loop-text-preserved g c = record {
  came = goes_on c.loop-text.text (g.L.Link.link c.args.link.now) (g.L.Link.link c.loop-text.link) c.loop-text.invariant.came c.loop-text.invariant.fits
      c.take_piece.new.text (g.L.Link.link c.take_piece.new.link) c.in-Came.ensures.takes;
  fits = c.in-Came.ensures.takes.fits;
  buffer = c.in-Came.ensures.buffer ∙ c.loop-text.invariant.buffer;
}

pub returns-in-AtEnd : goal.returns-in-AtEnd
returns-in-AtEnd g c =
    ends_whole c.loop-text.text (g.L.Link.link c.args.link.now) (g.L.Link.link c.loop-text.link) c.loop-text.invariant.came c.loop-text.invariant.fits
    c.take_piece.new.text (g.L.Link.link c.take_piece.new.link) c.in-AtEnd.ensures.takes

pub returns-in-TooLong : goal.returns-in-TooLong
returns-in-TooLong g c =
    ends_over c.loop-text.text (g.L.Link.link c.args.link.now) (g.L.Link.link c.loop-text.link) c.loop-text.invariant.came c.loop-text.invariant.fits
    (g.L.Link.link c.take_piece.new.link) c.in-TooLong.ensures.takes

pub returns-in-OutOfMemory : goal.returns-in-OutOfMemory
returns-in-OutOfMemory g c =
    ends_short c.loop-text.text (g.L.Link.link c.args.link.now) (g.L.Link.link c.loop-text.link) c.loop-text.invariant.came c.loop-text.invariant.fits
    (g.L.Link.link c.take_piece.new.link) c.in-OutOfMemory.ensures.takes
