use Rattle.std.proofs.Common.{◌≤◌, ◌<◌, ◌+◌, inr, length}
use Rattle.dc_save.specs.PipeLoading.{most_piped}
use Rattle.dc_save.proofs.PipeLemmas.{piece_behind, piece_over, piece_unkept}
use Rattle.dc_save.proofs.pipe_loading.take_piece.Goals as goal

pub returns-then-bytes-count-gt-MOST_PIPED-clause-takes : goal.returns-then-bytes-count-gt-MOST_PIPED-clause-takes
returns-then-bytes-count-gt-MOST_PIPED-clause-takes g c =
    let over : most_piped < length c.args.text.now + c.in-Ok.count = rw (← c.bytes.ensures) c.if-bytes-count-gt-MOST_PIPED.true in
    piece_over c.args.text.now c.read_some.new.buf c.in-Ok.count (g.L.Link.link c.args.link.now) (g.L.Link.link c.read_some.new.self) c.if-count-eq0.false c.in-Ok.ensures over

pub returns-in-Ok-append-clause-takes : goal.returns-in-Ok-append-clause-takes
returns-in-Ok-append-clause-takes g c =
    let few : length c.args.text.now + c.in-Ok.count ≤ most_piped = rw (← c.bytes.ensures) c.if-bytes-count-gt-MOST_PIPED.false in
    piece_behind c.args.text.now c.read_some.new.buf c.in-Ok.count (g.L.Link.link c.args.link.now) (g.L.Link.link c.read_some.new.self) c.if-count-eq0.false c.in-Ok.ensures
    c.append.new.self c.in-Ok-append.ensures.ok few

pub returns-in-Err-clause-takes : goal.returns-in-Err-clause-takes
returns-in-Err-clause-takes g c =
    let few : length c.args.text.now + c.in-Ok.count ≤ most_piped = rw (← c.bytes.ensures) c.if-bytes-count-gt-MOST_PIPED.false in
    inr (piece_unkept c.args.text.now c.read_some.new.buf c.in-Ok.count (g.L.Link.link c.args.link.now) (g.L.Link.link c.read_some.new.self) c.if-count-eq0.false c.in-Ok.ensures few)
