use Rattle.dc_words.specs.Stream.{StandsFor}
use Rattle.dc_words.proofs.StreamLemmas.{stands_clipped, stands_alone, on_err}
use Rattle.dc_words.proofs.stream.Lines.feed.Goals as goal

pub returns-in_err-add-clause-err : goal.returns-in_err-add-clause-err
returns-in_err-add-clause-err c =
    on_err c.from_residual.result (StandsFor c.args.self.now c.add.new.self) (rw (c.in_err-add.ensures.err, c.compact.ensures) (stands_alone c.args.self.now c.requires.no_line))

pub returns-clause-fed : goal.returns-clause-fed
returns-clause-fed c = rw (c.in_ok-add.ensures.ok, c.compact.ensures) (stands_clipped c.args.self.now c.args.piece.now c.requires.no_line)
