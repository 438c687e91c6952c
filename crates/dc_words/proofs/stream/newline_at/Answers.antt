use Rattle.dc_text.proofs.TextLines.{text_lines_at-position}
use Rattle.dc_words.proofs.stream.newline_at.Goals as goal

pub returns : goal.returns
returns c = text_lines_at-position c.args.bytes.now _ c.place_of.ensures
