use Rattle.dc_text.proofs.LineLaws.{text_lines_are_text, text_lines_free, lines_of-text_of}
use Rattle.dc_text.proofs.laws.lines_are_the_text.Goals as goal

pub returns-clause-whole : goal.returns-clause-whole
returns-clause-whole c = text_lines_are_text

pub returns-clause-lines : goal.returns-clause-lines
returns-clause-lines c = λ text. (text_lines_free text).0

pub returns-clause-rest : goal.returns-clause-rest
returns-clause-rest c = λ text. (text_lines_free text).1

pub returns-clause-again : goal.returns-clause-again
returns-clause-again c = lines_of-text_of
