use Rattle.std.proofs.Common.{◌≡◌, ◌++◌, length}
use Rattle.dc_words.specs.Escaped.{escaped_words_of}
use Rattle.dc_words.proofs.escaping.unescape_words.Given as goal

abbrev pub invariant-loop-rest : goal.invariant-loop-rest
invariant-loop-rest l = l.words ++ escaped_words_of l.rest ≡ escaped_words_of l.line

abbrev pub decreases-loop-rest : goal.decreases-loop-rest
decreases-loop-rest l = length l.rest
