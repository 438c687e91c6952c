use Rattle.std.proofs.Common.{◌≡◌, ◌≤◌, length}
use Rattle.dc_words.proofs.EscapedLemmas.{parts_of, onto_front}
use Rattle.dc_words.proofs.escaping.unescape_word.Given as goal

abbrev pub invariant-loop-unit : goal.invariant-loop-unit
invariant-loop-unit l = record { parts : onto_front l.word (parts_of l.rest) ≡ parts_of l.line; within : length l.rest ≤ length l.line }

abbrev pub decreases-loop-unit : goal.decreases-loop-unit
decreases-loop-unit l = length l.rest
