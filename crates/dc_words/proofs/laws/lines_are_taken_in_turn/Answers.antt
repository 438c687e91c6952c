use Rattle.dc_words.proofs.StreamLemmas.{taken-fed, taken-next, taken-last}
use Rattle.dc_words.proofs.laws.lines_are_taken_in_turn.Goals as goal

pub returns-clause-feed : goal.returns-clause-feed
returns-clause-feed c = taken-fed

pub returns-clause-next : goal.returns-clause-next
returns-clause-next c = taken-next

pub returns-clause-last : goal.returns-clause-last
returns-clause-last c = taken-last
