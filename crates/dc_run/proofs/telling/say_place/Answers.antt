use Rattle.dc_run.proofs.Saying.{said_then}
use Rattle.dc_run.proofs.telling.say_place.Goals as goal

pub returns-in-Database : goal.returns-in-Database
returns-in-Database g c = rw c.in-Database.is (said_then _ _ _ _ _ c.say.ensures c.say_number.ensures)

pub returns-in-Word : goal.returns-in-Word
returns-in-Word g c = rw c.in-Word.is (said_then _ _ _ _ _ c.say-in-Word.ensures c.say_number-in-Word.ensures)
