use Rattle.dc_run.proofs.Saying.{said_then, three_said}
use Rattle.dc_run.proofs.telling.tell_file.Goals as goal

pub returns-in-Missing : goal.returns-in-Missing
returns-in-Missing g c = rw (c.in-Missing.is, ← c.bytes.ensures) (three_said _ _ _ _ _ _ _ c.say.ensures c.say-in-Missing.ensures c.say-in-Missing-2.ensures)

pub returns-in-Faulty : goal.returns-in-Faulty
returns-in-Faulty g c =
    rw (c.in-Faulty.is, ← c.bytes-in-Faulty.ensures)
    (said_then _ _ _ _ _ (three_said _ _ _ _ _ _ _ c.say-in-Faulty.ensures c.say-in-Faulty-2.ensures c.say_number.ensures) c.say-in-Faulty-3.ensures)

pub returns-in-Refused : goal.returns-in-Refused
returns-in-Refused g c = rw c.in-Refused.is (said_then _ _ _ _ _ c.say_refusal.ensures c.say-in-Refused.ensures)
