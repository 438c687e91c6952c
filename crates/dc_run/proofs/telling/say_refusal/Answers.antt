use Rattle.dc_run.proofs.Saying.{said_then}
use Rattle.dc_run.proofs.telling.say_refusal.Goals as goal

pub returns-in-NoQuestion : goal.returns-in-NoQuestion
returns-in-NoQuestion g c = rw (c.in-NoQuestion.is, ← c.bytes.ensures.value) (said_then _ _ _ _ _ c.say.ensures c.say-in-NoQuestion.ensures)

pub returns-in-NoTemplate : goal.returns-in-NoTemplate
returns-in-NoTemplate g c = rw (c.in-NoTemplate.is, ← c.bytes-in-NoTemplate.ensures.value) (said_then _ _ _ _ _ c.say-in-NoTemplate.ensures c.say-in-NoTemplate-2.ensures)

pub returns-in-CantChange : goal.returns-in-CantChange
returns-in-CantChange g c = rw (c.in-CantChange.is, ← c.bytes-in-CantChange.ensures.value) (said_then _ _ _ _ _ c.say-in-CantChange.ensures c.say-in-CantChange-2.ensures)

pub returns-in-Twice : goal.returns-in-Twice
returns-in-Twice g c = rw (c.in-Twice.is, ← c.bytes-in-Twice.ensures.value) (said_then _ _ _ _ _ c.say-in-Twice.ensures c.say-in-Twice-2.ensures)
