use Rattle.dc_run.proofs.starting.configuration_in.Goals as goal

pub returns-in-Drill : goal.returns-in-Drill
returns-in-Drill c = rw c.in-Drill.is c.read_conf-in-Drill.ensures

pub returns-in-Answer : goal.returns-in-Answer
returns-in-Answer c = rw c.in-Answer.is c.read_conf-in-Answer.ensures
