use Rattle.std.proofs.Common.{Some, None, rules}
use Rattle.dc_outside.proofs.LeftFiles.{last_got, among_got}
use Rattle.dc_outside.proofs.disk_state.CrashOutcome.newest.Goals as goal

pub returns-in-Some-last-clause-newest : goal.returns-in-Some-last-clause-newest
returns-in-Some-last-clause-newest c = search (rules, last_got c.in-Some.entries.first c.in-Some.entries.more (Some c.in-Some-last.entry.now))

pub returns-in-Some-last-clause-one : goal.returns-in-Some-last-clause-one
returns-in-Some-last-clause-one c = search (rules, among_got c.in-Some.entries.first c.in-Some.entries.more (Some c.in-Some-last.entry.now))

pub returns-in-None-last-clause-newest : goal.returns-in-None-last-clause-newest
returns-in-None-last-clause-newest c = search (rules, last_got c.in-Some.entries.first c.in-Some.entries.more None)

pub returns-in-None-last-clause-one : goal.returns-in-None-last-clause-one
returns-in-None-last-clause-one c = search (rules, among_got c.in-Some.entries.first c.in-Some.entries.more None)
