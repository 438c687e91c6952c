use Rattle.std.proofs.Common.{subst, sym}
use Rattle.dc_theorem.proofs.WriteLaw.{IsUserFault, asked_saves, before_saves, memory_stands, unsaved_unwritten}
use Rattle.dc_theorem.proofs.completeness.want_of_memory_breaks_no_save.Goals as goal

pub returns-clause-memory : goal.returns-clause-memory
returns-clause-memory c words settings old new outcome saves = memory_stands words settings old new outcome saves

pub returns-clause-unsaved : goal.returns-clause-unsaved
returns-clause-unsaved c words settings old new outcome = unsaved_unwritten words settings old new outcome

pub returns-clause-before : goal.returns-clause-before
returns-clause-before c words settings old new outcome saves = before_saves words settings old new outcome saves

pub returns-clause-asked : goal.returns-clause-asked
returns-clause-asked c words settings old new outcome saves ran ended = asked_saves words settings old new outcome saves ran (subst IsUserFault (sym ended) tt)

pub returns-clause-wired : goal.returns-clause-wired
returns-clause-wired c words settings old new outcome saves line ran ended = asked_saves words settings old new outcome saves ran (subst IsUserFault (sym ended) tt)
