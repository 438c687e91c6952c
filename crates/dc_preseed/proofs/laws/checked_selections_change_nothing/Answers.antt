use Rattle.dc_preseed.proofs.SelectingLaws.{checked_tables, checked_silent}
use Rattle.dc_preseed.proofs.laws.checked_selections_change_nothing.Goals as goal

pub returns-clause-tables : goal.returns-clause-tables
returns-clause-tables c = checked_tables

pub returns-clause-told : goal.returns-clause-told
returns-clause-told c = checked_silent
