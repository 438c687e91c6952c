use Rattle.dc_session.proofs.EscapeLaws.{line_heard, escapes_put_back}
use Rattle.dc_session.proofs.SetLaws.{set_told}
use Rattle.dc_session.proofs.laws.escaped_values_come_back.Goals as goal

pub returns-clause-heard : goal.returns-clause-heard
returns-clause-heard c question text some_question some_text = line_heard question text some_question some_text

pub returns-clause-told : goal.returns-clause-told
returns-clause-told c old mid question text reply alone done code = set_told old mid question text reply alone done code

pub returns-clause-sent : goal.returns-clause-sent
returns-clause-sent c text = escapes_put_back text
