use Rattle.std.proofs.Common.{Some, None, sym}
use Rattle.dc_text.proofs.TextLines.{rest_behind}
use Rattle.dc_text.proofs.bytes.rest_begins.Goals as goal

pub returns-in-Some-clause-rest : goal.returns-in-Some-clause-rest
returns-in-Some-clause-rest c = sym (rest_behind c.args.text.now (Some c.in-Some.at) c.in-Some.ensures).1

pub returns-in-None-clause-rest : goal.returns-in-None-clause-rest
returns-in-None-clause-rest c = sym (rest_behind c.args.text.now None c.in-None.ensures)
