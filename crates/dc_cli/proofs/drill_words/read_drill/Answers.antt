use Rattle.dc_cli.proofs.DrillLemmas.{no_number_refused, number_refused, more_refused}
use Rattle.dc_cli.proofs.ToolLemmas.{rest_some}
use Rattle.dc_cli.proofs.drill_words.read_drill.Goals as goal

pub returns-in-empty : goal.returns-in-empty
returns-in-empty c = no_number_refused c.args.words.now c.in-empty.len_below

pub returns-in-None : goal.returns-in-None
returns-in-None c = number_refused c.args.words.now c.word-item.result c.in-len1-up.len_at_least c.word-item.is (cc)

pub returns-else-is_empty : goal.returns-else-is_empty
returns-else-is_empty c =
    more_refused c.args.words.now c.word-item.result c.in-Some.count (rest_some c.args.words.now _ c.is_empty.ensures c.if-is_empty.false) c.word-item.is (cc)
