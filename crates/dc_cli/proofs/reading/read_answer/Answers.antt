use Rattle.dc_cli.proofs.ToolLemmas.{no_command_refused, dash_refused, answers}
use Rattle.dc_cli.proofs.reading.read_answer.Goals as goal

pub returns-in-empty : goal.returns-in-empty
returns-in-empty c = no_command_refused c.args.words.now c.in-empty.len_below

pub returns-then-begins_with_dash : goal.returns-then-begins_with_dash
returns-then-begins_with_dash c = dash_refused c.args.words.now c.word-item.result c.in-len1-up.len_at_least c.word-item.is (cc)

pub returns-else-begins_with_dash : goal.returns-else-begins_with_dash
returns-else-begins_with_dash c = answers c.args.words.now c.word-item.result c.answer_with.result c.in-len1-up.len_at_least c.word-item.is (cc) c.answer_with.ensures
