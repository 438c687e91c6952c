use Rattle.dc_cli.proofs.ToolLemmas.{no_owner_refused, files_owner_refused, no_file_refused, loads, rest_some, rest_none}
use Rattle.dc_cli.proofs.reading.read_load_template.Goals as goal

pub returns-in-empty : goal.returns-in-empty
returns-in-empty c = no_owner_refused c.args.words.now c.in-empty.len_below

pub returns-then-not-is_name : goal.returns-then-not-is_name
returns-then-not-is_name c = files_owner_refused c.args.words.now c.word-item.result c.in-len1-up.len_at_least c.word-item.is (cc)

pub returns-then-is_empty : goal.returns-then-is_empty
returns-then-is_empty c =
    no_file_refused c.args.words.now c.word-item.result c.in-len1-up.len_at_least (rest_none c.args.words.now _ c.is_empty.ensures c.if-is_empty.true) c.word-item.is (cc)

pub returns-else-is_empty : goal.returns-else-is_empty
returns-else-is_empty c =
    loads c.args.words.now c.word-item.result _ _ (rest_some c.args.words.now _ c.is_empty.ensures c.if-is_empty.false) c.word-item.is (cc)
    c.bytes-else-is_empty.ensures c.load_template_for.ensures
