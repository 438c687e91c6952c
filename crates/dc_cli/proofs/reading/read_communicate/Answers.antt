use Rattle.dc_cli.proofs.ToolLemmas.{owner_refused, third_refused, unowned, owned, rest_some, rest_none}
use Rattle.dc_cli.proofs.reading.read_communicate.Goals as goal

pub returns-in-empty : goal.returns-in-empty
returns-in-empty c = unowned c.args.words.now _ c.in-empty.len_below c.communicate_for.ensures

pub returns-then-not-is_name : goal.returns-then-not-is_name
returns-then-not-is_name c = owner_refused c.args.words.now c.word-item.result c.in-len1-up.len_at_least c.word-item.is (cc)

pub returns-then-not-is_empty : goal.returns-then-not-is_empty
returns-then-not-is_empty c =
    third_refused c.args.words.now c.word-item.result (rest_some c.args.words.now _ c.is_empty.ensures c.if-not-is_empty.true) c.word-item.is (cc)

pub returns-else-not-is_empty : goal.returns-else-not-is_empty
returns-else-not-is_empty c =
    owned c.args.words.now c.word-item.result _ _ c.in-len1-up.len_at_least (rest_none c.args.words.now _ c.is_empty.ensures c.if-not-is_empty.false) c.word-item.is (cc)
    c.bytes-else-not-is_empty.ensures c.communicate_for-else-not-is_empty.ensures
