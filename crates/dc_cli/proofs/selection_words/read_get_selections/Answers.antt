use Rattle.dc_cli.proofs.SelectionLemmas.{get_taken, get_refused}
use Rattle.dc_cli.proofs.selection_words.read_get_selections.Goals as goal

pub returns-then-is_empty : goal.returns-then-is_empty
returns-then-is_empty c = get_taken c.args.words.now _ c.is_empty.ensures c.if-is_empty.true

pub returns-else-is_empty : goal.returns-else-is_empty
returns-else-is_empty c = get_refused c.args.words.now _ c.is_empty.ensures c.if-is_empty.false
