use Rattle.dc_store.proofs.CopyLemmas.{copies_inmost, copies_nowhere}
use Rattle.dc_store.proofs.laws.copies_go_to_the_innermost_stack.Goals as goal

pub returns : goal.returns
returns c = record { copied = copies_inmost; refused = copies_nowhere }
