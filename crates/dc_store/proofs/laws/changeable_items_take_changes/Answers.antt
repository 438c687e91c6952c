use Rattle.dc_store.proofs.Changeable.{changeable_there, changeable_taken, unchangeable_refused}
use Rattle.dc_store.proofs.laws.changeable_items_take_changes.Goals as goal

pub returns : goal.returns
returns c = record { there = changeable_there; taken = changeable_taken; refused = unchangeable_refused }
