use Rattle.dc_item.proofs.AfterLemmas.{after_same, after_gone, after_changed, after_none_makes}
use Rattle.dc_item.proofs.laws.operations_meet_their_table.Goals as goal

pub returns : goal.returns
returns c = record { same = after_same; gone = after_gone; changed = after_changed; none = after_none_makes }
