use Rattle.dc_session.proofs.NameLemmas.{keys_are_names}
use Rattle.dc_session.proofs.name_set.NameSet.names.Goals as goal

pub read_names-requires : goal.read_names-requires
read_names-requires c = rw c.as_slice.ensures.keys (keys_are_names _ c.self.invariant.0)
