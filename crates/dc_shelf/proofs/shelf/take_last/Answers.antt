use Rattle.dc_shelf.proofs.ShelfLemmas.{taken_blank}
use Rattle.dc_shelf.proofs.shelf.take_last.Goals as goal

pub returns-clause-taken : goal.returns-clause-taken
returns-clause-taken g c = λ sort blank. (taken_blank sort _ c.args.layers.now.items c.pop.new.self.items c.in-Some.layer (rw c.in-Some.is at c.pop.ensures.items) blank).0

pub returns-clause-left : goal.returns-clause-left
returns-clause-left g c = λ sort blank. (taken_blank sort _ c.args.layers.now.items c.pop.new.self.items c.in-Some.layer (rw c.in-Some.is at c.pop.ensures.items) blank).1
