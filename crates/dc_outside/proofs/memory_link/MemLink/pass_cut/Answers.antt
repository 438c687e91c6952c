use Rattle.std.proofs.lemmas.List.{drop-drop}
use Rattle.dc_outside.proofs.memory_link.MemLink.pass_cut.Goals as goal

pub returns-then-self-len : goal.returns-then-self-len
returns-then-self-len c = rw (← c.self.view_is, ← drop-drop 1 c.self.inside.reads c.self.inside.cuts.items)
