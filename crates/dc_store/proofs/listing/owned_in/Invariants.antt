use Rattle.std.proofs.Common.{◌≡◌, take}
use Rattle.std.specs.List.{filter}
use Rattle.dc_conf.specs.Trees.{shape}
use Rattle.dc_store.specs.Plans.{look, is_owned}
use Rattle.dc_store.proofs.listing.owned_in.Given as goal

abbrev pub invariant-loop-name : goal.invariant-loop-name
invariant-loop-name g l = l.owned ≡ filter (λ name. is_owned l.owner (look (g.L.Layers.states l.layers) (shape l.plan) name)) (take l.name-index l.names)
