-- What `show` lists: owners, and databases (debconf-show(1)).
use Rattle.std.specs.Prelude.{ℕ, List, [], ◌∷◌}
use Rattle.std.specs.Option.{option_map_or}
use Rattle.std.specs.List.{flat_map}
use Rattle.std.specs.FinMap as map
use Rattle.dc_text.specs.Lines.{text_of}
use Rattle.dc_text.specs.Maps.{TextSet, set_of}
use Rattle.dc_conf.specs.Configuration.{Configuration}
use Rattle.dc_conf.specs.Trees.{Tree}
use Rattle.dc_layer.specs.State.{LayerState}
use Rattle.dc_store.specs.Plans.{look, names}

-- the owners of the item that is seen under a name
abbrev pub owners_of : List LayerState → Tree → List ℕ → List (List ℕ)
owners_of layers plan name = option_map_or (λ item. map.keys item.owners) (look layers plan name) []

-- the set with all the texts
abbrev pub with_all : TextSet → List (List ℕ) → TextSet
with_all set [] = set
with_all set (text ∷ texts) = with_all (map.insert set text tt) texts

-- each owner of an item that is seen, once, in byte order
abbrev pub owners : List LayerState → Tree → List (List ℕ)
owners layers plan = map.keys (set_of (flat_map (owners_of layers plan) (names layers plan)))

-- what is written of owners: a line for each
abbrev pub owners_text_of : List LayerState → Tree → List ℕ
owners_text_of layers plan = text_of (owners layers plan)

-- what is written of databases: a line for each, in the order of the file
abbrev pub databases_text_of : Configuration → List ℕ
databases_text_of conf = text_of conf.databases
