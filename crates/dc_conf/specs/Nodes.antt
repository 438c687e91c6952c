-- Databases that name databases: which of them a name leads to, and which meet.
use Rattle.std.specs.Prelude.{ℕ, Bool, false, ◌||◌, ◌&&◌, List, [], ◌∷◌, Option, map as each}
use Rattle.std.specs.Option.{option_map}
use Rattle.std.specs.List.{list_any, find}
use Rattle.std.specs.Str.{bytes_eq}
use Rattle.dc_conf.specs.declared.nodes.Form.{Form}
use Rattle.dc_conf.specs.declared.nodes.Form.TheVariants.{Holds, Stacks, Backs, Tells}
use Rattle.dc_conf.specs.declared.nodes.Node.{Node}
use Rattle.dc_conf.specs.Reaching.{by_way}

-- the databases that one names, by how it is made
abbrev pub named_in : Form → List (List ℕ)
named_in Holds = []
named_in (Stacks names) = names
named_in (Backs db backupdb) = db ∷ backupdb ∷ []
named_in (Tells db) = db ∷ []

abbrev pub is_among : List (List ℕ) → List ℕ → Bool
is_among names name = list_any (bytes_eq name) names

-- a name stands twice
abbrev pub repeats : List (List ℕ) → Bool
repeats [] = false
repeats (name ∷ names) = list_any (bytes_eq name) names || repeats names

abbrev pub names_of : List Node → List (List ℕ)
names_of nodes = each (λ node. node.name) nodes

-- the name is that of a database
abbrev pub is_node : List Node → List ℕ → Bool
is_node nodes name = list_any (λ node. bytes_eq name node.name) nodes

-- the database of the first name names the second, which is that of a database
abbrev pub names_it : List Node → List ℕ → List ℕ → Bool
names_it nodes name other = is_node nodes other && list_any (λ node. bytes_eq name node.name && is_among (named_in node.form) other) nodes

-- what it names it reaches, and what these reach
abbrev pub reaches : List Node → List ℕ → List ℕ → Bool
reaches nodes name other = by_way (names_it nodes) (names_of nodes) name other

-- the name is the other, or its database reaches that of the other
abbrev pub leads_to : List Node → List ℕ → List ℕ → Bool
leads_to nodes name other = bytes_eq name other || reaches nodes name other

-- Two databases meet: they are one, one reaches the other, or both reach a third.
abbrev pub names_meet : List Node → List ℕ → List ℕ → Bool
names_meet nodes one other = list_any (λ third. leads_to nodes one third && leads_to nodes other third) (names_of nodes)

-- two of the names are those of one database, or of two that meet
abbrev pub two_meet : List Node → List (List ℕ) → Bool
two_meet nodes [] = false
two_meet nodes (name ∷ names) = list_any (names_meet nodes name) names || two_meet nodes names

-- the line that names the driver of the database of the name, if there is one
abbrev pub driver_line_of : List Node → List ℕ → Option ℕ
driver_line_of nodes name = option_map (λ node. node.line) (find (λ node. bytes_eq node.name name) nodes)

-- how the database of the name is made, if there is one
abbrev pub form_at : List Node → List ℕ → Option Form
form_at nodes name = option_map (λ node. node.form) (find (λ node. bytes_eq node.name name) nodes)
