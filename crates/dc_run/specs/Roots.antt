-- What a tool takes from the configuration. The plans of its databases are trees here: where their boxes stand in memory is left out.
use Rattle.std.specs.Prelude.{List, ◌∷◌, Option, option_map, option_to_list}
use Rattle.dc_conf.specs.Configuration.{Configuration}
use Rattle.dc_conf.specs.Trees.{Tree, shape}
use Rattle.dc_layer.specs.Patterns.{Sought}
use Rattle.dc_run.specs.declared.starting.CopyRoots.{CopyRoots as CopyRootsOf}
use Rattle.dc_run.specs.declared.starting.Roots.{Roots as RootsOf}

-- what is copied into, and the patterns that choose the items by their names and by their owners
pub record CopyRoots : Type 0 where
  pub dest : Tree
  pub by_name : Option Sought
  pub by_owner : Option Sought

-- the configuration, the plans of questions and of templates, and what it copies by
pub record Roots : Type 0 where
  pub conf : Configuration
  pub config : Tree
  pub templates : Tree
  pub copy : Option CopyRoots

-- all plans of a tool's roots
abbrev pub plans_in : Roots → List Tree
plans_in roots = roots.config ∷ roots.templates ∷ option_to_list (option_map (λ copy. copy.dest) roots.copy)

-- ---- those of the program

abbrev pub shaped_copy : CopyRootsOf → CopyRoots
shaped_copy copy = record { dest = shape copy.dest; by_name = copy.by_name; by_owner = copy.by_owner }

abbrev pub shaped : RootsOf → Roots
shaped roots = record { conf = roots.conf; config = shape roots.config; templates = shape roots.templates; copy = option_map shaped_copy roots.copy }
