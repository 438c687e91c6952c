-- What a run finds and leaves.
use Rattle.std.specs.Prelude.{◌≡◌, ◌≤◌, ℕ, List, [], length, map as each}
use Rattle.dc_conf.specs.declared.spec.LayerSort.TheVariants.{File, Tree, Pack, Pipe}
use Rattle.dc_layer.specs.State.{LayerState}
use Rattle.dc_outside.specs.State.{LinkState, FilesState}
use Rattle.dc_session.specs.SessionState.{ReadAhead, nothing_typed}
use Rattle.dc_shelf.specs.Shelves.{AreBlank, Sources, sources_of}
use Rattle.dc_shelf.specs.declared.shelf.Shelf.{Shelf}

-- the files, and the layers that are used
pub record Stock : Type 0 where
  pub files : FilesState
  pub used : List LayerState

-- what databases are loaded from and saved to, and the layers that are used
pub record Ground : Type 0 where
  pub sources : Sources
  pub used : List LayerState

-- the links that tools use: the program's own, and the one to the program that it starts
pub record Links : Type 0 where
  pub io : LinkState
  pub child : LinkState

-- the files and the layers, the links, and standard error
pub record World : Type 0 where
  pub stock : Stock
  pub links : Links
  pub err : LinkState

-- of a world: its files, the program's own link, and its layers
abbrev pub ground_in : World → Ground
ground_in world = record { sources = record { files = world.stock.files; link = world.links.io }; used = world.stock.used }

-- a world with this ground
abbrev pub on_ground : World → Ground → World
on_ground world found =
    record world { stock = record { files = found.sources.files; used = found.used }; links = record { io = found.sources.link; child = world.links.child } }

-- what one round of a run hands to the next: the world, what was typed on the terminal and isn't used yet, and the code of the last reply
pub record RunState : Type 0 where
  pub world : World
  pub ahead : ReadAhead
  pub code : ℕ

-- a run in this world, before its first round
abbrev pub before_rounds : World → RunState
before_rounds world = record { world = world; ahead = nothing_typed; code = 0 }

-- these files and layers
abbrev pub stock_of : FilesState → List LayerState → Stock
stock_of files used = record { files = files; used = used }

-- these files, this link and these layers
abbrev pub ground_of : FilesState → LinkState → List LayerState → Ground
ground_of files link used = record { sources = sources_of files link; used = used }

-- these links
abbrev pub links_of : LinkState → LinkState → Links
links_of io child = record { io = io; child = child }

-- these links, standard error, files and layers, with what was typed ahead and the code of the last reply
abbrev pub run_state : LinkState → LinkState → LinkState → FilesState → List LayerState → ReadAhead → ℕ → RunState
run_state io child err files used ahead code =
    record { world = record { stock = stock_of files used; links = links_of io child; err = err }; ahead = ahead; code = code }

-- what a run finds: these links, standard error and files, and no layer in use
abbrev pub world_before : LinkState → LinkState → LinkState → FilesState → World
world_before io child err files = record { stock = stock_of files []; links = links_of io child; err = err }

-- ---- over a shelf: the states of its boxes

abbrev pub files_in : {X : Type 0} {F : X → Type 0} → ((x : X) × F x → LayerState) → Shelf X F → List LayerState
files_in state shelf = each (λ b. state (b.vtable, b.value)) shelf.files.items

abbrev pub trees_in : {X : Type 0} {F : X → Type 0} → ((x : X) × F x → LayerState) → Shelf X F → List LayerState
trees_in state shelf = each (λ b. state (b.vtable, b.value)) shelf.trees.items

abbrev pub packs_in : {X : Type 0} {F : X → Type 0} → ((x : X) × F x → LayerState) → Shelf X F → List LayerState
packs_in state shelf = each (λ b. state (b.vtable, b.value)) shelf.packs.items

abbrev pub pipes_in : {X : Type 0} {F : X → Type 0} → ((x : X) × F x → LayerState) → Shelf X F → List LayerState
pipes_in state shelf = each (λ b. state (b.vtable, b.value)) shelf.pipes.items

abbrev pub used_in : {X : Type 0} {F : X → Type 0} → ((x : X) × F x → LayerState) → Shelf X F → List LayerState
used_in state shelf = each (λ b. state (b.vtable, b.value)) shelf.used.items

-- sixteen blank boxes of each sort that is kept in files at least, and one for what comes through a pipe, since a configuration may have as many
-- databases; and none is used yet
pub record IsReady {X : Type 0} {F : X → Type 0} (state : (x : X) × F x → LayerState) (shelf : Shelf X F) : Type 0 where
  pub files : AreBlank File (files_in state shelf)
  pub trees : AreBlank Tree (trees_in state shelf)
  pub packs : AreBlank Pack (packs_in state shelf)
  pub pipes : AreBlank Pipe (pipes_in state shelf)
  pub some_files : 16 ≤ length shelf.files.items
  pub some_trees : 16 ≤ length shelf.trees.items
  pub some_packs : 16 ≤ length shelf.packs.items
  pub some_pipes : 1 ≤ length shelf.pipes.items
  pub none_used : shelf.used.items ≡ []

-- what stands: the links, the files, and the used boxes
abbrev pub world : {X : Type 0} {F : X → Type 0} → LinkState → LinkState → LinkState → FilesState → ((x : X) × F x → LayerState) → Shelf X F → World
world io child err files state shelf = record { stock = stock_of files (used_in state shelf); links = links_of io child; err = err }
