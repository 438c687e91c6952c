-- The layers of a run, from blank ones to what they ask to be saved.
use Rattle.std.specs.Prelude.{◌≡◌, ℕ, ◌+◌, suc, Bool, true, false, cond, count_by, take, drop, List, [], ◌∷◌, ◌++◌, length, map as each, Result, Ok, Err}
use Rattle.std.specs.List.{AllByRecursion, list_all}
use Rattle.dc_outside.specs.State.{FilesState, LinkState}
use Rattle.dc_conf.specs.declared.spec.LayerSpec.{LayerSpec}
use Rattle.dc_conf.specs.declared.spec.LayerSort.{LayerSort}
use Rattle.dc_conf.specs.declared.spec.LayerSort.TheVariants.{File, Tree, Pack, Pipe}
use Rattle.dc_layer.specs.State.{LayerState, blank, set_up, saved}
use Rattle.dc_layer.specs.Rules.{rules_of, are_patterns, are_plain}
use Rattle.dc_layer.specs.declared.pattern.PatternError.{PatternError}
use Rattle.dc_layer.specs.declared.pattern.PatternError.TheVariants.{Bad, TooLarge, OutOfMemory}
use Rattle.dc_save.specs.Loading.{LoadsLayer, LoadsFiles, LoadCounts}
use Rattle.dc_save.specs.declared.loading.Loaded.{Loaded}
use Rattle.dc_save.specs.declared.loading.LoadError.{LoadError}
use Rattle.dc_save.specs.PipeLoading.{LoadsPipe}
use Rattle.dc_save.specs.declared.pipe_loading.PipeError.{PipeError}
use Rattle.dc_save.specs.declared.pipe_loading.PipeLoaded.{PipeLoaded}
use Rattle.dc_shelf.specs.declared.loading.SourceError.{SourceError}
use Rattle.dc_shelf.specs.declared.loading.SourceError.TheVariants as source

-- ---- the boxes

-- each is a blank layer of this sort
abbrev pub AreBlank : LayerSort → List LayerState → Type 0
AreBlank sort layers = AllByRecursion (λ layer. layer ≡ blank sort) layers

-- a layer of each database, as it is set up
abbrev pub all_set_up : List LayerSpec → List LayerState
all_set_up specs = each (λ spec. set_up (blank spec.sort) spec) specs

-- the sorts are the same
abbrev pub is_sort : LayerSort → LayerSort → Bool
is_sort File File = true
is_sort Tree Tree = true
is_sort Pack Pack = true
is_sort Pipe Pipe = true
is_sort _ _ = false

-- how many of the databases are of this sort
abbrev pub count_of : LayerSort → List LayerSpec → ℕ
count_of sort specs = count_by (λ spec. is_sort sort spec.sort) specs

-- each pattern of a database is one
abbrev pub has_patterns : LayerSpec → Bool
has_patterns spec = are_patterns (rules_of spec)

abbrev pub all_patterns : List LayerSpec → Bool
all_patterns specs = list_all has_patterns specs

-- why the patterns of a database are refused: at most where one isn't plain, and as bad ones only where one is no pattern
abbrev pub AreRefusedFor : LayerSpec → PatternError → Type 0
AreRefusedFor spec Bad = are_patterns (rules_of spec) ≡ false
AreRefusedFor spec TooLarge = are_plain (rules_of spec) ≡ false
AreRefusedFor spec OutOfMemory = Unit {0}

-- the database at this place isn't set up, and those before it are, so that all their patterns are patterns
pub record IsRefusedAt (specs : List LayerSpec) (place : ℕ) (error : PatternError) : Type 0 where
  pub before : List LayerSpec
  pub spec : LayerSpec
  pub after : List LayerSpec
  pub whole : specs ≡ before ++ spec ∷ after
  pub place_is : place ≡ length before
  pub built : all_patterns before ≡ true
  pub refused : AreRefusedFor spec error

-- ---- loads

-- what layers are loaded from: the files, and the link on which one may come
pub record Sources : Type 0 where
  pub files : FilesState
  pub link : LinkState

-- these files and this link
abbrev pub sources_of : FilesState → LinkState → Sources
sources_of files link = record { files = files; link = link }

-- what a load answered: of a layer that is kept in files, or of one that comes through a pipe
pub data LoadAnswer : Type 0 where
  OfFiles : Result Loaded LoadError → LoadAnswer
  OfPipe : Result PipeLoaded PipeError → LoadAnswer

-- one load: what it leaves of the layer, and what it does to the files or to the link, of which it leaves the other alone
abbrev pub LoadsOne : LayerSpec → LayerState → LayerState → Sources → Sources → LoadAnswer → Type 0
LoadsOne spec layer made old new (LoadAnswer.OfFiles first) =
    LoadsLayer old.files.view.disk spec layer made first × LoadsFiles old.files.view new.files.view spec first
    × LoadCounts spec old.files.view new.files.view first old.files.counts new.files.counts × (new.link ≡ old.link)
LoadsOne spec layer made old new (LoadAnswer.OfPipe first) =
    (spec.sort ≡ Pipe) × LoadsPipe spec layer made old.link new.link first × (new.files ≡ old.files)

-- the next loads follow one that was answered, and none follows one that wasn't
abbrev pub GoesOn : LoadAnswer → Result (Unit {0}) SourceError → Type 0 → Type 0 → Type 0
GoesOn (LoadAnswer.OfFiles (Ok loaded)) result more last = more
GoesOn (LoadAnswer.OfPipe (Ok loaded)) result more last = more
GoesOn (LoadAnswer.OfFiles (Err error)) result more last = (result ≡ Err (source.Files error)) × last
GoesOn (LoadAnswer.OfPipe (Err error)) result more last = (result ≡ Err (source.Pipe error)) × last

-- One load after another, up to the first that isn't answered: what they leave of the layers and of what they are loaded from. The layers behind
-- a load that isn't answered stay.
abbrev pub LoadsAll : List LayerSpec → List LayerState → List LayerState → Sources → Sources → Result (Unit {0}) SourceError → Type 0
LoadsAll [] old new from left result = (result ≡ Ok tt) × (new ≡ old) × (left ≡ from)
LoadsAll (spec ∷ specs) [] new from left result = ⊥
LoadsAll (spec ∷ specs) (layer ∷ old) [] from left result = ⊥
LoadsAll (spec ∷ specs) (layer ∷ old) (made ∷ new) from left result =
    (first : LoadAnswer) × (mid : Sources) × LoadsOne spec layer made from mid first
    × GoesOn first result (LoadsAll specs old new mid left result) ((new ≡ old) × (left ≡ mid))

-- ---- the machinery of the proofs

-- what stands for this sort
abbrev pub of_sort : {A : Type 0} → LayerSort → A → A → A → A → A
of_sort File files trees packs pipes = files
of_sort Tree files trees packs pipes = trees
of_sort Pack files trees packs pipes = packs
of_sort Pipe files trees packs pipes = pipes

abbrev pub one_if : Bool → ℕ
one_if is = cond is 1 0

-- the same, where the first of these databases has this place
abbrev pub IsRefusedFrom : ℕ → List LayerSpec → ℕ → PatternError → Type 0
IsRefusedFrom first specs place error = (back : ℕ) × (place ≡ first + back) × IsRefusedAt specs back error

-- the layer at a place was marked as saved, and no other changed
pub record IsMarkedAt (place : ℕ) (old new : List LayerState) : Type 0 where
  pub layer : LayerState
  pub stood : drop place old ≡ layer ∷ drop (suc place) old
  pub stands : drop place new ≡ saved layer ∷ drop (suc place) old
  pub kept : take place new ≡ take place old

-- what is told of the answer of a load
abbrev pub told : LoadAnswer → Result (Unit {0}) SourceError
told (LoadAnswer.OfFiles (Ok loaded)) = Ok tt
told (LoadAnswer.OfFiles (Err error)) = Err (source.Files error)
told (LoadAnswer.OfPipe (Ok loaded)) = Ok tt
told (LoadAnswer.OfPipe (Err error)) = Err (source.Pipe error)

-- one load, of whose answer this is told
pub record LoadsTold (spec : LayerSpec) (layer made : LayerState) (from left : Sources) (result : Result (Unit {0}) SourceError) : Type 0 where
  pub first : LoadAnswer
  pub told_is : result ≡ told first
  pub loads : LoadsOne spec layer made from left first

-- the layer at a place was loaded, and no other changed
pub record IsLoadedAt (spec : LayerSpec) (place : ℕ) (old new : List LayerState) (from left : Sources) (result : Result (Unit {0}) SourceError) : Type 0 where
  pub layer : LayerState
  pub made : LayerState
  pub stood : drop place old ≡ layer ∷ drop (suc place) old
  pub stands : drop place new ≡ made ∷ drop (suc place) old
  pub behind : drop (suc place) new ≡ drop (suc place) old
  pub kept : take place new ≡ take place old
  pub loads : LoadsTold spec layer made from left result
