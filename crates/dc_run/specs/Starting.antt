-- What a run does before its tool: the configuration is read, the databases and patterns that its words name are looked at, a layer for each
-- database that its roots reach is set up, and each is loaded.
use Rattle.std.specs.Prelude.{◌≡◌, ◌⊎◌, ℕ, Bool, nat_le, List, [], ◌∷◌, ◌++◌, true, false, not, Option, Some, None, option_and_then, option_map, option_to_list, Result, Ok, Err, codes, if◌then◌else◌}
use Rattle.std.specs.Option.{option_or, option_map_or}
use Rattle.std.specs.List.{AllByRecursion, find, flat_map, list_all}
use Rattle.dc_text.specs.Ascii.{newline}
use Rattle.dc_outside.specs.Disk.{Disk}
use Rattle.dc_outside.specs.Counts.{FaultRose, RefusalRose}
use Rattle.dc_outside.specs.Steps.{after_look}
use Rattle.dc_outside.specs.State.{FilesView, LinkState}
use Rattle.dc_outside.specs.declared.files.FilesOp.TheVariants.{Read}
use Rattle.dc_conf.specs.Configuration.{Configuration, IsAnswer, IsPlan, is_among, reached}
use Rattle.dc_conf.specs.Plans.{IsOver, all_places, are_disjoint, stand_once}
use Rattle.dc_conf.specs.Trees.{Tree}
use Rattle.dc_conf.specs.declared.faults.ConfError.{ConfError}
use Rattle.dc_conf.specs.declared.faults.ConfKind.TheVariants.{PipeUse}
use Rattle.dc_conf.specs.Nodes.{driver_line_of}
use Rattle.dc_conf.specs.declared.spec.LayerSpec.{LayerSpec}
use Rattle.dc_layer.specs.Patterns.{Sought, is_pattern, is_plain}
use Rattle.dc_layer.specs.State.{is_pipe}
use Rattle.dc_layer.specs.declared.pattern.PatternError.{PatternError}
use Rattle.dc_layer.specs.declared.pattern.PatternError.TheVariants as pattern
use Rattle.dc_frontend.specs.Frontends.{frontend_of}
use Rattle.dc_frontend.specs.declared.frontend.Frontend.{Frontend}
use Rattle.dc_frontend.specs.declared.frontend.Frontend.TheVariants.{Noninteractive}
use Rattle.dc_proto.specs.Priorities.{priority_of}
use Rattle.dc_proto.specs.declared.priority.Priority.{Priority}
use Rattle.dc_question.specs.Questions.{QuestionContext}
use Rattle.dc_save.specs.Loading.{IsTextAt}
use Rattle.dc_session.specs.Serving.{Resources, resources_of, session_over}
use Rattle.dc_session.specs.SessionState.{FilesState, SessionState, nowhere, terminal_at}
use Rattle.dc_shelf.specs.Shelves.{Sources, all_patterns, all_set_up, IsRefusedAt, LoadsAll}
use Rattle.dc_shelf.specs.declared.loading.SourceError.{SourceError}
use Rattle.dc_shelf.specs.declared.shelf.NotSetUp.{NotSetUp}
use Rattle.dc_run.specs.declared.outcome.End.{End}
use Rattle.dc_run.specs.declared.outcome.End.TheVariants as end
use Rattle.dc_run.specs.declared.settings.Settings.{Settings}
use Rattle.dc_run.specs.declared.outcome.PatternAt.TheVariants.{Word}
use Rattle.dc_run.specs.Roots.{CopyRoots, Roots, plans_in, shaped}
use Rattle.dc_run.specs.declared.starting.Roots.{Roots as RootsOf}
use Rattle.dc_run.specs.Ends.{end_of_conf, end_of_pattern, end_of_patterns, end_of_load}
use Rattle.dc_run.specs.World.{Ground, RunState}
use Rattle.dc_cli.specs.Tools.{owner_of}
use Rattle.dc_cli.specs.declared.tool.Tool.{Tool}
use Rattle.dc_cli.specs.declared.tool.Tool.TheVariants.{Run, Show, CopyDb, SetSelections, Drill, Answer}
use Rattle.dc_cli.specs.DatabaseWords.{is_name_field}
use Rattle.dc_cli.specs.declared.tool.ConfigLine.{ConfigLine}
use Rattle.dc_cli.specs.declared.tool.CopyWords.{CopyWords}
use Rattle.dc_cli.specs.declared.tool.PlacedWord.{PlacedWord}

-- ---- the configuration

-- a field that the words of `copydb` add to the configuration, in a line of its own; an empty line stands before the name of a database
abbrev pub added_line : ConfigLine → List ℕ
added_line line = (if is_name_field line.field then newline ∷ [] else []) ++ line.field ++ codes ": " ++ line.value ++ newline ∷ []

-- whether a tool works on databases that are kept in files; `drill` has some of its own, which are empty at first and nowhere kept, and `answer`
-- uses none
abbrev pub has_files : Tool → Bool
has_files (Drill count) = false
has_files (Answer command) = false
has_files used = true

-- the databases of a tool that stands on no configuration: two of questions, of which the first rejects each name that ends with a two, and one of templates
abbrev pub own_configuration : List ℕ
own_configuration =
    codes "Config: config\nTemplates: t\n\nName: config\nDriver: Stack\nStack: a, b\n\nName: a\nDriver: File\nFilename: a\nReject-Name: 2$\n"
    ++ codes "\nName: b\nDriver: File\nFilename: b\n\nName: t\nDriver: File\nFilename: t\n"

-- the text that a tool reads as its configuration, of what the file holds; a tool that stands on none has one of its own
abbrev pub conf_text : Tool → List ℕ → List ℕ
conf_text (CopyDb copy) text = text ++ newline ∷ flat_map added_line copy.config
conf_text (Drill count) text = own_configuration
conf_text (Answer command) text = own_configuration
conf_text used text = text

-- the text at the path gives a tool this configuration; a file that isn't there is the empty text
pub record IsConfiguration (used : Tool) (disk : Option Disk) (path : List ℕ) (conf : Configuration) : Type 0 where
  pub text : List ℕ
  pub text_is : IsTextAt disk path text
  pub reads : IsAnswer (conf_text used text) (Ok conf)

-- ---- the databases of a tool

-- the one in which it finds questions, or from which it copies
abbrev pub source_of : Tool → Configuration → List ℕ
source_of (Show database shown) conf = option_map_or (λ given. given.word) database conf.config
source_of (CopyDb copy) conf = copy.source.word
source_of used conf = conf.config

-- the one into which it copies
abbrev pub dest_of : Tool → List (List ℕ)
dest_of (CopyDb copy) = copy.dest.word ∷ []
dest_of used = []

-- all of them, with the templates
abbrev pub roots : Tool → Configuration → List (List ℕ)
roots used conf = source_of used conf ∷ conf.templates ∷ dest_of used

-- the databases that hold their items, in the order of the file
abbrev pub databases_of : Tool → Configuration → List LayerSpec
databases_of used conf = reached conf (roots used conf)

-- those whose items are read from files
abbrev pub loaded_of : Tool → Configuration → List LayerSpec
loaded_of used conf = if has_files used then databases_of used conf else []

-- whether what a tool changes is saved: not where lines of selections are only checked
abbrev pub keeps_changes : Tool → Bool
keeps_changes (SetSelections verbose check unseen) = not check
keeps_changes used = has_files used

-- a plan is that of one of them
abbrev pub IsPlanIn : Tool → Configuration → Tree → List ℕ → Type 0
IsPlanIn used conf plan name = IsPlan conf.nodes (databases_of used conf) plan name

-- ---- the words that name databases

abbrev pub is_known : Configuration → PlacedWord → Bool
is_known conf database = is_among conf.databases database.word

-- the place of the first of these words that the configuration has no database for
abbrev pub first_unknown : Configuration → List PlacedWord → Option ℕ
first_unknown conf words = option_map (λ database. database.place) (find (λ database. not (is_known conf database)) words)

-- whether the destination shares no database with the source
pub record AreDisjointIn (conf : Configuration) (copy : CopyWords) (apart : Bool) : Type 0 where
  pub source : Tree
  pub dest : Tree
  pub source_is : IsPlanIn (CopyDb copy) conf source copy.source.word
  pub dest_is : IsPlanIn (CopyDb copy) conf dest copy.dest.word
  pub apart_is : are_disjoint source dest ≡ apart

-- The place of the first word of a copy that names a wrong database, if there is one, by the first that the configuration doesn't have: else a
-- destination that shares a database with the source is wrong.
abbrev pub IsWrongCopy : Option ℕ → Configuration → CopyWords → Option ℕ → Type 0
IsWrongCopy (Some unknown) conf copy word = word ≡ Some unknown
IsWrongCopy None conf copy None = AreDisjointIn conf copy true
IsWrongCopy None conf copy (Some word) = (word ≡ copy.dest.place) × AreDisjointIn conf copy false

-- the place of the first word of a tool that names a wrong database, if there is one
abbrev pub IsWrongWord : Tool → Configuration → Option ℕ → Type 0
IsWrongWord (Show database shown) conf word = word ≡ first_unknown conf (option_to_list database)
IsWrongWord (CopyDb copy) conf word = IsWrongCopy (first_unknown conf (copy.source ∷ copy.dest ∷ [])) conf copy word
IsWrongWord used conf word = word ≡ None

-- ---- databases through pipes

-- a tool that doesn't copy
abbrev pub IsOther : Tool → Type 0
IsOther (CopyDb copy) = ⊥
IsOther used = Unit {0}

-- the first of these databases that comes or goes through a pipe, where the tool isn't the one that copies
abbrev pub misused_among : Tool → List LayerSpec → Option LayerSpec
misused_among (CopyDb copy) specs = None
misused_among used specs = find (λ spec. is_pipe spec.sort) specs

abbrev pub misused_pipe : Tool → Configuration → Option LayerSpec
misused_pipe used conf = misused_among used (databases_of used conf)

-- ---- the words that are patterns

-- two words that may be given, in the order of their places
abbrev pub in_order : Option PlacedWord → Option PlacedWord → List PlacedWord
in_order None other = option_to_list other
in_order (Some one) None = one ∷ []
in_order (Some one) (Some other) = if nat_le one.place other.place then one ∷ other ∷ [] else other ∷ one ∷ []

abbrev pub pattern_words : Tool → List PlacedWord
pattern_words (CopyDb copy) = in_order copy.by_name copy.by_owner
pattern_words used = []

-- a pattern in which case counts
abbrev pub sought : PlacedWord → Sought
sought pattern = record { text = pattern.word; ignore_case = false }

-- all of the words are patterns
abbrev pub are_patterns : List PlacedWord → Bool
are_patterns words = list_all (λ pattern. is_pattern false pattern.word) words

-- a word is no pattern, or what would be built of it takes too much room
abbrev pub IsRefusedFor : List ℕ → PatternError → Type 0
IsRefusedFor word pattern.Bad = is_pattern false word ≡ false
IsRefusedFor word pattern.TooLarge = (is_plain word ≡ false) × (is_pattern false word ≡ true)
IsRefusedFor word pattern.OutOfMemory = ⊥

-- the files once a tool's configuration was read
abbrev pub conf_read : Tool → FilesView → List ℕ → FilesView
conf_read used files path = if has_files used then after_look files Read path true else files

-- the same with the link, which wasn't used
abbrev pub conf_read_in : Tool → List ℕ → Sources → Sources
conf_read_in used path old = record old { files = record old.files { view = conf_read used old.files.view path } }

-- the plans of questions and of templates are over so many layers
pub record AreOver (roots : Roots) (count : ℕ) : Type 0 where
  pub config : IsOver roots.config count
  pub templates : IsOver roots.templates count

-- so is the one into which a copy is made, and it shares no layer with the source
abbrev pub IsCopyOver : Option CopyRoots → Tree → ℕ → Type 0
IsCopyOver None source count = ⊥
IsCopyOver (Some copy) source count = IsOver copy.dest count × (are_disjoint source copy.dest ≡ true)

-- Which plans share no layer: those of questions and of templates, where questions are asked or templates loaded, and those of a copy. What is
-- shown may be the templates themselves.
abbrev pub AreApart : Tool → Roots → ℕ → Type 0
AreApart (Show database shown) roots count = Unit {0}
AreApart (CopyDb copy) roots count = IsCopyOver roots.copy roots.config count
AreApart used roots count = are_disjoint roots.config roots.templates ≡ true

-- ---- the start of a session

-- the priority that was chosen: the first of the setting's and the configuration's word that is one
abbrev pub chosen : Settings → Roots → Option Priority
chosen settings roots = option_or (option_and_then priority_of settings.priority) (option_and_then priority_of roots.conf.priority)

-- where questions and templates stand in the layers, with the user's language
abbrev pub context_of : Roots → Settings → QuestionContext
context_of roots settings = record { config = roots.config; templates = roots.templates; lang = settings.lang }

-- the priority that a tool's words or settings choose
abbrev pub chosen_priority : Tool → Settings → Roots → Option Priority
chosen_priority (Run owner frontend priority command) settings roots = option_or priority (chosen settings roots)
chosen_priority used settings roots = chosen settings roots

-- What asks the user of a tool, where its words or settings choose it. Only `run` asks anyone: by its words, else the setting's, else the
-- configuration's.
abbrev pub chosen_frontend : Tool → Settings → Roots → Option Frontend
chosen_frontend (Run owner frontend priority command) settings roots =
    option_or frontend (option_or (option_and_then frontend_of settings.frontend) (option_and_then frontend_of roots.conf.frontend))
chosen_frontend used settings roots = Some Noninteractive

-- the link of a tool's terminal: `run` asks on the program's own link, and no other tool has one
abbrev pub terminal_link : Tool → LinkState → LinkState
terminal_link (Run owner frontend priority command) io = io
terminal_link used io = nowhere

-- what a session of a tool works on, by what its round finds
abbrev pub resources_for : Tool → RunState → Resources
resources_for used state =
    resources_of state.world.stock.used state.world.stock.files (terminal_at (terminal_link used state.world.links.io) state.ahead) state.world.err

-- a session over these for an owner, under these settings, by the frontend and the least priority that were chosen
abbrev pub session_at : Resources → Roots → Settings → List ℕ → Option Frontend → Option Priority → SessionState
session_at over roots settings owner frontend threshold = session_over over (context_of roots settings) owner frontend threshold settings.nonint_seen

-- the session of a tool
abbrev pub begun : Tool → RunState → Roots → Settings → SessionState
begun used state roots settings =
    session_at (resources_for used state) roots settings (owner_of used) (chosen_frontend used settings roots) (chosen_priority used settings roots)

-- ---- the ends of a run before its tool: nothing is written

-- nothing was done on the files but the read of the configuration, where it is in one
pub record HasReadConf (used : Tool) (path : List ℕ) (old new : FilesState) : Type 0 where
  pub files_are : new.view ≡ conf_read used old.view path
  pub counts : new.counts ≡ old.counts

-- no call of the files was done, and they may have refused one for want of memory
pub record HasNotBegun (old new : FilesState) : Type 0 where
  pub files_are : new.view ≡ old.view
  pub counts : (new.counts ≡ old.counts) ⊎ RefusalRose old.counts new.counts

-- there was no memory before the first load
pub record IsOutOfMemory (used : Tool) (path : List ℕ) (old new : FilesState) (how : End) : Type 0 where
  pub end_is : how ≡ end.OutOfMemory
  pub begun : HasNotBegun old new ⊎ HasReadConf used path old new

-- the read of the configuration failed
pub record IsUnread (used : Tool) (path : List ℕ) (old new : FilesState) (how : End) : Type 0 where
  pub in_file : has_files used ≡ true
  pub end_is : how ≡ end.FilesFault path
  pub files_are : new.view ≡ after_look old.view Read path false
  pub counts : FaultRose old.counts new.counts

-- the text at the path has this fault, which decides
pub record IsRefused (used : Tool) (path : List ℕ) (old new : FilesState) (how : End) : Type 0 where
  pub error : ConfError
  pub end_is : how ≡ end_of_conf error
  pub text : List ℕ
  pub text_is : IsTextAt old.view.disk path text
  pub refused : IsAnswer (conf_text used text) (Err error)
  pub read : HasReadConf used path old new

-- a word of the tool names a wrong database
pub record IsWrongDatabase (used : Tool) (path : List ℕ) (old new : FilesState) (how : End) : Type 0 where
  pub word : ℕ
  pub end_is : how ≡ end.Usage word
  pub conf : Configuration
  pub conf_is : IsConfiguration used old.view.disk path conf
  pub wrong : IsWrongWord used conf (Some word)
  pub read : HasReadConf used path old new

-- the text at the path is this configuration, and it has the databases that the tool's words name
pub record IsChosen (used : Tool) (disk : Option Disk) (path : List ℕ) (conf : Configuration) : Type 0 where
  pub conf_is : IsConfiguration used disk path conf
  pub databases : IsWrongWord used conf None

-- a tool other than the one that copies works on a database that comes or goes through a pipe, which is told at the line of its driver
pub record IsMisused (used : Tool) (path : List ℕ) (old new : FilesState) (how : End) : Type 0 where
  pub spec : LayerSpec
  pub line : ℕ
  pub end_is : how ≡ end.ConfRefused line PipeUse
  pub conf : Configuration
  pub conf_is : IsChosen used old.view.disk path conf
  pub misused : misused_pipe used conf ≡ Some spec
  pub line_is : driver_line_of conf.nodes spec.name ≡ Some line
  pub read : HasReadConf used path old new

-- a word of the tool is refused as a pattern, and those before it are patterns
pub record IsWrongPattern (used : Tool) (path : List ℕ) (old new : FilesState) (how : End) : Type 0 where
  pub error : PatternError
  pub before : List PlacedWord
  pub word : PlacedWord
  pub after : List PlacedWord
  pub end_is : how ≡ end_of_pattern (Word word.place) error
  pub conf : Configuration
  pub conf_is : IsChosen used old.view.disk path conf
  pub words_are : pattern_words used ≡ before ++ word ∷ after
  pub built : are_patterns before ≡ true
  pub refused : IsRefusedFor word.word error
  pub read : HasReadConf used path old new

-- the same configuration, of which the tool misuses no pipe, and the patterns among the tool's words are patterns
pub record IsFit (used : Tool) (disk : Option Disk) (path : List ℕ) (conf : Configuration) : Type 0 where
  pub conf_is : IsChosen used disk path conf
  pub unmisused : misused_pipe used conf ≡ None
  pub patterns : are_patterns (pattern_words used) ≡ true

-- the patterns of a database of the configuration are refused
pub record IsNotSetUp (used : Tool) (path : List ℕ) (old new : FilesState) (how : End) : Type 0 where
  pub refused : NotSetUp
  pub end_is : how ≡ end_of_patterns refused
  pub conf : Configuration
  pub conf_is : IsFit used old.view.disk path conf
  pub refused_at : IsRefusedAt (databases_of used conf) refused.place refused.error
  pub read : HasReadConf used path old new

-- All patterns of the databases of the configuration are patterns, and a layer of each was set up. The loads of these, which had this answer,
-- left the layers, the files and the link so.
pub record HasLoaded (used : Tool) (path : List ℕ) (conf : Configuration) (old : Sources) (new : Ground) (result : Result (Unit {0}) SourceError) : Type 0 where
  pub conf_is : IsFit used old.files.view.disk path conf
  pub patterns : all_patterns (databases_of used conf) ≡ true
  pub loads : LoadsAll (loaded_of used conf) (all_set_up (databases_of used conf)) new.used (conf_read_in used path old) new.sources result

-- a load was refused
pub record IsNotLoaded (used : Tool) (path : List ℕ) (old : Sources) (new : Ground) (how : End) : Type 0 where
  pub error : SourceError
  pub end_is : how ≡ end_of_load error
  pub conf : Configuration
  pub loaded : HasLoaded used path conf old new (Err error)

-- before a layer was loaded
abbrev pub EndsUnloaded : Tool → List ℕ → FilesState → FilesState → End → Type 0
EndsUnloaded used path old new how =
    IsOutOfMemory used path old new how ⊎ IsUnread used path old new how ⊎ IsRefused used path old new how
    ⊎ IsWrongDatabase used path old new how ⊎ IsMisused used path old new how ⊎ IsWrongPattern used path old new how
    ⊎ IsNotSetUp used path old new how

-- Before that the link wasn't used. A load may have read what comes through a pipe.
abbrev pub EndsBefore : Tool → List ℕ → Sources → Ground → End → Type 0
EndsBefore used path old new how =
    (EndsUnloaded used path old.files new.sources.files how × (new.sources.link ≡ old.link)) ⊎ IsNotLoaded used path old new how

-- ---- what is done before the tool, by the answer

-- what a copy is made into, and the patterns by which it is chosen
pub record IsCopyOf (copy : CopyWords) (conf : Configuration) (made : CopyRoots) : Type 0 where
  pub dest : IsPlanIn (CopyDb copy) conf made.dest copy.dest.word
  pub by_name : made.by_name ≡ option_map sought copy.by_name
  pub by_owner : made.by_owner ≡ option_map sought copy.by_owner

-- the same of the tool that copies, and nothing of any other
abbrev pub IsCopyIn : Tool → Configuration → Option CopyRoots → Type 0
IsCopyIn (CopyDb copy) conf None = ⊥
IsCopyIn (CopyDb copy) conf (Some made) = IsCopyOf copy conf made
IsCopyIn used conf made = made ≡ None

-- the plans of questions and of templates share no database, where questions are asked or set, or templates loaded
abbrev pub AreDisjointFor : Tool → Roots → Type 0
AreDisjointFor (Show database shown) roots = Unit {0}
AreDisjointFor (CopyDb copy) roots = Unit {0}
AreDisjointFor used roots = are_disjoint roots.config roots.templates ≡ true

-- each place stands once in the plan
abbrev pub HasEachOnce : Tree → Type 0
HasEachOnce plan = stand_once (all_places plan) ≡ true

-- all layers were loaded, and these are the configuration, the plans of the tool's databases, and what it copies by
pub record HasStarted (used : Tool) (path : List ℕ) (old : Sources) (new : Ground) (roots : Roots) : Type 0 where
  pub loaded : HasLoaded used path roots.conf old new (Ok tt)
  pub config_is : IsPlanIn used roots.conf roots.config (source_of used roots.conf)
  pub templates_is : IsPlanIn used roots.conf roots.templates roots.conf.templates
  pub copy_is : IsCopyIn used roots.conf roots.copy
  pub once : AllByRecursion HasEachOnce (plans_in roots)
  pub apart : AreDisjointFor used roots

abbrev pub Starts : Tool → List ℕ → Sources → Ground → Result RootsOf End → Type 0
Starts used path old new (Ok roots) = HasStarted used path old new (shaped roots)
Starts used path old new (Err how) = EndsBefore used path old new how

-- what reading the configuration does
abbrev pub ReadsConf : Tool → List ℕ → FilesState → FilesState → Result Configuration End → Type 0
ReadsConf used path old new (Ok conf) = IsConfiguration used old.view.disk path conf × HasReadConf used path old new
ReadsConf used path old new (Err how) = IsOutOfMemory used path old new how ⊎ IsUnread used path old new how ⊎ IsRefused used path old new how

-- some text is this configuration
abbrev pub IsSomeConfiguration : Configuration → Type 0
IsSomeConfiguration conf = (text : List ℕ) × IsAnswer text (Ok conf)
