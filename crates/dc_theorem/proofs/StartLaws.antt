-- What the files hold determines what a run begins from, where no call of them failed.
use Rattle.std.proofs.Common.{if◌then◌else◌, ◌⊎◌, ◌||◌, ◌&&◌, append-nil, ◌≡◌, ℕ, Bool, true, false, refl, List, [], ◌∷◌, ◌++◌, Option, None, Some, ap, sym, subst, inl, inr, ◌∙◌, arith}
use Rattle.std.specs.Prelude.{◌-◌, ◌^◌, ◌<◌, ◌≤◌, true, false, map as each, Result, Ok, Err}
use Rattle.std.specs.Io.KnownBytes.{IsAtEnd, prepend_known}
use Rattle.std.specs.List.{list_any}
use Rattle.dc_outside.specs.State.{FilesState, FilesView, LinkState}
use Rattle.dc_item.specs.Records.{Reads}
use Rattle.dc_item.specs.Table.{table_of}
use Rattle.dc_item.specs.declared.entry.Entry.{Entry}
use Rattle.dc_outside.specs.Disk.{Disk}
use Rattle.dc_outside.specs.Steps.{after_look}
use Rattle.dc_outside.specs.Counts.{Counts, FaultRose}
use Rattle.dc_outside.specs.declared.files.FilesOp.{FilesOp}
use Rattle.dc_outside.specs.declared.files.FilesOp.TheVariants.{Read, List as ListOf}
use Rattle.dc_conf.specs.Configuration.{Configuration, configuration}
use Rattle.dc_conf.specs.Stanzas.{stanzas, fields_of}
use Rattle.dc_conf.specs.declared.spec.LayerSpec.{LayerSpec}
use Rattle.dc_layer.specs.State.{LayerState, is_pipe}
use Rattle.dc_conf.specs.declared.spec.LayerSort.{LayerSort}
use Rattle.dc_conf.specs.declared.spec.LayerSort.TheVariants.{File, Tree, Pack, Pipe}
use Rattle.dc_save.specs.FolderLoading.{Holds, HoldAll, IsListedAt, IsFolderHere, LoadsFolderFiles, FailsOn, its_files, path_at, reads_of, after_reads}
use Rattle.dc_save.specs.Loading.{LoadsBy, LoadsFilesBy, LoadCountsBy, LoadsLayer, LoadsFiles, IsHere, with_loaded, text_in}
use Rattle.dc_run.proofs.CrashLemmas.{load_reads as load_disk}
use Rattle.dc_save.specs.declared.loading.Loaded.{Loaded}
use Rattle.dc_save.specs.declared.loading.Loaded.TheVariants.{Here, LeftOut}
use Rattle.dc_save.specs.PipeLoading.{IsPiped, IsReadWhole, LoadsPipe, LoadsWhere}
use Rattle.dc_save.specs.declared.pipe_loading.PipeLoaded.{PipeLoaded}
use Rattle.dc_save.specs.declared.pipe_loading.PipeLoaded.TheVariants as piped
use Rattle.dc_run.proofs.LoadCounts.{PipeCounts, pipe_counts}
use Rattle.dc_shelf.specs.Shelves.{all_set_up, GoesOn, LoadAnswer, LoadsAll, LoadsOne, Sources}
use Rattle.dc_shelf.specs.declared.loading.SourceError.{SourceError}
use Rattle.dc_shelf.specs.declared.loading.SourceError.TheVariants as source
use Rattle.dc_session.proofs.Determined.{IsTold}
use Rattle.dc_cli.specs.declared.tool.CopyWords.{CopyWords}
use Rattle.dc_cli.specs.declared.tool.Tool.{Tool}
use Rattle.dc_cli.specs.declared.tool.Tool.TheVariants.{Communicate, LoadTemplate, Run, Show, CopyDb, SetSelections, GetSelections, Drill, Answer}
use Rattle.dc_conf.proofs.NodeLemmas.{one_plan}
use Rattle.dc_run.specs.Starting.{has_files, loaded_of, IsConfiguration, IsCopyIn, IsCopyOf, IsPlanIn, conf_read, conf_read_in, conf_text, databases_of, HasStarted, source_of}
use Rattle.dc_run.specs.World.{Ground}
use Rattle.dc_run.specs.Roots.{CopyRoots, Roots}
use Rattle.dc_theorem.proofs.CountLemmas.{no_rise, still}

no_error : (error : SourceError) → ◌≡◌ {A = Result (Unit {0}) SourceError} (Ok tt) (Err error) → ⊥
no_error error is = cc

-- ---- between two moments

-- no failure was counted, and the count wasn't at its last value
abbrev pub IsQuiet : Counts → Counts → Type 0
IsQuiet before now = (n : ℕ) × (n < 2 ^ 64 - 1) × (n ≤ before.faults) × (now.faults ≤ n)

module _ (before mid now : Counts) (quiet : IsQuiet before now) where
  quiet_first : mid.faults ≤ now.faults → IsQuiet before mid
  quiet_first later = let high : now.faults ≤ quiet.0 = quiet.3 in (quiet.0, quiet.1, quiet.2, omega arith)

  quiet_then : before.faults ≤ mid.faults → IsQuiet mid now
  quiet_then later = let low : quiet.0 ≤ before.faults = quiet.2 in (quiet.0, quiet.1, omega arith, quiet.3)

never_rose : (before now : Counts) → IsQuiet before now → FaultRose before now → ⊥
never_rose before now quiet rose = no_rise quiet.0 before now quiet.1 quiet.2 quiet.3 rose

-- a database is read from the link
abbrev pub reads_link : LayerSpec → Bool
reads_link spec = is_pipe spec.sort && spec.infd

-- the same is left to come on two links
abbrev ComeSo : LinkState → LinkState → Type 0
ComeSo one other = (input : List ℕ) × (one.input ≡ Some input) × (other.input ≡ Some input)

-- the same came on two links, and no failure was counted there
pub record ComeSame (one new other last : LinkState) : Type 0 where
  pub come : ComeSo one other
  pub quiet : IsQuiet one.counts new.counts
  pub other_quiet : IsQuiet other.counts last.counts

-- ---- one load

here_counts : (sort : LayerSort) (files mid : FilesView) (before counts : Counts) → LoadCountsBy sort files mid (Ok Here) before counts → counts ≡ before
here_counts File files mid before counts counted = counted
here_counts Tree files mid before counts counted = counted
here_counts Pack files mid before counts counted = counted
here_counts Pipe files mid before counts counted = absurd counted

out_counts : (sort : LayerSort) (files mid : FilesView) (before counts : Counts) → LoadCountsBy sort files mid (Ok LeftOut) before counts → FaultRose before counts
out_counts File files mid before counts counted = counted
out_counts Tree files mid before counts counted = counted
out_counts Pack files mid before counts counted = counted
out_counts Pipe files mid before counts counted = absurd counted

pub piped_later : (loaded : PipeLoaded) (before now : Counts) → PipeCounts (Ok loaded) before now → before.faults ≤ now.faults
piped_later piped.Here before now same = still before now same
piped_later piped.LeftOut before now rose = rose.faults.later

module _ (spec : LayerSpec) (layer made : LayerState) (from mid : Sources) (more last : Type 0) where
  -- the counts don't fall, and the other loads follow
  abbrev GoesLater : Type 0
  GoesLater = (from.files.counts.faults ≤ mid.files.counts.faults) × (from.link.counts.faults ≤ mid.link.counts.faults) × more

  same_link : mid.link ≡ from.link → from.link.counts.faults ≤ mid.link.counts.faults
  same_link same = still from.link.counts mid.link.counts (ap (λ (l : LinkState). l.counts) same)

  goes_later : (first : LoadAnswer) → LoadsOne spec layer made from mid first → GoesOn first (Ok tt) more last → GoesLater
  goes_later (LoadAnswer.OfFiles (Ok Here)) is goes =
      (still from.files.counts mid.files.counts (here_counts spec.sort from.files.view mid.files.view from.files.counts mid.files.counts is.2), same_link is.3, goes)
  goes_later (LoadAnswer.OfFiles (Ok LeftOut)) is goes =
      ((out_counts spec.sort from.files.view mid.files.view from.files.counts mid.files.counts is.2).faults.later, same_link is.3, goes)
  goes_later (LoadAnswer.OfPipe (Ok loaded)) is goes = (
    still from.files.counts mid.files.counts (ap (λ (f : FilesState). f.counts) is.2),
    piped_later loaded from.link.counts mid.link.counts (pipe_counts spec.infd spec layer made from.link mid.link (Ok loaded) is.1),
    goes,
  )
  goes_later (LoadAnswer.OfFiles (Err error)) is goes = absurd (no_error (source.Files error) goes.0)
  goes_later (LoadAnswer.OfPipe (Err error)) is goes = absurd (no_error (source.Pipe error) goes.0)

module _ (spec : LayerSpec) (layer made : LayerState) (from mid : Sources) where
  -- where no failure is counted, a layer that is kept in files is here
  abbrev GoesHere : Type 0
  GoesHere = LoadsLayer from.files.view.disk spec layer made (Ok Here) × LoadsFiles from.files.view mid.files.view spec (Ok Here) × (mid.link ≡ from.link)

  -- and one that comes through a pipe was loaded
  abbrev GoesPiped : Type 0
  GoesPiped = (loaded : PipeLoaded) × (spec.sort ≡ Pipe) × LoadsPipe spec layer made from.link mid.link (Ok loaded) × (mid.files ≡ from.files)

  goes_here : (more last : Type 0) → IsQuiet from.files.counts mid.files.counts → (first : LoadAnswer) → LoadsOne spec layer made from mid first → GoesOn first (Ok tt) more last → GoesHere ⊎ GoesPiped
  goes_here more last quiet (LoadAnswer.OfFiles (Ok Here)) is goes = inl (is.0, is.1, is.3)
  goes_here more last quiet (LoadAnswer.OfFiles (Ok LeftOut)) is goes =
      absurd (never_rose from.files.counts mid.files.counts quiet (out_counts spec.sort from.files.view mid.files.view from.files.counts mid.files.counts is.2))
  goes_here more last quiet (LoadAnswer.OfPipe (Ok loaded)) is goes = inr (loaded, is.0, is.1, is.2)
  goes_here more last quiet (LoadAnswer.OfFiles (Err error)) is goes = absurd (no_error (source.Files error) goes.0)
  goes_here more last quiet (LoadAnswer.OfPipe (Err error)) is goes = absurd (no_error (source.Pipe error) goes.0)

-- ---- what is here is determined

one_file : (disk : Disk) (spec : LayerSpec) (layer made other : LayerState) → IsHere (Some disk) spec layer made → IsHere (Some disk) spec layer other → made ≡ other
one_file disk spec layer made other first second =
    let found : first.found ≡ second.found = first.found_is ∙ sym second.found_is in
    let reads : Reads (text_in second.found) first.records = subst (λ (f : Option (List ℕ)). Reads (text_in f) first.records) found first.reads in
    let records : first.records ≡ second.records = reads.are ∙ sym second.reads.are in
    first.layer_is ∙ (λ i. with_loaded spec layer (table_of (records i)) (found i)) ∙ sym second.layer_is

one_held : (spec : LayerSpec) (file : List ℕ) (found : Option (List ℕ)) (one other : List Entry) → Holds spec file found one → Holds spec file found other → one ≡ other
one_held spec file None one other first second = first ∙ sym second
one_held spec file (Some text) one other first second = first.0.are ∙ sym second.0.are

all_held : (disk : Disk) (spec : LayerSpec) (files : List (List ℕ)) (one other : List Entry) → HoldAll (Some disk) spec files one → HoldAll (Some disk) spec files other → one ≡ other
all_held disk spec [] one other first second = first ∙ sym second
all_held disk spec (file ∷ files) one other first second =
    let found : first.0 ≡ second.0 = first.3 ∙ sym second.3 in
    let here : first.1 ≡ second.1 = one_held spec file second.0 first.1 second.1 (subst (λ (f : Option (List ℕ)). Holds spec file f first.1) found first.4) second.4 in
    first.6 ∙ (λ i. here i ++ all_held disk spec files first.2 second.2 first.5 second.5 i) ∙ sym second.6

one_folder : (disk : Disk) (spec : LayerSpec) (layer made other : LayerState) → IsFolderHere (Some disk) spec layer made → IsFolderHere (Some disk) spec layer other → made ≡ other
one_folder disk spec layer made other first second =
    let listed : first.listed ≡ second.listed = first.listed_is ∙ sym second.listed_is in
    let entries : first.entries ≡ second.entries
    = all_held disk spec (its_files spec second.listed) first.entries second.entries (subst (λ (l : List (List ℕ)). HoldAll (Some disk) spec (its_files spec l) first.entries) listed first.hold) second.hold in
    first.layer_is ∙ (λ i. record layer { table = table_of (entries i) }) ∙ sym second.layer_is

one_by : (sort : LayerSort) (disk : Disk) (spec : LayerSpec) (layer made other : LayerState) → LoadsBy sort (Some disk) spec layer made (Ok Here) → LoadsBy sort (Some disk) spec layer other (Ok Here) → made ≡ other
one_by File disk spec layer made other first second = one_file disk spec layer made other first second
one_by Tree disk spec layer made other first second = one_folder disk spec layer made other first second
one_by Pack disk spec layer made other first second = one_folder disk spec layer made other first second
one_by Pipe disk spec layer made other first second = absurd first

one_here : (disk : Disk) (spec : LayerSpec) (layer made other : LayerState) → LoadsLayer (Some disk) spec layer made (Ok Here) → LoadsLayer (Some disk) spec layer other (Ok Here) → made ≡ other
one_here disk spec layer made other first second = one_by spec.sort disk spec layer made other first second

-- and so is what the files tell then
one_listed : (disk : Disk) (spec : LayerSpec) (files mid other : FilesView) → files.disk ≡ Some disk → LoadsFolderFiles files mid spec (Ok Here) → LoadsFolderFiles files other spec (Ok Here) → mid ≡ other
one_listed disk spec files mid other told first second =
    let listed : first.0 ≡ second.0
    = subst (λ (d : Option Disk). IsListedAt d spec.place first.0) told first.1 ∙ sym (subst (λ (d : Option Disk). IsListedAt d spec.place second.0) told second.1) in
    first.2 ∙ ap (λ (l : List (List ℕ)). after_reads files spec (its_files spec l)) listed ∙ sym second.2

told_by : (sort : LayerSort) (disk : Disk) (spec : LayerSpec) (files mid other : FilesView) → files.disk ≡ Some disk → LoadsFilesBy sort files mid spec (Ok Here) → LoadsFilesBy sort files other spec (Ok Here) → mid ≡ other
told_by File disk spec files mid other told first second = first ∙ sym second
told_by Tree disk spec files mid other told first second = one_listed disk spec files mid other told first second
told_by Pack disk spec files mid other told first second = one_listed disk spec files mid other told first second
told_by Pipe disk spec files mid other told first second = absurd first

one_told : (disk : Disk) (spec : LayerSpec) (files mid other : FilesView) → files.disk ≡ Some disk → LoadsFiles files mid spec (Ok Here) → LoadsFiles files other spec (Ok Here) → mid ≡ other
one_told disk spec files mid other told first second = told_by spec.sort disk spec files mid other told first second

-- ---- all loads

loads_later : (specs : List LayerSpec) (old new : List LayerState) (from left : Sources) → LoadsAll specs old new from left (Ok tt)
    → (from.files.counts.faults ≤ left.files.counts.faults) × (from.link.counts.faults ≤ left.link.counts.faults)
loads_later [] old new from left loads =
    (still from.files.counts left.files.counts (ap (λ (s : Sources). s.files.counts) loads.2), still from.link.counts left.link.counts (ap (λ (s : Sources). s.link.counts) loads.2))
loads_later (spec ∷ specs) [] new from left loads = absurd loads
loads_later (spec ∷ specs) (layer ∷ old) [] from left loads = absurd loads
loads_later (spec ∷ specs) (layer ∷ old) (made ∷ new) from left loads =
    let goes = goes_later spec layer made from loads.1 _ _ loads.0 loads.2 loads.3 in
    let here : from.files.counts.faults ≤ loads.1.files.counts.faults = goes.0 in
    let here_link : from.link.counts.faults ≤ loads.1.link.counts.faults = goes.1 in
    let behind = loads_later specs old new loads.1 left goes.2 in
    let rest : loads.1.files.counts.faults ≤ left.files.counts.faults = behind.0 in
    let rest_link : loads.1.link.counts.faults ≤ left.link.counts.faults = behind.1 in
    (omega arith, omega arith)

-- the files tell as before
look_told : (disk : Disk) (op : FilesOp) (path : List ℕ) (files : FilesView) (ok : Bool) → IsTold disk files → IsTold disk (after_look files op path ok)
look_told disk op path files ok told = (told.0 ++ record { op = op; path = path; ok = ok } ∷ [], ap (λ (t : FilesView). after_look t op path ok) told.1)

reads_told : (disk : Disk) (spec : LayerSpec) (files : List (List ℕ)) (told : FilesView) → IsTold disk told → IsTold disk (reads_of told spec files)
reads_told disk spec [] told is = is
reads_told disk spec (file ∷ files) told is = reads_told disk spec files (after_look told Read (path_at spec file) true) (look_told disk Read (path_at spec file) told true is)

folder_told : (disk : Disk) (spec : LayerSpec) (files : List (List ℕ)) (told : FilesView) → IsTold disk told → IsTold disk (after_reads told spec files)
folder_told disk spec files told is = reads_told disk spec files (after_look told ListOf spec.place true) (look_told disk ListOf spec.place told true is)

failed_told : (disk : Disk) (spec : LayerSpec) (path : List ℕ) (files mid : FilesView) → FailsOn spec path files mid → IsTold disk files → IsTold disk mid
failed_told disk spec path files mid (inl is) told = subst (IsTold disk) (sym is.1) (look_told disk ListOf path files false told)
failed_told disk spec path files mid (inr is) told = subst (IsTold disk) (sym is.told_is) (look_told disk Read path (after_reads files spec is.before) false (folder_told disk spec is.before files told))

here_told : (sort : LayerSort) (disk : Disk) (spec : LayerSpec) (files mid : FilesView) → LoadsFilesBy sort files mid spec (Ok Here) → IsTold disk files → IsTold disk mid
here_told File disk spec files mid looks told = subst (IsTold disk) (sym looks) (look_told disk Read spec.place files true told)
here_told Tree disk spec files mid looks told = subst (IsTold disk) (sym looks.2) (folder_told disk spec (its_files spec looks.0) files told)
here_told Pack disk spec files mid looks told = subst (IsTold disk) (sym looks.2) (folder_told disk spec (its_files spec looks.0) files told)
here_told Pipe disk spec files mid looks told = absurd looks

out_told : (sort : LayerSort) (disk : Disk) (spec : LayerSpec) (files mid : FilesView) → LoadsFilesBy sort files mid spec (Ok LeftOut) → IsTold disk files → IsTold disk mid
out_told File disk spec files mid looks told = subst (IsTold disk) (sym looks) (look_told disk Read spec.place files false told)
out_told Tree disk spec files mid looks told = failed_told disk spec looks.0 files mid looks.1 told
out_told Pack disk spec files mid looks told = failed_told disk spec looks.0 files mid looks.1 told
out_told Pipe disk spec files mid looks told = absurd looks

load_told : (disk : Disk) (spec : LayerSpec) (layer made : LayerState) (from mid : Sources) (more last : Type 0) (first : LoadAnswer) → LoadsOne spec layer made from mid first → GoesOn first (Ok tt) more last → IsTold disk from.files.view → IsTold disk mid.files.view
load_told disk spec layer made from mid more last (LoadAnswer.OfFiles (Ok Here)) is goes told = here_told spec.sort disk spec from.files.view mid.files.view is.1 told
load_told disk spec layer made from mid more last (LoadAnswer.OfFiles (Ok LeftOut)) is goes told = out_told spec.sort disk spec from.files.view mid.files.view is.1 told
load_told disk spec layer made from mid more last (LoadAnswer.OfPipe (Ok loaded)) is goes told = subst (λ (f : FilesState). IsTold disk f.view) (sym is.2) told
load_told disk spec layer made from mid more last (LoadAnswer.OfFiles (Err error)) is goes told = absurd (no_error (source.Files error) goes.0)
load_told disk spec layer made from mid more last (LoadAnswer.OfPipe (Err error)) is goes told = absurd (no_error (source.Pipe error) goes.0)

loads_told : (disk : Disk) (specs : List LayerSpec) (old new : List LayerState) (from left : Sources) → LoadsAll specs old new from left (Ok tt) → IsTold disk from.files.view → IsTold disk left.files.view
loads_told disk [] old new from left loads told = subst (λ (s : Sources). IsTold disk s.files.view) (sym loads.2) told
loads_told disk (spec ∷ specs) [] new from left loads told = absurd loads
loads_told disk (spec ∷ specs) (layer ∷ old) [] from left loads told = absurd loads
loads_told disk (spec ∷ specs) (layer ∷ old) (made ∷ new) from left loads told =
    let goes = goes_later spec layer made from loads.1 _ _ loads.0 loads.2 loads.3 in
    loads_told disk specs old new loads.1 left goes.2 (load_told disk spec layer made from loads.1 _ _ loads.0 loads.2 loads.3 told)

-- ---- what comes through a pipe is determined

-- all that comes is the text
whole_text : (input text : List ℕ) (left : Option (List ℕ)) → Some input ≡ prepend_known text left → IsAtEnd left → (text ≡ input) × (left ≡ Some [])
whole_text input text None is end = absurd (cc)
whole_text input text (Some rest) is end = let same : input ≡ text ++ rest = cc in (sym (same ∙ ap (λ (r : List ℕ). text ++ r) end ∙ append-nil text), ap Some end)

text_came : (text input : List ℕ) (old new : LinkState) → old.input ≡ Some input → IsReadWhole text old new → (text ≡ input) × (new.input ≡ Some [])
text_came text input old new is read = whole_text input text new.input (sym is ∙ read.came.took) read.at_end

one_piped : (layer made other : LayerState) (one one_new two two_new : LinkState) → ComeSo one two → IsPiped layer made one one_new → IsPiped layer other two two_new → (made ≡ other) × ComeSo one_new two_new
one_piped layer made other one one_new two two_new come first second =
    let came = text_came first.text come.0 one one_new come.1 first.read in
    let other_came = text_came second.text come.0 two two_new come.2 second.read in
    let reads : Reads second.text first.records = subst (λ (t : List ℕ). Reads t first.records) (came.0 ∙ sym other_came.0) first.reads in
    let records : first.records ≡ second.records = reads.are ∙ sym second.reads.are in
    (first.layer_is ∙ (λ i. record layer { table = table_of (records i) }) ∙ sym second.layer_is, ([], came.1, other_came.1))

pipe_once : (infd : Bool) (spec : LayerSpec) (layer made other : LayerState) (one one_new two two_new : LinkState) (loaded again : PipeLoaded) → (infd ≡ true → ComeSame one one_new two two_new)
    → LoadsWhere infd spec layer made one one_new (Ok loaded) → LoadsWhere infd spec layer other two two_new (Ok again) → (made ≡ other) × (ComeSo one two → ComeSo one_new two_new)
pipe_once true spec layer made other one one_new two two_new piped.Here piped.Here came first second =
    let both = one_piped layer made other one one_new two two_new (came refl).come first second in
    (both.0, λ come. both.1)
pipe_once true spec layer made other one one_new two two_new piped.LeftOut again came first second =
    absurd (never_rose one.counts one_new.counts (came refl).quiet (pipe_counts true spec layer made one one_new (Ok piped.LeftOut) first))
pipe_once true spec layer made other one one_new two two_new piped.Here piped.LeftOut came first second =
    absurd (never_rose two.counts two_new.counts (came refl).other_quiet (pipe_counts true spec layer other two two_new (Ok piped.LeftOut) second))
pipe_once false spec layer made other one one_new two two_new loaded again came first second = (
  first.1 ∙ sym second.1,
  λ come. (come.0, ap (λ (l : LinkState). l.input) first.2 ∙ come.1, ap (λ (l : LinkState). l.input) second.2 ∙ come.2),
)

-- ---- what one load leaves is determined

not_piped : (disk : Option Disk) (sort : LayerSort) (spec : LayerSpec) (layer made : LayerState) (loaded : Loaded) → sort ≡ Pipe → LoadsBy sort disk spec layer made (Ok loaded) → ⊥
not_piped disk sort spec layer made loaded is loads = subst (λ (s : LayerSort). LoadsBy s disk spec layer made (Ok loaded)) is loads

module _ (disk : Disk) (spec : LayerSpec) (layer made other : LayerState) (from mid from_other mid_other : Sources) (same : from.files.view ≡ from_other.files.view) (told : from.files.view.disk ≡ Some disk)
    (came : reads_link spec ≡ true → ComeSame from.link mid.link from_other.link mid_other.link) where
  record LeaveSame : Type 0 where
    made_is : made ≡ other
    view_is : mid.files.view ≡ mid_other.files.view
    disk_is : mid.files.view.disk ≡ Some disk
    come : ComeSo from.link from_other.link → ComeSo mid.link mid_other.link

  other_told : from_other.files.view.disk ≡ Some disk
  other_told = ap (λ (t : FilesView). t.disk) (sym same) ∙ told

  load_once : GoesHere spec layer made from mid ⊎ GoesPiped spec layer made from mid → GoesHere spec layer other from_other mid_other ⊎ GoesPiped spec layer other from_other mid_other → LeaveSame
  load_once (inl first) (inl second) = record {
    made_is = one_here disk spec layer made other (subst (λ (d : Option Disk). LoadsLayer d spec layer made (Ok Here)) told first.0) (subst (λ (d : Option Disk). LoadsLayer d spec layer other (Ok Here)) other_told second.0);
    view_is = one_told disk spec from_other.files.view mid.files.view mid_other.files.view other_told (subst (λ (t : FilesView). LoadsFiles t mid.files.view spec (Ok Here)) same first.1) second.1;
    disk_is = load_disk from.files.view mid.files.view spec (Ok Here) first.1 ∙ told;
    come = λ come. (come.0, ap (λ (l : LinkState). l.input) first.2 ∙ come.1, ap (λ (l : LinkState). l.input) second.2 ∙ come.2);
  }
  load_once (inr first) (inr second) =
      let both = pipe_once spec.infd spec layer made other from.link mid.link from_other.link mid_other.link first.0 second.0 (λ is. came (ap (λ (s : LayerSort). is_pipe s && spec.infd) first.1 ∙ is)) first.2 second.2 in
      record {
        made_is = both.0;
        view_is = ap (λ (f : FilesState). f.view) first.3 ∙ same ∙ sym (ap (λ (f : FilesState). f.view) second.3);
        disk_is = ap (λ (f : FilesState). f.view.disk) first.3 ∙ told;
        come = both.1;
      }
  load_once (inl first) (inr second) = absurd (not_piped from.files.view.disk spec.sort spec layer made Here second.1 first.0)
  load_once (inr first) (inl second) = absurd (not_piped from_other.files.view.disk spec.sort spec layer other Here first.1 second.0)

or_first : (a b : Bool) → a ≡ true → a || b ≡ true
or_first a b is = ap (λ (c : Bool). c || b) is

or_second : (a b : Bool) → b ≡ true → a || b ≡ true
or_second true b is = refl
or_second false b is = is

-- what loads leave is determined
module _ (disk : Disk) where
  loads_once : (specs : List LayerSpec) (old a b : List LayerState) (from left from_other left_other : Sources) → from.files.view ≡ from_other.files.view → from.files.view.disk ≡ Some disk
      → IsQuiet from.files.counts left.files.counts → IsQuiet from_other.files.counts left_other.files.counts
      → (list_any reads_link specs ≡ true → ComeSame from.link left.link from_other.link left_other.link)
      → LoadsAll specs old a from left (Ok tt) → LoadsAll specs old b from_other left_other (Ok tt) → (a ≡ b) × (left.files.view ≡ left_other.files.view)
  loads_once [] old a b from left from_other left_other same told quiet other_quiet came first second =
      (first.1 ∙ sym second.1, ap (λ (s : Sources). s.files.view) first.2 ∙ same ∙ sym (ap (λ (s : Sources). s.files.view) second.2))
  loads_once (spec ∷ specs) [] a b from left from_other left_other same told quiet other_quiet came first second = absurd first
  loads_once (spec ∷ specs) (layer ∷ old) [] b from left from_other left_other same told quiet other_quiet came first second = absurd first
  loads_once (spec ∷ specs) (layer ∷ old) (made ∷ a) [] from left from_other left_other same told quiet other_quiet came first second = absurd second
  loads_once (spec ∷ specs) (layer ∷ old) (made ∷ a) (other ∷ b) from left from_other left_other same told quiet other_quiet came first second =
      let mid : Sources = first.1 in
      let mid_other : Sources = second.1 in
      let goes = goes_later spec layer made from mid _ _ first.0 first.2 first.3 in
      let other_goes = goes_later spec layer other from_other mid_other _ _ second.0 second.2 second.3 in
      let rest = loads_later specs old a mid left goes.2 in
      let other_rest = loads_later specs old b mid_other left_other other_goes.2 in
      let here = goes_here spec layer made from mid _ _ (quiet_first from.files.counts mid.files.counts left.files.counts quiet rest.0) first.0 first.2 first.3 in
      let other_here = goes_here spec layer other from_other mid_other _ _ (quiet_first from_other.files.counts mid_other.files.counts left_other.files.counts other_quiet other_rest.0) second.0 second.2 second.3 in
      let leave = load_once disk spec layer made other from mid from_other mid_other same told
      (λ is.
      let all = came (or_first (reads_link spec) (list_any reads_link specs) is) in
      record {
        come = all.come;
        quiet = quiet_first from.link.counts mid.link.counts left.link.counts all.quiet rest.1;
        other_quiet = quiet_first from_other.link.counts mid_other.link.counts left_other.link.counts all.other_quiet other_rest.1;
      })
      here other_here in
      let behind = loads_once specs old a b mid left mid_other left_other leave.view_is leave.disk_is (quiet_then from.files.counts mid.files.counts left.files.counts quiet goes.0)
      (quiet_then from_other.files.counts mid_other.files.counts left_other.files.counts other_quiet other_goes.0)
      (λ is.
      let all = came (or_second (reads_link spec) (list_any reads_link specs) is) in
      record {
        come = leave.come all.come;
        quiet = quiet_then from.link.counts mid.link.counts left.link.counts all.quiet goes.1;
        other_quiet = quiet_then from_other.link.counts mid_other.link.counts left_other.link.counts all.other_quiet other_goes.1;
      })
      goes.2 other_goes.2 in
      ((λ i. leave.made_is i ∷ behind.0 i), behind.1)

-- ---- the start

one_conf : (used : Tool) (disk : Disk) (path : List ℕ) (conf other : Configuration) → IsConfiguration used (Some disk) path conf → IsConfiguration used (Some disk) path other → conf ≡ other
one_conf used disk path conf other first second =
    first.reads.1 ∙ ap (λ (t : List ℕ). configuration (each fields_of (stanzas (conf_text used t)))) (first.text_is ∙ sym second.text_is) ∙ sym second.reads.1

module _ (used : Tool) where
  abbrev specs_of : Roots → List LayerSpec
  specs_of roots = loaded_of used roots.conf

  abbrev set_of : Roots → List LayerState
  set_of roots = all_set_up (databases_of used roots.conf)

  read_told : (is : Bool) (disk : Disk) (path : List ℕ) (files : FilesView) → IsTold disk files → IsTold disk (if is then after_look files Read path true else files)
  read_told true disk path files told = look_told disk Read path files true told
  read_told false disk path files told = told

  -- a run that has started counts no less than before
  pub started_later : (path : List ℕ) (from : Sources) (mid : Ground) (roots : Roots) → HasStarted used path from mid roots
      → (from.files.counts.faults ≤ mid.sources.files.counts.faults) × (from.link.counts.faults ≤ mid.sources.link.counts.faults)
  started_later path from mid roots started = loads_later (specs_of roots) (set_of roots) mid.used (conf_read_in used path from) mid.sources started.loaded.loads

  -- and its files tell as before
  pub started_told : (disk : Disk) (path : List ℕ) (from : Sources) (mid : Ground) (roots : Roots) → HasStarted used path from mid roots → IsTold disk from.files.view → IsTold disk mid.sources.files.view
  started_told disk path from mid roots started told =
      loads_told disk (specs_of roots) (set_of roots) mid.used (conf_read_in used path from) mid.sources started.loaded.loads
      (read_told (has_files used) disk path from.files.view told)

-- Two runs that began over files that tell the same, and counted no failure: they loaded the same layers, and take the same from the
-- configuration.
pub record StartAlike (mid last : Ground) (roots others : Roots) : Type 0 where
  pub used : mid.used ≡ last.used
  pub told : mid.sources.files.view ≡ last.sources.files.view
  pub roots_are : roots ≡ others

-- what is copied into, and by which patterns, is one
same_copy : (copy : CopyWords) (conf : Configuration) (one other : CopyRoots) → IsCopyOf copy conf one → IsCopyOf copy conf other → one ≡ other
same_copy copy conf one other first second = λ i. record {
  dest = one_plan conf.nodes (databases_of (CopyDb copy) conf) one.dest other.dest copy.dest.word first.dest second.dest i;
  by_name = (first.by_name ∙ sym second.by_name) i;
  by_owner = (first.by_owner ∙ sym second.by_owner) i;
}

copy_once : (copy : CopyWords) (conf : Configuration) (one other : Option CopyRoots) → IsCopyIn (CopyDb copy) conf one → IsCopyIn (CopyDb copy) conf other → one ≡ other
copy_once copy conf None other first second = absurd first
copy_once copy conf (Some one) None first second = absurd second
copy_once copy conf (Some one) (Some other) first second = ap (λ (c : CopyRoots). Some c) (same_copy copy conf one other first second)

one_copy : (used : Tool) (conf : Configuration) (one other : Option CopyRoots) → IsCopyIn used conf one → IsCopyIn used conf other → one ≡ other
one_copy (Communicate owner) conf one other first second = first ∙ sym second
one_copy (LoadTemplate owner paths) conf one other first second = first ∙ sym second
one_copy (Run owner frontend priority command) conf one other first second = first ∙ sym second
one_copy (Show database shown) conf one other first second = first ∙ sym second
one_copy (CopyDb copy) conf one other first second = copy_once copy conf one other first second
one_copy (SetSelections verbose check unseen) conf one other first second = first ∙ sym second
one_copy GetSelections conf one other first second = first ∙ sym second
one_copy (Drill count) conf one other first second = first ∙ sym second
one_copy (Answer command) conf one other first second = first ∙ sym second

conf_disk : (is : Bool) (files : FilesView) (path : List ℕ) → (if is then after_look files Read path true else files).disk ≡ files.disk
conf_disk true files path = refl
conf_disk false files path = refl

-- the layers of a tool's databases were loaded
abbrev LoadedFrom : Tool → List ℕ → Configuration → Sources → Ground → Type 0
LoadedFrom used path conf from left = LoadsAll (loaded_of used conf) (all_set_up (databases_of used conf)) left.used (conf_read_in used path from) left.sources (Ok tt)

-- the same came on their links, where a database is read from there
abbrev pub ComeWhereRead : Tool → Configuration → LinkState → LinkState → LinkState → LinkState → Type 0
ComeWhereRead used conf one new other last = list_any reads_link (loaded_of used conf) ≡ true → ComeSame one new other last

pub one_start : (used : Tool) (disk : Disk) (path : List ℕ) (told : FilesView) (from from_other : Sources) (mid last : Ground) (roots others : Roots) → told.disk ≡ Some disk → from.files.view ≡ told → from_other.files.view ≡ told
    → from.files.counts.faults < 2 ^ 64 - 1 → from_other.files.counts.faults < 2 ^ 64 - 1 → mid.sources.files.counts.faults ≤ from.files.counts.faults → last.sources.files.counts.faults ≤ from_other.files.counts.faults
    → ComeWhereRead used roots.conf from.link mid.sources.link from_other.link last.sources.link
    → HasStarted used path from mid roots → HasStarted used path from_other last others → StartAlike mid last roots others
one_start used disk path told from from_other mid last roots others disk_told files_told other_told room other_room high other_high came first second =
    let one_conf_is = subst (λ (d : Option Disk). IsConfiguration used d path roots.conf) (ap (λ (t : FilesView). t.disk) files_told ∙ disk_told) first.loaded.conf_is.conf_is.conf_is in
    let other_conf_is = subst (λ (d : Option Disk). IsConfiguration used d path others.conf) (ap (λ (t : FilesView). t.disk) other_told ∙ disk_told) second.loaded.conf_is.conf_is.conf_is in
    let conf : roots.conf ≡ others.conf = one_conf used disk path roots.conf others.conf one_conf_is other_conf_is in
    let one_loads : LoadedFrom used path others.conf from mid = subst (λ (c : Configuration). LoadedFrom used path c from mid) conf first.loaded.loads in
    let once = loads_once disk (loaded_of used others.conf) (all_set_up (databases_of used others.conf)) mid.used last.used (conf_read_in used path from) mid.sources (conf_read_in used path from_other) last.sources
    (ap (λ (t : FilesView). conf_read used t path) (files_told ∙ sym other_told)) (conf_disk (has_files used) from.files.view path ∙ ap (λ (t : FilesView). t.disk) files_told ∙ disk_told)
    (from.files.counts.faults, room, omega arith, high) (from_other.files.counts.faults, other_room, omega arith, other_high)
    (subst (λ (c : Configuration). ComeWhereRead used c from.link mid.sources.link from_other.link last.sources.link) conf came) one_loads second.loaded.loads in
    record {
      used = once.0;
      told = once.1;
      roots_are = λ i. record {
        conf = conf i;
        config = one_plan others.conf.nodes (databases_of used others.conf) roots.config others.config (source_of used others.conf)
            (subst (λ (c : Configuration). IsPlanIn used c roots.config (source_of used c)) conf first.config_is) second.config_is i;
        templates = one_plan others.conf.nodes (databases_of used others.conf) roots.templates others.templates others.conf.templates
            (subst (λ (c : Configuration). IsPlanIn used c roots.templates c.templates) conf first.templates_is) second.templates_is i;
        copy = one_copy used others.conf roots.copy others.copy (subst (λ (c : Configuration). IsCopyIn used c roots.copy) conf first.copy_is) second.copy_is i;
      };
    }
