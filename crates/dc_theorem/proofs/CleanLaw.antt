-- How a run ends at which nothing outside failed.
use Rattle.dc_run.proofs.PipeLemmas.{io_stays, io_unused}
use Rattle.std.proofs.Common.{◌≡◌, ◌⊎◌, ◌+◌, cond, ◌||◌, ◌&&◌, if◌then◌else◌, inl, inr, ℕ, Bool, true, false, List, [], ◌∷◌, ◌++◌, length, refl, ap, sym, subst, ◌∙◌, arith, map as each}
use Rattle.std.specs.Prelude.{◌≤◌, ◌<◌, ◌^◌, Option, Some, None, Result, Ok, Err}
use Rattle.std.specs.Io.KnownBytes.{prepend_known}
use Rattle.std.specs.List.{AllByRecursion, list_all}
use Rattle.std.proofs.lemmas.List.Sums.{sum_by-cons}
use Rattle.dc_text.specs.declared.memory.OutOfMemory.{OutOfMemory as NoMemory}
use Rattle.dc_outside.specs.Counts.{Counts, FaultRose, Rose}
use Rattle.dc_outside.specs.Disk.{Disk}
use Rattle.dc_outside.specs.State.{FilesState, FilesView, LinkState}
use Rattle.dc_outside.specs.Steps.{after_look}
use Rattle.dc_outside.specs.Talk.{then_pieces, got}
use Rattle.dc_outside.specs.declared.files.FilesOp.TheVariants.{Read}
use Rattle.dc_outside.specs.declared.link.LinkError.{LinkError}
use Rattle.dc_outside.specs.declared.link.LinkError.TheVariants.{Failed, OutOfMemory}
use Rattle.dc_outside.specs.declared.link.Piece.{Piece}
use Rattle.dc_conf.specs.ConfFaults.{passes}
use Rattle.dc_conf.specs.Configuration.{Configuration, IsAnswer, configuration}
use Rattle.dc_conf.specs.Stanzas.{stanzas, fields_of}
use Rattle.dc_conf.specs.declared.faults.ConfError.{ConfError}
use Rattle.dc_conf.specs.declared.faults.ConfError.TheVariants as conf_error
use Rattle.dc_conf.specs.declared.spec.LayerSort.{LayerSort}
use Rattle.dc_conf.specs.declared.spec.LayerSort.TheVariants.{File, Tree, Pack, Pipe}
use Rattle.dc_conf.specs.declared.spec.LayerSpec.{LayerSpec}
use Rattle.dc_conf.proofs.LeastLemmas.{not_both}
use Rattle.dc_layer.specs.Patterns.{is_pattern, is_plain}
use Rattle.dc_layer.specs.Rules.{rules_of, are_patterns, are_plain, is_absent_or, texts_of}
use Rattle.dc_layer.specs.State.{LayerState}
use Rattle.dc_layer.specs.declared.pattern.PatternError.{PatternError}
use Rattle.dc_layer.specs.declared.pattern.PatternError.TheVariants as pattern
use Rattle.dc_save.specs.Loading.{IsTextAt, LoadCountsBy, LoadsLayer}
use Rattle.dc_save.specs.declared.loading.LoadError.{LoadError}
use Rattle.dc_save.specs.declared.loading.LoadError.TheVariants as load
use Rattle.dc_save.specs.declared.saving.SaveError.TheVariants as save
use Rattle.dc_save.specs.PipeLoading.{LoadsPipe}
use Rattle.dc_save.specs.declared.pipe_loading.PipeError.{PipeError}
use Rattle.dc_save.specs.declared.pipe_loading.PipeError.TheVariants as pipe
use Rattle.dc_shelf.specs.Shelves.{AreRefusedFor, GoesOn, LoadAnswer, LoadsAll, LoadsOne, Sources, all_set_up, count_of, is_sort}
use Rattle.dc_shelf.specs.declared.loading.SourceError.{SourceError}
use Rattle.dc_shelf.specs.declared.loading.SourceError.TheVariants as source
use Rattle.dc_serve.specs.Execution.{state_after}
use Rattle.dc_serve.specs.LinkRun.{Answered}
use Rattle.dc_serve.specs.declared.outcome.LinkEnd.{LinkEnd}
use Rattle.dc_serve.specs.declared.outcome.LinkEnd.TheVariants as link
use Rattle.dc_session.specs.Serving.{IsServedBy, Resources}
use Rattle.dc_session.specs.SessionState.{SessionState}
use Rattle.dc_session.specs.declared.stepped.StepError.TheVariants as step
use Rattle.dc_preseed.specs.Selecting.{SelectorState, FinishesLast, Finishes as FinishesSelections, LosesSelection, selections_over}
use Rattle.dc_preseed.specs.declared.selected.Choices.{Choices}
use Rattle.dc_tools.specs.Copying.{Copying}
use Rattle.dc_cli.specs.declared.tool.PlacedWord.{PlacedWord}
use Rattle.dc_answer.specs.Answering.{IsAnswered, LosesWireLine, answerer_at}
use Rattle.dc_answer.specs.declared.answerer.AnswerBreak.{AnswerBreak}
use Rattle.dc_answer.specs.declared.answerer.AnswerBreak.TheVariants as broken
use Rattle.dc_cli.specs.declared.tool.Tool.{Tool}
use Rattle.dc_cli.specs.declared.tool.Tool.TheVariants.{Communicate, LoadTemplate, Run, Show, CopyDb, SetSelections, GetSelections, Drill, Answer}
use Rattle.dc_cli.proofs.AnswerLemmas.{one_tool}
use Rattle.dc_run.specs.Ends.{answer_end, CountsLoads, LinksCount, ProgramCounts, end_of, end_of_conf, end_of_load, end_of_pattern, end_unsent, end_unwaited, tool_end_of}
use Rattle.dc_run.specs.Finishing.{Finishes, FinishesWhere}
use Rattle.dc_run.specs.Headline.{HasRunTool, HasRunWords}
use Rattle.dc_run.specs.Jobs.{Copies, CopiesBy, HasTaken, Prints, PrintsMade, Uses, copying, selections_end}
use Rattle.dc_run.specs.OneRound.{HasUsed}
use Rattle.dc_run.specs.Running.{Awaits, end_unstarted}
use Rattle.dc_run.specs.Saves.{Save}
use Rattle.dc_run.specs.SavingSession.{BreaksSaving, FailsToSave, TakesSaving}
use Rattle.dc_run.specs.declared.saving_session.SavingBreak.{SavingBreak}
use Rattle.dc_run.specs.declared.saving_session.SavingBreak.TheVariants as saving
use Rattle.dc_run.specs.Starting.{EndsBefore, EndsUnloaded, HasLoaded, IsConfiguration, IsOther, IsRefusedFor, IsWrongWord, begun, conf_read_in, conf_text, databases_of, has_files, keeps_changes, loaded_of, misused_pipe, pattern_words, roots}
use Rattle.dc_run.specs.TemplateLoading.{EndsAt, state_after as file_state}
use Rattle.dc_run.specs.World.{Links, World, before_rounds, ground_in, ground_of, on_ground, Ground}
use Rattle.dc_run.specs.declared.outcome.End.{End}
use Rattle.dc_run.specs.declared.outcome.End.TheVariants as end
use Rattle.dc_run.specs.declared.outcome.Outcome.{Outcome}
use Rattle.dc_run.specs.declared.outcome.PatternAt.TheVariants.{Database, Word}
use Rattle.dc_run.specs.declared.outcome.ToolAnswer.{ToolAnswer}
use Rattle.dc_run.specs.declared.outcome.ToolEnd.{ToolEnd}
use Rattle.dc_run.specs.declared.outcome.ToolEnd.TheVariants as tool
use Rattle.dc_run.specs.declared.settings.Settings.{Settings}
use Rattle.dc_run.specs.Roots.{CopyRoots, Roots}
use Rattle.dc_run.proofs.CountLemmas.{links_counted, program_counted}
use Rattle.dc_run.proofs.LoadCounts.{pipe_counts}
use Rattle.dc_run.proofs.CrashLemmas.{load_reads}
use Rattle.dc_run.proofs.DatabaseLemmas.{right_not_wrong}
use Rattle.dc_run.proofs.FewLemmas.{few_reached}
use Rattle.dc_run.proofs.RunLemmas.{ends_so}
use Rattle.dc_run.proofs.UsedLemmas.{as_used}
use Rattle.dc_theorem.specs.Completeness.{IsUndisturbed, IsPipeReadable, IsReadable, EndsWell, FewCame, FewServed}
use Rattle.dc_theorem.proofs.CountsLater.{Later, course_kept, rose_behind, rose_between, later_so, later_then, load_kept, turns_kept, tool_later, start_later, end_of_later, unmoved}
use Rattle.dc_theorem.proofs.CountLemmas.{still}
use Rattle.dc_theorem.proofs.StartLaws.{piped_later}

-- ---- patterns

left_false : (a b : Bool) → a || b ≡ false → a ≡ false
left_false false b is = refl
left_false true b is = cc

one_false : (a b : Bool) → a && b ≡ false → (a ≡ false) ⊎ (b ≡ false)
one_false true b is = inr is
one_false false b is = inl refl

false_here : (a b : Bool) → a ≡ false → a && b ≡ false
false_here a b is = rw is refl

false_there : (a b : Bool) → b ≡ false → a && b ≡ false
false_there true b is = is
false_there false b is = refl

-- what is no pattern isn't plain
no_pattern : (ignore_case : Bool) (text : List ℕ) → is_pattern ignore_case text ≡ false → is_plain text ≡ false
no_pattern ignore_case text is = left_false _ _ is

odd_text : (text : Option (List ℕ)) → is_absent_or (is_pattern true) text ≡ false → is_absent_or is_plain text ≡ false
odd_text None is = is
odd_text (Some text) is = no_pattern true text is

odd_texts : (texts : List (Option (List ℕ))) → list_all (is_absent_or (is_pattern true)) texts ≡ false → list_all (is_absent_or is_plain) texts ≡ false
odd_texts [] is = is
odd_texts (text ∷ texts) is = elim (one_false _ _ is) [
  | inl here ↦ false_here _ _ (odd_text text here)
  | inr there ↦ false_there _ _ (odd_texts texts there)
]

odd_rules : (spec : LayerSpec) → are_patterns (rules_of spec) ≡ false → are_plain (rules_of spec) ≡ false
odd_rules spec is = odd_texts (texts_of (rules_of spec)) is

odd_database : (spec : LayerSpec) (error : PatternError) → AreRefusedFor spec error → (error ≡ pattern.OutOfMemory → ⊥) → are_plain (rules_of spec) ≡ false
odd_database spec pattern.Bad refused other = odd_rules spec refused
odd_database spec pattern.TooLarge refused other = refused
odd_database spec pattern.OutOfMemory refused other = absurd (other refl)

odd_word : (word : List ℕ) (error : PatternError) → IsRefusedFor word error → is_plain word ≡ false
odd_word word pattern.Bad refused = no_pattern false word refused
odd_word word pattern.TooLarge refused = refused.0
odd_word word pattern.OutOfMemory refused = absurd refused

-- ---- loads

-- what an error of a load tells
abbrev LoadTells : LoadError → Counts → Counts → Type 0
LoadTells (load.Failed path) before now = Rose before.faults now.faults
LoadTells (load.Damaged path line) before now = ⊥
LoadTells load.OutOfMemory before now = Unit {0}

later_tells : (error : LoadError) (before mid now : Counts) → Later before mid → LoadTells error mid now → LoadTells error before now
later_tells (load.Failed path) before mid now later rose = rose_behind before.faults mid.faults now.faults later.0 rose
later_tells (load.Damaged path line) before mid now later none = none
later_tells load.OutOfMemory before mid now later tells = tells

failed_load : (sort : LayerSort) (files mid : FilesView) (before now : Counts) (path : List ℕ) → LoadCountsBy sort files mid (Err (load.Failed path)) before now → Rose before.faults now.faults
failed_load File files mid before now path counted = counted.faults
failed_load Tree files mid before now path counted = counted.faults
failed_load Pack files mid before now path counted = counted.faults
failed_load Pipe files mid before now path counted = absurd counted

-- the same of the files or of the link
abbrev SourceTells : SourceError → Sources → Sources → Type 0
SourceTells (source.Files error) from left = LoadTells error from.files.counts left.files.counts
SourceTells (source.Pipe pipe.Failed) from left = Rose from.link.counts.faults left.link.counts.faults
SourceTells (source.Pipe (pipe.Damaged line)) from left = ⊥
SourceTells (source.Pipe pipe.TooLong) from left = ⊥
SourceTells (source.Pipe pipe.OutOfMemory) from left = Unit {0}

source_later : (error : SourceError) (from mid left : Sources) → Later from.files.counts mid.files.counts → from.link.counts.faults ≤ mid.link.counts.faults → SourceTells error mid left → SourceTells error from left
source_later (source.Files error) from mid left later link tells = later_tells error from.files.counts mid.files.counts left.files.counts later tells
source_later (source.Pipe pipe.Failed) from mid left later link rose = rose_behind from.link.counts.faults mid.link.counts.faults left.link.counts.faults link rose
source_later (source.Pipe (pipe.Damaged line)) from mid left later link none = none
source_later (source.Pipe pipe.TooLong) from mid left later link none = none
source_later (source.Pipe pipe.OutOfMemory) from mid left later link tells = tells

other_result : (error : SourceError) → ◌≡◌ {A = Result (Unit {0}) SourceError} (Err error) (Ok tt) → ⊥
other_result error is = cc

-- how many databases are pipes: the first, and the others
piped_here : (spec : LayerSpec) (specs : List LayerSpec) → spec.sort ≡ Pipe → 1 + count_of Pipe specs ≡ count_of Pipe (spec ∷ specs)
piped_here spec specs is = ap (λ (s : LayerSort). cond (is_sort Pipe s) 1 0 + count_of Pipe specs) (sym is) ∙ sym (sum_by-cons (λ (x : LayerSpec). cond (is_sort Pipe x.sort) 1 0) spec specs)

piped_rest : (spec : LayerSpec) (specs : List LayerSpec) → count_of Pipe specs ≤ count_of Pipe (spec ∷ specs)
piped_rest spec specs =
    let all : count_of Pipe (spec ∷ specs) ≡ cond (is_sort Pipe spec.sort) 1 0 + count_of Pipe specs = sum_by-cons (λ (x : LayerSpec). cond (is_sort Pipe x.sort) 1 0) spec specs in
    omega arith

-- the link is this one until the one pipe is loaded
abbrev IsFound : LinkState → List LayerSpec → LinkState → Type 0
IsFound link specs now = ((now ≡ link) × (count_of Pipe specs ≤ 1)) ⊎ (count_of Pipe specs ≤ 0)

module _ (link : LinkState) (spec : LayerSpec) (specs : List LayerSpec) (from mid : LinkState) where
  found_on : mid ≡ from → IsFound link (spec ∷ specs) from → IsFound link specs mid
  found_on same (inl found) = let few = found.1 in let rest = piped_rest spec specs in inl (same ∙ found.0, omega (arith, few, rest))
  found_on same (inr none) = let rest = piped_rest spec specs in inr (omega (arith, none, rest))

  found_then : spec.sort ≡ Pipe → IsFound link (spec ∷ specs) from → IsFound link specs mid
  found_then is (inl found) = let few = found.1 in let all = piped_here spec specs is in inr (omega (arith, few, all))
  found_then is (inr none) = let all = piped_here spec specs is in inr (omega (arith, none, all))

  found_here : spec.sort ≡ Pipe → IsFound link (spec ∷ specs) from → from ≡ link
  found_here is (inl found) = found.0
  found_here is (inr none) = let all = piped_here spec specs is in absurd (none_here (count_of Pipe specs) (count_of Pipe (spec ∷ specs)) all none) where
    none_here : (rest all : ℕ) → 1 + rest ≡ all → all ≤ 0 → ⊥
    none_here rest all is none = omega (arith, is, none)

module _ (disk : Disk) (link : LinkState) where
  fault_tells : (spec : LayerSpec) (layer made : LayerState) (from mid : Sources) → from.files.view.disk ≡ Some disk → IsReadable disk spec
      → (fault : LoadError) → LoadsOne spec layer made from mid (LoadAnswer.OfFiles (Err fault)) → LoadTells fault from.files.counts mid.files.counts
  fault_tells spec layer made from mid told readable (load.Failed path) is = failed_load spec.sort from.files.view mid.files.view from.files.counts mid.files.counts path is.2
  fault_tells spec layer made from mid told readable (load.Damaged path line) is =
      readable layer made path line (subst (λ (d : Option Disk). LoadsLayer d spec layer made (Err (load.Damaged path line))) told is.0)
  fault_tells spec layer made from mid told readable load.OutOfMemory is = tt

  piped_tells : (spec : LayerSpec) (layer made : LayerState) (from mid : Sources) → from.link ≡ link → IsPipeReadable link spec
      → (fault : PipeError) → LoadsPipe spec layer made from.link mid.link (Err fault) → SourceTells (source.Pipe fault) from mid
  piped_tells spec layer made from mid same readable pipe.Failed is = (pipe_counts spec.infd spec layer made from.link mid.link (Err pipe.Failed) is).faults
  piped_tells spec layer made from mid same readable (pipe.Damaged line) is =
      readable.reads layer made mid.link line (subst (λ (l : LinkState). LoadsPipe spec layer made l mid.link (Err (pipe.Damaged line))) same is)
  piped_tells spec layer made from mid same readable pipe.TooLong is =
      readable.fits layer made mid.link (subst (λ (l : LinkState). LoadsPipe spec layer made l mid.link (Err pipe.TooLong)) same is)
  piped_tells spec layer made from mid same readable pipe.OutOfMemory is = tt

  module _ (spec : LayerSpec) (specs : List LayerSpec) (layer made : LayerState) (from mid left : Sources) (error : SourceError) (more last : Type 0) (told : from.files.view.disk ≡ Some disk)
      (found : IsFound link (spec ∷ specs) from.link) (readable : IsReadable disk spec) (piped : IsPipeReadable link spec)
      (rest : mid.files.view.disk ≡ Some disk → IsFound link specs mid.link → more → SourceTells error mid left) (stays : last → left ≡ mid) where
    fault_here : (fault : SourceError) → error ≡ fault → last → SourceTells fault from mid → SourceTells error from left
    fault_here fault same at tells =
        subst (λ (e : SourceError). SourceTells e from left) (sym same) (subst (λ (s : Sources). SourceTells fault from s) (sym (stays at)) tells)

    load_tells : (first : LoadAnswer) → LoadsOne spec layer made from mid first → GoesOn first (Err error) more last → SourceTells error from left
    load_tells (LoadAnswer.OfFiles (Ok loaded)) is goes =
        source_later error from mid left (later_so from.files.counts mid.files.counts (load_kept spec.sort from.files.view mid.files.view from.files.counts mid.files.counts loaded is.2))
        (still from.link.counts mid.link.counts (ap (λ (l : LinkState). l.counts) is.3))
        (rest (load_reads from.files.view mid.files.view spec (Ok loaded) is.1 ∙ told) (found_on link spec specs from.link mid.link is.3 found) goes)
    load_tells (LoadAnswer.OfPipe (Ok loaded)) is goes =
        source_later error from mid left (later_so from.files.counts mid.files.counts (unmoved from.files.counts mid.files.counts (ap (λ (f : FilesState). f.counts) is.2)))
        (piped_later loaded from.link.counts mid.link.counts (pipe_counts spec.infd spec layer made from.link mid.link (Ok loaded) is.1))
        (rest (ap (λ (f : FilesState). f.view.disk) is.2 ∙ told) (found_then link spec specs from.link mid.link is.0 found) goes)
    load_tells (LoadAnswer.OfFiles (Err fault)) is goes = let same : error ≡ source.Files fault = cc in fault_here (source.Files fault) same goes.1 (fault_tells spec layer made from mid told readable fault is)
    load_tells (LoadAnswer.OfPipe (Err fault)) is goes =
        let same : error ≡ source.Pipe fault = cc in
        fault_here (source.Pipe fault) same goes.1 (piped_tells spec layer made from mid (found_here link spec specs from.link mid.link is.0 found) piped fault is.1)

  loads_tell : (specs : List LayerSpec) (old new : List LayerState) (from left : Sources) (error : SourceError) → from.files.view.disk ≡ Some disk → IsFound link specs from.link → AllByRecursion (IsReadable disk) specs
      → AllByRecursion (IsPipeReadable link) specs → LoadsAll specs old new from left (Err error) → SourceTells error from left
  loads_tell [] old new from left error told found readable piped loads = absurd (other_result error loads.0)
  loads_tell (spec ∷ specs) [] new from left error told found readable piped loads = absurd loads
  loads_tell (spec ∷ specs) (layer ∷ old) [] from left error told found readable piped loads = absurd loads
  loads_tell (spec ∷ specs) (layer ∷ old) (made ∷ new) from left error told found readable piped loads =
      load_tells spec specs layer made from loads.1 left error (LoadsAll specs old new loads.1 left (Err error)) ((new ≡ old) × (left ≡ loads.1)) told found readable.0 piped.0
      (λ told_then found_then more. loads_tell specs old new loads.1 left error told_then found_then readable.1 piped.1 more) (λ last. last.1)
      loads.0 loads.2 loads.3

-- ---- tools

-- at least 2^40 bytes came
abbrev CameLong : LinkState → LinkState → Type 0
CameLong old new = (pieces : List Piece) × (new.talk ≡ then_pieces old.talk pieces) × (old.input ≡ prepend_known (got pieces) new.input) × (2 ^ 40 ≤ length (got pieces))

-- on the link that a tool serves, where it serves one
abbrev LongServed : Tool → Links → Links → Type 0
LongServed (Communicate owner) old new = CameLong old.io new.io
LongServed (Run owner frontend priority command) old new = CameLong old.child new.child
LongServed (SetSelections verbose check unseen) old new = CameLong old.io new.io
LongServed (Answer command) old new = CameLong old.child new.child
LongServed used old new = ⊥

-- what the end of a tool tells: at too long an input that so much came, and at a fault of the files that it was counted
abbrev EndTells : ToolEnd → Type 0 → Counts → Counts → Type 0
EndTells tool.TooLong long before now = long
EndTells (tool.FilesFault path) long before now = Rose before.faults now.faults
EndTells ended long before now = Unit {0}

module _ (long : Type 0) (before now : Counts) where
  served_tells : (served ended : LinkEnd SavingBreak) → (ended ≡ served) ⊎ (ended ≡ link.OutOfMemory) → (served ≡ link.TooLong → long)
      → ((path : List ℕ) → served ≡ link.Broken (saving.Save (save.Failed path)) → Rose before.faults now.faults) → EndTells (tool_end_of ended) long before now
  served_tells served link.Done so is failed = tt
  served_tells served link.LinkFault so is failed = tt
  served_tells served link.TooLong (inl same) is failed = is (sym same)
  served_tells served link.TooLong (inr none) is failed = absurd (let no : ◌≡◌ {A = LinkEnd SavingBreak} link.TooLong link.OutOfMemory = none in cc)
  served_tells served link.OutOfMemory so is failed = tt
  served_tells served (link.Broken (saving.Step step.Term)) so is failed = tt
  served_tells served (link.Broken (saving.Step (step.Wire line))) so is failed = tt
  served_tells served (link.Broken (saving.Step step.OutOfMemory)) so is failed = tt
  served_tells served (link.Broken (saving.Save save.OutOfMemory)) so is failed = tt
  served_tells served (link.Broken (saving.Save (save.Failed path))) (inl same) is failed = failed path (sym same)
  served_tells served (link.Broken (saving.Save (save.Failed path))) (inr none) is failed =
      absurd (let no : ◌≡◌ {A = LinkEnd SavingBreak} (link.Broken (saving.Save (save.Failed path))) link.OutOfMemory = none in cc)

  last_tells : (state left : SelectorState) (ended : LinkEnd NoMemory) → FinishesLast state left ended → EndTells (selections_end ended) long before now
  last_tells state left ended (inl all) = rw all.1 tt
  last_tells state left ended (inr none) = rw none.1 tt

  selected_tells : (state left : SelectorState) (served ended : LinkEnd NoMemory) → FinishesSelections served state left ended → (served ≡ link.TooLong → long) → EndTells (selections_end ended) long before now
  selected_tells state left link.Done ended finishes is = last_tells state left ended finishes
  selected_tells state left link.LinkFault ended finishes is = rw finishes.1 tt
  selected_tells state left link.TooLong ended finishes is = rw finishes.1 (is refl)
  selected_tells state left link.OutOfMemory ended finishes is = rw finishes.1 tt
  selected_tells state left (link.Broken error) ended finishes is = rw finishes.1 tt

  printed_tells : (text : List ℕ) (ended : ToolEnd) (old new : LinkState) → Prints text old new ended → EndTells ended long before now
  printed_tells text tool.Done old new prints = tt
  printed_tells text tool.PrintFault old new prints = tt
  printed_tells text tool.OutOfMemory old new prints = tt
  printed_tells text tool.LinkFault old new none = absurd none
  printed_tells text tool.TermFault old new none = absurd none
  printed_tells text tool.ChildFault old new none = absurd none
  printed_tells text tool.TooLong old new none = absurd none
  printed_tells text (tool.FilesFault path) old new none = absurd none
  printed_tells text (tool.BadWire line) old new none = absurd none

  made_tells : {E : Type 0} (made : Result (List ℕ) E) (ended : ToolEnd) (old new : LinkState) → PrintsMade made old new ended → EndTells ended long before now
  made_tells (Ok text) ended old new prints = printed_tells text ended old new prints
  made_tells (Err error) ended old new none = rw none.0 tt

  copied_tells : (copy : Copying) (old new : List LayerState) (ended : ToolEnd) (said : List ℕ) (status : ℕ) → Copies copy old new ended said status → EndTells ended long before now
  copied_tells copy old new tool.Done said status copies = tt
  copied_tells copy old new tool.OutOfMemory said status copies = tt
  copied_tells copy old new tool.PrintFault said status none = absurd none
  copied_tells copy old new tool.LinkFault said status none = absurd none
  copied_tells copy old new tool.TermFault said status none = absurd none
  copied_tells copy old new tool.ChildFault said status none = absurd none
  copied_tells copy old new tool.TooLong said status none = absurd none
  copied_tells copy old new (tool.FilesFault path) said status none = absurd none
  copied_tells copy old new (tool.BadWire line) said status none = absurd none

  answered_tells : (ended : LinkEnd AnswerBreak) → (ended ≡ link.TooLong → long) → EndTells (answer_end ended) long before now
  answered_tells link.Done is = tt
  answered_tells link.LinkFault is = tt
  answered_tells link.TooLong is = is refl
  answered_tells link.OutOfMemory is = tt
  answered_tells (link.Broken (broken.Wire line)) is = tt
  answered_tells (link.Broken broken.Term) is = tt
  answered_tells (link.Broken broken.OutOfMemory) is = tt

  unstarted_tells : (error : LinkError) → EndTells (end_unstarted error) long before now
  unstarted_tells Failed = tt
  unstarted_tells OutOfMemory = tt

  -- template files were loaded, from this state on
  file_tells : (ended : ToolEnd) (state : SessionState) (rest : List (List ℕ)) (new : SessionState) → Later before state.files.counts → now ≡ new.files.counts → EndsAt ended state rest new → EndTells ended long before now
  file_tells tool.Done state rest new later is ends = tt
  file_tells (tool.FilesFault path) state rest new later is ends =
      subst (λ (c : Counts). Rose before.faults c.faults) (sym is) (rose_behind before.faults state.files.counts.faults new.files.counts.faults later.0 ends.2.1.faults)
  file_tells tool.OutOfMemory state rest new later is ends = tt
  file_tells tool.LinkFault state rest new later is none = absurd none
  file_tells tool.TooLong state rest new later is none = absurd none
  file_tells tool.PrintFault state rest new later is none = absurd none
  file_tells tool.TermFault state rest new later is none = absurd none
  file_tells tool.ChildFault state rest new later is none = absurd none
  file_tells (tool.BadWire line) state rest new later is none = absurd none

module _ (start : SessionState) (left : Resources) (old new : LinkState) (ended : LinkEnd SavingBreak) (before code : ℕ) (is : IsServedBy TakesSaving BreaksSaving start left old new ended before code) where
  session_long : is.served ≡ link.TooLong → CameLong old new
  session_long long =
      let ran = is.ran in
      let answered : Answered BreaksSaving link.TooLong start ran.transitions ran.rest ran.pieces old.input before is.state code
      = subst (λ (e : LinkEnd SavingBreak). Answered BreaksSaving e start ran.transitions ran.rest ran.pieces old.input before is.state code) long ran.answered in
      (ran.pieces, ran.told_is, ran.took, answered.long)

  -- a save in its middle failed
  session_failed : (path : List ℕ) → is.served ≡ link.Broken (saving.Save (save.Failed path)) → Rose start.files.counts.faults left.files.counts.faults
  session_failed path broken =
      let ran = is.ran in
      let after : SessionState = state_after start ran.transitions in
      let answered : Answered BreaksSaving (link.Broken (saving.Save (save.Failed path))) start ran.transitions ran.rest ran.pieces old.input before is.state code
      = subst (λ (e : LinkEnd SavingBreak). Answered BreaksSaving e start ran.transitions ran.rest ran.pieces old.input before is.state code) broken ran.answered in
      let fails : FailsToSave after answered.line (save.Failed path) is.state = answered.broke in
      let rose : FaultRose after.files.counts is.state.files.counts = fails.is.counts in
      subst (λ (f : FilesState). Rose start.files.counts.faults f.counts.faults) (sym is.files_are)
      (rose_behind start.files.counts.faults after.files.counts.faults is.state.files.counts.faults (course_kept start ran.transitions ran.course).0 rose.faults)

  session_tells : EndTells (tool_end_of ended) (CameLong old new) start.files.counts left.files.counts
  session_tells = served_tells (CameLong old new) start.files.counts left.files.counts is.served ended (ends_so is.served is.state left ended is.finishes) session_long session_failed

selections_long : (choices : Choices) (start : SessionState) (old new : LinkState) (before : ℕ) (answer : ToolAnswer) (left : Resources) → (taken : HasTaken choices start old new before answer left) → taken.selected.served ≡ link.TooLong → CameLong old new
selections_long choices start old new before answer left taken long =
    let ran = taken.selected.serves.run in
    let begins : SelectorState = selections_over start.store.layers start.at choices start.err in
    let answered : Answered LosesSelection link.TooLong begins ran.transitions ran.rest ran.pieces old.input before taken.selected.state answer.last_code
    = subst (λ (e : LinkEnd NoMemory). Answered LosesSelection e begins ran.transitions ran.rest ran.pieces old.input before taken.selected.state answer.last_code) long ran.answered in
    (ran.pieces, ran.told_is, ran.took, answered.long)

answered_long : (start terminal old new : LinkState) (ended : LinkEnd AnswerBreak) → (answered : IsAnswered start terminal old new ended) → ended ≡ link.TooLong → CameLong old new
answered_long start terminal old new ended is long =
    let ran = is.serves.run in
    let answered : Answered LosesWireLine link.TooLong (answerer_at start) ran.transitions ran.rest ran.pieces old.input 0 is.state is.code
    = subst (λ (e : LinkEnd AnswerBreak). Answered LosesWireLine e (answerer_at start) ran.transitions ran.rest ran.pieces old.input 0 is.state is.code) long ran.answered in
    (ran.pieces, ran.told_is, ran.took, answered.long)

copy_tells : (found : Option CopyRoots) (start : SessionState) (old new : Links) (before : ℕ) (answer : ToolAnswer) (said : List ℕ) (left : Resources) (long : Type 0) → CopiesBy found start old new before answer said left
    → EndTells answer.ended long start.files.counts left.files.counts
copy_tells None start old new before answer said left long none = absurd none
copy_tells (Some copy) start old new before answer said left long is = copied_tells long start.files.counts left.files.counts (copying start copy) start.store.layers left.layers answer.ended said answer.status is.copies

tool_tells : (used : Tool) (roots : Roots) (start : SessionState) (old new : Links) (before : ℕ) (answer : ToolAnswer) (said : List ℕ) (left : Resources) (saves : List Save) → Uses used roots start old new before answer said left saves
    → EndTells answer.ended (LongServed used old new) start.files.counts left.files.counts
tool_tells (Communicate owner) roots start old new before answer said left saves uses =
    rw uses.0.ended_is (session_tells start left old.io new.io uses.0.ended before answer.last_code uses.0.served.by)
tool_tells (LoadTemplate owner paths) roots start old new before answer said left saves uses =
    let loads = uses.0.loaded in
    file_tells ⊥ start.files.counts left.files.counts answer.ended (file_state start loads.turns) loads.rest uses.0.state (later_so start.files.counts (file_state start loads.turns).files.counts (turns_kept start loads.turns loads.course))
    (ap (λ (l : Resources). l.files.counts) uses.0.left_is) loads.ends
tool_tells (Run owner frontend priority command) roots start old new before answer said left saves uses = elim uses.0 [
  | inl none ↦ rw none.unstarted.ended_is (unstarted_tells (CameLong old.child new.child) start.files.counts left.files.counts none.unstarted.error)
  | inr started ↦
      rw started.ended_is
      (subst (λ (l : LinkState). EndTells (tool_end_of started.ended) (CameLong l new.child) start.files.counts left.files.counts) started.starts.state
      (session_tells start left started.mid new.child started.ended before answer.last_code started.served.by))
]
tool_tells (Show database shown) roots start old new before answer said left saves uses = printed_tells ⊥ start.files.counts left.files.counts _ answer.ended old.io new.io uses.0.prints
tool_tells (CopyDb copy) roots start old new before answer said left saves uses = copy_tells roots.copy start old new before answer said left ⊥ uses.0
tool_tells (SetSelections verbose check unseen) roots start old new before answer said left saves uses =
    let selected = uses.0.selected in
    rw uses.0.ended_is
    (selected_tells (CameLong old.io new.io) start.files.counts left.files.counts selected.state uses.0.state selected.served uses.0.ended selected.finishes
    (selections_long (record { verbose = verbose; check = check; unseen = unseen }) start old.io new.io before answer left uses.0))
tool_tells GetSelections roots start old new before answer said left saves uses = printed_tells ⊥ start.files.counts left.files.counts _ answer.ended old.io new.io uses.0.prints
tool_tells (Answer command) roots start old new before answer said left saves uses = elim uses.0 [
  | inl none ↦ rw none.ended_is (unstarted_tells (CameLong old.child new.child) start.files.counts left.files.counts none.error)
  | inr started ↦
      rw started.ended_is
      (subst (λ (l : LinkState). EndTells (answer_end started.ended) (CameLong l new.child) start.files.counts left.files.counts) started.starts.state
      (answered_tells (CameLong started.mid new.child) start.files.counts left.files.counts started.ended (answered_long old.io new.io started.mid new.child started.ended started.answered)))
]
tool_tells (Drill count) roots start old new before answer said left saves uses = made_tells ⊥ start.files.counts left.files.counts uses.0.result answer.ended old.io new.io uses.0.prints

-- ---- the end of a run whose tool was used

-- what such an end tells of its tool's end and of the files in the save
abbrev ComesOf : End → ToolEnd → Counts → Counts → Type 0
ComesOf end.Done ended before now = Unit {0}
ComesOf end.OutOfMemory ended before now = Unit {0}
ComesOf end.LinkFault ended before now = Unit {0}
ComesOf end.TermFault ended before now = Unit {0}
ComesOf end.ChildFault ended before now = Unit {0}
ComesOf (end.BadWire line) ended before now = Unit {0}
ComesOf end.TooLong ended before now = ended ≡ tool.TooLong
ComesOf (end.FilesFault path) ended before now = (ended ≡ tool.FilesFault path) ⊎ Rose before.faults now.faults
ComesOf how ended before now = ⊥

unsent_comes : (error : LinkError) (ended : ToolEnd) (before now : Counts) → ComesOf (end_unsent error) ended before now
unsent_comes Failed ended before now = tt
unsent_comes OutOfMemory ended before now = tt

module _ (left new : Ground) (how : End) where
  abbrev found : Counts
  found = left.sources.files.counts

  abbrev now : Counts
  now = new.sources.files.counts

  saved_comes : (ended : ToolEnd) → Finishes left new ended how → ComesOf how ended found now
  saved_comes tool.Done (inl saved) = rw saved.end_is tt
  saved_comes tool.Done (inr (inl unsaved)) = rw unsaved.end_is (inr unsaved.counts.faults)
  saved_comes tool.Done (inr (inr (inl none))) = rw none.end_is tt
  saved_comes tool.Done (inr (inr (inr unsent))) = rw unsent.end_is (unsent_comes unsent.error tool.Done found now)
  saved_comes tool.LinkFault (inl saved) = rw saved.end_is tt
  saved_comes tool.LinkFault (inr (inl unsaved)) = rw unsaved.end_is tt
  saved_comes tool.LinkFault (inr (inr (inl none))) = rw none.end_is tt
  saved_comes tool.LinkFault (inr (inr (inr unsent))) = rw unsent.end_is (unsent_comes unsent.error tool.LinkFault found now)
  saved_comes tool.TooLong (inl saved) = rw saved.end_is refl
  saved_comes tool.TooLong (inr (inl unsaved)) = rw unsaved.end_is refl
  saved_comes tool.TooLong (inr (inr (inl none))) = rw none.end_is tt
  saved_comes tool.TooLong (inr (inr (inr unsent))) = rw unsent.end_is (unsent_comes unsent.error tool.TooLong found now)
  saved_comes tool.PrintFault broken = rw broken.end_is tt
  saved_comes tool.TermFault broken = rw broken.end_is tt
  saved_comes tool.ChildFault broken = rw broken.end_is tt
  saved_comes tool.OutOfMemory broken = rw broken.end_is tt
  saved_comes (tool.FilesFault path) broken = rw broken.end_is (inl refl)
  saved_comes (tool.BadWire line) broken = rw broken.end_is tt

  unsaved_comes : (ended : ToolEnd) → ComesOf (end_of ended) ended found now
  unsaved_comes tool.Done = tt
  unsaved_comes tool.LinkFault = tt
  unsaved_comes tool.TooLong = refl
  unsaved_comes tool.PrintFault = tt
  unsaved_comes tool.TermFault = tt
  unsaved_comes tool.ChildFault = tt
  unsaved_comes tool.OutOfMemory = tt
  unsaved_comes (tool.FilesFault path) = inl refl
  unsaved_comes (tool.BadWire line) = tt

  comes_of : (keeps : Bool) (ended : ToolEnd) → FinishesWhere keeps left new ended how → ComesOf how ended found now
  comes_of true ended finishes = saved_comes ended finishes
  comes_of false ended broken = rw broken.end_is (unsaved_comes ended)

module _ (tool_ended : ToolEnd) (before now : Counts) where
  unwaited_comes : (how : End) → ComesOf how tool_ended before now → ComesOf (end_unwaited how) tool_ended before now
  unwaited_comes end.Done comes = tt
  unwaited_comes (end.Usage word) comes = comes
  unwaited_comes (end.ConfRefused line kind) comes = comes
  unwaited_comes (end.BadPattern at) comes = comes
  unwaited_comes (end.PatternTooLarge at) comes = comes
  unwaited_comes (end.Damaged path line) comes = comes
  unwaited_comes end.OutOfMemory comes = comes
  unwaited_comes (end.FilesFault path) comes = comes
  unwaited_comes end.LinkFault comes = comes
  unwaited_comes end.TermFault comes = comes
  unwaited_comes end.ChildFault comes = comes
  unwaited_comes end.TooLong comes = comes
  unwaited_comes (end.BadWire line) comes = comes

  awaited_comes : (started : Bool) (old new : LinkState) (how ended : End) (status left : ℕ) → Awaits started old new how ended status left → ComesOf how tool_ended before now → ComesOf ended tool_ended before now
  awaited_comes true old new how ended status left (inl has) comes = rw has.end_is comes
  awaited_comes true old new how ended status left (inr failed) comes = rw failed.end_is (unwaited_comes how comes)
  awaited_comes false old new how ended status left none comes = rw none.end_is comes

-- a wait tells nothing of the link
pub waited_link : (started : Bool) (old new : LinkState) (how ended : End) (status left : ℕ) → Awaits started old new how ended status left → (new.talk ≡ old.talk) × (new.input ≡ old.input)
waited_link true old new how ended status left (inl has) = (ap (λ (l : LinkState). l.talk) has.waits, ap (λ (l : LinkState). l.input) has.waits)
waited_link true old new how ended status left (inr failed) = (ap (λ (l : LinkState). l.talk) failed.waits.state, ap (λ (l : LinkState). l.input) failed.waits.state)
waited_link false old new how ended status left none = (ap (λ (l : LinkState). l.talk) none.child, ap (λ (l : LinkState). l.input) none.child)

own_link : (mid new : LinkState) → new ≡ mid → (new.talk ≡ mid.talk) × (new.input ≡ mid.input)
own_link mid new same = (ap (λ (l : LinkState). l.talk) same, ap (λ (l : LinkState). l.input) same)

too_many : (n : ℕ) → n < 2 ^ 40 → 2 ^ 40 ≤ n → ⊥
too_many n few long = omega (arith, few, long)

few_long : (old mid new : LinkState) → (new.talk ≡ mid.talk) × (new.input ≡ mid.input) → FewCame old new → CameLong old mid → ⊥
few_long old mid new same few long = too_many (length (got long.0)) (few long.0 (same.0 ∙ long.1) (long.2 ∙ ap (prepend_known (got long.0)) (sym same.1))) long.3

module _ (old start mid new : Links) (child_start : start.child ≡ old.child) (child : (new.child.talk ≡ mid.child.talk) × (new.child.input ≡ mid.child.input)) where
  -- where the tool isn't the one that copies, the link is the same at its start and behind its end
  few_own : (new.io ≡ mid.io) × (start.io ≡ old.io) → FewCame old.io new.io → CameLong start.io mid.io → ⊥
  few_own io few long = few_long start.io mid.io new.io (own_link mid.io new.io io.0) (subst (λ (l : LinkState). FewCame l new.io) (sym io.1) few) long

  few_served : (used : Tool) → (IsOther used → (new.io ≡ mid.io) × (start.io ≡ old.io)) → FewServed used old new → LongServed used start mid → ⊥
  few_served (Communicate owner) io few long = few_own (io tt) few long
  few_served (LoadTemplate owner paths) io few long = long
  few_served (Run owner frontend priority command) io few long = few_long start.child mid.child new.child child (subst (λ (l : LinkState). FewCame l new.child) (sym child_start) few) long
  few_served (Show database shown) io few long = long
  few_served (CopyDb copy) io few long = long
  few_served (SetSelections verbose check unseen) io few long = few_own (io tt) few long
  few_served GetSelections io few long = long
  few_served (Drill count) io few long = long
  few_served (Answer command) io few long = few_long start.child mid.child new.child child (subst (λ (l : LinkState). FewCame l new.child) (sym child_start) few) long

-- ---- the whole run

one_conf : (used : Tool) (disk : Disk) (path : List ℕ) (conf other : Configuration) → IsConfiguration used (Some disk) path conf → IsConfiguration used (Some disk) path other → conf ≡ other
one_conf used disk path conf other first second =
    first.reads.1 ∙ ap (λ (t : List ℕ). configuration (each fields_of (stanzas (conf_text used t)))) (first.text_is ∙ sym second.text_is) ∙ sym second.reads.1

read_disk : (is : Bool) (files : FilesView) (path : List ℕ) → (if is then after_look files Read path true else files).disk ≡ files.disk
read_disk true files path = refl
read_disk false files path = refl

module _ (words : List (List ℕ)) (used : Tool) (conf : Configuration) (settings : Settings) (old new : World) (clean : IsUndisturbed words used conf settings old new) where
  abbrev files : FilesState
  files = old.stock.files

  same_conf : (other : Configuration) → IsConfiguration used files.view.disk settings.conf_path other → other ≡ conf
  same_conf other is = one_conf used clean.disk settings.conf_path other conf (subst (λ (d : Option Disk). IsConfiguration used d settings.conf_path other) clean.told is) clean.conf_is.conf_is

  refused_well : (text : List ℕ) (error : ConfError) → clean.conf_is.conf_is.text ≡ text → IsAnswer (conf_text used text) (Err error) → EndsWell used conf (end_of_conf error)
  refused_well text (conf_error.Refused line kind) same is = absurd
      (not_both (passes (conf_text used text)) _ (subst (λ (t : List ℕ). AllByRecursion (λ faults. faults ≡ []) (passes (conf_text used t))) same clean.conf_is.conf_is.reads.0) is)
  refused_well text conf_error.OutOfMemory same is = tt

  word_well : (before : List PlacedWord) (word : PlacedWord) (after : List PlacedWord) → pattern_words used ≡ before ++ word ∷ after → (error : PatternError) → IsRefusedFor word.word error → EndsWell used conf (end_of_pattern (Word word.place) error)
  word_well before word after whole pattern.Bad refused = record { before = before; word = word; after = after; whole = whole; place_is = refl; not_plain = odd_word word.word pattern.Bad refused }
  word_well before word after whole pattern.TooLarge refused = record { before = before; word = word; after = after; whole = whole; place_is = refl; not_plain = odd_word word.word pattern.TooLarge refused }
  word_well before word after whole pattern.OutOfMemory refused = tt

  database_well : (before : List LayerSpec) (spec : LayerSpec) (after : List LayerSpec) (place : ℕ) → databases_of used conf ≡ before ++ spec ∷ after → place ≡ length before → (error : PatternError) → AreRefusedFor spec error → EndsWell used conf (end_of_pattern (Database place) error)
  database_well before spec after place whole place_is pattern.Bad refused = record { before = before; spec = spec; after = after; whole = whole; place_is = place_is; not_plain = odd_rules spec refused }
  database_well before spec after place whole place_is pattern.TooLarge refused = record { before = before; spec = spec; after = after; whole = whole; place_is = place_is; not_plain = refused }
  database_well before spec after place whole place_is pattern.OutOfMemory refused = tt

  unloaded_well : (error : SourceError) → SourceTells error (ground_in old).sources (ground_in new).sources → EndsWell used conf (end_of_load error)
  unloaded_well (source.Files (load.Failed path)) rose = clean.none_rose.files rose
  unloaded_well (source.Files (load.Damaged path line)) none = none
  unloaded_well (source.Files load.OutOfMemory) tells = tt
  unloaded_well (source.Pipe pipe.Failed) rose = clean.none_rose.io rose
  unloaded_well (source.Pipe (pipe.Damaged line)) none = none
  unloaded_well (source.Pipe pipe.TooLong) none = none
  unloaded_well (source.Pipe pipe.OutOfMemory) tells = tt

  -- at most one database is a pipe
  few_loaded : count_of Pipe (loaded_of used conf) ≤ 1
  few_loaded = by_files (has_files used) where
    by_files : (is : Bool) → count_of Pipe (if is then databases_of used conf else []) ≤ 1
    by_files true = (few_reached (conf_text used clean.conf_is.conf_is.text) conf (roots used conf) clean.conf_is.conf_is.reads).pipes
    by_files false = let none : count_of Pipe [] ≡ 0 = refl in omega (arith, none)

  loads_well : (other : Configuration) (error : SourceError) → HasLoaded used settings.conf_path other (ground_in old).sources (ground_in new) (Err error) → EndsWell used conf (end_of_load error)
  loads_well other error loaded =
      let same = same_conf other loaded.conf_is.conf_is.conf_is in
      let found : Sources = (ground_in old).sources in
      unloaded_well error
      (source_later error found (conf_read_in used settings.conf_path found) (ground_in new).sources (later_so files.counts files.counts (unmoved files.counts files.counts refl)) (still old.links.io.counts old.links.io.counts refl)
      (loads_tell clean.disk old.links.io (loaded_of used other) (all_set_up (databases_of used other)) new.stock.used (conf_read_in used settings.conf_path found) (ground_in new).sources error
      (read_disk (has_files used) files.view settings.conf_path ∙ clean.told) (inl (refl, subst (λ (c : Configuration). count_of Pipe (loaded_of used c) ≤ 1) (sym same) few_loaded))
      (subst (λ (c : Configuration). AllByRecursion (IsReadable clean.disk) (loaded_of used c)) (sym same) clean.readable)
      (subst (λ (c : Configuration). AllByRecursion (IsPipeReadable old.links.io) (loaded_of used c)) (sym same) clean.piped) loaded.loads))

  misused_well : (other : Configuration) (spec : LayerSpec) → other ≡ conf → misused_pipe used other ≡ Some spec → ⊥
  misused_well other spec same is = let wrong : None ≡ Some spec = sym clean.unmisused ∙ ap (misused_pipe used) (sym same) ∙ is in cc

  start_well : (how : End) → EndsUnloaded used settings.conf_path files new.stock.files how → EndsWell used conf how
  start_well how (inl none) = rw none.end_is tt
  start_well how (inr (inl unread)) = absurd (clean.none_rose.files unread.counts.faults)
  start_well how (inr (inr (inl refused))) =
      rw refused.end_is
      (refused_well refused.text refused.error (clean.conf_is.conf_is.text_is ∙ sym (subst (λ (d : Option Disk). IsTextAt d settings.conf_path refused.text) clean.told refused.text_is)) refused.refused)
  start_well how (inr (inr (inr (inl wrong)))) = absurd
      (right_not_wrong used conf wrong.word clean.conf_is.databases (subst (λ (c : Configuration). IsWrongWord used c (Some wrong.word)) (same_conf wrong.conf wrong.conf_is) wrong.wrong))
  start_well how (inr (inr (inr (inr (inl misused))))) = absurd (misused_well misused.conf misused.spec (same_conf misused.conf misused.conf_is.conf_is) misused.misused)
  start_well how (inr (inr (inr (inr (inr (inl at)))))) = rw at.end_is (word_well at.before at.word at.after at.words_are at.error at.refused)
  start_well how (inr (inr (inr (inr (inr (inr at)))))) =
      let same = same_conf at.conf at.conf_is.conf_is.conf_is in
      rw at.end_is
      (database_well at.refused_at.before at.refused_at.spec at.refused_at.after at.refused.place (ap (λ (c : Configuration). databases_of used c) (sym same) ∙ at.refused_at.whole) at.refused_at.place_is
      at.refused.error at.refused_at.refused)

  before_well : (how : End) → EndsBefore used settings.conf_path (ground_in old).sources (ground_in new) how → EndsWell used conf how
  before_well how (inl unloaded) = start_well how unloaded.0
  before_well how (inr at) = rw at.end_is (loads_well at.conf at.error at.loaded)

  module _ (outcome : Outcome) (run : HasUsed used settings old new outcome) where
    abbrev start : SessionState
    start = begun used (before_rounds (on_ground old run.mid)) run.roots settings

    tells : EndTells run.answer.ended (LongServed used (on_ground old run.mid).links run.links) run.mid.sources.files.counts run.left.files.counts
    tells = tool_tells used run.roots start (on_ground old run.mid).links run.links 0 run.answer run.told run.left run.inner run.uses

    never_long : LongServed used (on_ground old run.mid).links run.links → ⊥
    never_long long =
        few_served old.links (on_ground old run.mid).links run.links new.links refl (waited_link run.answer.is_started run.links.child new.links.child run.how outcome.end run.answer.status run.status run.awaits) used
        (λ is. (io_stays used is settings old new outcome run, io_unused used is settings old new outcome run)) clean.few long

    begins : Later files.counts run.mid.sources.files.counts
    begins = start_later used settings.conf_path (ground_in old).sources run.mid run.roots run.started

    works : Later run.mid.sources.files.counts run.left.files.counts
    works = tool_later run.roots start (on_ground old run.mid).links run.links 0 run.answer run.told run.left run.inner used run.uses

    ends : Later run.left.files.counts new.stock.files.counts
    ends = end_of_later (ground_of run.left.files run.links.io run.left.layers) (ground_in new) run.how (keeps_changes used) run.answer.ended run.finishes

    never_long_by : run.answer.ended ≡ tool.TooLong → ⊥
    never_long_by is = never_long (subst (λ (e : ToolEnd). EndTells e (LongServed used (on_ground old run.mid).links run.links) run.mid.sources.files.counts run.left.files.counts) is tells)

    never_failed : (path : List ℕ) → (run.answer.ended ≡ tool.FilesFault path) ⊎ Rose run.left.files.counts.faults new.stock.files.counts.faults → ⊥
    never_failed path (inl is) =
        clean.none_rose.files
        (rose_between files.counts.faults run.mid.sources.files.counts.faults run.left.files.counts.faults new.stock.files.counts.faults begins.0
        (subst (λ (e : ToolEnd). EndTells e (LongServed used (on_ground old run.mid).links run.links) run.mid.sources.files.counts run.left.files.counts) is tells) ends.0)
    never_failed path (inr rose) =
        clean.none_rose.files
        (rose_behind files.counts.faults run.left.files.counts.faults new.stock.files.counts.faults (later_then files.counts run.mid.sources.files.counts run.left.files.counts begins works).0 rose)

    own_rose : (mid : LinkState) → CountsLoads old.links.io.counts mid.counts → Rose mid.counts.faults new.links.io.counts.faults → ⊥
    own_rose mid (inl same) rose = clean.none_rose.io (subst (λ (c : Counts). Rose c.faults new.links.io.counts.faults) same rose)
    own_rose mid (inr first) rose = clean.none_rose.io (rose_behind old.links.io.counts.faults mid.counts.faults new.links.io.counts.faults first.faults.later rose)

    used_well : (how : End) (mid : LinkState) → ComesOf how run.answer.ended run.left.files.counts new.stock.files.counts → CountsLoads old.links.io.counts mid.counts → LinksCount how (record old.links { io = mid }) new.links
        → ProgramCounts how old.links.child.program.failures new.links.child.program.failures → ((line : ℕ) → how ≡ end.BadWire line → ⊥) → EndsWell used conf how
    used_well end.Done mid comes loads links program wired = tt
    used_well end.OutOfMemory mid comes loads links program wired = tt
    used_well end.LinkFault mid comes loads (inl own) program wired = own_rose mid loads own.on_io.faults
    used_well end.LinkFault mid comes loads (inr child) program wired = clean.none_rose.child child.on_child.faults
    used_well end.TermFault mid comes loads links program wired = own_rose mid loads links.on_io.faults
    used_well end.ChildFault mid comes loads links program wired = clean.none_rose.program program
    used_well end.TooLong mid comes loads links program wired = never_long_by comes
    used_well (end.FilesFault path) mid comes loads links program wired = never_failed path comes
    used_well (end.Usage word) mid none loads links program wired = none
    used_well (end.ConfRefused line kind) mid none loads links program wired = none
    used_well (end.BadPattern at) mid none loads links program wired = absurd none
    used_well (end.PatternTooLarge at) mid none loads links program wired = absurd none
    used_well (end.Damaged path line) mid none loads links program wired = none
    used_well (end.BadWire line) mid comes loads links program wired = absurd (wired line refl)

    comes : ComesOf outcome.end run.answer.ended run.left.files.counts new.stock.files.counts
    comes =
        awaited_comes run.answer.ended run.left.files.counts new.stock.files.counts run.answer.is_started run.links.child new.links.child run.how outcome.end run.answer.status run.status run.awaits
        (comes_of (ground_of run.left.files run.links.io run.left.layers) (ground_in new) run.how (keeps_changes used) run.answer.ended run.finishes)

  tool_well : (outcome : Outcome) (saves : List Save) → ((line : ℕ) → outcome.end ≡ end.BadWire line → ⊥) → HasRunTool used settings old new outcome saves → EndsWell used conf outcome.end
  tool_well outcome saves wired (inl before) = before_well outcome.end before.0
  tool_well outcome saves wired (inr worked) =
      let run = as_used used settings old new outcome saves worked in
      let counts = links_counted used settings old new outcome saves (inr worked) in
      used_well outcome run outcome.end counts.mid (comes outcome run) counts.loads counts.behind (program_counted used settings old new outcome saves (inr worked)) wired

  words_well : (outcome : Outcome) (saves : List Save) → ((line : ℕ) → outcome.end ≡ end.BadWire line → ⊥) → HasRunWords words settings old new outcome saves → EndsWell used conf outcome.end
  words_well outcome saves wired (inl refused) = absurd (refused.0.refused.refused (used, clean.named))
  words_well outcome saves wired (inr ran) = tool_well outcome saves wired (subst (λ (t : Tool). HasRunTool t settings old new outcome saves) (one_tool words ran.0 used ran.1 clean.named) ran.2)

pub ends_well : (words : List (List ℕ)) (used : Tool) (conf : Configuration) (settings : Settings) (old new : World) (outcome : Outcome) (saves : List Save) → IsUndisturbed words used conf settings old new
    → HasRunWords words settings old new outcome saves → ((line : ℕ) → outcome.end ≡ end.BadWire line → ⊥) → EndsWell used conf outcome.end
ends_well words used conf settings old new outcome saves clean ran wired = words_well words used conf settings old new clean outcome saves wired ran
