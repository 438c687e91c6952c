-- What the parts of a run do to the disk, and to the databases that its layers are of.
use Rattle.std.proofs.Common.{◌≡◌, ◌⊎◌, ℕ, Bool, true, false, not, if◌then◌else◌, List, [], ◌∷◌, ◌++◌, Option, Some, None, refl, sym, ap, subst, ◌∙◌, inl, inr, map as each}
use Rattle.std.specs.List.{AllByRecursion}
use Rattle.std.specs.Prelude.{codes, fold, Result, Ok, Err}
use Rattle.std.specs.Result.{result_unwrap_or}
use Rattle.dc_words.specs.declared.stream.Line.{Line}
use Rattle.dc_outside.specs.Disk.{Disk, IsDurable}
use Rattle.dc_outside.specs.State.{FilesView, LinkState}
use Rattle.dc_outside.specs.declared.link.Piece.{Piece}
use Rattle.dc_proto.specs.declared.command.Command.{Command}
use Rattle.dc_proto.specs.declared.command.Command.TheVariants.{LoadTemplateFile}
use Rattle.dc_conf.specs.Configuration.{Configuration}
use Rattle.dc_conf.specs.declared.spec.LayerSpec.{LayerSpec}
use Rattle.dc_conf.proofs.AnswerLemmas.{sound_answer}
use Rattle.dc_conf.proofs.ResolvedLemmas.{places_apart as places_kept_apart, sorts_fit as fit_kept}
use Rattle.dc_item.specs.Item.{ItemParts}
use Rattle.dc_item.specs.declared.op.Op.TheVariants.{SetFlag}
use Rattle.dc_layer.specs.State.{Table, LayerState}
use Rattle.dc_question.specs.Changes.{question_write, done_or}
use Rattle.dc_question.specs.Questions.{QuestionContext, question, read}
use Rattle.dc_store.specs.Plans.{names, StoreState}
use Rattle.dc_store.specs.Batches.{Write, commit, names_of}
use Rattle.dc_preseed.specs.Selecting.{selections_over}
use Rattle.dc_preseed.specs.declared.selected.Choices.{Choices}
use Rattle.dc_outside.specs.Steps.{after_look}
use Rattle.dc_outside.specs.declared.files.FilesOp.TheVariants.{Read}
use Rattle.dc_teletype.specs.declared.teletype.Asked.TheVariants.{Answers}
use Rattle.dc_save.specs.FolderLoading.{its_files, after_reads, FailsOn, LoadsFolder, LoadsFolderFiles}
use Rattle.dc_save.specs.Loading.{with_loaded, LoadsFile, LoadsOneFile, LoadsBy, LoadsFilesBy, LoadsLayer, LoadsFiles}
use Rattle.dc_save.specs.Places.{AreSetUpFor}
use Rattle.dc_save.proofs.FileTurnLemmas.{reads_disk}
use Rattle.dc_conf.specs.declared.spec.LayerSort.{LayerSort}
use Rattle.dc_conf.specs.declared.spec.LayerSort.TheVariants.{File, Tree, Pack, Pipe}
use Rattle.dc_save.specs.Saving.{Ends, AreApart, StandSaved}
use Rattle.dc_save.specs.declared.loading.Loaded.{Loaded}
use Rattle.dc_save.specs.declared.loading.Loaded.TheVariants.{Here, LeftOut}
use Rattle.dc_save.specs.PipeLoading.{LoadsWhere, ReadsPipe}
use Rattle.dc_save.specs.declared.loading.LoadError.{LoadError}
use Rattle.dc_save.specs.declared.pipe_loading.PipeError.{PipeError}
use Rattle.dc_save.specs.declared.pipe_loading.PipeError.TheVariants as pipe
use Rattle.dc_save.specs.declared.pipe_loading.PipeLoaded.{PipeLoaded}
use Rattle.dc_save.specs.declared.pipe_loading.PipeLoaded.TheVariants as piped
use Rattle.dc_outside.specs.declared.link.LinkError.{LinkError}
use Rattle.dc_outside.specs.declared.link.LinkError.TheVariants.{Failed, OutOfMemory}
use Rattle.dc_shelf.specs.declared.loading.SourceError.{SourceError}
use Rattle.dc_save.specs.declared.loading.LoadError.TheVariants as load
use Rattle.dc_save.specs.declared.saving.SaveError.{SaveError}
use Rattle.dc_save.specs.declared.saving.SaveError.TheVariants as save
use Rattle.dc_save.proofs.DiskState.{every_moment}
use Rattle.dc_save.proofs.Ends.{ends, keeps_paths, stand_saved}
use Rattle.dc_save.proofs.PlaceLemmas.{places_apart, layers_of}
use Rattle.dc_shelf.specs.Shelves.{all_set_up, GoesOn, LoadAnswer, LoadsAll, LoadsOne, Sources}
use Rattle.dc_serve.specs.Execution.{Transition, state_after, IsExecution}
use Rattle.dc_serve.specs.LinkRun.{Answered}
use Rattle.dc_serve.specs.Said.{said, BreaksOff}
use Rattle.dc_serve.specs.declared.outcome.LinkEnd.{LinkEnd}
use Rattle.dc_serve.specs.declared.outcome.LinkEnd.TheVariants as link
use Rattle.dc_session.specs.Answers.{CommandInputs, answer, after_command, names_on}
use Rattle.dc_session.specs.Asking.{with_seen}
use Rattle.dc_session.specs.Machine.{HasDone, GivesInPart, IsDoneInPart}
use Rattle.dc_session.specs.declared.stepped.StepError.TheVariants as step
use Rattle.dc_session.specs.Serving.{IsFinished, Finishes as FinishesSession, Resources}
use Rattle.dc_outside.specs.State.{FilesState}
use Rattle.dc_session.specs.SessionState.{SessionState}
use Rattle.dc_session.specs.TemplateFiles.{Finds, FindsNoMemory}
use Rattle.dc_session.specs.declared.template_files.Found.{Found}
use Rattle.dc_session.specs.declared.template_files.Found.TheVariants.{Unreadable, Missing, Faulty, Templates}
use Rattle.dc_session.proofs.DiskLaws.{breaks_reads}
use Rattle.dc_session.proofs.FrameLaws.{row_keeps, others_stay}
use Rattle.dc_run.specs.Ends.{IsEnded, tool_end_of, comes_to_save, end_by, end_of, end_unsent, end_unwaited}
use Rattle.dc_run.specs.Running.{Awaits}
use Rattle.dc_run.specs.Finishing.{images_of}
use Rattle.dc_run.specs.Jobs.{CopiesBy, HasTaken, Uses}
use Rattle.dc_run.specs.Roots.{CopyRoots, Roots}
use Rattle.dc_run.specs.Kills.{AllDone}
use Rattle.dc_run.specs.Saves.{Save, AreSaves, Commits, HasNoImages, HasNotSent}
use Rattle.dc_run.specs.SavingSession.{TakesSaving, BreaksSaving, IsServedSaving, saves_in, broken_save}
use Rattle.dc_run.specs.declared.saving_session.SavingBreak.{SavingBreak}
use Rattle.dc_run.specs.declared.saving_session.SavingBreak.TheVariants as saving
use Rattle.dc_run.specs.Starting.{conf_text, IsConfiguration, EndsBefore, EndsUnloaded, HasLoaded, HasReadConf, databases_of, has_files, keeps_changes, roots}
use Rattle.dc_run.proofs.KindLemmas.{Kind, kind_of, specs_in, same_specs}
use Rattle.dc_run.proofs.Kills.{saves_joined, done_joined, each_joined}
use Rattle.dc_run.proofs.SavingLemmas.{IsOfKinds, specs_of, lines_keep, lines_save, saves_done, saves_kept}
use Rattle.dc_run.proofs.SelectionLemmas.{selections_keep}
use Rattle.dc_cli.specs.Tools.{Names}
use Rattle.dc_run.specs.TemplateLoading.{FileTurn, IsFileTurn, IsFileCourse, state_after as file_state, EndsAt}
use Rattle.dc_run.specs.World.{Ground, Links}
use Rattle.dc_run.specs.declared.outcome.End.{End}
use Rattle.dc_run.specs.declared.outcome.End.TheVariants as end
use Rattle.dc_run.specs.declared.outcome.ToolAnswer.{ToolAnswer}
use Rattle.dc_run.specs.declared.outcome.ToolEnd.{ToolEnd}
use Rattle.dc_run.specs.declared.outcome.ToolEnd.TheVariants as tool
use Rattle.dc_cli.specs.declared.tool.Tool.{Tool}
use Rattle.dc_cli.specs.declared.tool.Tool.TheVariants.{Communicate, LoadTemplate, Run, Show, CopyDb, SetSelections, GetSelections, Drill, Answer}
use Rattle.dc_run.proofs.RunLemmas.{ends_so}
use Rattle.dc_run.specs.Crashes.{AreOfConfiguration, KeepsEachPath}

-- ---- reads change nothing on the disk

file_reads : (old new : FilesView) (path : List ℕ) (first : Result Loaded LoadError) → LoadsOneFile old new path first → new.disk ≡ old.disk
file_reads old new path (Ok Here) is = ap (λ (t : FilesView). t.disk) is
file_reads old new path (Ok LeftOut) is = ap (λ (t : FilesView). t.disk) is
file_reads old new path (Err (load.Failed failed)) is = ap (λ (t : FilesView). t.disk) is
file_reads old new path (Err (load.Damaged damaged line)) is = ap (λ (t : FilesView). t.disk) is
file_reads old new path (Err load.OutOfMemory) (inl is) = ap (λ (t : FilesView). t.disk) is
file_reads old new path (Err load.OutOfMemory) (inr is) = ap (λ (t : FilesView). t.disk) is

after_reads_same : (told : FilesView) (spec : LayerSpec) (files : List (List ℕ)) → (after_reads told spec files).disk ≡ told.disk
after_reads_same told spec files = reads_disk _ spec files

failed_reads : (spec : LayerSpec) (path : List ℕ) (old new : FilesView) → FailsOn spec path old new → new.disk ≡ old.disk
failed_reads spec path old new (inl is) = ap (λ (t : FilesView). t.disk) is.1
failed_reads spec path old new (inr is) = ap (λ (t : FilesView). t.disk) is.told_is ∙ after_reads_same old spec is.before

folder_reads : (old new : FilesView) (spec : LayerSpec) (first : Result Loaded LoadError) → LoadsFolderFiles old new spec first → new.disk ≡ old.disk
folder_reads old new spec (Ok Here) is = ap (λ (t : FilesView). t.disk) is.2 ∙ after_reads_same old spec (its_files spec is.0)
folder_reads old new spec (Ok LeftOut) is = failed_reads spec is.0 old new is.1
folder_reads old new spec (Err (load.Failed failed)) is = failed_reads spec failed old new is
folder_reads old new spec (Err (load.Damaged damaged line)) is = ap (λ (t : FilesView). t.disk) is.3.told_is ∙ after_reads_same old spec (is.0 ++ is.1 ∷ [])
folder_reads old new spec (Err load.OutOfMemory) (inl is) = ap (λ (t : FilesView). t.disk) is
folder_reads old new spec (Err load.OutOfMemory) (inr is) = ap (λ (t : FilesView). t.disk) is.1.told_is ∙ after_reads_same old spec is.0

reads_by : (sort : LayerSort) (old new : FilesView) (spec : LayerSpec) (first : Result Loaded LoadError) → LoadsFilesBy sort old new spec first → new.disk ≡ old.disk
reads_by File old new spec first is = file_reads old new spec.place first is
reads_by Tree old new spec first is = folder_reads old new spec first is
reads_by Pack old new spec first is = folder_reads old new spec first is
reads_by Pipe old new spec first is = absurd is

pub load_reads : (old new : FilesView) (spec : LayerSpec) (first : Result Loaded LoadError) → LoadsFiles old new spec first → new.disk ≡ old.disk
load_reads old new spec first is = reads_by spec.sort old new spec first is

one_reads : (spec : LayerSpec) (layer made : LayerState) (old new : Sources) (first : LoadAnswer) → LoadsOne spec layer made old new first → new.files.view.disk ≡ old.files.view.disk
one_reads spec layer made old new (LoadAnswer.OfFiles first) is = load_reads old.files.view new.files.view spec first is.1
one_reads spec layer made old new (LoadAnswer.OfPipe first) is = ap (λ (f : FilesState). f.view.disk) is.2

goes_on : (P : Type 0) (first : LoadAnswer) (result : Result (Unit {0}) SourceError) (more last : Type 0) → (more → P) → (last → P) → GoesOn first result more last → P
goes_on P (LoadAnswer.OfFiles (Ok loaded)) result more last on at is = on is
goes_on P (LoadAnswer.OfPipe (Ok loaded)) result more last on at is = on is
goes_on P (LoadAnswer.OfFiles (Err error)) result more last on at is = at is.1
goes_on P (LoadAnswer.OfPipe (Err error)) result more last on at is = at is.1

pub all_read : (specs : List LayerSpec) (old new : List LayerState) (from left : Sources) (result : Result (Unit {0}) SourceError) → LoadsAll specs old new from left result → left.files.view.disk ≡ from.files.view.disk
all_read [] old new from left result is = ap (λ (s : Sources). s.files.view.disk) is.2
all_read (spec ∷ specs) [] new from left result is = absurd is
all_read (spec ∷ specs) (layer ∷ old) [] from left result is = absurd is
all_read (spec ∷ specs) (layer ∷ old) (made ∷ new) from left result is =
    goes_on (left.files.view.disk ≡ is.1.files.view.disk) is.0 result (LoadsAll specs old new is.1 left result) ((new ≡ old) × (left ≡ is.1))
    (all_read specs old new is.1 left result) (λ last. ap (λ (s : Sources). s.files.view.disk) last.1) is.3
    ∙ one_reads spec layer made from is.1 is.0 is.2

conf_reads : (is : Bool) (files : FilesView) (path : List ℕ) → (if is then after_look files Read path true else files).disk ≡ files.disk
conf_reads true files path = refl
conf_reads false files path = refl

read_conf : (used : Tool) (path : List ℕ) (old new : FilesState) → HasReadConf used path old new → new.view.disk ≡ old.view.disk
read_conf used path old new read = ap (λ (t : FilesView). t.disk) read.files_are ∙ conf_reads (has_files used) old.view path

-- what loading did
pub loads_read : (used : Tool) (path : List ℕ) (conf : Configuration) (old : Sources) (new : Ground) (result : Result (Unit {0}) SourceError) → HasLoaded used path conf old new result → new.sources.files.view.disk ≡ old.files.view.disk
loads_read used path conf old new result loaded = all_read _ _ _ _ _ _ loaded.loads ∙ conf_reads (has_files used) old.files.view path

unloaded_reads : (used : Tool) (path : List ℕ) (old new : FilesState) (how : End) → EndsUnloaded used path old new how → new.view.disk ≡ old.view.disk
unloaded_reads used path old new how (inl memory) = elim memory.begun [
  | inl none ↦ ap (λ (t : FilesView). t.disk) none.files_are
  | inr read ↦ read_conf used path old new read
]
unloaded_reads used path old new how (inr (inl unread)) = ap (λ (t : FilesView). t.disk) unread.files_are
unloaded_reads used path old new how (inr (inr (inl refused))) = read_conf used path old new refused.read
unloaded_reads used path old new how (inr (inr (inr (inl wrong)))) = read_conf used path old new wrong.read
unloaded_reads used path old new how (inr (inr (inr (inr (inl misused))))) = read_conf used path old new misused.read
unloaded_reads used path old new how (inr (inr (inr (inr (inr (inl unbuilt)))))) = read_conf used path old new unbuilt.read
unloaded_reads used path old new how (inr (inr (inr (inr (inr (inr unset)))))) = read_conf used path old new unset.read

pub before_reads : (used : Tool) (path : List ℕ) (old : Sources) (new : Ground) (how : End) → EndsBefore used path old new how → new.sources.files.view.disk ≡ old.files.view.disk
before_reads used path old new how (inl before) = unloaded_reads used path old.files new.sources.files how before.0
before_reads used path old new how (inr unloaded) = loads_read _ _ _ _ _ _ unloaded.loaded

-- ---- each layer stays one of its database

-- those of layers that were set up for these databases
abbrev pub set_for : List LayerSpec → List Kind
set_for specs = each (λ (spec : LayerSpec). (spec.sort, Some spec)) specs

loaded_kind : (spec : LayerSpec) (layer : LayerState) (table : Table) (found : Option (List ℕ)) → kind_of (with_loaded spec layer table found) ≡ kind_of layer
loaded_kind spec layer table None = refl
loaded_kind spec layer table (Some text) = refl

file_keeps : (disk : Option Disk) (spec : LayerSpec) (layer made : LayerState) (first : Result Loaded LoadError) → LoadsFile disk spec layer made first → kind_of made ≡ kind_of layer
file_keeps disk spec layer made (Ok Here) is = ap kind_of is.layer_is ∙ loaded_kind spec layer _ is.found
file_keeps disk spec layer made (Ok LeftOut) is = ap kind_of is.1
file_keeps disk spec layer made (Err (load.Failed failed)) is = ap kind_of is.2
file_keeps disk spec layer made (Err (load.Damaged damaged line)) is = ap kind_of is.2
file_keeps disk spec layer made (Err load.OutOfMemory) is = ap kind_of is

folder_keeps : (disk : Option Disk) (spec : LayerSpec) (layer made : LayerState) (first : Result Loaded LoadError) → LoadsFolder disk spec layer made first → kind_of made ≡ kind_of layer
folder_keeps disk spec layer made (Ok Here) is = ap kind_of is.layer_is
folder_keeps disk spec layer made (Ok LeftOut) is = ap kind_of is.1
folder_keeps disk spec layer made (Err (load.Failed failed)) is = ap kind_of is.1
folder_keeps disk spec layer made (Err (load.Damaged damaged line)) is = ap kind_of is.1
folder_keeps disk spec layer made (Err load.OutOfMemory) is = ap kind_of is

keeps_by : (sort : LayerSort) (disk : Option Disk) (spec : LayerSpec) (layer made : LayerState) (first : Result Loaded LoadError) → LoadsBy sort disk spec layer made first → kind_of made ≡ kind_of layer
keeps_by File disk spec layer made first is = file_keeps disk spec layer made first is
keeps_by Tree disk spec layer made first is = folder_keeps disk spec layer made first is
keeps_by Pack disk spec layer made first is = folder_keeps disk spec layer made first is
keeps_by Pipe disk spec layer made first is = absurd is

load_keeps : (disk : Option Disk) (spec : LayerSpec) (layer made : LayerState) (first : Result Loaded LoadError) → LoadsLayer disk spec layer made first → kind_of made ≡ kind_of layer
load_keeps disk spec layer made first is = keeps_by spec.sort disk spec layer made first is

read_keeps : (spec : LayerSpec) (layer made : LayerState) (old new : LinkState) (first : Result PipeLoaded PipeError) → ReadsPipe spec layer made old new first → kind_of made ≡ kind_of layer
read_keeps spec layer made old new (Ok piped.Here) is = ap kind_of is.layer_is
read_keeps spec layer made old new (Ok piped.LeftOut) is = ap kind_of is.2
read_keeps spec layer made old new (Err pipe.Failed) is = ap kind_of is.2
read_keeps spec layer made old new (Err (pipe.Damaged line)) is = ap kind_of is.1
read_keeps spec layer made old new (Err pipe.TooLong) is = ap kind_of is.1
read_keeps spec layer made old new (Err pipe.OutOfMemory) is = ap kind_of is.1

pipe_keeps : (infd : Bool) (spec : LayerSpec) (layer made : LayerState) (old new : LinkState) (first : Result PipeLoaded PipeError) → LoadsWhere infd spec layer made old new first → kind_of made ≡ kind_of layer
pipe_keeps true spec layer made old new first is = read_keeps spec layer made old new first is
pipe_keeps false spec layer made old new first is = ap kind_of is.1

one_keeps : (spec : LayerSpec) (layer made : LayerState) (old new : Sources) (first : LoadAnswer) → LoadsOne spec layer made old new first → kind_of made ≡ kind_of layer
one_keeps spec layer made old new (LoadAnswer.OfFiles first) is = load_keeps old.files.view.disk spec layer made first is.0
one_keeps spec layer made old new (LoadAnswer.OfPipe first) is = pipe_keeps spec.infd spec layer made old.link new.link first is.1

pub loads_keep : (specs : List LayerSpec) (old new : List LayerState) (from left : Sources) (result : Result (Unit {0}) SourceError) → LoadsAll specs old new from left result → specs_in new ≡ specs_in old
loads_keep [] old new from left result is = ap specs_in is.1
loads_keep (spec ∷ specs) [] new from left result is = absurd is
loads_keep (spec ∷ specs) (layer ∷ old) [] from left result is = absurd is
loads_keep (spec ∷ specs) (layer ∷ old) (made ∷ new) from left result is =
    let later : specs_in new ≡ specs_in old = goes_on (specs_in new ≡ specs_in old) is.0 result (LoadsAll specs old new is.1 left result) ((new ≡ old) × (left ≡ is.1))
    (loads_keep specs old new is.1 left result) (λ last. ap specs_in last.0) is.3 in
    λ i. one_keeps spec layer made from is.1 is.0 is.2 i ∷ later i

pub set_up_specs : (specs : List LayerSpec) → specs_in (all_set_up specs) ≡ set_for specs
set_up_specs [] = refl
set_up_specs (spec ∷ specs) = ap (λ (l : List Kind). (spec.sort, Some spec) ∷ l) (set_up_specs specs)

first_kind : (one other : Kind) (more others : List Kind) → one ∷ more ≡ other ∷ others → one ≡ other
first_kind one other more others e = cc

other_kinds : (one other : Kind) (more others : List Kind) → one ∷ more ≡ other ∷ others → more ≡ others
other_kinds one other more others e = cc

no_kind : (one : Kind) (more : List Kind) → [] ≡ one ∷ more → ⊥
no_kind one more e = absurd (cc)

set_up_for : (layers : List LayerState) (specs : List LayerSpec) → specs_in layers ≡ set_for specs → AreSetUpFor layers specs
set_up_for [] [] e = tt
set_up_for [] (spec ∷ specs) e = absurd (no_kind _ _ e)
set_up_for (layer ∷ layers) [] e = absurd (no_kind _ _ (sym e))
set_up_for (layer ∷ layers) (spec ∷ specs) e =
    let here : kind_of layer ≡ (spec.sort, Some spec) = first_kind _ _ _ _ e in
    ((ap (λ (k : Kind). k.1) here, ap (λ (k : Kind). k.0) here), set_up_for layers specs (other_kinds _ _ _ _ e))

pub last_after : {S : Type 0} (start : S) (gone : List (Transition S)) (last : Transition S) → state_after start (gone ++ last ∷ []) ≡ last.new
last_after start [] last = refl
last_after start (turn ∷ gone) last = last_after turn.new gone last

module _ (start new : SessionState) (turns : List (Transition SessionState)) (rest : List Line) (talk : List Piece) (input : Option (List ℕ)) (before code : ℕ) where
  behind : (gone : List (Transition SessionState)) (last : Transition SessionState) → turns ≡ gone ++ last ∷ [] → new ≡ last.new → new ≡ state_after start turns
  behind gone last are is = is ∙ sym (last_after start gone last) ∙ ap (state_after start) (sym are)

  pub broken_off : BreaksOff start turns (said talk) before new code → new ≡ state_after start turns
  broken_off (inl all) = all.1.state_is
  broken_off (inr unsaid) = behind unsaid.gone unsaid.last unsaid.turns_are unsaid.state_is

  -- the state is the one that the turns leave, where the layers are saved
  pub state_left : (ended : LinkEnd SavingBreak) → IsEnded (tool_end_of ended) → Answered BreaksSaving ended start turns rest talk input before new code → new ≡ state_after start turns
  state_left link.Done is answered = answered.are_said.state_is
  state_left link.LinkFault is (inl lost) = lost.answered.are_said.state_is
  state_left link.LinkFault is (inr cut) = behind cut.answered.gone cut.answered.last cut.answered.turns_are cut.answered.state_is
  state_left link.TooLong is answered = answered.answered.are_said.state_is
  state_left link.OutOfMemory is answered = absurd is
  state_left (link.Broken (saving.Step step.Term)) is answered = absurd is
  state_left (link.Broken (saving.Step (step.Wire line))) is answered = absurd is
  state_left (link.Broken (saving.Step step.OutOfMemory)) is answered = absurd is
  state_left (link.Broken (saving.Save (save.Failed path))) is answered = absurd is
  state_left (link.Broken (saving.Save save.OutOfMemory)) is answered = absurd is

  left_so : new ≡ state_after start turns → new.files.view.disk ≡ (state_after start turns).files.view.disk
  left_so is = ap (λ (s : SessionState). s.files.view.disk) is

  -- behind the last turn only the save at which the session broke off changes the disk
  last_saves : (ended : LinkEnd SavingBreak) → Answered BreaksSaving ended start turns rest talk input before new code
      → AreSaves (state_after start turns).files.view.disk (broken_save ended (state_after start turns) new) new.files.view.disk
  last_saves link.Done answered = left_so (state_left link.Done tt answered)
  last_saves link.LinkFault answered = left_so (state_left link.LinkFault tt answered)
  last_saves link.TooLong answered = left_so (state_left link.TooLong tt answered)
  last_saves link.OutOfMemory answered = left_so (broken_off answered)
  last_saves (link.Broken (saving.Step error)) answered = breaks_reads (state_after start turns) new answered.line error answered.broke
  last_saves (link.Broken (saving.Save error)) answered = (refl, answered.broke.is, (λ failed. refl), refl)

  -- the saves of the session alone change the disk
  pub session_saves : IsExecution TakesSaving start turns → (ended : LinkEnd SavingBreak) → Answered BreaksSaving ended start turns rest talk input before new code
      → AreSaves start.files.view.disk (saves_in start turns ++ broken_save ended (state_after start turns) new) new.files.view.disk
  session_saves course ended answered =
      saves_joined start.files.view.disk (state_after start turns).files.view.disk new.files.view.disk (saves_in start turns) (broken_save ended (state_after start turns) new)
      (lines_save start turns course) (inl (saves_done start turns)) (last_saves ended answered)

-- where the layers are saved at the end the session broke off at no save
none_broken : (ended : LinkEnd SavingBreak) → IsEnded (tool_end_of ended) → (old new : SessionState) → AllDone (broken_save ended old new)
none_broken link.Done is old new = tt
none_broken link.LinkFault is old new = tt
none_broken link.TooLong is old new = tt
none_broken link.OutOfMemory is old new = tt
none_broken (link.Broken (saving.Step error)) is old new = tt
none_broken (link.Broken (saving.Save (save.Failed path))) is old new = absurd is
none_broken (link.Broken (saving.Save save.OutOfMemory)) is old new = absurd is

-- and one at which it did is of layers of the same databases
broken_kept : (ended : LinkEnd SavingBreak) (old new : SessionState) (kinds : List Kind) → specs_of old ≡ kinds → AllByRecursion (IsOfKinds kinds) (broken_save ended old new)
broken_kept link.Done old new kinds is = tt
broken_kept link.LinkFault old new kinds is = tt
broken_kept link.TooLong old new kinds is = tt
broken_kept link.OutOfMemory old new kinds is = tt
broken_kept (link.Broken (saving.Step error)) old new kinds is = tt
broken_kept (link.Broken (saving.Save error)) old new kinds is = (is, tt)

-- ---- a session that is finished

-- the row that sets `seen` on a question
abbrev seen_row : QuestionContext → StoreState → List ℕ → ItemParts → List Write
seen_row at store name item = question_write store.layers at name item (SetFlag (codes "seen") true) ∷ []

-- it is set, or not
seen_keeps : (at : QuestionContext) (store : StoreState) (name : List ℕ) → specs_in (with_seen at store name).layers ≡ specs_in store.layers
seen_keeps at store name = by_item (question store.layers at name) where
  by_row : (item : ItemParts) (done : Option StoreState) → commit store (seen_row at store name item) ≡ done → specs_in (result_unwrap_or (done_or name done) store).layers ≡ specs_in store.layers
  by_row item None is = refl
  by_row item (Some new) is = same_specs (names_of (seen_row at store name item)) store.layers new.layers (row_keeps store new (seen_row at store name item) is)

  by_item : (item : Option ItemParts) → specs_in (result_unwrap_or (read name item (λ i. done_or name (commit store (seen_row at store name i)))) store).layers ≡ specs_in store.layers
  by_item None = refl
  by_item (Some item) = by_row item (commit store (seen_row at store name item)) refl

all_seen_keep : (at : QuestionContext) (store : StoreState) (names : List (List ℕ)) → specs_in (fold (with_seen at) store names).layers ≡ specs_in store.layers
all_seen_keep at store [] = refl
all_seen_keep at store (name ∷ names) = all_seen_keep at (with_seen at store name) names ∙ seen_keeps at store name

module _ (state : SessionState) (left : Resources) where
  finished_keeps : (served ended : LinkEnd SavingBreak) → IsFinished state served left ended → specs_in left.layers ≡ specs_of state
  finished_keeps served ended (inl all) = ap specs_in all.0 ∙ all_seen_keep state.at state.store state.asking.asked
  finished_keeps served ended (inr none) = same_specs state.asking.asked state.store.layers left.layers none.0

  session_keeps : (served ended : LinkEnd SavingBreak) → FinishesSession served state left ended → specs_in left.layers ≡ specs_of state
  session_keeps link.Done ended finishes = finished_keeps link.Done ended finishes
  session_keeps link.LinkFault ended finishes = finished_keeps link.LinkFault ended finishes
  session_keeps link.TooLong ended finishes = finished_keeps link.TooLong ended finishes
  session_keeps link.OutOfMemory ended finishes = ap specs_in finishes.0
  session_keeps (link.Broken error) ended finishes = ap specs_in finishes.0

no_memory_left : (ended : LinkEnd SavingBreak) → ended ≡ link.OutOfMemory → IsEnded (tool_end_of ended) → ⊥
no_memory_left ended is done = subst (λ (e : LinkEnd SavingBreak). IsEnded (tool_end_of e)) is done

-- a session after which the layers are saved was served to such an end
was_served : (served ended : LinkEnd SavingBreak) → (ended ≡ served) ⊎ (ended ≡ link.OutOfMemory) → IsEnded (tool_end_of ended) → IsEnded (tool_end_of served)
was_served served ended (inl same) done = subst (λ (e : LinkEnd SavingBreak). IsEnded (tool_end_of e)) same done
was_served served ended (inr none) done = absurd (no_memory_left ended none done)

-- ---- template files

finds_reads : (path : List ℕ) (old new : FilesState) (found : Found) → Finds path old found new → new.view.disk ≡ old.view.disk
finds_reads path old new Unreadable finds = ap (λ (t : FilesView). t.disk) finds.0
finds_reads path old new Missing finds = ap (λ (t : FilesView). t.disk) finds.told_is
finds_reads path old new (Faulty line) finds = ap (λ (t : FilesView). t.disk) finds.2.told_is
finds_reads path old new (Templates templates) finds = ap (λ (t : FilesView). t.disk) finds.1.told_is

none_reads : (path : List ℕ) (old new : FilesState) → FindsNoMemory path old new → new.view.disk ≡ old.view.disk
none_reads path old new (inl refused) = ap (λ (t : FilesView). t.disk) refused.0
none_reads path old new (inr read) = ap (λ (t : FilesView). t.disk) read.0

part_reads : (path : List ℕ) (old new : SessionState) → IsDoneInPart (LoadTemplateFile path None) old new → new.files.view.disk ≡ old.files.view.disk
part_reads path old new done = elim done.part [
  | inl given ↦ given_reads given
  | inr left ↦ finds_reads path old.files new.files left.given.found left.gives.looks
] where
  given_reads : GivesInPart (LoadTemplateFile path None) old new → new.files.view.disk ≡ old.files.view.disk
  given_reads given = elim given.gives [
    | inl vain ↦ none_reads path old.files new.files vain.0
    | inr shown ↦ ap (λ (f : FilesState). f.view.disk) shown.1
  ]

files_read : (start : SessionState) (turns : List FileTurn) → IsFileCourse start turns → (file_state start turns).files.view.disk ≡ start.files.view.disk
files_read start [] is = refl
files_read start (turn ∷ turns) is = files_read turn.new turns is.1 ∙ finds_reads turn.path start.files turn.new.files turn.found is.0.finds

end_reads : (ended : ToolEnd) (state : SessionState) (rest : List (List ℕ)) (new : SessionState) → EndsAt ended state rest new → new.files.view.disk ≡ state.files.view.disk
end_reads tool.Done state rest new ends = ap (λ (s : SessionState). s.files.view.disk) ends.1
end_reads (tool.FilesFault path) state rest new ends = finds_reads path state.files new.files Unreadable ends.2
end_reads tool.OutOfMemory state rest new ends = elim ends.3 [
  | inl same ↦ ap (λ (s : SessionState). s.files.view.disk) same
  | inr part ↦ part_reads ends.0 state new part
]
end_reads tool.LinkFault state rest new ends = absurd ends
end_reads tool.TooLong state rest new ends = absurd ends
end_reads tool.PrintFault state rest new ends = absurd ends
end_reads tool.TermFault state rest new ends = absurd ends
end_reads tool.ChildFault state rest new ends = absurd ends
end_reads (tool.BadWire line) state rest new ends = absurd ends

turn_keeps : (old : SessionState) (turn : FileTurn) → IsFileTurn old turn → specs_of turn.new ≡ specs_of old
turn_keeps old turn is =
    let command : Command = LoadTemplateFile turn.path None in
    let given : CommandInputs = record { found = turn.found; asked = Answers [] } in
    let left : SessionState = after_command old command given turn.new.files old.terminal in
    let done : HasDone command old (answer old command given).stepped left = record { given = given; gives = record { looks = is.finds; shows = (refl, refl) }; stepped_is = refl; new_is = refl } in
    ap specs_of is.new_is ∙ same_specs (names_on old command given) old.store.layers left.store.layers (others_stay command old left (answer old command given).stepped done)

files_keep : (start : SessionState) (turns : List FileTurn) → IsFileCourse start turns → specs_of (file_state start turns) ≡ specs_of start
files_keep start [] is = refl
files_keep start (turn ∷ turns) is = files_keep turn.new turns is.1 ∙ turn_keeps start turn is.0

end_keeps : (ended : ToolEnd) → IsEnded ended → (state : SessionState) (rest : List (List ℕ)) (new : SessionState) → EndsAt ended state rest new → specs_of new ≡ specs_of state
end_keeps tool.Done is state rest new ends = ap specs_of ends.1
end_keeps (tool.FilesFault path) is state rest new ends = absurd is
end_keeps tool.OutOfMemory is state rest new ends = absurd is
end_keeps tool.LinkFault is state rest new ends = absurd ends
end_keeps tool.TooLong is state rest new ends = absurd ends
end_keeps tool.PrintFault is state rest new ends = absurd is
end_keeps tool.TermFault is state rest new ends = absurd is
end_keeps tool.ChildFault is state rest new ends = absurd is
end_keeps (tool.BadWire line) is state rest new ends = absurd is

-- ---- tools

-- The saves of a tool in its middle alone change the disk, each is of layers of its databases, and where the tool then comes to its end all are done,
-- and its layers stay those of their databases.
pub record KeepsAll (saves : Bool) (start : SessionState) (ended : ToolEnd) (layers : List LayerState) (files : FilesState) (inner : List Save) : Type 0 where
  pub are : AreSaves start.files.view.disk inner files.view.disk
  pub kept : AllByRecursion (IsOfKinds (specs_of start)) inner
  pub done : IsEnded ended → AllDone inner
  pub specs : saves ≡ true → IsEnded ended → specs_in layers ≡ specs_of start

served_keeps : (start : SessionState) (old new : LinkState) (before : ℕ) (given : ToolAnswer) (left : Resources) (ended : LinkEnd SavingBreak) (saves : List Save) → given.ended ≡ tool_end_of ended
    → IsServedSaving start left old new ended before given.last_code saves → KeepsAll true start given.ended left.layers left.files saves
served_keeps start old new before given left ended saves ended_is is =
    let served = is.by in
    let ran = served.ran in
    let mid = state_after start ran.transitions in
    let behind : List Save = broken_save served.served mid served.state in
    let done : IsEnded given.ended → IsEnded (tool_end_of served.served) = λ to. was_served served.served ended (ends_so served.served served.state left ended served.finishes) (subst IsEnded ended_is to) in
    let saved_so : AreSaves start.files.view.disk (saves_in start ran.transitions ++ behind) served.state.files.view.disk
    = session_saves start served.state ran.transitions ran.rest ran.pieces old.input before given.last_code ran.course served.served ran.answered in
    record {
      are = subst (λ (l : List Save). AreSaves start.files.view.disk l left.files.view.disk) (sym is.saves_are)
          (subst (λ (f : FilesState). AreSaves start.files.view.disk (saves_in start ran.transitions ++ behind) f.view.disk) (sym served.files_are) saved_so);
      kept = subst (AllByRecursion (IsOfKinds (specs_of start))) (sym is.saves_are)
          (each_joined (IsOfKinds (specs_of start)) (saves_in start ran.transitions) behind (saves_kept start ran.transitions ran.course (specs_of start) refl)
          (broken_kept served.served mid served.state (specs_of start) (lines_keep start ran.transitions ran.course)));
      done = λ to. subst AllDone (sym is.saves_are) (done_joined (saves_in start ran.transitions) behind (saves_done start ran.transitions) (none_broken served.served (done to) mid served.state));
      specs = λ saves to.
          session_keeps served.state left served.served ended served.finishes
          ∙ ap specs_of (state_left start served.state ran.transitions ran.rest ran.pieces old.input before given.last_code served.served (done to) ran.answered)
          ∙ lines_keep start ran.transitions ran.course;
    }

-- a tool that makes no save in its middle
module _ (keeps : Bool) (start : SessionState) (ended : ToolEnd) (layers : List LayerState) (files : FilesState) (inner : List Save) (none : inner ≡ []) (same : files.view.disk ≡ start.files.view.disk) where
  none_made : (keeps ≡ true → IsEnded ended → specs_in layers ≡ specs_of start) → KeepsAll keeps start ended layers files inner
  none_made specs = record {
    are = subst (λ (l : List Save). AreSaves start.files.view.disk l files.view.disk) (sym none) same;
    kept = subst (AllByRecursion (IsOfKinds (specs_of start))) (sym none) tt;
    done = λ is. subst AllDone (sym none) tt;
    specs = specs;
  }

copy_keeps : (found : Option CopyRoots) (start : SessionState) (old new : Links) (before : ℕ) (given : ToolAnswer) (told : List ℕ) (left : Resources) (inner : List Save) → CopiesBy found start old new before given told left → inner ≡ []
    → KeepsAll true start given.ended left.layers left.files inner
copy_keeps None start old new before given told left inner none saves_are = absurd none
copy_keeps (Some copy) start old new before given told left inner is saves_are =
    none_made true start given.ended left.layers left.files inner saves_are (ap (λ (l : Resources). l.files.view.disk) is.left_is)
    (λ saves ended. same_specs (names start.store.layers start.at.config) start.store.layers left.layers is.others)

taken_keeps : (saves : Bool) (choices : Choices) (start : SessionState) (old new : LinkState) (before : ℕ) (given : ToolAnswer) (left : Resources) (inner : List Save) → HasTaken choices start old new before given left → inner ≡ []
    → KeepsAll saves start given.ended left.layers left.files inner
taken_keeps saves choices start old new before given left inner is saves_are =
    none_made saves start given.ended left.layers left.files inner saves_are (ap (λ (l : Resources). l.files.view.disk) is.left_is)
    (λ saved ended. ap (λ (l : Resources). specs_in l.layers) is.left_is
    ∙ selections_keep (selections_over start.store.layers start.at choices start.err) is.state old new is.ended before given.last_code is.selected (subst IsEnded is.ended_is ended))

pub tool_keeps : (used : Tool) (roots : Roots) (start : SessionState) (old new : Links) (before : ℕ) (given : ToolAnswer) (told : List ℕ) (left : Resources) (inner : List Save) → Uses used roots start old new before given told left inner
    → KeepsAll (keeps_changes used) start given.ended left.layers left.files inner
tool_keeps (Communicate owner) roots start old new before given told left inner uses = served_keeps start old.io new.io before given left uses.0.ended inner uses.0.ended_is uses.0.served
tool_keeps (LoadTemplate owner paths) roots start old new before given told left inner uses =
    let loads = uses.0.loaded in
    none_made true start given.ended left.layers left.files inner uses.1
    (ap (λ (l : Resources). l.files.view.disk) uses.0.left_is ∙ end_reads given.ended (file_state start loads.turns) loads.rest uses.0.state loads.ends ∙ files_read start loads.turns loads.course)
    (λ saves is. ap (λ (l : Resources). specs_in l.layers) uses.0.left_is ∙ end_keeps given.ended is (file_state start loads.turns) loads.rest uses.0.state loads.ends ∙ files_keep start loads.turns loads.course)
tool_keeps (Run owner frontend priority command) roots start old new before given told left inner uses = elim uses.0 [
  | inl none ↦ none_made true start given.ended left.layers left.files inner none.saves_are (ap (λ (l : Resources). l.files.view.disk) none.left_is) (λ saves is. ap (λ (l : Resources). specs_in l.layers) none.left_is)
  | inr started ↦ served_keeps start started.mid new.child before given left started.ended inner started.ended_is started.served
]
tool_keeps (Show database shown) roots start old new before given told left inner uses =
    none_made (keeps_changes (Show database shown)) start given.ended left.layers left.files inner uses.2 (ap (λ (l : Resources). l.files.view.disk) uses.0.left_is) (λ saves is. ap (λ (l : Resources). specs_in l.layers) uses.0.left_is)
tool_keeps (CopyDb copy) roots start old new before given told left inner uses = copy_keeps roots.copy start old new before given told left inner uses.0 uses.1
tool_keeps (SetSelections verbose check unseen) roots start old new before given told left inner uses =
    taken_keeps (not check) (record { verbose = verbose; check = check; unseen = unseen }) start old.io new.io before given left inner uses.0 uses.3
tool_keeps GetSelections roots start old new before given told left inner uses =
    none_made (keeps_changes GetSelections) start given.ended left.layers left.files inner uses.1 (ap (λ (l : Resources). l.files.view.disk) uses.0.left_is) (λ saves is. ap (λ (l : Resources). specs_in l.layers) uses.0.left_is)
tool_keeps (Drill count) roots start old new before given told left inner uses =
    none_made (keeps_changes (Drill count)) start given.ended left.layers left.files inner uses.2 (ap (λ (l : Resources). l.files.view.disk) uses.0.left_is) (λ saves is. cc)
tool_keeps (Answer command) roots start old new before given told left inner uses =
    none_made (keeps_changes (Answer command)) start given.ended left.layers left.files inner uses.3 (ap (λ (l : Resources). l.files.view.disk) uses.1) (λ saves is. cc)

-- ---- the save of a round

pub ended_then : (ended : ToolEnd) → comes_to_save ended ≡ true → IsEnded ended
ended_then tool.Done is = tt
ended_then tool.LinkFault is = tt
ended_then tool.TooLong is = tt
ended_then tool.PrintFault is = cc
ended_then tool.TermFault is = cc
ended_then tool.ChildFault is = cc
ended_then tool.OutOfMemory is = cc
ended_then (tool.FilesFault path) is = cc
ended_then (tool.BadWire line) is = cc

saved_then : (ended : ToolEnd) (given : Result (Unit {0}) SaveError) → end_by ended given ≡ end.Done → given ≡ Ok tt
saved_then ended (Ok done) is = refl
saved_then tool.Done (Err (save.Failed path)) is = cc
saved_then tool.LinkFault (Err (save.Failed path)) is = cc
saved_then tool.TooLong (Err (save.Failed path)) is = cc
saved_then tool.PrintFault (Err (save.Failed path)) is = cc
saved_then tool.TermFault (Err (save.Failed path)) is = cc
saved_then tool.ChildFault (Err (save.Failed path)) is = cc
saved_then tool.OutOfMemory (Err (save.Failed path)) is = cc
saved_then (tool.FilesFault fault) (Err (save.Failed path)) is = cc
saved_then (tool.BadWire line) (Err (save.Failed path)) is = cc
saved_then tool.Done (Err save.OutOfMemory) is = cc
saved_then tool.LinkFault (Err save.OutOfMemory) is = cc
saved_then tool.TooLong (Err save.OutOfMemory) is = cc
saved_then tool.PrintFault (Err save.OutOfMemory) is = cc
saved_then tool.TermFault (Err save.OutOfMemory) is = cc
saved_then tool.ChildFault (Err save.OutOfMemory) is = cc
saved_then tool.OutOfMemory (Err save.OutOfMemory) is = cc
saved_then (tool.FilesFault fault) (Err save.OutOfMemory) is = cc
saved_then (tool.BadWire line) (Err save.OutOfMemory) is = cc

unsent_not_done : (error : LinkError) → end_unsent error ≡ end.Done → ⊥
unsent_not_done Failed is = cc
unsent_not_done OutOfMemory is = cc

-- a round whose text wasn't sent, or for whose images there was no memory, didn't do all
undone : (ended : ToolEnd) (left new : Ground) (last : List Save) (how : End) → HasNotSent ended left new last how ⊎ HasNoImages left new last how → how ≡ end.Done → ⊥
undone ended left new last how (inl unsent) done = unsent_not_done unsent.unsent.error (sym unsent.unsent.end_is ∙ done)
undone ended left new last how (inr none) done = let wrong : end.OutOfMemory ≡ end.Done = sym none.end_is ∙ done in cc

none_saved : (ended : ToolEnd) (left new : Ground) (last : List Save) (how : End) → HasNotSent ended left new last how ⊎ HasNoImages left new last how → last ≡ []
none_saved ended left new last how (inl unsent) = unsent.saves_are
none_saved ended left new last how (inr none) = none.saves_are

of_done : (ended : ToolEnd) → end_of ended ≡ end.Done → IsEnded ended
of_done tool.Done is = tt
of_done tool.LinkFault is = tt
of_done tool.TooLong is = tt
of_done tool.PrintFault is = cc
of_done tool.TermFault is = cc
of_done tool.ChildFault is = cc
of_done tool.OutOfMemory is = cc
of_done (tool.FilesFault path) is = cc
of_done (tool.BadWire line) is = cc

module _ (left new : Ground) (last : List Save) (how : End) (ended : ToolEnd) where
  -- a round that did all was one of a tool that did
  pub ended_all : (saves : Bool) → Commits saves ended left new last how → how ≡ end.Done → IsEnded ended
  ended_all true (inl has) done =
      let all : end_by ended has.answer ≡ end.Done = sym has.end_is ∙ done in
      of_done ended (ap (end_by ended) (sym (saved_then ended has.answer all)) ∙ all)
  ended_all true (inr none) done = absurd (undone ended left new last how none done)
  ended_all false has done = of_done ended (sym has.end_is ∙ done)

  -- what is said of the layers that are saved is said of each save
  pub each_save : (Of : List LayerState → Type 0) (saves : Bool) → Commits saves ended left new last how → (saves ≡ true → Of left.used) → AllByRecursion (λ save. Of save.layers) last
  each_save Of true (inl has) of = subst (AllByRecursion (λ (save : Save). Of save.layers)) (sym has.saves_are) (of refl, tt)
  each_save Of true (inr none) of = subst (AllByRecursion (λ (save : Save). Of save.layers)) (sym (none_saved ended left new last how none)) tt
  each_save Of false has of = subst (AllByRecursion (λ (save : Save). Of save.layers)) (sym has.saves_are) tt

  -- where the round did all, its save is done
  pub all_saved_then : (saves : Bool) → Commits saves ended left new last how → how ≡ end.Done → AllDone last
  all_saved_then true (inl has) done = subst AllDone (sym has.saves_are) (saved_then ended has.answer (sym has.end_is ∙ done), tt)
  all_saved_then true (inr none) done = absurd (undone ended left new last how none done)
  all_saved_then false has done = subst AllDone (sym has.saves_are) tt

-- ---- the program is waited for

-- a run that did all had done all before its program was waited for
waited_done : (how : End) → end_unwaited how ≡ end.Done → how ≡ end.Done
waited_done end.Done is = refl
waited_done (end.Usage word) is = is
waited_done (end.ConfRefused line kind) is = is
waited_done (end.BadPattern place) is = is
waited_done (end.PatternTooLarge place) is = is
waited_done (end.Damaged path line) is = is
waited_done end.OutOfMemory is = is
waited_done (end.FilesFault path) is = is
waited_done end.LinkFault is = is
waited_done end.TermFault is = is
waited_done end.ChildFault is = is
waited_done end.TooLong is = is
waited_done (end.BadWire line) is = is

pub done_before : (started : Bool) (mid now : LinkState) (how ended : End) (status left : ℕ) → Awaits started mid now how ended status left → ended ≡ end.Done → how ≡ end.Done
done_before true mid now how ended status left (inl done) is = sym done.end_is ∙ is
done_before true mid now how ended status left (inr failed) is = waited_done how (sym failed.end_is ∙ is)
done_before false mid now how ended status left none is = sym none.end_is ∙ is

-- ---- the layers that are saved are of the configuration

module _ (words : List (List ℕ)) (used : Tool) (named : Names words used) (disk : Option Disk) (path : List ℕ) (conf : Configuration) (is : IsConfiguration used disk path conf) (layers : List LayerState)
    (specs : specs_in layers ≡ set_for (databases_of used conf)) where
  pub of_configuration : AreOfConfiguration words disk path layers
  of_configuration = record {
    used = used;
    named = named;
    conf = conf;
    conf_is = is;
    are_of = layers_of layers (databases_of used conf) (set_up_for layers (databases_of used conf) specs);
    apart = places_apart (databases_of used conf) (images_of layers) (fit_kept conf (roots used conf) (sound_answer (conf_text used is.text) conf is.reads))
        (places_kept_apart conf (roots used conf) (sound_answer (conf_text used is.text) conf is.reads)) (layers_of layers (databases_of used conf) (set_up_for layers (databases_of used conf) specs));
  }

-- ---- one save

-- where its images are apart, today's sentence follows
pub kept_by_one : (save : Save) (before after : Disk) → AreSaves (Some before) (save ∷ []) (Some after) → AreApart (images_of save.layers) → IsDurable before.current → KeepsEachPath (images_of save.layers) before after save.answer
kept_by_one save before after are apart durable =
    let images = images_of save.layers in
    let finish : Ends images before.current after.current save.answer = ends images save.before.view save.after.view save.answer are.1.saves before after are.0 (sym are.3) durable in
    record {
      keeps = keeps_paths images before after apart durable (every_moment images save.before.view save.after.view save.answer are.1.saves before after are.0 (sym are.3) durable);
      ends = finish;
      stands = λ ok. subst (StandSaved images before.current) (sym (subst (Ends images before.current after.current) ok finish)) (stand_saved images before.current apart);
    }
