-- At a run that did all, each call of the files that failed was one of a load that was left out, or the read of a command with code 100.
use Rattle.std.proofs.Common.{◌≡◌, ◌⊎◌, inl, inr, ℕ, Bool, true, false, if◌then◌else◌, List, [], ◌∷◌, ◌++◌, refl, ap, sym, subst, ◌∙◌, append_assoc, append-nil}
use Rattle.std.specs.Prelude.{◌≢◌, Option, Some, None, unwrap_or, Result, Ok, Err}
use Rattle.std.specs.List.{AllByRecursion}
use Rattle.dc_words.specs.declared.stream.Line.{Line}
use Rattle.dc_words.specs.declared.stream.Line.TheVariants.{Whole, TooLong}
use Rattle.dc_outside.specs.Disk.{Disk}
use Rattle.dc_outside.specs.State.{FilesState, FilesView, LinkState}
use Rattle.dc_outside.specs.Steps.{Step, Writing, Syncing, Renaming, SyncingNames, Removing, after_look, after_step, call_of, then_calls}
use Rattle.dc_outside.specs.Talk.{then_pieces}
use Rattle.dc_outside.specs.declared.files.FilesCall.{FilesCall}
use Rattle.dc_outside.specs.declared.files.FilesOp.{FilesOp}
use Rattle.dc_outside.specs.declared.files.FilesOp.TheVariants.{Read, List as ListOf}
use Rattle.dc_proto.specs.Commands.{heard}
use Rattle.dc_proto.specs.Replies.{printed}
use Rattle.dc_proto.specs.declared.command.Command.{Command}
use Rattle.dc_proto.specs.declared.command.Command.TheVariants.{Version, Capb, SetTitle, Title, Input, BeginBlock, EndBlock, Go, Clear, Stop, Get, Set, Reset, Subst, Fget, Fset, Metaget, Register, Unregister, Purge, ProgressStart, ProgressSet, ProgressStep, ProgressInfo, ProgressStop, LoadTemplateFile, XSave}
use Rattle.dc_proto.specs.declared.command.Heard.{Heard}
use Rattle.dc_proto.specs.declared.command.Heard.TheVariants.{Nothing, Known, Refused}
use Rattle.dc_conf.specs.declared.spec.LayerSort.{LayerSort}
use Rattle.dc_conf.specs.declared.spec.LayerSort.TheVariants.{File, Tree, Pack, Pipe}
use Rattle.dc_conf.specs.declared.spec.LayerSpec.{LayerSpec}
use Rattle.dc_layer.specs.State.{LayerState}
use Rattle.dc_layer.specs.declared.image.Image.{Image}
use Rattle.dc_save.specs.FolderLoading.{FailsOn, after_reads, its_files, path_at, reads_of}
use Rattle.dc_save.specs.Loading.{LoadsBy, LoadsFilesBy, LoadsFiles, LoadsLayer}
use Rattle.dc_save.specs.Saving.{after_images, image_steps}
use Rattle.dc_save.specs.Steps.{after_steps}
use Rattle.dc_save.specs.declared.loading.Loaded.{Loaded}
use Rattle.dc_save.specs.declared.loading.Loaded.TheVariants.{Here, LeftOut}
use Rattle.dc_shelf.specs.Shelves.{GoesOn, LoadAnswer, LoadsAll, LoadsOne, Sources}
use Rattle.dc_shelf.specs.declared.loading.SourceError.{SourceError}
use Rattle.dc_shelf.specs.declared.loading.SourceError.TheVariants as source
use Rattle.dc_serve.specs.Execution.{Transition, IsExecution, state_after}
use Rattle.dc_serve.specs.declared.machine.Response.{Response}
use Rattle.dc_session.specs.Answers.{CommandInputs, answer, loading}
use Rattle.dc_session.specs.Machine.{TakesLine, Looks, Steps, StepsHeard, file_of, sent_in}
use Rattle.dc_session.specs.Refusals.{read_fault}
use Rattle.dc_session.specs.SessionState.{SessionState}
use Rattle.dc_session.specs.TemplateFiles.{Finds}
use Rattle.dc_session.specs.declared.stepped.Stepped.{Stepped}
use Rattle.dc_session.specs.declared.template_files.Found.{Found}
use Rattle.dc_session.specs.declared.template_files.Found.TheVariants.{Unreadable, Missing, Faulty, Templates}
use Rattle.dc_session.specs.Serving.{Resources}
use Rattle.dc_cli.specs.declared.tool.Tool.{Tool}
use Rattle.dc_cli.specs.declared.tool.Tool.TheVariants.{Communicate, LoadTemplate, Run, Show, CopyDb, SetSelections, GetSelections, Drill, Answer}
use Rattle.dc_run.specs.Finishing.{images_of}
use Rattle.dc_run.specs.OneRound.{HasUsed}
use Rattle.dc_run.specs.SavingSession.{TakesSaving}
use Rattle.dc_run.specs.Starting.{begun, conf_read, conf_read_in, has_files, keeps_changes, loaded_of}
use Rattle.dc_run.specs.TemplateLoading.{FileTurn, IsFileCourse, EndsAt, state_after as file_state}
use Rattle.dc_run.specs.World.{World, before_rounds, ground_in, ground_of, on_ground}
use Rattle.dc_run.specs.declared.outcome.End.{End}
use Rattle.dc_run.specs.declared.outcome.End.TheVariants as end
use Rattle.dc_run.specs.declared.outcome.Outcome.{Outcome}
use Rattle.dc_run.specs.declared.outcome.ToolEnd.{ToolEnd}
use Rattle.dc_run.specs.declared.outcome.ToolEnd.TheVariants as tool
use Rattle.dc_run.specs.declared.settings.Settings.{Settings}
use Rattle.dc_run.proofs.CountLemmas.{used_links}
use Rattle.dc_run.proofs.PipeLemmas.{io_stays, io_unused}
use Rattle.dc_run.specs.Ends.{LinksCount}
use Rattle.dc_theorem.specs.Completeness.{AddCalls, AreItsTurns, FailsAtMost, IsOfAny, IsOfOptional, IsReadBy, IsReadIn}
use Rattle.dc_theorem.proofs.CountsLater.{copied_files}
use Rattle.dc_theorem.proofs.SavingLines.{TakesSave, save_files, line_or_save}
use Rattle.dc_theorem.proofs.EndLemmas.{HasKept, WasServed, kept_so, unstarted_other, waited, was_served}

-- ---- calls, one after another

no_calls : (calls : Option (List FilesCall)) → calls ≡ then_calls calls []
no_calls None = refl
no_calls (Some calls) = ap (λ (cs : List FilesCall). Some cs) (sym (append-nil calls))

more_calls : (calls : Option (List FilesCall)) (first second : List FilesCall) → then_calls (then_calls calls first) second ≡ then_calls calls (first ++ second)
more_calls None first second = refl
more_calls (Some calls) first second = ap (λ (cs : List FilesCall). Some cs) (append_assoc calls first second)

both_all : (P : FilesCall → Type 0) (first second : List FilesCall) → AllByRecursion P first → AllByRecursion P second → AllByRecursion P (first ++ second)
both_all P [] second a b = b
both_all P (call ∷ first) second a b = (a.0, both_all P first second a.1 b)

weaker_all : (P Q : FilesCall → Type 0) (calls : List FilesCall) → ((call : FilesCall) → P call → Q call) → AllByRecursion P calls → AllByRecursion Q calls
weaker_all P Q [] to a = tt
weaker_all P Q (call ∷ calls) to a = (to call a.0, weaker_all P Q calls to a.1)

pub so_weaker : (P Q : FilesCall → Type 0) (old new : FilesView) → ((call : FilesCall) → P call → Q call) → AddCalls P old new → AddCalls Q old new
so_weaker P Q old new to adds = record {
  calls = adds.calls;
  told_is = adds.told_is;
  failed = weaker_all (λ call. call.ok ≡ false → P call) (λ call. call.ok ≡ false → Q call) adds.calls (λ call was failed. to call (was failed)) adds.failed;
}

module _ (So : FilesCall → Type 0) where
  pub adds_none : (old new : FilesView) → new ≡ old → AddCalls So old new
  adds_none old new same = record { calls = []; told_is = ap (λ (v : FilesView). v.calls) same ∙ no_calls old.calls; failed = tt }

  pub adds_then : (old mid new : FilesView) → AddCalls So old mid → AddCalls So mid new → AddCalls So old new
  adds_then old mid new first second = record {
    calls = first.calls ++ second.calls;
    told_is = second.told_is ∙ ap (λ (c : Option (List FilesCall)). then_calls c second.calls) first.told_is ∙ more_calls old.calls first.calls second.calls;
    failed = both_all (λ call. call.ok ≡ false → So call) first.calls second.calls first.failed second.failed;
  }

  -- a call that was answered
  adds_look : (old new : FilesView) (op : FilesOp) (path : List ℕ) → new ≡ after_look old op path true → AddCalls So old new
  adds_look old new op path is = record { calls = record { op = op; path = path; ok = true } ∷ []; told_is = ap (λ (v : FilesView). v.calls) is; failed = ((λ failed. absurd (cc)), tt) }

  -- one that failed
  adds_fault : (old new : FilesView) (op : FilesOp) (path : List ℕ) → So (record { op = op; path = path; ok = false }) → new ≡ after_look old op path false → AddCalls So old new
  adds_fault old new op path so is = record { calls = record { op = op; path = path; ok = false } ∷ []; told_is = ap (λ (v : FilesView). v.calls) is; failed = ((λ failed. so), tt) }

  -- ---- reads of a folder

  adds_reads : (old : FilesView) (spec : LayerSpec) (files : List (List ℕ)) → AddCalls So old (reads_of old spec files)
  adds_reads old spec [] = adds_none old old refl
  adds_reads old spec (file ∷ files) =
      let mid : FilesView = after_look old Read (path_at spec file) true in
      adds_then old mid (reads_of mid spec files) (adds_look old mid Read (path_at spec file) refl) (adds_reads mid spec files)

  adds_folder : (old : FilesView) (spec : LayerSpec) (files : List (List ℕ)) → AddCalls So old (after_reads old spec files)
  adds_folder old spec files =
      let mid : FilesView = after_look old ListOf spec.place true in
      adds_then old mid (reads_of mid spec files) (adds_look old mid ListOf spec.place refl) (adds_reads mid spec files)

  -- ---- the save

  step_ok : (step : Step) → (call_of true step).ok ≡ true
  step_ok (Writing path file) = refl
  step_ok (Syncing path) = refl
  step_ok (Renaming from to) = refl
  step_ok SyncingNames = refl
  step_ok (Removing path) = refl

  not_both : (b : Bool) → b ≡ true → b ≡ false → ⊥
  not_both b is other = cc

  adds_step : (old : FilesView) (step : Step) → AddCalls So old (after_step old step)
  adds_step old step = record { calls = call_of true step ∷ []; told_is = refl; failed = ((λ failed. absurd (not_both (call_of true step).ok (step_ok step) failed)), tt) }

  adds_steps : (old : FilesView) (steps : List Step) → AddCalls So old (after_steps old steps)
  adds_steps old [] = adds_none old old refl
  adds_steps old (step ∷ steps) = adds_then old (after_step old step) (after_steps old (step ∷ steps)) (adds_step old step) (adds_steps (after_step old step) steps)

  pub adds_images : (old : FilesView) (images : List Image) → AddCalls So old (after_images old images)
  adds_images old [] = adds_none old old refl
  adds_images old (image ∷ images) =
      let mid : FilesView = after_steps old (image_steps image) in
      adds_then old mid (after_images mid images) (adds_steps old (image_steps image)) (adds_images mid images)

  pub adds_conf : (in_file : Bool) (old : FilesView) (path : List ℕ) → AddCalls So old (if in_file then after_look old Read path true else old)
  adds_conf true old path = adds_look old (after_look old Read path true) Read path refl
  adds_conf false old path = adds_none old old refl

-- ---- loads

module _ (spec : LayerSpec) (optional : spec.required ≡ false) where
  of_place : (op : FilesOp) → IsOfOptional spec (record { op = op; path = spec.place; ok = false })
  of_place op = record { optional = optional; path_is = inl refl }

  fails_on : (path : List ℕ) (old new : FilesView) → FailsOn spec path old new → AddCalls (IsOfOptional spec) old new
  fails_on path old new (inl is) =
      adds_fault (IsOfOptional spec) old new ListOf path (record { optional = optional; path_is = inl is.0 }) is.1
  fails_on path old new (inr is) =
      let mid : FilesView = after_reads old spec is.before in
      adds_then (IsOfOptional spec) old mid new (adds_folder (IsOfOptional spec) old spec is.before)
      (adds_fault (IsOfOptional spec) mid new Read path (record { optional = optional; path_is = inr (is.file, is.path_is) }) is.told_is)

  out_adds : (sort : LayerSort) (old new : FilesView) → LoadsFilesBy sort old new spec (Ok LeftOut) → AddCalls (IsOfOptional spec) old new
  out_adds File old new is = adds_fault (IsOfOptional spec) old new Read spec.place (of_place Read) is
  out_adds Tree old new is = fails_on is.0 old new is.1
  out_adds Pack old new is = fails_on is.0 old new is.1
  out_adds Pipe old new is = absurd is

here_adds : (So : FilesCall → Type 0) (spec : LayerSpec) (sort : LayerSort) (old new : FilesView) → LoadsFilesBy sort old new spec (Ok Here) → AddCalls So old new
here_adds So spec File old new is = adds_look So old new Read spec.place is
here_adds So spec Tree old new is = subst (AddCalls So old) (sym is.2) (adds_folder So old spec (its_files spec is.0))
here_adds So spec Pack old new is = subst (AddCalls So old) (sym is.2) (adds_folder So old spec (its_files spec is.0))
here_adds So spec Pipe old new is = absurd is

out_optional : (sort : LayerSort) (disk : Option Disk) (spec : LayerSpec) (layer made : LayerState) → LoadsBy sort disk spec layer made (Ok LeftOut) → spec.required ≡ false
out_optional File disk spec layer made is = is.0
out_optional Tree disk spec layer made is = is.0
out_optional Pack disk spec layer made is = is.0
out_optional Pipe disk spec layer made is = absurd is

load_adds : (spec : LayerSpec) (layer made : LayerState) (files mid : FilesView) (loaded : Loaded) → LoadsLayer files.disk spec layer made (Ok loaded) → LoadsFiles files mid spec (Ok loaded) → AddCalls (IsOfOptional spec) files mid
load_adds spec layer made files mid Here loads looks = here_adds (IsOfOptional spec) spec spec.sort files mid looks
load_adds spec layer made files mid LeftOut loads looks = out_adds spec (out_optional spec.sort files.disk spec layer made loads) spec.sort files mid looks

no_error : (error : SourceError) → ◌≡◌ {A = Result (Unit {0}) SourceError} (Ok tt) (Err error) → ⊥
no_error error is = cc

module _ (spec : LayerSpec) (specs : List LayerSpec) (layer made : LayerState) (from mid left : Sources) (more last : Type 0) (rest : more → AddCalls (IsOfAny specs) mid.files.view left.files.view) where
  abbrev Among : FilesCall → Type 0
  Among = IsOfAny (spec ∷ specs)

  -- those of the other loads behind those of this one
  adds_here : AddCalls Among from.files.view mid.files.view → more → AddCalls Among from.files.view left.files.view
  adds_here first goes = adds_then Among from.files.view mid.files.view left.files.view first
      (so_weaker (IsOfAny specs) Among mid.files.view left.files.view (λ call so. inr so) (rest goes))

  goes_add : (first : LoadAnswer) → LoadsOne spec layer made from mid first → GoesOn first (Ok tt) more last → AddCalls Among from.files.view left.files.view
  goes_add (LoadAnswer.OfFiles (Ok loaded)) is goes =
      adds_here (so_weaker (IsOfOptional spec) Among from.files.view mid.files.view (λ call so. inl so) (load_adds spec layer made from.files.view mid.files.view loaded is.0 is.1)) goes
  goes_add (LoadAnswer.OfPipe (Ok loaded)) is goes = adds_here (adds_none Among from.files.view mid.files.view (ap (λ (f : FilesState). f.view) is.2)) goes
  goes_add (LoadAnswer.OfFiles (Err error)) is goes = absurd (no_error (source.Files error) goes.0)
  goes_add (LoadAnswer.OfPipe (Err error)) is goes = absurd (no_error (source.Pipe error) goes.0)

pub loads_add : (specs : List LayerSpec) (old new : List LayerState) (from left : Sources) → LoadsAll specs old new from left (Ok tt) → AddCalls (IsOfAny specs) from.files.view left.files.view
loads_add [] old new from left loads = adds_none (IsOfAny []) from.files.view left.files.view (ap (λ (s : Sources). s.files.view) loads.2)
loads_add (spec ∷ specs) [] new from left loads = absurd loads
loads_add (spec ∷ specs) (layer ∷ old) [] from left loads = absurd loads
loads_add (spec ∷ specs) (layer ∷ old) (made ∷ new) from left loads =
    goes_add spec specs layer made from loads.1 left _ _ (loads_add specs old new loads.1 left) loads.0 loads.2 loads.3

-- ---- turns

no_path : (path : List ℕ) → ◌≡◌ {A = Option (List ℕ)} None (Some path) → ⊥
no_path path is = cc

-- the command that looks at a file
templates_only : (command : Command) (path : List ℕ) → file_of command ≡ Some path → (owner : Option (List ℕ)) × (command ≡ LoadTemplateFile path owner)
templates_only (LoadTemplateFile other owner) path is = (owner, cc)
templates_only (Version v) path is = absurd (no_path path is)
templates_only (Capb ws) path is = absurd (no_path path is)
templates_only (SetTitle w) path is = absurd (no_path path is)
templates_only (Title t) path is = absurd (no_path path is)
templates_only (Input p w) path is = absurd (no_path path is)
templates_only BeginBlock path is = absurd (no_path path is)
templates_only EndBlock path is = absurd (no_path path is)
templates_only Go path is = absurd (no_path path is)
templates_only Clear path is = absurd (no_path path is)
templates_only Stop path is = absurd (no_path path is)
templates_only XSave path is = absurd (no_path path is)
templates_only (Get w) path is = absurd (no_path path is)
templates_only (Set w t) path is = absurd (no_path path is)
templates_only (Reset w) path is = absurd (no_path path is)
templates_only (Subst w k t) path is = absurd (no_path path is)
templates_only (Fget w k) path is = absurd (no_path path is)
templates_only (Fset w k t) path is = absurd (no_path path is)
templates_only (Metaget w f) path is = absurd (no_path path is)
templates_only (Register a b) path is = absurd (no_path path is)
templates_only (Unregister w) path is = absurd (no_path path is)
templates_only Purge path is = absurd (no_path path is)
templates_only (ProgressStart a b w) path is = absurd (no_path path is)
templates_only (ProgressSet n) path is = absurd (no_path path is)
templates_only (ProgressStep n) path is = absurd (no_path path is)
templates_only (ProgressInfo w) path is = absurd (no_path path is)
templates_only ProgressStop path is = absurd (no_path path is)

module _ (old : SessionState) (turn : Transition SessionState) where
  abbrev So : FilesCall → Type 0
  So call = IsReadBy old turn call

  -- what was found there is what is replied to
  finds_add : (path : List ℕ) (found : Found) → (found ≡ Unreadable → So (record { op = Read; path = path; ok = false })) → Finds path old.files found turn.new.files → AddCalls So old.files.view turn.new.files.view
  finds_add path Unreadable so finds = adds_fault So old.files.view turn.new.files.view Read path (so refl) finds.0
  finds_add path Missing so finds = adds_look So old.files.view turn.new.files.view Read path finds.told_is
  finds_add path (Faulty line) so finds = adds_look So old.files.view turn.new.files.view Read path finds.2.told_is
  finds_add path (Templates templates) so finds = adds_look So old.files.view turn.new.files.view Read path finds.1.told_is

  looks_add : (path : Option (List ℕ)) (found : Found) → ((file : List ℕ) → path ≡ Some file → found ≡ Unreadable → So (record { op = Read; path = file; ok = false })) → Looks path old.files found turn.new.files
      → AddCalls So old.files.view turn.new.files.view
  looks_add None found so looks = adds_none So old.files.view turn.new.files.view (ap (λ (f : FilesState). f.view) looks.1)
  looks_add (Some path) found so looks = finds_add path found (so path refl) looks

  state_add : turn.new ≡ old → AddCalls So old.files.view turn.new.files.view
  state_add same = adds_none So old.files.view turn.new.files.view (ap (λ (s : SessionState). s.files.view) same)

  module _ (line : List ℕ) (line_is : turn.line ≡ Whole line) (did : Stepped) (did_is : turn.did ≡ sent_in old.asking.escape did) where
    read_fault_by : (command : Command) (given : CommandInputs) → heard old.asking.escape line ≡ Known command → did ≡ (answer old command given).stepped → (path : List ℕ) → file_of command ≡ Some path → given.found ≡ Unreadable
        → So (record { op = Read; path = path; ok = false })
    read_fault_by command given heard_is stepped path looks unread =
        let only = templates_only command path looks in
        let owner : List ℕ = unwrap_or only.0 old.owner in
        let said : did ≡ (loading old owner Unreadable).stepped
        = stepped ∙ ap (λ (c : Command). (answer old c given).stepped) only.1 ∙ ap (λ (f : Found). (loading old owner f).stepped) unread in
        record {
          line = line;
          owner = only.0;
          text = printed old.asking.escape read_fault;
          line_is = line_is;
          heard_is = heard_is ∙ ap (λ (c : Command). Known c) only.1;
          replied = did_is ∙ ap (sent_in old.asking.escape) said;
        }

    heard_add : (said : Heard) → heard old.asking.escape line ≡ said → StepsHeard said old did turn.new → AddCalls So old.files.view turn.new.files.view
    heard_add Nothing is steps = state_add steps.1
    heard_add (Known command) is steps =
        looks_add (file_of command) steps.given.found (λ path looks unread. read_fault_by command steps.given is steps.stepped_is path looks unread) steps.gives.looks
    heard_add (Refused reply) is steps = state_add steps.1

  line_add : (line : Line) → turn.line ≡ line → (did : Stepped) → turn.did ≡ sent_in old.asking.escape did → Steps old line did turn.new → AddCalls So old.files.view turn.new.files.view
  line_add TooLong is did did_is steps = state_add steps.1
  line_add (Whole line) is did did_is steps = heard_add line is did did_is (heard old.asking.escape line) refl steps

-- what the layers told at a line is told behind it, which leaves the files
turn_add : (start : SessionState) (turn : Transition SessionState) → TakesLine start turn.line turn.did turn.new → AddCalls (IsReadBy start turn) start.files.view turn.new.files.view
turn_add start turn takes =
    let at : Transition SessionState = record { line = turn.line; did = turn.did; new = takes.mid } in
    let adds : AddCalls (IsReadBy start at) start.files.view takes.mid.files.view = line_add start at turn.line refl takes.handled.stepped takes.handled.did_is takes.handled.steps in
    subst (λ (s : SessionState). AddCalls (IsReadBy start turn) start.files.view s.files.view) (sym takes.tells.new_is)
    (so_weaker (IsReadBy start at) (IsReadBy start turn) start.files.view takes.mid.files.view (λ call so. record { line = so.line; owner = so.owner; text = so.text; line_is = so.line_is; heard_is = so.heard_is; replied = so.replied }) adds)

-- a save that is done adds calls that were all answered
save_add : (So : FilesCall → Type 0) (old new : SessionState) (did : Response) → TakesSave old did new → AddCalls So old.files.view new.files.view
save_add So old new did takes =
    subst (λ (f : FilesState). AddCalls So old.files.view f.view) (sym (save_files old new did takes)) (adds_images So old.files.view (images_of old.store.layers))

saving_add : (start : SessionState) (turn : Transition SessionState) → TakesSaving start turn.line turn.did turn.new → AddCalls (IsReadBy start turn) start.files.view turn.new.files.view
saving_add start turn takes = elim (line_or_save start turn.new turn.line turn.did takes) [
  | inl by_itself ↦ turn_add start turn by_itself
  | inr save ↦ save_add (IsReadBy start turn) start turn.new turn.did save
]

pub turns_add : (start : SessionState) (turns : List (Transition SessionState)) → IsExecution TakesSaving start turns → AddCalls (IsReadIn start turns) start.files.view (state_after start turns).files.view
turns_add start [] course = adds_none (IsReadIn start []) start.files.view start.files.view refl
turns_add start (turn ∷ turns) course =
    let So : FilesCall → Type 0 = IsReadIn start (turn ∷ turns) in
    adds_then So start.files.view turn.new.files.view (state_after turn.new turns).files.view
    (so_weaker (IsReadBy start turn) So start.files.view turn.new.files.view (λ call so. inl so) (saving_add start turn course.0))
    (so_weaker (IsReadIn turn.new turns) So turn.new.files.view (state_after turn.new turns).files.view (λ call so. inr so) (turns_add turn.new turns course.2))

-- ---- template files

module _ (So : FilesCall → Type 0) where
  found_add : (path : List ℕ) (old new : FilesState) (found : Found) → found ≢ Unreadable → Finds path old found new → AddCalls So old.view new.view
  found_add path old new Unreadable readable finds = absurd (readable refl)
  found_add path old new Missing readable finds = adds_look So old.view new.view Read path finds.told_is
  found_add path old new (Faulty line) readable finds = adds_look So old.view new.view Read path finds.2.told_is
  found_add path old new (Templates templates) readable finds = adds_look So old.view new.view Read path finds.1.told_is

  pub files_add : (start : SessionState) (turns : List FileTurn) → IsFileCourse start turns → AddCalls So start.files.view (file_state start turns).files.view
  files_add start [] course = adds_none So start.files.view start.files.view refl
  files_add start (turn ∷ turns) course =
      adds_then So start.files.view turn.new.files.view (file_state turn.new turns).files.view
      (found_add turn.path start.files turn.new.files turn.found course.0.readable course.0.finds) (files_add turn.new turns course.1)

-- ---- the run

-- where all is saved, or nothing
kept_adds : (So : FilesCall → Type 0) (keeps : Bool) (old new : FilesView) (images : List Image) → new ≡ (if keeps then after_images old images else old) → AddCalls So old new
kept_adds So true old new images is = subst (AddCalls So old) (sym is) (adds_images So old images)
kept_adds So false old new images is = adds_none So old new is

module _ (used : Tool) (settings : Settings) (old new : World) (outcome : Outcome) (run : HasUsed used settings old new outcome) (done : outcome.end ≡ end.Done) where
  abbrev specs : List LayerSpec
  specs = loaded_of used run.roots.conf

  abbrev start : SessionState
  start = begun used (before_rounds (on_ground old run.mid)) run.roots settings

  -- how it ended before the wait, and what the wait left of the link
  at_wait : (run.how ≡ end.Done) × (new.links.child.talk ≡ run.links.child.talk)
  at_wait = waited run.answer.is_started run.links.child new.links.child run.how outcome.end run.answer.status run.status done run.awaits

  pub at_save : (run.answer.ended ≡ tool.Done) × HasKept (keeps_changes used) run.left.layers new.stock.used run.left.files new.stock.files
  at_save = kept_so (ground_of run.left.files run.links.io run.left.layers) (ground_in new) run.how at_wait.0 (keeps_changes used) run.answer.ended run.finishes

  begins_adding : (So : FilesCall → Type 0) → ((call : FilesCall) → IsOfAny specs call → So call) → AddCalls So old.stock.files.view run.mid.sources.files.view
  begins_adding So among =
      let mid : FilesView = conf_read used old.stock.files.view settings.conf_path in
      adds_then So old.stock.files.view mid run.mid.sources.files.view (adds_conf So (has_files used) old.stock.files.view settings.conf_path)
      (so_weaker (IsOfAny specs) So mid run.mid.sources.files.view among (loads_add specs _ _ (conf_read_in used settings.conf_path (ground_in old).sources) run.mid.sources run.started.loaded.loads))

  abbrev SoOf : List (Transition SessionState) → FilesCall → Type 0
  SoOf turns call = IsOfAny specs call ⊎ IsReadIn start turns call

  -- the tool added these
  pub fails_by : (turns : List (Transition SessionState)) → AreItsTurns used start turns old.links new.links → AddCalls (IsReadIn start turns) run.mid.sources.files.view run.left.files.view → FailsAtMost used specs start old new
  fails_by turns are adds = record {
    turns = turns;
    are = are;
    adds = adds_then (SoOf turns) old.stock.files.view run.mid.sources.files.view new.stock.files.view (begins_adding (SoOf turns) (λ call so. inl so))
        (adds_then (SoOf turns) run.mid.sources.files.view run.left.files.view new.stock.files.view (so_weaker (IsReadIn start turns) (SoOf turns) run.mid.sources.files.view run.left.files.view (λ call so. inr so) adds)
        (kept_adds (SoOf turns) (keeps_changes used) run.left.files.view new.stock.files.view (images_of run.left.layers) at_save.1.files_are));
  }

  -- the tool used no files
  fails_without : AreItsTurns used start [] old.links new.links → run.left.files ≡ run.mid.sources.files → FailsAtMost used specs start old new
  fails_without are same = fails_by [] are (adds_none (IsReadIn start []) run.mid.sources.files.view run.left.files.view (ap (λ (f : FilesState). f.view) same))

  -- a session was served
  served_adds : (from to : LinkState) (code : ℕ) → (served : WasServed start run.left from to 0 code) → AddCalls (IsReadIn start served.ran.transitions) run.mid.sources.files.view run.left.files.view
  served_adds from to code served =
      subst (λ (f : FilesState). AddCalls (IsReadIn start served.ran.transitions) run.mid.sources.files.view f.view) (sym (served.files_are ∙ ap (λ (s : SessionState). s.files) served.ran.answered.are_said.state_is))
      (turns_add start served.ran.transitions served.ran.course)

pub fails_at_most : (used : Tool) (settings : Settings) (old new : World) (outcome : Outcome) (run : HasUsed used settings old new outcome) → outcome.end ≡ end.Done
    → FailsAtMost used (loaded_of used run.roots.conf) (begun used (before_rounds (on_ground old run.mid)) run.roots settings) old new
fails_at_most (Communicate owner) settings old new outcome run done =
    let Used : Tool = Communicate owner in
    let begins = begun Used (before_rounds (on_ground old run.mid)) run.roots settings in
    let served = was_served begins run.left run.mid.sources.link run.links.io run.uses.0.ended 0 run.answer.last_code (sym run.uses.0.ended_is ∙ (at_save Used settings old new outcome run done).0) run.uses.0.served.by in
    let ran = served.ran in
    fails_by Used settings old new outcome run done ran.transitions (
      ran.course,
      record {
        pieces = ran.pieces;
        told_is = ap (λ (l : LinkState). l.talk) (io_stays Used tt settings old new outcome run) ∙ ran.told_is ∙ ap (λ (l : LinkState). then_pieces l.talk ran.pieces) (io_unused Used tt settings old new outcome run);
        replied = ran.answered.are_said.pieces_are;
      },
    )
    (served_adds Used settings old new outcome run done run.mid.sources.link run.links.io run.answer.last_code served)
fails_at_most (LoadTemplate owner paths) settings old new outcome run done =
    let Used : Tool = LoadTemplate owner paths in
    let begins = begun Used (before_rounds (on_ground old run.mid)) run.roots settings in
    let loads = run.uses.0.loaded in
    let ends : run.uses.0.state ≡ file_state begins loads.turns
    = (subst (λ (e : ToolEnd). EndsAt e (file_state begins loads.turns) loads.rest run.uses.0.state) (at_save Used settings old new outcome run done).0 loads.ends).1 in
    fails_by Used settings old new outcome run done [] refl
    (subst (λ (f : FilesState). AddCalls (IsReadIn begins []) run.mid.sources.files.view f.view) (sym (ap (λ (l : Resources). l.files) run.uses.0.left_is ∙ ap (λ (s : SessionState). s.files) ends))
    (files_add (IsReadIn begins []) begins loads.turns loads.course))
fails_at_most (Run owner frontend priority command) settings old new outcome run done = elim run.uses.0 [
  | inl none ↦ absurd (unstarted_other none.unstarted.error (sym none.unstarted.ended_is ∙ (at_save (Run owner frontend priority command) settings old new outcome run done).0))
  | inr started ↦
      let Used : Tool = Run owner frontend priority command in
      let begins = begun Used (before_rounds (on_ground old run.mid)) run.roots settings in
      let served = was_served begins run.left started.mid run.links.child started.ended 0 run.answer.last_code (sym started.ended_is ∙ (at_save Used settings old new outcome run done).0) started.served.by in
      let ran = served.ran in
      fails_by Used settings old new outcome run done ran.transitions (
        ran.course,
        record {
          pieces = ran.pieces;
          told_is = (at_wait Used settings old new outcome run done).1 ∙ ran.told_is ∙ ap (λ (l : LinkState). then_pieces l.talk ran.pieces) started.starts.state;
          replied = ran.answered.are_said.pieces_are;
        },
      )
      (served_adds Used settings old new outcome run done started.mid run.links.child run.answer.last_code served)
]
fails_at_most (Show database shown) settings old new outcome run done =
    fails_without (Show database shown) settings old new outcome run done refl (ap (λ (l : Resources). l.files) run.uses.0.left_is)
fails_at_most (CopyDb copy) settings old new outcome run done =
    fails_without (CopyDb copy) settings old new outcome run done refl
    (copied_files run.roots.copy (begun (CopyDb copy) (before_rounds (on_ground old run.mid)) run.roots settings) (on_ground old run.mid).links run.links 0 run.answer run.told run.left run.uses.0)
fails_at_most (SetSelections verbose check unseen) settings old new outcome run done =
    fails_without (SetSelections verbose check unseen) settings old new outcome run done refl (ap (λ (l : Resources). l.files) run.uses.0.left_is)
fails_at_most GetSelections settings old new outcome run done = fails_without GetSelections settings old new outcome run done refl (ap (λ (l : Resources). l.files) run.uses.0.left_is)
fails_at_most (Answer command) settings old new outcome run done =
    fails_without (Answer command) settings old new outcome run done refl (ap (λ (l : Resources). l.files) run.uses.1)
fails_at_most (Drill count) settings old new outcome run done = fails_without (Drill count) settings old new outcome run done refl (ap (λ (l : Resources). l.files) run.uses.0.left_is)

-- behind its loads no call on its link failed
pub behind_stays : (used : Tool) (settings : Settings) (old new : World) (outcome : Outcome) (run : HasUsed used settings old new outcome) → outcome.end ≡ end.Done → new.links.io.counts ≡ run.mid.sources.link.counts
behind_stays used settings old new outcome run done =
    let links : LinksCount end.Done (on_ground old run.mid).links new.links
    = subst (λ (e : End). LinksCount e (on_ground old run.mid).links new.links) done (used_links used settings old new outcome run) in
    links.on_io
