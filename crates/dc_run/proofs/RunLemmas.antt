-- What a run of a tool comes to.
use Rattle.std.proofs.Common.{◌≡◌, ◌⊎◌, ◌&&◌, Bool, inl, inr, ℕ, ◌<◌, true, false, List, [], ◌∷◌, ◌++◌, length, Option, Some, Ok, Err, refl, sym, subst, ap, ◌∙◌, arith}
use Rattle.dc_outside.specs.LinkCalls.{Starts}
use Rattle.dc_outside.specs.declared.link.LinkError.{LinkError}
use Rattle.dc_layer.specs.State.{LayerState}
use Rattle.dc_frontend.specs.declared.frontend.Frontend.{Frontend}
use Rattle.dc_frontend.specs.declared.frontend.Frontend.TheVariants.{Noninteractive}
use Rattle.dc_proto.specs.declared.priority.Priority.{Priority}
use Rattle.dc_serve.specs.declared.outcome.LinkEnd.{LinkEnd}
use Rattle.dc_serve.specs.declared.outcome.LinkEnd.TheVariants as link
use Rattle.dc_session.specs.Serving.{IsFinished, Finishes as FinishesSession, Resources, resources_in, resources_of}
use Rattle.dc_drill.specs.Drilling.{Drills}
use Rattle.std.specs.Prelude.{codes, Result}
use Rattle.dc_outside.specs.State.{FilesState, LinkState}
use Rattle.dc_session.specs.SessionState.{ReadAhead, ScreenState, SessionState, nothing_typed, nowhere, terminal_at}
use Rattle.dc_session.specs.declared.stepped.StepError.{StepError}
use Rattle.dc_cli.specs.Tools.{AreRefusedAt, IsToolWords, Names, NamesTool, IsCommand, owner_of}
use Rattle.dc_cli.specs.declared.tool.Tool.{Tool}
use Rattle.dc_cli.specs.declared.tool.Tool.TheVariants.{Communicate, LoadTemplate, Run, Show, CopyDb, SetSelections, GetSelections, Drill, Answer}
use Rattle.dc_cli.specs.declared.tool.CopyWords.{CopyWords}
use Rattle.dc_cli.specs.declared.tool.PlacedWord.{PlacedWord}
use Rattle.dc_cli.specs.declared.tool.Shown.{Shown}
use Rattle.dc_run.specs.declared.outcome.End.{End}
use Rattle.dc_run.specs.declared.outcome.End.TheVariants as end
use Rattle.dc_run.specs.declared.outcome.Outcome.{Outcome}
use Rattle.dc_run.specs.declared.outcome.ToolAnswer.{ToolAnswer}
use Rattle.dc_run.specs.declared.settings.Settings.{Settings}
use Rattle.dc_run.specs.Roots.{CopyRoots, Roots}
use Rattle.dc_run.specs.EndLines.{end_line, HasSaid}
use Rattle.dc_run.specs.Ends.{status_of, tool_end_of, comes_to_save}
use Rattle.dc_run.specs.Headline.{HasRunTool, HasRunWords}
use Rattle.dc_run.specs.Jobs.{HasCommunicated, CopiesBy, answers_said, refused_status, shown_text}
use Rattle.dc_run.specs.Rounds.{Whole, Round, HasDone}
use Rattle.dc_run.specs.Saves.{Save, Commits}
use Rattle.dc_run.specs.SavingSession.{IsServedSaving}
use Rattle.dc_run.specs.declared.saving_session.SavingBreak.{SavingBreak}
use Rattle.dc_run.specs.Inside.{HasCommand, HasLoadedOver, HasServedProgram, HasPrinted, HasPrintedAnswers, DrillsOver, HasTakenOver, HasDrilledOver, CopiesOver, context_by}
use Rattle.dc_run.specs.Running.{HasAnswered, HasRunProgram, Awaits, end_unstarted}
use Rattle.dc_run.specs.Starting.{EndsBefore, HasStarted, begun, chosen, chosen_frontend, chosen_priority, keeps_changes, resources_for, session_at}
use Rattle.dc_run.specs.World.{Ground, Links, World, RunState, before_rounds, ground_in, links_of, on_ground, run_state, stock_of}
use Rattle.dc_run.proofs.RoundLemmas.{most_none, none_most}
use Rattle.dc_run.proofs.Saying.{none_said}

-- ---- a session that was served

-- it ends as its link was served, unless memory ran out
ended_by : {B : Type 0} (state : SessionState) (left : Resources) (served ended : LinkEnd B) → IsFinished state served left ended → (ended ≡ served) ⊎ (ended ≡ link.OutOfMemory)
ended_by state left served ended (inl all) = inl all.2
ended_by state left served ended (inr none) = inr none.2

pub ends_so : {B : Type 0} (served : LinkEnd B) (state : SessionState) (left : Resources) (ended : LinkEnd B) → FinishesSession served state left ended → (ended ≡ served) ⊎ (ended ≡ link.OutOfMemory)
ends_so link.Done state left ended finishes = ended_by state left link.Done ended finishes
ends_so link.LinkFault state left ended finishes = ended_by state left link.LinkFault ended finishes
ends_so link.TooLong state left ended finishes = ended_by state left link.TooLong ended finishes
ends_so link.OutOfMemory state left ended finishes = inr finishes.2
ends_so (link.Broken error) state left ended finishes = inl finishes.2

-- ---- what a tool does

-- a session of a tool that begins with these as the frontend and the priority that were chosen
abbrev begun_with : Tool → RunState → Roots → Settings → Option Frontend → Option Priority → SessionState
begun_with used state roots settings frontend priority = session_at (resources_for used state) roots settings (owner_of used) frontend priority

module _ (used : Tool) (state : RunState) (roots : Roots) (settings : Settings) (left : Resources) (old new : LinkState) (ended : LinkEnd SavingBreak) (before code : ℕ) (saves : List Save) where
  -- it was served with these
  pub served_with : (frontend : Option Frontend) (priority : Option Priority) → frontend ≡ chosen_frontend used settings roots → priority ≡ chosen_priority used settings roots
      → IsServedSaving (begun_with used state roots settings frontend priority) left old new ended before code saves → IsServedSaving (begun used state roots settings) left old new ended before code saves
  served_with frontend priority same_frontend same_priority served =
      subst (λ (f : Option Frontend). IsServedSaving (begun_with used state roots settings f (chosen_priority used settings roots)) left old new ended before code saves) same_frontend
      (subst (λ (p : Option Priority). IsServedSaving (begun_with used state roots settings frontend p) left old new ended before code saves) same_priority served)

-- the link was served, and that is the answer
pub was_communicated : (state : RunState) (roots : Roots) (settings : Settings) (owner : List ℕ) (left : Resources) (old new : LinkState) (ended : LinkEnd SavingBreak) (before code : ℕ) (saves : List Save)
    (priority : Option Priority) → priority ≡ chosen settings roots → (answer : ToolAnswer) → answer.last_code ≡ code → answer.ended ≡ tool_end_of ended → answer.status ≡ answer.last_code → answer.is_started ≡ false
    → IsServedSaving (begun_with (Communicate owner) state roots settings (Some Noninteractive) priority) left old new ended before code saves
    → HasCommunicated (begun (Communicate owner) state roots settings) old new before answer left saves
was_communicated state roots settings owner left old new ended before code saves priority same answer code_is ended_is status_is waits served = record {
  ended = ended;
  ended_is = ended_is;
  served = subst (λ (n : ℕ). IsServedSaving (begun (Communicate owner) state roots settings) left old new ended before n saves) (sym code_is)
      (served_with (Communicate owner) state roots settings left old new ended before code saves (Some Noninteractive) priority refl same served);
  status_is = status_is;
  waits = waits;
}

-- the program that was started was served, and that is the answer
pub was_served_for : (owner : List ℕ) (chosen_for : Option Frontend) (least : Option Priority) (command : List (List ℕ)) (state : RunState) (roots : Roots) (settings : Settings) (left : Resources) (old new : LinkState)
    (ended : LinkEnd SavingBreak) (before code : ℕ) (saves : List Save) (frontend : Option Frontend) (priority : Option Priority)
    → frontend ≡ chosen_frontend (Run owner chosen_for least command) settings roots → priority ≡ chosen_priority (Run owner chosen_for least command) settings roots
    → (answer : ToolAnswer) → answer.last_code ≡ code → answer.ended ≡ tool_end_of ended → answer.is_started ≡ true
    → IsServedSaving (begun_with (Run owner chosen_for least command) state roots settings frontend priority) left old new ended before code saves
    → HasServedProgram (begun (Run owner chosen_for least command) state roots settings) old new before answer left saves
was_served_for owner chosen_for least command state roots settings left old new ended before code saves frontend priority same_frontend same_priority answer code_is ended_is waits served = record {
  ended = ended;
  ended_is = ended_is;
  served = subst (λ (n : ℕ). IsServedSaving (begun (Run owner chosen_for least command) state roots settings) left old new ended before n saves) (sym code_is)
      (served_with (Run owner chosen_for least command) state roots settings left old new ended before code saves frontend priority same_frontend same_priority served);
  waits = waits;
}

module _ (roots : Roots) (settings : Settings) (io child new new_child err new_err : LinkState) (files left_files : FilesState) (layers left_layers : List LayerState) (ahead unused : ReadAhead) (before : ℕ) (answer : ToolAnswer) (saves : List Save) where
  abbrev found : RunState
  found = run_state io child err files layers ahead before

  abbrev left : RunState
  left = run_state new new_child new_err left_files left_layers unused answer.last_code

  -- the link was served
  pub communicated : (owner : List ℕ) → new_child ≡ child → HasCommunicated (begun (Communicate owner) found roots settings) io new before answer (resources_for (Communicate owner) left) saves
      → HasDone (Communicate owner) roots settings found left answer saves
  communicated owner same served = record {
    told = [];
    left = resources_for (Communicate owner) left;
    uses = (served, same, refl);
    stock_is = refl;
    said = none_said new_err;
    ahead_is = refl;
    code_is = refl;
  }

  -- a program was started, or not
  pub ran_program : (owner : List ℕ) (frontend : Option Frontend) (priority : Option Priority) (command : List (List ℕ))
      → HasRunProgram command (begun (Run owner frontend priority command) found roots settings) (links_of io child) (links_of new new_child) before answer (resources_for (Run owner frontend priority command) left) saves
      → HasDone (Run owner frontend priority command) roots settings found left answer saves
  ran_program owner frontend priority command ran = record {
    told = [];
    left = resources_for (Run owner frontend priority command) left;
    uses = (ran, refl);
    stock_is = refl;
    said = none_said new_err;
    ahead_is = refl;
    code_is = refl;
  }

module _ (roots : Roots) (settings : Settings) (io child err new_err : LinkState) (files left_files : FilesState) (layers left_layers : List LayerState) (ahead : ReadAhead) (before : ℕ) (answer : ToolAnswer) where
  -- files were loaded
  pub loaded_files : (owner : List ℕ) (paths : List (List ℕ)) → HasLoadedOver (begun (LoadTemplate owner paths) (run_state io child err files layers ahead before) roots settings) paths err new_err before answer left_layers left_files
      → HasDone (LoadTemplate owner paths) roots settings (run_state io child err files layers ahead before) (run_state io child new_err left_files left_layers ahead answer.last_code) answer []
  loaded_files owner paths over = record {
    told = over.said;
    left = resources_in over.state;
    uses = (record { state = over.state; left_is = refl; loaded = over.loads; last_code_is = over.last_code_is; links_are = refl; waits = over.waits }, refl);
    stock_is = λ i. stock_of (over.files_are i) (over.layers_are i);
    said = subst (λ (l : LinkState). HasSaid over.said l new_err) (sym over.err_is) over.telling;
    ahead_is = sym (ap (λ (t : ScreenState). t.ahead) over.terminal_is);
    code_is = refl;
  }

module _ (roots : Roots) (settings : Settings) (io new child err : LinkState) (files : FilesState) (layers left_layers : List LayerState) (ahead : ReadAhead) (before : ℕ) (answer : ToolAnswer) where
  -- what is asked for was printed
  pub was_shown : (database : Option PlacedWord) (shown : Shown) → left_layers ≡ layers → HasPrinted (shown_text shown roots.conf layers (context_by roots settings.lang)) io new before answer
      → HasDone (Show database shown) roots settings (run_state io child err files layers ahead before) (run_state new child err files left_layers ahead answer.last_code) answer []
  was_shown database shown same printed = record {
    told = [];
    left = resources_in (begun (Show database shown) (run_state io child err files layers ahead before) roots settings);
    uses = (record { prints = printed.prints; child_is = refl; left_is = refl; code_is = printed.code_is; status_is = printed.status_is; waits = printed.waits }, refl, refl);
    stock_is = λ i. stock_of files (same i);
    said = none_said err;
    ahead_is = refl;
    code_is = refl;
  }

module _ (roots : Roots) (settings : Settings) (io child err new_err : LinkState) (files : FilesState) (layers left_layers : List LayerState) (ahead : ReadAhead) (before : ℕ) (answer : ToolAnswer) where
  -- items were copied
  pub was_copied : (copy : CopyWords) → CopiesOver roots layers left_layers err new_err before answer
      → HasDone (CopyDb copy) roots settings (run_state io child err files layers ahead before) (run_state io child new_err files left_layers ahead answer.last_code) answer []
  was_copied copy over =
      let start : SessionState = begun (CopyDb copy) (run_state io child err files layers ahead before) roots settings in
      let is = over.2 in
      record {
        told = is.said;
        left = record (resources_in start) { layers = left_layers };
        uses = (
          subst (λ (found : Option CopyRoots). CopiesBy found start (links_of io child) (links_of io child) before answer is.said (record (resources_in start) { layers = left_layers })) (sym over.1)
              (record { copies = is.copies; others = is.others; left_is = refl; links_are = refl; code_is = is.code_is; waits = is.waits }),
          refl,
        );
        stock_is = refl;
        said = is.telling;
        ahead_is = refl;
        code_is = refl;
      }

module _ (roots : Roots) (settings : Settings) (io new child err new_err : LinkState) (files : FilesState) (layers left_layers : List LayerState) (ahead : ReadAhead) (before : ℕ) (answer : ToolAnswer) where
  -- selections were taken
  pub was_taken : (verbose check unseen : Bool)
      → HasTakenOver (record { verbose = verbose; check = check; unseen = unseen }) (context_by roots settings.lang) layers left_layers io new err new_err before answer
      → HasDone (SetSelections verbose check unseen) roots settings (run_state io child err files layers ahead before) (run_state new child new_err files left_layers ahead answer.last_code) answer []
  was_taken verbose check unseen over =
      let start : SessionState = begun (SetSelections verbose check unseen) (run_state io child err files layers ahead before) roots settings in
      let is = over.selected in
      record {
        told = [];
        left = record (resources_in start) { layers = left_layers; err = new_err };
        uses = (
          record {
            state = is.left;
            ended = over.ended;
            ended_is = over.ended_is;
            selected = is.selected;
            left_is = λ i. record (resources_in start) { layers = is.layers_are i; err = is.err_is i };
            status_is = over.status_is ∙ ap refused_status is.refused_is;
            waits = over.waits;
          },
          refl,
          refl,
          refl,
        );
        stock_is = refl;
        said = none_said new_err;
        ahead_is = refl;
        code_is = refl;
      }

module _ (roots : Roots) (settings : Settings) (io new child err new_err : LinkState) (files : FilesState) (layers left_layers : List LayerState) (ahead : ReadAhead) (before : ℕ) (answer : ToolAnswer) where
  -- answers were printed
  pub was_said : left_layers ≡ layers → HasPrintedAnswers (answers_said layers (context_by roots settings.lang)) io new err new_err before answer
      → HasDone GetSelections roots settings (run_state io child err files layers ahead before) (run_state new child new_err files left_layers ahead answer.last_code) answer []
  was_said same printed = record {
    told = printed.told.said;
    left = resources_in (begun GetSelections (run_state io child err files layers ahead before) roots settings);
    uses = (record { prints = printed.prints; tells = printed.told.tells; child_is = refl; left_is = refl; code_is = printed.code_is; waits = printed.waits }, refl);
    stock_is = λ i. stock_of files (same i);
    said = printed.told.telling;
    ahead_is = refl;
    code_is = refl;
  }

module _ (roots : Roots) (settings : Settings) (io new child err : LinkState) (files : FilesState) (layers left_layers : List LayerState) (ahead : ReadAhead) (before : ℕ) (answer : ToolAnswer) where
  -- the numbers of a drill were printed
  pub was_drilled : (count : ℕ) → HasDrilledOver count roots settings layers left_layers io new before answer
      → HasDone (Drill count) roots settings (run_state io child err files layers ahead before) (run_state new child err files left_layers ahead answer.last_code) answer []
  was_drilled count over =
      let start : SessionState = begun (Drill count) (run_state io child err files layers ahead before) roots settings in
      record {
        told = [];
        left = record (resources_in start) { layers = left_layers };
        uses = (
          record {
            result = over.result;
            drills = over.drills files (terminal_at nowhere ahead) err;
            prints = over.prints;
            child_is = refl;
            left_is = refl;
            code_is = over.code_is;
            status_is = over.status_is;
            waits = over.waits;
          },
          refl,
          refl,
        );
        stock_is = refl;
        said = none_said err;
        ahead_is = refl;
        code_is = refl;
      }

module _ (roots : Roots) (settings : Settings) (io child new new_child err : LinkState) (files : FilesState) (layers : List LayerState) (ahead : ReadAhead) (before : ℕ) (answer : ToolAnswer) where
  -- a program's requests were asked, or it wasn't started
  pub was_answered : (command : List (List ℕ)) → HasAnswered command (links_of io child) (links_of new new_child) before answer
      → HasDone (Answer command) roots settings (run_state io child err files layers ahead before) (run_state new new_child err files layers ahead answer.last_code) answer []
  was_answered command answered = record {
    told = [];
    left = resources_in (begun (Answer command) (run_state io child err files layers ahead before) roots settings);
    uses = (answered, refl, refl, refl);
    stock_is = refl;
    said = none_said err;
    ahead_is = refl;
    code_is = refl;
  }

-- the owner and the least priority of a drill's session
module _ (count : ℕ) (layers left : List LayerState) (roots : Roots) (settings : Settings) where
  abbrev DrillsBy : List ℕ → Option Priority → Result (List ℕ) (LinkEnd StepError) → FilesState → ScreenState → LinkState → Type 0
  DrillsBy owner threshold result files terminal err = Drills count (session_at (resources_of layers files terminal err) roots settings owner (Some Noninteractive) threshold) left result

  pub drilled_for : (owner : List ℕ) (threshold : Option Priority) (result : Result (List ℕ) (LinkEnd StepError)) → owner ≡ codes "drill" → threshold ≡ chosen settings roots
      → ((files : FilesState) (terminal : ScreenState) (err : LinkState) → DrillsBy owner threshold result files terminal err) → DrillsOver count roots settings layers left result
  drilled_for owner threshold result owner_is chosen_is drills files terminal err =
      subst (λ (o : List ℕ). DrillsBy o (chosen settings roots) result files terminal err) owner_is
      (subst (λ (t : Option Priority). DrillsBy owner t result files terminal err) chosen_is (drills files terminal err))

-- the program wasn't started
pub not_started : (command : List (List ℕ)) (start : SessionState) (old new : Links) (before : ℕ) (answer : ToolAnswer) (left : Resources) (error : LinkError)
    → answer.ended ≡ end_unstarted error → Starts {T = Unit {0}} command old.child new.child (Err error) → new.io ≡ old.io → left ≡ resources_in start → answer.last_code ≡ before → answer.is_started ≡ false
    → (saves : List Save) × HasRunProgram command start old new before answer left saves
not_started command start old new before answer kept error ended_is starts io left_is code_is waits =
    ([], inl (record { unstarted = record { error = error; ended_is = ended_is; starts = starts; io = io; code_is = code_is; waits = waits }; left_is = left_is; saves_are = refl }))

-- the program was started and served
pub started_so : (command : List (List ℕ)) (start : SessionState) (old new : Links) (before : ℕ) (answer : ToolAnswer) (left : Resources) (mid : LinkState) (saves : List Save)
    → Starts {T = Unit {0}} command old.child mid (Ok tt) → HasServedProgram start mid new.child before answer left saves → new.io ≡ left.terminal.link → HasRunProgram command start old new before answer left saves
started_so command start old new before answer kept mid saves starts served io =
    inr (record { mid = mid; starts = starts; ended = served.ended; ended_is = served.ended_is; served = served.served; io = io; waits = served.waits })

-- ---- the command

some_words : (command : List (List ℕ)) → IsCommand command → 0 < length command
some_words [] none = absurd none
some_words (word ∷ words) is = omega arith

command_of : (word : List ℕ) (words : List (List ℕ)) (used : Tool) → NamesTool word words used → HasCommand used
command_of word words (Communicate owner) named = tt
command_of word words (LoadTemplate owner paths) named = tt
command_of word words (Run owner frontend priority command) named = some_words command named.1.command_is
command_of word words (Show database shown) named = tt
command_of word words (CopyDb copy) named = tt
command_of word words (SetSelections verbose check unseen) named = tt
command_of word words GetSelections named = tt
command_of word words (Drill count) named = tt
command_of word words (Answer command) named = some_words command (subst IsCommand (sym named.1) named.2)

-- the command that words name has a word
pub has_command : (words : List (List ℕ)) (used : Tool) → Names words used → HasCommand used
has_command [] used named = absurd named
has_command (word ∷ words) used named = command_of word words used named

-- ---- a run

module _ (used : Tool) (settings : Settings) (old new : World) (outcome : Outcome) (how : End) where
  pub ended_before : EndsBefore used settings.conf_path (ground_in old).sources (ground_in new) how → new.links.child ≡ old.links.child → HasSaid (end_line how) old.err new.err
      → outcome ≡ record { status = status_of how 0; end = how; last_code = 0 } → HasRunTool used settings old new outcome []
  ended_before before same said is =
      subst (λ (o : Outcome). HasRunTool used settings old new o []) (sym is) (inl (before, record { child_is = same; said = said; code_is = refl; status_is = refl }, refl))

  pub ended_after : (mid : Ground) (roots : Roots) (ahead : ReadAhead) (left : RunState) (answer : ToolAnswer) (inner : List Save) (saved : End) (status : ℕ) → ahead ≡ nothing_typed → HasStarted used settings.conf_path (ground_in old).sources mid roots
      → HasDone used roots settings (run_state mid.sources.link old.links.child old.err mid.sources.files mid.used ahead 0) left answer inner → (commits : (last : List Save) × Commits (keeps_changes used && comes_to_save answer.ended) answer.ended (ground_in left.world) (ground_in new) last saved)
      → Awaits answer.is_started left.world.links.child new.links.child saved how answer.status status → HasSaid (end_line how) left.world.err new.err
      → outcome ≡ record { status = status_of how status; end = how; last_code = answer.last_code } → HasRunTool used settings old new outcome ((inner ++ commits.0) ++ [])
  ended_after mid roots ahead left answer inner saved status none started does commits awaits said is =
      let done : HasDone used roots settings (before_rounds (on_ground old mid)) left answer inner
      = subst (λ (a : ReadAhead). HasDone used roots settings (run_state mid.sources.link old.links.child old.err mid.sources.files mid.used a 0) left answer inner) none does in
      let after : RunState = record { world = record { stock = new.stock; links = new.links; err = left.world.err }; ahead = left.ahead; code = left.code } in
      let round : Round = record { job = Whole used; answer = answer; left = left; inner = inner; last = commits.0; finish = saved; status = status; how = how; new = after } in
      subst (λ (o : Outcome). HasRunTool used settings old new o ((inner ++ commits.0) ++ [])) (sym is) (inr (record {
        mid = mid;
        roots = roots;
        started = started;
        left = after;
        status = status;
        does = record {
          found = Ok (Whole used ∷ []);
          ready = before_rounds (on_ground old mid);
          first = 0;
          finds = (refl, refl, refl);
          later = status;
          does = record {
            rounds = round ∷ [];
            rest = [];
            jobs_are = refl;
            are = (
              record {
                works = done;
                commits = commits.1;
                awaits = awaits;
                told = none_said left.world.err;
                ahead_is = refl;
                code_is = refl;
              },
              (λ broken. refl),
              tt,
            );
            all = λ done. refl;
            new_is = refl;
            how_is = refl;
            status_is = sym (most_none status);
            saves_are = refl;
          };
          status_is = sym (none_most status);
        };
        said = said;
        rest_is = refl;
        code_is = sym done.code_is;
        status_is = refl;
      }))

-- ---- the words

module _ (words : List (List ℕ)) (settings : Settings) (old new : World) (outcome : Outcome) where
  pub refused_words : (word : ℕ) → AreRefusedAt words word → ground_in new ≡ ground_in old → new.links.child ≡ old.links.child → HasSaid (end_line (end.Usage word)) old.err new.err
      → outcome ≡ record { status = status_of (end.Usage word) 0; end = end.Usage word; last_code = 0 } → HasRunWords words settings old new outcome []
  refused_words word refused untouched same said is = subst (λ (o : Outcome). HasRunWords words settings old new o []) (sym is)
      (inl (record { word = word; end_is = refl; refused = refused; silent = record { child_is = same; said = said; code_is = refl; status_is = refl }; untouched = untouched }, refl))

  -- memory ran out as the words were read
  pub unread_words : IsToolWords words → ground_in new ≡ ground_in old → new.links.child ≡ old.links.child → HasSaid (end_line end.OutOfMemory) old.err new.err
      → outcome ≡ record { status = status_of end.OutOfMemory 0; end = end.OutOfMemory; last_code = 0 } → HasRunWords words settings old new outcome []
  unread_words named untouched same said is = inr (
    named.0,
    named.1,
    ended_before named.0 settings old new outcome end.OutOfMemory
        (inl (
          inl (record { end_is = refl; begun = inl (record { files_are = ap (λ (g : Ground). g.sources.files.view) untouched; counts = inl (ap (λ (g : Ground). g.sources.files.counts) untouched) }) }),
          ap (λ (g : Ground). g.sources.link) untouched,
        )) same said is,
  )
