-- What the files that a tool loads come to, one after another.
use Rattle.std.proofs.Common.{◌≡◌, ◌≢◌, ◌≤◌, ◌<◌, ◌-◌, ℕ, Bool, true, false, cond, List, [], ◌∷◌, ◌++◌, length, take, drop, get_or, Option, refl, sym, ap, subst, ◌∙◌, arith, Result, Ok, Err}
use Rattle.std.specs.Prelude.{◌||◌, is_some}
use Rattle.dc_layer.specs.State.{LayerState}
use Rattle.dc_store.specs.Plans.{StoreState, stored}
use Rattle.dc_session.specs.Answers.{loading}
use Rattle.dc_question.specs.Ownership.{loaded}
use Rattle.dc_question.specs.declared.errors.QuestionError.{QuestionError}
use Rattle.dc_session.specs.FileLoading.{LoadsFile, file_end, end_by}
use Rattle.dc_outside.specs.State.{FilesState, LinkState}
use Rattle.dc_session.specs.SessionState.{SessionState}
use Rattle.dc_session.specs.TemplateFiles.{Finds}
use Rattle.dc_session.specs.declared.template_files.Found.{Found}
use Rattle.dc_session.specs.declared.template_files.Found.TheVariants.{Unreadable, Missing, Faulty, Templates}
use Rattle.dc_session.specs.declared.template_loading.FileEnd.{FileEnd}
use Rattle.dc_session.specs.declared.template_loading.FileEnd.TheVariants as file
use Rattle.dc_run.specs.EndLines.{HasSaid}
use Rattle.dc_run.specs.Inside.{end_text, is_unread, told_line, GoesThrough, LoadsOne, LoadsFiles, HasLoadedOver, status_by}
use Rattle.dc_run.specs.TemplateLoading.{refused_by, refusal_of, FileTurn, IsFileCourse, state_after, lines_at, lines_of, refuses, EndsAt, HasLoadedFiles}
use Rattle.dc_run.specs.declared.loading_templates.FilesLoaded.{FilesLoaded}
use Rattle.dc_run.specs.declared.outcome.ToolAnswer.{ToolAnswer}
use Rattle.dc_run.specs.declared.outcome.ToolEnd.{ToolEnd}
use Rattle.dc_run.specs.declared.outcome.ToolEnd.TheVariants as tool
use Rattle.dc_run.proofs.Saying.{said_then, none_said}
use Rattle.dc_cli.proofs.ToolLemmas.{rest_all}

-- ---- one file

text_by : (path : List ℕ) (result : Result StoreState QuestionError) → end_text path (end_by result) ≡ refused_by result
text_by path (Ok store) = refl
text_by path (Err error) = refl

text_same : (start : SessionState) (path : List ℕ) (found : Found) → end_text path (file_end start found) ≡ refusal_of start path found
text_same start path Unreadable = refl
text_same start path Missing = refl
text_same start path (Faulty line) = refl
text_same start path (Templates templates) = text_by path (loaded start.store start.at start.owner templates)

read_by : (result : Result StoreState QuestionError) → is_unread (end_by result) ≡ false
read_by (Ok store) = refl
read_by (Err error) = refl

unread : (start : SessionState) (found : Found) → is_unread (file_end start found) ≡ true → found ≡ Unreadable
unread start Unreadable is = refl
unread start Missing is = cc
unread start (Faulty line) is = cc
unread start (Templates templates) is = let wrong : true ≡ false = sym is ∙ read_by (loaded start.store start.at start.owner templates) in cc

-- whether a file is refused doesn't hang on its path
refused_same : (path : List ℕ) (ended : FileEnd) → is_some (end_text [] ended) ≡ is_some (end_text path ended)
refused_same path file.Loaded = refl
refused_same path file.Unreadable = refl
refused_same path file.Missing = refl
refused_same path (file.Faulty line) = refl
refused_same path (file.Refused error) = refl

module _ (start mid : SessionState) (path : List ℕ) (ended : FileEnd) (does : LoadsFile path start ended mid) where
  readable : is_unread ended ≡ false → does.found ≢ Unreadable
  readable here same = let wrong : true ≡ false = sym (ap is_unread (does.ended_is ∙ ap (file_end start) same)) ∙ here in cc

  text_is : end_text path ended ≡ refusal_of start path does.found
  text_is = ap (end_text path) does.ended_is ∙ text_same start path does.found

  -- what the layers told was taken, and told behind the file's own line
  pub gone_through : (left : SessionState) (told : List ℕ) (old between new : LinkState) (refused : Bool) → left ≡ record mid { store = stored mid.store.layers [] } → told ≡ mid.store.told → is_unread ended ≡ false
      → refused ≡ is_some (end_text [] ended) → HasSaid (told_line (end_text path ended)) old between → HasSaid told between new → GoesThrough start path old new refused left
  gone_through left told old between new refused taken told_is here is own said =
      let files_are : left.files ≡ mid.files = ap (λ (s : SessionState). s.files) taken in
      let told_then : told ≡ (loading start start.owner does.found).store.told = told_is ∙ ap (λ (s : SessionState). s.store.told) does.new_is in
      record {
        turn = record { path = path; found = does.found; new = left };
        path_is = refl;
        left_is = refl;
        taken = record {
          finds = subst (Finds path start.files does.found) (sym files_are) does.finds;
          readable = readable here;
          new_is = taken ∙ (λ i. record (does.new_is i) { store = stored (does.new_is i).store.layers [] }) ∙ (λ i. record start { store = stored (loading start start.owner does.found).store.layers []; files = sym files_are i });
        };
        refused_is = is ∙ refused_same path ended ∙ ap is_some text_is;
        said = said_then _ _ old between new (subst (λ (text : Option (List ℕ)). HasSaid (told_line text) old between) text_is own) (subst (λ (t : List ℕ). HasSaid t between new) told_then said);
      }

  -- the tool ends at a file that can't be read
  pub ended_at : (kept : List ℕ) → is_unread ended ≡ true → kept ≡ path → (later : List (List ℕ)) → EndsAt (tool.FilesFault kept) start (path ∷ later) mid
  ended_at kept gone is later =
      let none : does.found ≡ Unreadable = unread start does.found (sym (ap is_unread does.ended_is) ∙ gone) in (
        later,
        (λ i. sym is i ∷ later),
        subst (λ (p : List ℕ). Finds p start.files Unreadable mid.files) (sym is) (subst (λ (f : Found). Finds path start.files f mid.files) none does.finds),
        does.new_is ∙ ap (λ (f : Found). record start { store = (loading start start.owner f).store; files = mid.files }) none,
      )

-- ---- all files

module _ (start : SessionState) where
  pub none_loaded : (paths : List (List ℕ)) (old : LinkState) → length paths < 1 → LoadsFiles start paths old old (record { ended = tool.Done; refused = false }) start
  none_loaded [] old short = record {
    said = [];
    loads = record { turns = []; rest = []; paths_are = refl; course = tt; ends = (refl, refl); said_is = refl; status_is = refl };
    telling = none_said old;
  }
  none_loaded (path ∷ paths) old short = absurd (omega arith)

  pub one_ended : (paths : List (List ℕ)) (path : List ℕ) (old new : LinkState) (ended : ToolEnd) (left : SessionState) → 1 ≤ length paths → path ≡ get_or paths 0 path → LoadsOne start path old new (Err ended) left
      → LoadsFiles start paths old new (record { ended = ended; refused = false }) left
  one_ended [] path old new ended left long is one = absurd (omega arith)
  one_ended (first ∷ paths) path old new ended left long is one = record {
    said = [];
    loads = record {
      turns = [];
      rest = first ∷ paths;
      paths_are = refl;
      course = tt;
      ends = subst (λ (p : List ℕ). EndsAt ended start (p ∷ paths) left) is (one.0 paths);
      said_is = refl;
      status_is = refl;
    };
    telling = subst (λ (l : LinkState). HasSaid [] old l) (sym one.1) (none_said old);
  }

  joined : (a b d : Bool) → status_by b ≡ cond d 1 0 → status_by (a || b) ≡ cond (a || d) 1 0
  joined true b d same = refl
  joined false b d same = same

  pub one_more : (paths : List (List ℕ)) (path : List ℕ) (old mid new : LinkState) (refused either : Bool) (between left : SessionState) (later : FilesLoaded) → 1 ≤ length paths → path ≡ get_or paths 0 path → either ≡ (refused || later.refused)
      → GoesThrough start path old mid refused between → LoadsFiles between (take (length paths - 1) (drop 1 paths)) mid new later left
      → LoadsFiles start paths old new (record { ended = later.ended; refused = either }) left
  one_more [] path old mid new refused either between left later long is joins gone more = absurd (omega arith)
  one_more (first ∷ paths) path old mid new refused either between left later long is joins gone more =
      let turn : FileTurn = gone.turn in
      let turns : List FileTurn = more.loads.turns in
      record {
        said = lines_at start turn ++ more.said;
        loads = record {
          turns = turn ∷ turns;
          rest = more.loads.rest;
          paths_are = (λ i. (sym is ∙ sym gone.path_is) i ∷ (sym (rest_all (first ∷ paths)) ∙ more.loads.paths_are) i);
          course = (gone.taken, subst (λ (s : SessionState). IsFileCourse s turns) gone.left_is more.loads.course);
          ends = subst (λ (s : SessionState). EndsAt later.ended (state_after s turns) more.loads.rest left) gone.left_is more.loads.ends;
          said_is = ap (λ (l : List ℕ). lines_at start turn ++ l) (more.loads.said_is ∙ ap (λ (s : SessionState). lines_of s turns) gone.left_is);
          status_is =
              ap status_by joins ∙ joined refused later.refused (refuses turn.new turns) (more.loads.status_is ∙ ap (λ (s : SessionState). cond (refuses s turns) 1 0) gone.left_is)
              ∙ ap (λ (r : Bool). cond (r || refuses turn.new turns) 1 0) gone.refused_is;
        };
        telling = said_then (lines_at start turn) more.said old mid new gone.said more.telling;
      }

-- ---- the files so far, and those that are left

or_false : (a : Bool) → (a || false) ≡ a
or_false true = refl
or_false false = refl

or_grouped : (a b c : Bool) → (a || (b || c)) ≡ ((a || b) || c)
or_grouped true b c = refl
or_grouped false b c = refl

pub no_more : (start : SessionState) (paths : List (List ℕ)) (old new : LinkState) (ended : ToolEnd) (refused : Bool) (left : SessionState)
    → LoadsFiles start paths old new (record { ended = ended; refused = refused || false }) left → LoadsFiles start paths old new (record { ended = ended; refused = refused }) left
no_more start paths old new ended refused left loads = subst (λ (r : Bool). LoadsFiles start paths old new (record { ended = ended; refused = r }) left) (or_false refused) loads

pub one_joined : (start : SessionState) (paths : List (List ℕ)) (old new : LinkState) (ended : ToolEnd) (before one later either : Bool) (left : SessionState) → either ≡ (before || one)
    → LoadsFiles start paths old new (record { ended = ended; refused = before || (one || later) }) left → LoadsFiles start paths old new (record { ended = ended; refused = either || later }) left
one_joined start paths old new ended before one later either left is loads =
    subst (λ (r : Bool). LoadsFiles start paths old new (record { ended = ended; refused = r }) left) (or_grouped before one later ∙ ap (λ (r : Bool). r || later) (sym is)) loads

-- the files were loaded into these layers
pub loaded_over : (start begun left : SessionState) (slice paths : List (List ℕ)) (old new : LinkState) (before : ℕ) (loaded : FilesLoaded) (answer : ToolAnswer) (layers : List LayerState) (files : FilesState) → start ≡ begun → slice ≡ paths → LoadsFiles start slice old new loaded left
    → layers ≡ left.store.layers → files ≡ left.files → left.terminal ≡ begun.terminal → left.err ≡ begun.err → answer ≡ record { ended = loaded.ended; is_started = false; last_code = before; status = status_by loaded.refused } → HasLoadedOver begun paths old new before answer layers files
loaded_over start begun left slice paths old new before loaded answer layers files same all loads layers_are files_are terminal_is err_is is =
    subst (λ (a : ToolAnswer). HasLoadedOver begun paths old new before a layers files) (sym is) (record {
      said = loads.said;
      state = left;
      layers_are = layers_are;
      files_are = files_are;
      terminal_is = terminal_is;
      err_is = err_is;
      loads = subst (λ (s : SessionState). HasLoadedFiles s paths loaded.ended loads.said (status_by loaded.refused) left) same (subst (λ (p : List (List ℕ)). HasLoadedFiles start p loaded.ended loads.said (status_by loaded.refused) left) all loads.loads);
      last_code_is = refl;
      waits = refl;
      telling = loads.telling;
    })
