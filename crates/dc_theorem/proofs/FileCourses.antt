-- What the disk holds determines what template files are loaded, where no read of one failed.
use Rattle.std.proofs.Common.{◌≡◌, ℕ, true, List, [], ◌∷◌, ◌++◌, Some, None, refl, ap, sym, subst, ◌∙◌, arith}
use Rattle.std.specs.Prelude.{◌≤◌, ◌≢◌, ◌||◌, is_some, if◌then◌else◌, map as each}
use Rattle.std.specs.Option.{option_map_or}
use Rattle.dc_outside.specs.Counts.{Counts}
use Rattle.dc_outside.specs.State.{FilesState, FilesView, LinkState}
use Rattle.dc_text.specs.Ascii.{newline}
use Rattle.dc_outside.specs.Disk.{Disk}
use Rattle.dc_outside.specs.Steps.{after_look}
use Rattle.dc_outside.specs.declared.files.FilesOp.TheVariants.{Read}
use Rattle.dc_store.specs.Plans.{stored}
use Rattle.dc_session.specs.Answers.{loading}
use Rattle.dc_session.specs.SessionState.{SessionState}
use Rattle.dc_session.specs.TemplateFiles.{Finds}
use Rattle.dc_session.specs.declared.template_files.Found.{Found}
use Rattle.dc_session.specs.declared.template_files.Found.TheVariants.{Unreadable, Missing, Faulty, Templates}
use Rattle.dc_session.proofs.Determined.{IsTold, one_looked}
use Rattle.dc_run.specs.TemplateLoading.{FileTurn, IsFileTurn, IsFileCourse, paths_of, state_after, refusal_of, lines_of, refuses, load_status}
use Rattle.dc_theorem.proofs.CountLemmas.{still}
use Rattle.dc_theorem.proofs.LineFiles.{files_read, read_so}
use Rattle.dc_theorem.proofs.Recount.{files_with, with_outside, read_with}
use Rattle.dc_theorem.proofs.SameAnswers.{loading_same}

found_so : (path : List ℕ) (old new : FilesState) (found : Found) → found ≢ Unreadable → Finds path old found new → new ≡ files_read path old
found_so path old new Unreadable readable finds = absurd (readable refl)
found_so path old new Missing readable finds = read_so path old new None finds
found_so path old new (Faulty line) readable finds = read_so path old new (Some finds.0) finds.2
found_so path old new (Templates templates) readable finds = read_so path old new (Some finds.0) finds.1

turn_files : (start : SessionState) (transition : FileTurn) → IsFileTurn start transition → transition.new.files ≡ files_read transition.path start.files
turn_files start transition is = found_so transition.path start.files transition.new.files transition.found is.readable is.finds

pub loads_later : (start : SessionState) (transitions : List FileTurn) → IsFileCourse start transitions → start.files.counts.faults ≤ (state_after start transitions).files.counts.faults
loads_later start [] course = still start.files.counts start.files.counts refl
loads_later start (transition ∷ transitions) course =
    let here : start.files.counts.faults ≤ transition.new.files.counts.faults = still start.files.counts transition.new.files.counts (ap (λ (f : FilesState). f.counts) (turn_files start transition course.0)) in
    let rest : transition.new.files.counts.faults ≤ (state_after transition.new transitions).files.counts.faults = loads_later transition.new transitions course.1 in
    omega arith

-- the session itself tells nothing on standard error
pub files_silent : (start : SessionState) (transitions : List FileTurn) → IsFileCourse start transitions → (state_after start transitions).err ≡ start.err
files_silent start [] course = refl
files_silent start (transition ∷ transitions) course = files_silent transition.new transitions course.1 ∙ ap (λ (s : SessionState). s.err) course.0.new_is

module _ (disk : Disk) where
  read_told : (path : List ℕ) (old new : FilesState) → new ≡ files_read path old → IsTold disk old.view → IsTold disk new.view
  read_told path old new is told =
      (told.0 ++ record { op = Read; path = path; ok = true } ∷ [], ap (λ (f : FilesState). f.view) is ∙ ap (λ (t : FilesView). after_look t Read path true) told.1)

  one_turn : (start : SessionState) (one two : FileTurn) → IsTold disk start.files.view → IsFileTurn start one → IsFileTurn start two → one.path ≡ two.path → one ≡ two
  one_turn start one two told first second path =
      let one_files : one.new.files ≡ files_read two.path start.files = turn_files start one first ∙ ap (λ (p : List ℕ). files_read p start.files) path in
      let files : one.new.files ≡ two.new.files = one_files ∙ sym (turn_files start two second) in
      let one_finds : Finds two.path start.files one.found two.new.files
      = subst (λ (f : FilesState). Finds two.path start.files one.found f) files (subst (λ (p : List ℕ). Finds p start.files one.found one.new.files) path first.finds) in
      let found : one.found ≡ two.found = one_looked disk start.files two.new.files told (Some two.path) one.found two.found one_finds second.finds in
      let new : one.new ≡ two.new = first.new_is ∙ (λ i. record start { store = stored (loading start start.owner (found i)).store.layers []; files = files i }) ∙ sym second.new_is in
      λ i. record { path = path i; found = found i; new = new i }

  pub one_course : (start : SessionState) (a b : List FileTurn) → IsTold disk start.files.view → IsFileCourse start a → IsFileCourse start b → paths_of a ≡ paths_of b → a ≡ b
  one_course start [] [] told first second paths = refl
  one_course start [] (transition ∷ b) told first second paths = absurd (cc)
  one_course start (transition ∷ a) [] told first second paths = absurd (cc)
  one_course start (one ∷ a) (two ∷ b) told first second paths =
      let path : one.path ≡ two.path = cc in
      let later : paths_of a ≡ paths_of b = cc in
      let here = one_turn start one two told first.0 second.0 path in
      let rest = one_course one.new a b (read_told one.path start.files one.new.files (turn_files start one first.0) told) first.1
      (subst (λ (t : FileTurn). IsFileCourse t.new b) (sym here) second.1) later in
      λ i. here i ∷ rest i

-- ---- whatever the files had counted before

module _ (counts : Counts) (err : LinkState) where
  abbrev file_with : FileTurn → FileTurn
  file_with transition = record { path = transition.path; found = transition.found; new = with_outside counts err transition.new }

  abbrev pub files_with_counts : List FileTurn → List FileTurn
  files_with_counts transitions = each file_with transitions

  found_with : (path : List ℕ) (old new : FilesState) (found : Found) → found ≢ Unreadable → Finds path old found new → Finds path (files_with counts old) found (files_with counts new)
  found_with path old new Unreadable readable finds = absurd (readable refl)
  found_with path old new Missing readable finds = read_with counts path old new None finds
  found_with path old new (Faulty line) readable finds = (finds.0, finds.1, read_with counts path old new (Some finds.0) finds.2, finds.3)
  found_with path old new (Templates templates) readable finds = (finds.0, read_with counts path old new (Some finds.0) finds.1, finds.2)

  turn_with : (start : SessionState) (transition : FileTurn) → IsFileTurn start transition → IsFileTurn (with_outside counts err start) (file_with transition)
  turn_with start transition is = record {
    finds = found_with transition.path start.files transition.new.files transition.found is.readable is.finds;
    readable = is.readable;
    new_is = ap (with_outside counts err) is.new_is ∙ (λ i. record start { store = stored (sym (loading_same start (files_with counts start.files) err start.owner transition.found) i).store.layers []; files = files_with counts transition.new.files; err = err });
  }

  pub course_with : (start : SessionState) (transitions : List FileTurn) → IsFileCourse start transitions → IsFileCourse (with_outside counts err start) (files_with_counts transitions)
  course_with start [] course = tt
  course_with start (transition ∷ transitions) course = (turn_with start transition course.0, course_with transition.new transitions course.1)

  pub paths_with : (transitions : List FileTurn) → paths_of (files_with_counts transitions) ≡ paths_of transitions
  paths_with [] = refl
  paths_with (transition ∷ transitions) = ap (λ (ps : List (List ℕ)). transition.path ∷ ps) (paths_with transitions)

  pub state_with : (start : SessionState) (transitions : List FileTurn) → state_after (with_outside counts err start) (files_with_counts transitions) ≡ with_outside counts err (state_after start transitions)
  state_with start [] = refl
  state_with start (transition ∷ transitions) = state_with transition.new transitions

  refusal_with : (state : SessionState) (path : List ℕ) (found : Found) → refusal_of (with_outside counts err state) path found ≡ refusal_of state path found
  refusal_with state path Unreadable = refl
  refusal_with state path Missing = refl
  refusal_with state path (Faulty line) = refl
  refusal_with state path (Templates templates) = refl

  pub told_with : (start : SessionState) (transitions : List FileTurn) → lines_of (with_outside counts err start) (files_with_counts transitions) ≡ lines_of start transitions
  told_with start [] = refl
  told_with start (transition ∷ transitions) =
      λ i. (option_map_or (λ text. text ++ newline ∷ []) (refusal_with start transition.path transition.found i) [] ++ (loading_same start (files_with counts start.files) err start.owner transition.found i).store.told)
      ++ told_with transition.new transitions i

  refuses_with : (start : SessionState) (transitions : List FileTurn) → refuses (with_outside counts err start) (files_with_counts transitions) ≡ refuses start transitions
  refuses_with start [] = refl
  refuses_with start (transition ∷ transitions) = λ i. is_some (refusal_with start transition.path transition.found i) || refuses_with transition.new transitions i

  pub status_with : (start : SessionState) (transitions : List FileTurn) → load_status (with_outside counts err start) (files_with_counts transitions) ≡ load_status start transitions
  status_with start transitions = λ i. if refuses_with start transitions i then 1 else 0
