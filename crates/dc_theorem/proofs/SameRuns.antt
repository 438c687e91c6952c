-- The bytes of the link, the disk and what is typed determine a session at which no read of files failed.
use Rattle.std.proofs.Common.{◌≡◌, inl, inr, ℕ, false, List, [], ◌∷◌, ◌++◌, Option, Some, refl, ap, sym, subst, ◌∙◌, arith}
use Rattle.std.specs.Prelude.{◌-◌, ◌^◌, ◌<◌, ◌≤◌}
use Rattle.std.proofs.lemmas.Bool.{cases_Bool}
use Rattle.dc_words.specs.declared.stream.Line.{Line}
use Rattle.dc_outside.specs.Disk.{Disk}
use Rattle.dc_outside.specs.State.{FilesState}
use Rattle.dc_outside.specs.declared.files.FilesCall.{FilesCall}
use Rattle.dc_outside.specs.declared.link.Piece.{Piece}
use Rattle.dc_serve.specs.Execution.{Transition, lines_of, state_after, is_stop, replies, add_reply, last_code_from, code_after, IsExecution}
use Rattle.dc_serve.specs.LinkRun.{IsLinkRun}
use Rattle.dc_serve.specs.Said.{said}
use Rattle.dc_serve.specs.declared.machine.Response.{Response}
use Rattle.dc_serve.specs.declared.outcome.LinkEnd.TheVariants.{Done}
use Rattle.dc_session.specs.Alike.{AreAlike, AreFilesAlike, AreTransitionsSame, IsSameButErr, TellSame}
use Rattle.dc_session.specs.SessionState.{SessionState}
use Rattle.dc_session.proofs.Determined.{GoSame}
use Rattle.dc_session.proofs.RunLaws.{AreThrough, RunAlike, is_through, runs_alike}
use Rattle.dc_session.proofs.TellingLemmas.{more_told, none_told}
use Rattle.dc_session.proofs.TerminalLaws.{AsksNobody}
use Rattle.dc_run.specs.SavingSession.{BreaksSaving, TakesSaving}
use Rattle.dc_run.proofs.SavingLemmas.{line_nobody}
use Rattle.dc_theorem.specs.Runs.{NoneFailed}
use Rattle.dc_theorem.proofs.LineFiles.{session_files, saving_later, saving_so, course_later}
use Rattle.dc_theorem.proofs.SavingLines.{IsFilesTold, saving_alike, saving_does, saving_once, saving_told}

-- ---- the lines of a run

through_later : (transition : Transition SessionState) (transitions : List (Transition SessionState)) (rest : List Line) → is_stop transition.did ≡ false → AreThrough (transition ∷ transitions) rest → AreThrough transitions rest
through_later transition transitions rest on (inl stop) = inl (rw on at stop)
through_later transition transitions rest on (inr none) = inr none

not_through : (transition : Transition SessionState) (lines rest : List Line) → rest ≡ transition.line ∷ lines → AreThrough [] rest → ⊥
not_through transition lines rest is (inl stop) = cc
not_through transition lines rest is (inr none) = cc

module _ (input : List ℕ) (talk new_talk : Option (List Piece)) (left : Option (List ℕ)) (start new : SessionState) (before code : ℕ) (run : IsLinkRun TakesSaving BreaksSaving talk new_talk (Some input) left start Done new before code) where
  -- the files count no less than at its start
  pub run_later : start.files.counts.faults ≤ new.files.counts.faults
  run_later = subst (λ (s : SessionState). start.files.counts.faults ≤ s.files.counts.faults) (sym run.answered.are_said.state_is) (course_later start run.transitions run.course)

-- ---- turns that leave the same files

-- neither goes on
none_go : (start other : SessionState) (a b : List (Transition SessionState)) → a ≡ [] → b ≡ [] → GoSame start other a b
none_go start other a b first second = rw (first, second) (record {}, none_told start.err other.err)

module _ (n : ℕ) (room : n < 2 ^ 64 - 1) where
  -- at one line
  files_here : (start other one two : SessionState) (line : Line) (did again : Response) → session_files line other.asking.escape other.files other.store.layers ≡ session_files line start.asking.escape start.files start.store.layers
      → other.files ≡ start.files → n ≤ start.files.counts.faults → one.files.counts.faults ≤ n
      → two.files.counts.faults ≤ n → TakesSaving start line did one → TakesSaving other line again two → one.files ≡ two.files
  files_here start other one two line did again same files low high other_high first second =
      let other_low : n ≤ other.files.counts.faults = subst (λ (f : FilesState). n ≤ f.counts.faults) (sym files) low in
      saving_so start one line did first n room low high ∙ sym same ∙ sym (saving_so other two line again second n room other_low other_high)

  -- from sessions that are alike
  files_alike : (start other : SessionState) (a b : List (Transition SessionState)) (later rest : List Line) → AreAlike start other → IsFilesTold start → n ≤ start.files.counts.faults
      → (state_after start a).files.counts.faults ≤ n → (state_after other b).files.counts.faults ≤ n → IsExecution TakesSaving start a → IsExecution TakesSaving other b → lines_of a ++ later ≡ lines_of b ++ rest → AreFilesAlike a b
  files_alike start other [] b later rest alike told low high other_high first second lines = record {}
  files_alike start other (one ∷ a) [] later rest alike told low high other_high first second lines = record {}
  files_alike start other (one ∷ a) (two ∷ b) later rest alike told low high other_high first second lines =
      let line : one.line ≡ two.line = cc in
      let more : lines_of a ++ later ≡ lines_of b ++ rest = cc in
      let takes : TakesSaving start two.line one.did one.new = subst (λ (l : Line). TakesSaving start l one.did one.new) line first.0 in
      let one_later : start.files.counts.faults ≤ one.new.files.counts.faults = saving_later start one.new two.line one.did takes in
      let one_rest : one.new.files.counts.faults ≤ (state_after one.new a).files.counts.faults = course_later one.new a first.2 in
      let two_rest : two.new.files.counts.faults ≤ (state_after two.new b).files.counts.faults = course_later two.new b second.2 in
      let files : one.new.files ≡ two.new.files = files_here start other one.new two.new two.line one.did two.did (ap (λ (s : SessionState). session_files two.line s.asking.escape s.files s.store.layers) alike.rest) (ap (λ (s : SessionState). s.files) alike.rest) low (omega arith) (omega arith) takes second.0 in
      let here = saving_alike start other told one.did two.did one.new two.new files two.line alike takes second.0 in
      (files, files_alike one.new two.new a b later rest here.leaves (saving_told start one.new two.line one.did told takes) (omega arith) high other_high first.2 second.2 more)

  -- from sessions that ask nobody, and are the same but for standard error
  turns_same : (start other : SessionState) (a b : List (Transition SessionState)) (later rest : List Line) → IsSameButErr start other → AsksNobody start → IsFilesTold start → n ≤ start.files.counts.faults
      → (state_after start a).files.counts.faults ≤ n → (state_after other b).files.counts.faults ≤ n → IsExecution TakesSaving start a → IsExecution TakesSaving other b → lines_of a ++ later ≡ lines_of b ++ rest
      → AreThrough a later → AreThrough b rest → GoSame start other a b
  turns_same start other [] [] later rest same nobody told low high other_high first second lines one_through two_through = (record {}, none_told start.err other.err)
  turns_same start other [] (transition ∷ b) later rest same nobody told low high other_high first second lines one_through two_through = absurd (not_through transition (lines_of b ++ rest) later lines one_through)
  turns_same start other (transition ∷ a) [] later rest same nobody told low high other_high first second lines one_through two_through = absurd (not_through transition (lines_of a ++ later) rest (sym lines) two_through)
  turns_same start other (one ∷ a) (two ∷ b) later rest same nobody told low high other_high first second lines one_through two_through =
      let line : one.line ≡ two.line = cc in
      let more : lines_of a ++ later ≡ lines_of b ++ rest = cc in
      let takes : TakesSaving start two.line one.did one.new = subst (λ (l : Line). TakesSaving start l one.did one.new) line first.0 in
      let one_later : start.files.counts.faults ≤ one.new.files.counts.faults = saving_later start one.new two.line one.did takes in
      let one_rest : one.new.files.counts.faults ≤ (state_after one.new a).files.counts.faults = course_later one.new a first.2 in
      let two_rest : two.new.files.counts.faults ≤ (state_after two.new b).files.counts.faults = course_later two.new b second.2 in
      let files : one.new.files ≡ two.new.files = files_here start other one.new two.new two.line one.did two.did (ap (λ (s : SessionState). session_files two.line s.asking.escape s.files s.store.layers) same) (ap (λ (s : SessionState). s.files) same) low (omega arith) (omega arith) takes second.0 in
      let here = saving_once start other told one.did two.did one.new two.new files two.line same nobody takes second.0 in
      let after : GoSame one.new two.new a b
      = elim (cases_Bool (is_stop one.did)) [
        | inl stop ↦ none_go one.new two.new a b (first.1 stop) (second.1 (ap is_stop (sym here.does) ∙ stop))
        | inr on ↦
            turns_same one.new two.new a b later rest here.leaves (line_nobody start one.new two.line one.did nobody takes) (saving_told start one.new two.line one.did told takes) (omega arith) high other_high first.2 second.2 more
            (through_later one a later on one_through) (through_later two b rest (ap is_stop (sym here.does) ∙ on) two_through)
      ] in (
        (here.does, here.leaves, after.0),
        more_told here.told here.told start.err one.new.err (state_after one.new a).err other.err two.new.err (state_after two.new b).err refl here.one_tells here.other_tells after.1,
      )

-- ---- what turns say and leave that are the same

same_replies : (a b : List (Transition SessionState)) → AreTransitionsSame a b → replies a ≡ replies b
same_replies [] [] same = refl
same_replies [] (transition ∷ b) same = absurd same
same_replies (transition ∷ a) [] same = absurd same
same_replies (one ∷ a) (two ∷ b) same = λ i. add_reply (same.0 i) (same_replies a b same.2 i)

same_code : (code : ℕ) (a b : List (Transition SessionState)) → AreTransitionsSame a b → last_code_from code a ≡ last_code_from code b
same_code code [] [] same = refl
same_code code [] (transition ∷ b) same = absurd same
same_code code (transition ∷ a) [] same = absurd same
same_code code (one ∷ a) (two ∷ b) same = same_code (code_after code one.did) a b same.2 ∙ ap (λ (did : Response). last_code_from (code_after code did) b) same.0

left_same : (start other : SessionState) (a b : List (Transition SessionState)) → IsSameButErr start other → AreTransitionsSame a b → IsSameButErr (state_after start a) (state_after other b)
left_same start other [] [] here same = here
left_same start other [] (transition ∷ b) here same = absurd same
left_same start other (transition ∷ a) [] here same = absurd same
left_same start other (one ∷ a) (two ∷ b) here same = left_same one.new two.new a b same.1 same.2

-- ---- runs

-- they said the same, left the same but for standard error, and told the same there
pub record RunSame (pieces others : List Piece) (code number : ℕ) (start other new last : SessionState) : Type 0 where
  pub replies_are : said pieces ≡ said others
  pub code_is : code ≡ number
  pub states : IsSameButErr new last
  pub told : TellSame start.err new.err other.err last.err

module _ (n : ℕ) (room : n < 2 ^ 64 - 1) (disk : Disk) (calls : List FilesCall) (input : List ℕ) (talk new_talk other_talk last_talk : Option (List Piece)) (left other_left : Option (List ℕ)) where
  -- what ran is the same in both, where nobody is asked
  pub run_same : (start other new last : SessionState) (before code number : ℕ) → start.files.view ≡ record { disk = Some disk; calls = Some calls } → IsSameButErr start other → AsksNobody start → n ≤ start.files.counts.faults → new.files.counts.faults ≤ n
      → last.files.counts.faults ≤ n
      → (one : IsLinkRun TakesSaving BreaksSaving talk new_talk (Some input) left start Done new before code) → (two : IsLinkRun TakesSaving BreaksSaving other_talk last_talk (Some input) other_left other Done last before number)
      → RunSame one.pieces two.pieces code number start other new last
  run_same start other new last before code number told same nobody low high other_high one two =
      let first = is_through TakesSaving BreaksSaving input talk new_talk left start new before code one in
      let second = is_through TakesSaving BreaksSaving input other_talk last_talk other_left other last before number two in
      let one_said = one.answered.are_said in
      let two_said = two.answered.are_said in
      let both = turns_same n room start other one.transitions two.transitions first.0 second.0 same nobody (disk, (calls, told)) low
      (subst (λ (s : SessionState). s.files.counts.faults ≤ n) one_said.state_is high) (subst (λ (s : SessionState). s.files.counts.faults ≤ n) two_said.state_is other_high)
      one.course two.course (first.1 ∙ sym second.1) first.2 second.2 in
      record {
        replies_are = one_said.pieces_are ∙ same_replies one.transitions two.transitions both.0 ∙ sym two_said.pieces_are;
        code_is = one_said.code_is ∙ same_code before one.transitions two.transitions both.0 ∙ sym two_said.code_is;
        states = subst (λ (s : SessionState). IsSameButErr new s) (sym two_said.state_is)
            (subst (λ (s : SessionState). IsSameButErr s (state_after other two.transitions)) (sym one_said.state_is) (left_same start other one.transitions two.transitions same both.0));
        told = subst (λ (s : SessionState). TellSame start.err new.err other.err s.err) (sym two_said.state_is)
            (subst (λ (s : SessionState). TellSame start.err s.err other.err (state_after other two.transitions).err) (sym one_said.state_is) both.1);
      }

  -- what ran is alike in both
  pub run_alike : (start other new last : SessionState) (before code number : ℕ) → start.files.view ≡ record { disk = Some disk; calls = Some calls } → AreAlike start other → n ≤ start.files.counts.faults → new.files.counts.faults ≤ n → last.files.counts.faults ≤ n
      → (one : IsLinkRun TakesSaving BreaksSaving talk new_talk (Some input) left start Done new before code) → (two : IsLinkRun TakesSaving BreaksSaving other_talk last_talk (Some input) other_left other Done last before number)
      → RunAlike one.pieces two.pieces code number start other new last
  run_alike start other new last before code number told alike low high other_high one two =
      let first = is_through TakesSaving BreaksSaving input talk new_talk left start new before code one in
      let second = is_through TakesSaving BreaksSaving input other_talk last_talk other_left other last before number two in
      runs_alike TakesSaving BreaksSaving IsFilesTold saving_does start other new last input talk new_talk other_talk last_talk left other_left before code number (disk, (calls, told)) alike one two
      (files_alike n room start other one.transitions two.transitions first.0 second.0 alike (disk, (calls, told)) low
      (subst (λ (s : SessionState). s.files.counts.faults ≤ n) one.answered.are_said.state_is high) (subst (λ (s : SessionState). s.files.counts.faults ≤ n) two.answered.are_said.state_is other_high)
      one.course two.course (first.1 ∙ sym second.1))

pub sessions_alike : (start other new last : SessionState) (disk : Disk) (calls : List FilesCall) (input : List ℕ) (talk new_talk other_talk last_talk : Option (List Piece)) (left other_left : Option (List ℕ)) (before code number : ℕ)
    → start.files.view ≡ record { disk = Some disk; calls = Some calls } → AreAlike start other → NoneFailed start.files.counts new.files.counts → NoneFailed other.files.counts last.files.counts
    → (one : IsLinkRun TakesSaving BreaksSaving talk new_talk (Some input) left start Done new before code) → (two : IsLinkRun TakesSaving BreaksSaving other_talk last_talk (Some input) other_left other Done last before number)
    → RunAlike one.pieces two.pieces code number start other new last
sessions_alike start other new last disk calls input talk new_talk other_talk last_talk left other_left before code number told alike sound other_sound one two =
    let begun : other.files.counts.faults ≡ start.files.counts.faults = ap (λ (s : SessionState). s.files.counts.faults) alike.rest in
    let same : new.files.counts.faults ≡ start.files.counts.faults = sound.same in
    let other_same : last.files.counts.faults ≡ other.files.counts.faults = other_sound.same in
    run_alike start.files.counts.faults sound.room disk calls input talk new_talk other_talk last_talk left other_left start other new last before code number told alike (omega arith) (omega arith) (omega arith) one two
