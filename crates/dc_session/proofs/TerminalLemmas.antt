-- What becomes of commands that use the terminal.
use Rattle.std.proofs.Common.{◌≡◌, ℕ, List, refl, sym, ap, subst, inl, inr}
use Rattle.std.specs.Prelude.{Option, None, Result, Ok, Err}
use Rattle.dc_text.specs.declared.memory.OutOfMemory.{OutOfMemory}
use Rattle.dc_proto.specs.declared.command.Command.{Command}
use Rattle.dc_teletype.specs.declared.teletype.Asked.{Asked}
use Rattle.dc_session.specs.Answers.{CommandInputs, CommandOutcome, answer, names_on}
use Rattle.dc_session.specs.Displays.{Display, displayed, Shows}
use Rattle.dc_session.specs.Inside.{Comes, ComesAsking, HasShown, StopsShowing, lifted}
use Rattle.dc_session.specs.Machine.{Gives, Looks, Does, DoesShowing, BreaksOff, file_of}
use Rattle.dc_session.specs.SessionState.{SessionState}
use Rattle.dc_session.specs.declared.stepped.StepError.{StepError}
use Rattle.dc_session.specs.declared.stepped.StepError.TheVariants as step
use Rattle.dc_session.specs.declared.stepped.Stepped.{Stepped}
use Rattle.dc_session.specs.declared.template_files.Found.TheVariants.{Missing}
use Rattle.dc_session.proofs.CallLemmas.{asking_does, comes_asking}

-- a command that uses no terminal
pub lifts : (command : Command) (old new : SessionState) (result : Result Stepped OutOfMemory) → Does command old new result → DoesShowing command old new (lifted result)
lifts command old new (Ok did) does = does
lifts command old new (Err memory) does = does

-- what was answered on the terminal
abbrev pub answered_so : Asked → CommandInputs
answered_so asked = record { found = Missing; asked = asked }

module _ (command : Command) (old : SessionState) (none : file_of command ≡ None) (display : Display) (is : displayed old command ≡ display) where
  module _ (asked : Asked) (mid new : SessionState) (shown : HasShown display old (Ok asked) mid) where
    gives : Gives command old (answered_so asked) old.files mid.terminal
    gives = record {
      looks = subst (λ (path : Option (List ℕ)). Looks path old.files Missing old.files) (sym none) (refl, refl);
      shows = subst (λ (d : Display). Shows old.asking d old.terminal (Ok asked) mid.terminal) (sym is) shown.shows;
    }

    -- it was shown, and then this came of the command
    pub shown_asking : (outcome : CommandOutcome) (names : List (List ℕ)) (result : Result Stepped OutOfMemory) → outcome ≡ answer old command (answered_so asked) → names ≡ names_on old command (answered_so asked)
        → ComesAsking outcome names mid new result → DoesShowing command old new (lifted result)
    shown_asking outcome names result alike same comes =
        lifts command old new result
        (asking_does command (answered_so asked) old new old.files mid.terminal outcome names result gives alike same
        (subst (λ (s : SessionState). ComesAsking outcome names s new result) shown.kept comes))

    pub shown_does : (outcome : CommandOutcome) (names : List (List ℕ)) (result : Result Stepped OutOfMemory) → outcome ≡ answer old command (answered_so asked) → names ≡ names_on old command (answered_so asked)
        → Comes outcome names mid new result → DoesShowing command old new (lifted result)
    shown_does outcome names result alike same comes = shown_asking outcome names result alike same (comes_asking outcome names mid new result comes)

  -- it wasn't shown
  pub stops_showing : (new : SessionState) (error : StepError) → StopsShowing display old error new → BreaksOff command old error new
  stops_showing new step.Term shown = record { shows = subst (λ (d : Display). Shows old.asking d old.terminal (Err step.Term) new.terminal) (sym is) shown.shows; new_is = shown.kept }
  stops_showing new (step.Wire line) shown = record { shows = subst (λ (d : Display). Shows old.asking d old.terminal (Err (step.Wire line)) new.terminal) (sym is) shown.shows; new_is = shown.kept }
  stops_showing new step.OutOfMemory (inl same) = inl same
  stops_showing new step.OutOfMemory (inr shown) = inr record {
    part = inl record {
      store = ap (λ (s : SessionState). s.store) shown.kept;
      gives = inr (subst (λ (d : Display). Shows old.asking d old.terminal (Err step.OutOfMemory) new.terminal) (sym is) shown.shows, ap (λ (s : SessionState). s.files) shown.kept);
    };
    at = ap (λ (s : SessionState). s.at) shown.kept;
    err = ap (λ (s : SessionState). s.err) shown.kept;
    owner = ap (λ (s : SessionState). s.owner) shown.kept;
    policy = ap (λ (s : SessionState). s.policy) shown.kept;
  }
