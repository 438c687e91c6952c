-- A line comes to a save where it is the one command that asks for it, and there alone.
use Rattle.std.proofs.Common.{◌≡◌, Bool, true, false, List, Option, refl, sym, ap, subst, ◌∙◌, inl, inr}
use Rattle.dc_words.specs.declared.stream.Line.{Line}
use Rattle.dc_words.specs.declared.stream.Line.TheVariants.{Whole, TooLong}
use Rattle.dc_outside.specs.State.{FilesState}
use Rattle.dc_proto.specs.Commands.{heard}
use Rattle.dc_proto.specs.declared.command.Command.{Command}
use Rattle.dc_proto.specs.declared.command.Command.TheVariants.{Version, Capb, SetTitle, Title, Input, BeginBlock, EndBlock, Go, Clear, Stop, Get, Set, Reset, Subst, Fget, Fset, Metaget, Register, Unregister, Purge, ProgressStart, ProgressSet, ProgressStep, ProgressInfo, ProgressStop, LoadTemplateFile, XSave}
use Rattle.dc_proto.specs.declared.command.Heard.{Heard}
use Rattle.dc_proto.specs.declared.command.Heard.TheVariants.{Nothing, Known, Refused}
use Rattle.dc_proto.specs.declared.reply.Reply.{Reply}
use Rattle.dc_session.specs.Answers.{answer}
use Rattle.dc_session.specs.Machine.{Steps, StepsHeard, HasDone, asks_to_save, is_save}
use Rattle.dc_session.specs.SessionState.{SessionState, ScreenState}
use Rattle.dc_session.specs.declared.stepped.Stepped.{Stepped}
use Rattle.dc_session.specs.declared.stepped.Stepped.TheVariants.{Silent, Replied, Save}
use Rattle.dc_session.proofs.FaultLaws.{IsFaultless, IsSound, told_as_counted}

no_reply : (reply : Reply) → Save ≡ Replied reply → ⊥
no_reply reply is = cc

module _ (old new : SessionState) (stepped : Stepped) where
  -- it comes to a save, and nothing has changed
  abbrev IsAsked : Type 0
  IsAsked = (stepped ≡ Save) × (new ≡ old)

  save_asked : HasDone XSave old stepped new → IsAsked
  save_asked done = (done.stepped_is, done.new_is ∙ (λ i. record old { files = done.gives.looks.1 i; terminal = done.gives.shows.1 i }))

  command_asked : (command : Command) → is_save (Known command) ≡ true → HasDone command old stepped new → IsAsked
  command_asked XSave is done = save_asked done
  command_asked (Version v) is done = cc
  command_asked (Capb v) is done = cc
  command_asked (SetTitle v) is done = cc
  command_asked (Title v) is done = cc
  command_asked (Input a b) is done = cc
  command_asked BeginBlock is done = cc
  command_asked EndBlock is done = cc
  command_asked Go is done = cc
  command_asked Clear is done = cc
  command_asked Stop is done = cc
  command_asked (Get v) is done = cc
  command_asked (Set a b) is done = cc
  command_asked (Reset v) is done = cc
  command_asked (Subst a b d) is done = cc
  command_asked (Fget a b) is done = cc
  command_asked (Fset a b d) is done = cc
  command_asked (Metaget a b) is done = cc
  command_asked (Register a b) is done = cc
  command_asked (Unregister v) is done = cc
  command_asked Purge is done = cc
  command_asked (ProgressStart a b d) is done = cc
  command_asked (ProgressSet v) is done = cc
  command_asked (ProgressStep v) is done = cc
  command_asked (ProgressInfo v) is done = cc
  command_asked ProgressStop is done = cc
  command_asked (LoadTemplateFile a b) is done = cc

  heard_asked : (said : Heard) → StepsHeard said old stepped new → is_save said ≡ true → IsAsked
  heard_asked Nothing steps is = cc
  heard_asked (Known command) steps is = command_asked command is steps
  heard_asked (Refused reply) steps is = cc

  pub saves_asked : (line : Line) → Steps old line stepped new → asks_to_save old.asking.escape line ≡ true → IsAsked
  saves_asked TooLong steps is = cc
  saves_asked (Whole line) steps is = heard_asked (heard old.asking.escape line) steps is

-- what doesn't ask for one doesn't come to it
module _ (old new : SessionState) where
  by_asking : (asks : Bool) (stepped : Stepped) → Save ≡ stepped → IsFaultless asks stepped → asks ≡ true
  by_asking true stepped is faultless = refl
  by_asking false stepped is sound = absurd (subst IsSound (sym is) sound)

  command_alone : (command : Command) → HasDone command old Save new → is_save (Known command) ≡ true
  command_alone command done = elim (told_as_counted old command done.given new.files new.terminal done.gives) [
    | inl rose ↦ absurd (no_reply rose.0 (done.stepped_is ∙ rose.1))
    | inr none ↦ by_asking (is_save (Known command)) (answer old command done.given).stepped done.stepped_is none.0
  ]

  heard_alone : (said : Heard) → StepsHeard said old Save new → is_save said ≡ true
  heard_alone Nothing steps = cc
  heard_alone (Known command) steps = command_alone command steps
  heard_alone (Refused reply) steps = absurd (no_reply reply steps.0)

  pub saves_alone : (line : Line) → Steps old line Save new → asks_to_save old.asking.escape line ≡ true
  saves_alone TooLong steps = absurd (no_reply _ steps.0)
  saves_alone (Whole line) steps = heard_alone (heard old.asking.escape line) steps

pub not_save : (old new : SessionState) (line : Line) (did : Stepped) → Steps old line did new → asks_to_save old.asking.escape line ≡ false → did ≡ Save → ⊥
not_save old new line did steps none is =
    let asks : asks_to_save old.asking.escape line ≡ true = saves_alone old new line (subst (λ (s : Stepped). Steps old line s new) is steps) in
    let both : true ≡ false = sym asks ∙ none in cc
