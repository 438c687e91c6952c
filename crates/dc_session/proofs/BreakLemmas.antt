-- What a line leaves that came to nothing.
use Rattle.std.proofs.Common.{refl, ap, inl, inr}
use Rattle.dc_words.specs.declared.stream.Line.{Line}
use Rattle.dc_words.specs.declared.stream.Line.TheVariants.{Whole, TooLong}
use Rattle.dc_proto.specs.Commands.{heard}
use Rattle.dc_proto.specs.declared.command.Heard.{Heard}
use Rattle.dc_proto.specs.declared.command.Heard.TheVariants.{Nothing, Known, Refused}
use Rattle.dc_session.specs.Machine.{Steps, StepsHeard, Aborts, BreaksHeard}
use Rattle.dc_session.specs.SessionState.{SessionState}
use Rattle.dc_session.specs.declared.stepped.StepError.TheVariants as step
use Rattle.dc_session.specs.declared.stepped.Stepped.{Stepped}
use Rattle.dc_session.proofs.FrameLaws.{others_stay}

-- memory ran out before anything was done
pub still_breaks : (said : Heard) (state : SessionState) → BreaksHeard said state step.OutOfMemory state
still_breaks Nothing state = refl
still_breaks (Known command) state = inl refl
still_breaks (Refused reply) state = refl

-- the step was taken, and its reply isn't sent
heard_breaks : (said : Heard) (old new : SessionState) (did : Stepped) → StepsHeard said old did new → BreaksHeard said old step.OutOfMemory new
heard_breaks Nothing old new did steps = steps.1
heard_breaks (Known command) old new did done = inr record {
  part = inr record { given = done.given; gives = done.gives; others = others_stay command old new did done };
  at = ap (λ (s : SessionState). s.at) done.new_is;
  err = ap (λ (s : SessionState). s.err) done.new_is;
  owner = ap (λ (s : SessionState). s.owner) done.new_is;
  policy = ap (λ (s : SessionState). s.policy) done.new_is;
}
heard_breaks (Refused reply) old new did steps = steps.1

pub unsent_breaks : (old new : SessionState) (line : Line) (did : Stepped) → Steps old line did new → Aborts old line step.OutOfMemory new
unsent_breaks old new TooLong did steps = steps.1
unsent_breaks old new (Whole line) did steps = heard_breaks (heard old.asking.escape line) old new did steps
