use Rattle.dc_outside.proofs.Saying.{sent-append}
use Rattle.dc_outside.proofs.memory_link.MemLink.say.Goals as goal

pub invariant_of-self-in-Ok : goal.invariant_of-self-in-Ok
invariant_of-self-in-Ok c = (
  c.self.invariant.0,
  c.self.invariant.1,
  rw (c.in-Ok.ensures.ok, c.in_ok-push.ensures.ok, sent-append, c.requires, c.self.invariant.2),
)
