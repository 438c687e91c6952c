use Rattle.std.proofs.Common.{ap, ◌∙◌}
use Rattle.dc_text.specs.Settled.{is_settled}
use Rattle.dc_text.proofs.SettledLemmas.{is_settled-settled}
use Rattle.dc_text.proofs.settling.settle.Goals as goal

pub invariant_of-result : goal.invariant_of-result
invariant_of-result c = ap is_settled c.in_ok-text.ensures ∙ is_settled-settled c.args.bytes.now
