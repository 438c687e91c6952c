use Rattle.std.proofs.Common.{◌∙◌, sym, ap, ℕ, List, map as each}
use Rattle.dc_outside.specs.Disk.{CrashOutcome}
use Rattle.dc_outside.proofs.StillOpen.{kept_of, stays, kept-all}
use Rattle.dc_outside.proofs.disk_state.still_open.Goals as goal

pub returns : goal.returns
returns c =
    ap (λ es. kept_of (stays c.args.pending.now) c.loop-path.kept (each (λ (e : List ℕ × CrashOutcome). e.0) (each (λ e. (e.0.items, e.1)) es))) (sym c.in-None.ensures.steps.0)
    ∙ c.loop-path.invariant ∙ kept-all c.args.pending.now
