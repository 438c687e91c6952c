use Rattle.std.proofs.Common.{◌≡◌, sym, ap, ◌∙◌, map as each}
use Rattle.std.specs.FinMap as map
use Rattle.std.specs.List.{list_any}
use Rattle.dc_host.specs.Locks.{is_of}
use Rattle.dc_host.proofs.LockLemmas.{any_value}
use Rattle.dc_host.proofs.locks.Locks.has_placed.Goals as goal

pub loop-lock-init : goal.loop-lock-init
loop-lock-init g c =
    ap (λ es. list_any (is_of c.args.id) (each (λ e. e.1) es)) (sym (ap (each (λ e. (e.0.items, e.1))) c.into_iter-lock-iterator.ensures.into_iter_gives ∙ c.iter-lock-items.ensures))
    ∙ sym (any_value (is_of c.args.id) (λ k. k.items) c.into_iter-lock-iterator.result)
