use Rattle.std.proofs.Common.{◌≡◌, drop, map}
use Rattle.std.specs.Str.{bytes_eq}
use Rattle.std.specs.Cmp.Lexicographic.{pointwise}
use Rattle.dc_item.specs.After.{entry_eq}
use Rattle.dc_item.proofs.same.are_same.Given as goal

abbrev pub invariant-loop-key : goal.invariant-loop-key
invariant-loop-key l =
    pointwise (entry_eq bytes_eq) (map (λ e. (e.0.now, e.1.now)) l.left) (map (λ e. (e.0.now, e.1.now)) l.right)
    ≡ pointwise (entry_eq bytes_eq) (map (λ e. (e.0.now, e.1.now)) (drop l.key-index l.left)) (map (λ e. (e.0.now, e.1.now)) l.others)
