use Rattle.std.proofs.Common.{◌≡◌, ◌++◌, map as each}
use Rattle.std.specs.List.{IsDistinct}
use Rattle.std.specs.Str.{bytes_eq}
use Rattle.dc_item.proofs.TextTableLemmas.{shown}
use Rattle.dc_table.proofs.listing.in_order.Given as goal

abbrev pub invariant-loop-key : goal.invariant-loop-key
invariant-loop-key l = record {
  so_far : shown (λ k. k.now) (λ v. v.now) l.order.items ++ l.key-iterator ≡ l.initial.key-iterator;
  distinct : IsDistinct bytes_eq (each (λ e. e.0) l.initial.key-iterator);
  all : l.initial.key-iterator ≡ l.items.entries;
}
