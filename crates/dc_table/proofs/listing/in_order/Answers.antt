use Rattle.std.proofs.Common.{◌≡◌, ◌++◌, rules, sym, ap, ◌∙◌}
use Rattle.std.specs.Cmp.Lexicographic.{nat_list_cmp_total}
use Rattle.std.specs.FinMap as map
use Rattle.std.specs.Ordering.{is_lt}
use Rattle.std.proofs.lemmas.Fn.{always_returns_same}
use Rattle.std.proofs.lemmas.List.{append-nil}
use Rattle.std.proofs.lemmas.List.Sorted.{ranks_by}
use Rattle.dc_text.specs.Maps.{text_cmp}
use Rattle.dc_item.proofs.TextTableLemmas.{shown}
use Rattle.dc_table.proofs.SortedEntries.{sorted_entries}
use Rattle.dc_table.proofs.listing.in_order.Goals as goal

pub returns : goal.returns
returns c =
    let facts = c.loop-key.invariant in
    let ranks = ranks_by nat_list_cmp_total (λ e. e.0.now) in
    let answers = always_returns_same _ (λ a r. is_lt r ≡ is_lt (text_cmp a.0.now.0.now a.1.0.now.0.now)) _ (λ a r f k. search rules) in
    let listed = sym (append-nil (shown (λ k. k.now) (λ v. v.now) c.loop-key.order.items))
    ∙ ap (λ l. shown (λ k. k.now) (λ v. v.now) c.loop-key.order.items ++ l) (sym c.in-None.ensures.steps.0) ∙ facts.so_far in
    sorted_entries (λ k. k.now) (λ v. v.now) c.into_iter-key-iterator.result c.loop-key.order.items c.sort_by.new.self.items (map.from_entries c.args.items.now.entries) listed facts.distinct
    (ap (λ es. map.from_entries es) facts.all) c.in_ok-sort_by.ensures.permutation (c.in_ok-sort_by.ensures.sorted _ ranks answers) (c.in_ok-sort_by.ensures.stable _ ranks answers)
