use Rattle.std.proofs.Common.{◌≡◌, ap, ◌∙◌}
use Rattle.std.specs.FinMap as map
use Rattle.dc_text.specs.Maps.{text_cmp}
use Rattle.indexmap.specs.IndexMap.{keys, index_map_len}
use Rattle.dc_table.specs.Marks.{marks_of, with_mark, touched_in, are_within}
use Rattle.dc_table.specs.Tracked.{touch}
use Rattle.dc_item.proofs.TextTableLemmas.{table-remove}
use Rattle.dc_table.proofs.TableLemmas.{named_remove}
use Rattle.dc_table.proofs.item_table.ItemTable.remove.Goals as goal

pub invariant_of-self-2 : goal.invariant_of-self-2
invariant_of-self-2 c =
    let es = c.self.inside.items.entries in
    let fs = c.swap_remove.new.self.entries in (
      named_remove es fs c.bytes-2.result.now (table-remove c.bytes-2.result.now es fs c.swap_remove.ensures.updates.1 c.swap_remove.ensures.updates.2) c.self.invariant.0,
      ap (are_within (index_map_len c.swap_remove.new.self)) (c.in_ok-touch.ensures.ok ∙ (λ i. with_mark (c.in_ok-keep_names.ensures.ok i) c.args.place (c.bytes.ensures.value i))),
    )

pub returns-clause-ok : goal.returns-clause-ok
returns-clause-ok c =
    let es = c.self.inside.items.entries in
    let fs = c.swap_remove.new.self.entries in
    let items : map.from_entries {R = text_cmp} fs ≡ map.remove c.args.self.now.items c.args.name.now
    = table-remove c.bytes-2.result.now es fs c.swap_remove.ensures.updates.1 c.swap_remove.ensures.updates.2 ∙ (λ i. map.remove (c.self.view_is i).items (c.bytes-2.ensures.value i)) in
    let touched : touched_in (keys c.swap_remove.new.self) (marks_of c.touch.new.self) ≡ touch c.args.self.now.touched c.args.name.now
    = ap (touched_in (keys c.swap_remove.new.self)) (c.in_ok-touch.ensures.ok ∙ (λ i. with_mark (c.in_ok-keep_names.ensures.ok i) c.args.place (c.bytes.ensures.value i)))
    ∙ ap (λ t. touch t.touched c.args.name.now) c.self.view_is in
    λ i. record { items = items i; touched = touched i }
