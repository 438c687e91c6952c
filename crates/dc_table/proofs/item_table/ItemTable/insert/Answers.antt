use Rattle.std.proofs.Common.{◌≡◌, ap, ◌∙◌, arith}
use Rattle.std.specs.FinMap as map
use Rattle.dc_text.specs.Maps.{text_cmp}
use Rattle.dc_text.specs.Names.{is_name}
use Rattle.indexmap.specs.IndexMap.{index_map_len}
use Rattle.dc_table.specs.Marks.{marks_of}
use Rattle.dc_item.proofs.TextTableLemmas.{table-insert}
use Rattle.dc_table.proofs.MarkLemmas.{within_wider, touched_inserted}
use Rattle.dc_table.proofs.TableLemmas.{named_insert}
use Rattle.dc_table.proofs.item_table.ItemTable.insert.Goals as goal

pub invariant_of-self-2 : goal.invariant_of-self-2
invariant_of-self-2 c =
    let es = c.self.inside.items.entries in
    let fs = c.insert.new.self.entries in (
      named_insert es fs c.of.result c.args.item (table-insert es fs c.of.result c.args.item c.in_ok-insert.ensures.entries) c.self.invariant.0 (ap is_name c.of.ensures.value ∙ c.of.ensures.name),
      within_wider (index_map_len c.self.inside.items) (index_map_len c.insert.new.self) (marks_of c.self.inside.touched) (omega (arith, c.in_ok-insert.ensures.len)) c.self.invariant.1,
    )

pub returns-clause-ok : goal.returns-clause-ok
returns-clause-ok c =
    let es = c.self.inside.items.entries in
    let fs = c.insert.new.self.entries in
    let items : map.from_entries {R = text_cmp} fs ≡ map.insert c.args.self.now.items c.args.name c.args.item
    = table-insert es fs c.of.result c.args.item c.in_ok-insert.ensures.entries ∙ (λ i. map.insert (c.self.view_is i).items (c.of.ensures.value i) c.args.item) in
    let touched = touched_inserted es fs c.of.result c.args.item (marks_of c.self.inside.touched) c.in_ok-insert.ensures.entries c.self.invariant.1 ∙ ap (λ t. t.touched) c.self.view_is in
    λ i. record { items = items i; touched = touched i }
