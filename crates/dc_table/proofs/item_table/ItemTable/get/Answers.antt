use Rattle.std.proofs.Common.{ap, ◌∙◌}
use Rattle.std.specs.FinMap as map
use Rattle.dc_table.proofs.TableLemmas.{found}
use Rattle.dc_table.proofs.item_table.ItemTable.get.Goals as goal

pub returns : goal.returns
returns c = c.get.ensures.value ∙ found c.self.inside.items.entries c.args.name.now ∙ ap (λ t. map.get t.items c.args.name.now) c.self.view_is
