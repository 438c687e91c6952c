use Rattle.std.proofs.Common.{sym, ap, ◌∙◌}
use Rattle.std.specs.FinMap as map
use Rattle.dc_text.specs.Maps.{set_of}
use Rattle.dc_item.specs.Table.{names_of}
use Rattle.dc_item.proofs.RecordsReadLemmas.{has_name, names-with_lines}
use Rattle.dc_item.proofs.records_read.Records.has.Goals as goal

pub returns : goal.returns
returns c =
    c.contains_key.ensures ∙ has_name c.args.name.now c.self.inside.items.entries
    ∙ ap (λ names. map.contains_key (set_of names) c.args.name.now) (sym (names-with_lines _ c.self.inside.lines.items c.self.invariant.0.as_many) ∙ ap names_of c.self.view_is)
