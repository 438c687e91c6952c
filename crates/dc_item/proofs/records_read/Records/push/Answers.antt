use Rattle.std.proofs.Common.{◌≡◌, ◌∷◌, ◌++◌, [], false, sym, ap, ◌∙◌}
use Rattle.std.specs.FinMap as map
use Rattle.std.specs.Str.{bytes_eq}
use Rattle.indexmap.specs.IndexMap.{insert_entry}
use Rattle.dc_text.specs.Maps.{set_of}
use Rattle.dc_item.specs.RecordsRead.{names_in}
use Rattle.dc_item.specs.Table.{names_of}
use Rattle.dc_item.proofs.RecordsReadLemmas.{names-with_lines, insert-new, kept_push, entries_push}
use Rattle.dc_item.proofs.records_read.Records.push.Goals as goal

pub invariant_of-self-2 : goal.invariant_of-self-2
invariant_of-self-2 c =
    let items = c.self.inside.items.entries in
    let names : names_of c.args.self.now ≡ names_in items = ap names_of (sym c.self.view_is) ∙ names-with_lines _ c.self.inside.lines.items c.self.invariant.0.as_many in
    let key : c.of-key.result ≡ c.args.name = c.of-key.ensures.value in
    let new : map.contains_key (set_of (names_in items)) c.of-key.result ≡ false = (λ i. map.contains_key (set_of (sym names i)) (key i)) ∙ c.requires in
    let into : c.insert.new.self.entries ≡ insert_entry bytes_eq items c.of-key.result c.in_ok-taken.taken
    = c.in-Ok.ensures.entries ∙ ap (λ es. insert_entry bytes_eq es c.of-key.result c.in_ok-taken.taken) c.in_ok-reserve.ensures.entries in
    let put : c.insert.new.self.entries ≡ items ++ (c.args.name, c.args.item) ∷ []
    = insert-new items c.insert.new.self.entries c.of-key.result c.in_ok-taken.taken into new ∙ (λ i. items ++ (key i, c.in_ok-taken.ensures.taken i) ∷ []) in
    (kept_push items _ c.self.inside.lines.items c.push.new.self.items c.args.name c.args.item c.args.line c.self.invariant.0 c.of-key.ensures.name put c.in_ok-push.ensures.items, c.in_ok-taken.ensures.left)

pub returns : goal.returns
returns c =
    let items = c.self.inside.items.entries in
    let names : names_of c.args.self.now ≡ names_in items = ap names_of (sym c.self.view_is) ∙ names-with_lines _ c.self.inside.lines.items c.self.invariant.0.as_many in
    let key : c.of-key.result ≡ c.args.name = c.of-key.ensures.value in
    let new : map.contains_key (set_of (names_in items)) c.of-key.result ≡ false = (λ i. map.contains_key (set_of (sym names i)) (key i)) ∙ c.requires in
    let into : c.insert.new.self.entries ≡ insert_entry bytes_eq items c.of-key.result c.in_ok-taken.taken
    = c.in-Ok.ensures.entries ∙ ap (λ es. insert_entry bytes_eq es c.of-key.result c.in_ok-taken.taken) c.in_ok-reserve.ensures.entries in
    let put : c.insert.new.self.entries ≡ items ++ (c.args.name, c.args.item) ∷ []
    = insert-new items c.insert.new.self.entries c.of-key.result c.in_ok-taken.taken into new ∙ (λ i. items ++ (key i, c.in_ok-taken.ensures.taken i) ∷ []) in
    entries_push items _ c.self.inside.lines.items c.push.new.self.items c.args.self.now c.args.name c.args.item c.args.line c.self.invariant.0.as_many c.self.view_is put c.in_ok-push.ensures.items
