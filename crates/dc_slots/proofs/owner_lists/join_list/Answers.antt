use Rattle.std.proofs.Common.{◌≡◌, Some, sym, ap, ◌∙◌}
use Rattle.std.specs.FinMap as map
use Rattle.dc_slots.proofs.LinkLemmas.{joined_behind}
use Rattle.dc_slots.proofs.owner_lists.join_list.Goals as goal

pub returns-in_ok-number-in-Some-clause-ok : goal.returns-in_ok-number-in-Some-clause-ok
returns-in_ok-number-in-Some-clause-ok c =
    let is : map.get c.args.lists.now c.args.owner.now ≡ Some c.in-Some.list.now = ap (map.get c.args.lists.now) (sym c.bytes.ensures.value) ∙ sym c.in-Some.ensures in
    joined_behind c.args.links.now.slots c.insert.new.self.slots c.link_over.new.links.slots c.args.lists.now c.replace.new.self c.args.owner.now c.args.slot c.in-Some.list.now c.in_ok-number-in-Some.number is
    (c.requires c.in-Some.list.now is) c.in_ok-number-in-Some.ensures.was_vacant c.in_ok-number-in-Some.ensures.updates.changed c.in_ok-number-in-Some.ensures.updates.others c.link_over.ensures
    (c.replace.ensures.new ∙ ap (λ q. map.insert c.args.lists.now q (record { first = c.in-Some.list.now.first; last = c.in_ok-number-in-Some.number })) c.bytes-in-Some.ensures.value)
