use Rattle.std.proofs.Common.{◌≡◌, ap, ◌∙◌, subst}
use Rattle.std.specs.Prelude.{IfOk}
use Rattle.std.specs.FinMap as map
use Rattle.dc_text.specs.Bytes.{is_nil}
use Rattle.dc_item.specs.After.{left_of, without}
use Rattle.dc_item.specs.Owners.{owners_left}
use Rattle.dc_item.proofs.ItemLemmas.{left_of_keys}
use Rattle.dc_item.proofs.item.Item.are_owners_named.Goals as goal

pub returns : goal.returns
returns c =
    let left : is_nil (left_of (owners_left c.owners.result) c.args.names.now) ≡ is_nil (map.keys (without c.args.self.now.owners c.args.names.now))
    = ap is_nil (ap (λ os. left_of os c.args.names.now) c.owners.ensures.owners ∙ left_of_keys c.args.self.now.owners c.args.names.now) in
    subst (λ b. IfOk c.are_all_named.result (λ are. are ≡ b)) left c.are_all_named.ensures
